-- What a board with n windows shows of the flat machine, r of whose calls have windows of their own.
use Rattle.std.specs.Prelude.{ℕ, suc, ◌≡◌, ◌+◌, ◌*◌, ◌%◌, ◌^◌, ◌<◌, ◌≤◌, true, false, List, [], length, slice_index}
use Rattle.std.specs.Prelude.{Some, None}
use Rattle.v8_core.specs.Ram.{entry_of}
use Rattle.v8_core.specs.Windows.{Windows, IsFile, word_at}
use Rattle.v8_core.specs.Control.{Control}
use Rattle.v8_core.specs.Accesses.{World}
use Rattle.v8_map.specs.declared.TheConstants.{PAGE, DATA_START, DATA_PLACE, STACK_PLACE, TRAP_TABLE}
use Rattle.v8_loaded.specs.Layout.{IsLoaded}
use Rattle.v8_loaded.specs.AddressMap.{lowered}
use Rattle.v8_loaded.specs.Board.{Device}
use Rattle.v8_loaded.specs.Areas.{area_of}
use Rattle.v8_board.specs.Start.{pages_of}
use Rattle.sbx_flat.specs.Parts.{Parts}
use Rattle.sbx_flat.specs.Regions.{page_rights}
use Rattle.sbx_flat.specs.Memory.{Bytes}
use Rattle.sbx_flat.specs.Registers.{Registers}
use Rattle.sbx_flat.specs.Runs.{AreBytes}
use Rattle.sbx_flat.specs.States.{State}
use Rattle.sbx_flat.specs.WellFormed.{IsSlot, IsStacked}
use Rattle.sbx_shows.specs.Marks.{OwnMarks}
use Rattle.sbx_flat.specs.Calls.{cell, depth, base, slot}

-- what an image that is accepted keeps
pub record Fits (parts : Parts) : Type 0 where
  pub words : length parts.words ≤ 65536
  pub pages : length (page_rights parts.regions) ≤ 64
  pub stack : parts.stack_pages ≤ 16

-- the window of the call k
abbrev pub window : ℕ → ℕ → ℕ → ℕ
window n current k = (current + k) % n

-- The r newest calls lie in the windows from the current one on. WIM's one bit is that of the next window, whose outs
-- are the ins of the oldest of these calls.
pub record ShowsCalls (n : ℕ) (v : Windows) (file : Registers) (r : ℕ) : Type 0 where
  pub some : 1 ≤ r
  pub most : r < n
  pub open_calls : r ≤ depth file
  pub mask : v.mask ≡ 2 ^ window n v.current r
  pub globals : (k : ℕ) → 1 ≤ k → k < 8 → slice_index v.globals k ≡ file.globals k
  pub outs : (k j : ℕ) → k ≤ r → j < 8 → word_at v (window n v.current k) j ≡ cell file k j
  pub locals : (k j : ℕ) → k < r → 8 ≤ j → j < 16 → word_at v (window n v.current k) j ≡ cell file k j

-- The calls from the r-th on, that have no window of their own, have their locals and ins in their 64 bytes.
pub record ShowsSaved (file : Registers) (r : ℕ) (ram : List ℕ) : Type 0 where
  pub locals : (k j : ℕ) → r ≤ k → k < depth file → j < 8 →
      entry_of ram (area_of (base file k) + 4 * j) ≡ Some (cell file k (8 + j))
  pub ins : (k j : ℕ) → r ≤ k → k < depth file → j < 8 →
      entry_of ram (area_of (base file k) + 32 + 4 * j) ≡ Some (cell file (suc k) j)

-- A slot is the word of RAM at its address.
pub record ShowsSlot (file : Registers) (ram : List ℕ) (k a w : ℕ) : Type 0 where
  pub place : IsSlot file k a
  pub there : entry_of ram (area_of a) ≡ Some w

abbrev pub ShowsSlots : Registers → List ℕ → Type 0
ShowsSlots file ram = (k a w : ℕ) → k < depth file → slot file k a ≡ Some w → ShowsSlot file ram k a w

-- the words of the stack are words
abbrev pub HasStack : List ℕ → Type 0
HasStack ram = (p w : ℕ) → STACK_PLACE ≤ p → entry_of ram p ≡ Some w → w < 2 ^ 32

-- where the data lies in physical memory
abbrev pub data_area : ℕ → ℕ
data_area a = lowered DATA_START DATA_PLACE a

-- A byte of the data is the byte of RAM at its address, in the data's pages.
pub record ShowsByte (parts : Parts) (ram : List ℕ) (a b : ℕ) : Type 0 where
  pub low : DATA_START ≤ a
  pub high : a < DATA_START + PAGE * length (page_rights parts.regions)
  pub small : b < 2 ^ 8
  pub there : slice_index ram (data_area a) ≡ b

abbrev pub ShowsData : Parts → Bytes → List ℕ → Type 0
ShowsData parts memory ram = (a b : ℕ) → memory a ≡ Some b → ShowsByte parts ram a b

-- User code runs at the flat machine's place, with its codes and Y, and traps are enabled.
pub record ShowsControl (c : Control) (s : State) : Type 0 where
  pub pc : c.pc ≡ s.pc
  pub npc : c.npc ≡ s.npc
  pub npc_word : c.npc < 2 ^ 32
  pub npc_whole : c.npc % 4 ≡ 0
  pub annul : c.annul ≡ s.annulled
  pub icc : c.icc ≡ s.icc
  pub y : c.y ≡ s.y
  pub y_word : c.y < 2 ^ 32
  pub user : c.s ≡ false
  pub traps : c.et ≡ true
  pub sane : c.error ≡ None
  pub table : c.base ≡ TRAP_TABLE

-- The device has the input that is left, and the output so far.
pub record ShowsDevice (d : Device) (s : State) : Type 0 where
  pub running : d.stopped ≡ None
  pub input : d.input ≡ s.input
  pub ended : d.ended ≡ true → s.input ≡ []
  pub bytes : AreBytes s.input
  pub output : d.output ≡ s.output

-- Tables, trap table, handlers and code are as loaded, R and M aside; R and M are set of the image's own pages alone.
pub record Shows (n : ℕ) (parts : Parts) (x : World n Device) (s : State) (r : ℕ) : Type 0 where
  pub file : IsFile n x.cpu.regs
  pub calls : ShowsCalls n x.cpu.regs s.registers r
  pub stacked : IsStacked (pages_of parts).stack_count s.registers
  pub saved : ShowsSaved s.registers r x.memory.ram
  pub slots : ShowsSlots s.registers x.memory.ram
  pub stack : HasStack x.memory.ram
  pub bytes : ShowsData parts s.memory x.memory.ram
  pub control : ShowsControl x.cpu.control s
  pub device : ShowsDevice x.memory.device s
  pub going : s.exit ≡ None
  pub loaded : IsLoaded n (pages_of parts) parts.words x.memory.ram
  pub marks : OwnMarks parts x.memory.ram
