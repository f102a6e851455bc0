-- A LEON3 whose input and output lie in RAM beside a sandbox board: what the mailbox spells, and calls that lead on
-- alike.
use Rattle.std.specs.Prelude.{ℕ, ◌≡◌, ◌⊎◌, ◌+◌, ◌-◌, ◌<◌, true, List, [], length, slice_index, Some}
use Rattle.v8_core.specs.MmuRegs.{MmuRegs}
use Rattle.v8_core.specs.Stop.TheVariants.{Exit}
use Rattle.v8_core.specs.Accesses.{World}
use Rattle.v8_core.specs.Steps.{world_after}
use Rattle.v8_loaded.specs.Board.{Device, board}
use Rattle.v8_loaded.specs.Layout.{Pages}
use Rattle.v8_loaded.specs.Users.{AsksFor, RunsUser}
use Rattle.v8_routines.specs.Services.{MayReturn, calls}
use Rattle.leon_services.specs.Mailbox.{HasMailbox, IsMailbox, Mailbox, buffer_place, output_start}
use Rattle.leon_services.specs.Laws.{Calls}

-- The mailbox lies in RAM and spells the device: what is left of the input, and the output so far.
pub record Spells (b : ℕ) (ram : List ℕ) (m : Mailbox) (d : Device) : Type 0 where
  pub has : HasMailbox b ram m
  pub room : IsMailbox m
  pub left : length d.input ≡ m.input_end - m.input
  pub input : (k : ℕ) → k < length d.input →
      slice_index d.input k ≡ slice_index ram (buffer_place b (m.input + k))
  pub ended : d.ended ≡ true → d.input ≡ []
  pub count : length d.output ≡ m.output - output_start
  pub output : (k : ℕ) → k < length d.output →
      slice_index d.output k ≡ slice_index ram (buffer_place b (output_start + k))

-- A LEON x and a board y, at the same call `ta k`, the code word i, with the same processor: the mailbox spells the
-- board's device.
pub record CallAlike (n b : ℕ) (g : Pages) (words : List ℕ) (mmu other : MmuRegs) (x y : World n Device) (i k : ℕ)
    (m : Mailbox) : Type 0 where
  pub here : Calls n b mmu x i k
  pub there : RunsUser n g words other y i
  pub asks : AsksFor words i (calls k)
  pub cpu : y.cpu ≡ x.cpu
  pub spells : Spells b x.memory.ram m y.memory.device

-- After so many turns of the LEON and so many of the board both have the same processor again, and there is a mailbox
-- that spells the board's device.
pub record GoAlike (n b : ℕ) (mmu other : MmuRegs) (x y : World n Device) (turns others : ℕ) : Type 0 where
  pub cpu : (world_after board n mmu turns x).cpu ≡ (world_after board n other others y).cpu
  pub mailbox : Mailbox
  pub spells : Spells b (world_after board n mmu turns x).memory.ram mailbox
      (world_after board n other others y).memory.device

abbrev pub GetsAlike : Type 0
GetsAlike = (n b : ℕ) (g : Pages) (words : List ℕ) (mmu other : MmuRegs) (x y : World n Device) (i : ℕ) (m : Mailbox) →
    CallAlike n b g words mmu other x y i 1 m → MayReturn n x →
    GoAlike n b mmu other x y 22 5 ⊎ GoAlike n b mmu other x y 19 5

abbrev pub PutsAlike : Type 0
PutsAlike = (n b : ℕ) (g : Pages) (words : List ℕ) (mmu other : MmuRegs) (x y : World n Device) (i : ℕ) (m : Mailbox) →
    CallAlike n b g words mmu other x y i 2 m → MayReturn n x → m.output < m.output_end →
    GoAlike n b mmu other x y 23 5

-- The LEON has halted, in error mode, and its mailbox has the exit word with which the board has stopped.
pub record EndsAlike (n b : ℕ) (mmu other : MmuRegs) (x y : World n Device) (turns others : ℕ) : Type 0 where
  pub halted : (world_after board n mmu turns x).cpu.control.error ≡ Some 0x80
  pub mailbox : Mailbox
  pub status : mailbox.status ≡ 1
  pub word : (world_after board n other others y).memory.device.stopped ≡ Some (Exit mailbox.word)
  pub spells : Spells b (world_after board n mmu turns x).memory.ram mailbox
      (world_after board n other others y).memory.device

abbrev pub ExitsAlike : Type 0
ExitsAlike = (n b : ℕ) (g : Pages) (words : List ℕ) (mmu other : MmuRegs) (x y : World n Device) (i : ℕ) (m : Mailbox) →
    CallAlike n b g words mmu other x y i 0 m → EndsAlike n b mmu other x y 9 3
