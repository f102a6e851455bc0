-- What a board is when it is made, and when an image has been loaded.
use Rattle.std.specs.Prelude.{ℕ, ◌≡◌, ◌+◌, ◌*◌, ◌/◌, ◌<◌, ◌≤◌, nat_le, false, List, length, take, slice_index, Some}
use Rattle.std.specs.Prelude.{None, if◌then◌else◌}
use Rattle.sbx_image.specs.Parts.{Parts}
use Rattle.sbx_image.specs.Regions.{laid, page_rights}
use Rattle.v8_core.specs.Ram.{AreBytes, entry_of}
use Rattle.v8_core.specs.Walked.{root_of}
use Rattle.v8_core.specs.Registers.{booted, cleared, started_with}
use Rattle.v8_contained.specs.Handlers.{trap_word, handler_word}
use Rattle.v8_map.specs.declared.TheConstants.{CODE_PLACE, DATA_PLACE, STACK_PLACE, HANDLERS_PLACE, RAM, CONTEXT_TABLE}
use Rattle.v8_contained.specs.Layout.{Pages, data_count}
use Rattle.v8_layout.specs.Tables.{table_word}
use Rattle.v8_contained.specs.Board.{IsBlank, seen}
use Rattle.v8_contained.specs.Contained.{Contents}
use Rattle.v8_board.specs.declared.outcome.Counts.{Counts}
use Rattle.v8_board.specs.Seen.{State}

abbrev pub no_counts : Counts
no_counts = record { turns = 0; overflows = 0; underflows = 0 }

-- a board as it is made: booted, with no image; every other register and every byte of RAM is 0
pub record IsNew (n : ℕ) (input output : List ℕ) (s : State n) : Type 0 where
  pub cpu : s.world.cpu ≡ booted n (record { regs = cleared n; control = started_with 0 })
  pub ram : IsBlank s.world.memory.ram
  pub device : s.world.memory.device ≡ seen input false output None
  pub mmu : root_of s.mmu ≡ CONTEXT_TABLE
  pub counts : s.counts ≡ no_counts

-- ---- an image in RAM

abbrev pub at_most : ℕ → ℕ → ℕ
at_most most n = if nat_le n most then n else most

-- the pages that an image takes: as many as hold its code words, its pages of stack, and of data those of its regions,
-- each with the right that its region gives. No image takes more than 64 pages of code, 64 of data and 16 of stack.
unfoldable pub pages_of : Parts → Pages
pages_of p =
    record {
      code_count = at_most 64 ((length p.words + 1023) / 1024);
      writable = take 64 (page_rights p.regions);
      stack_count = at_most 16 p.stack_pages;
    }

-- what of it stays as it was loaded, but for data that may be written
abbrev pub contents_of : Parts → Contents
contents_of p = record { words = p.words; bytes = laid p.regions }

-- Trap table, handlers, tables, code and data, each region on its pages; the rest of the last code page and of each
-- region's last page is 0. The bytes of the stack, and all above them, are as before.
pub record IsPlaced (n : ℕ) (p : Parts) (old new : List ℕ) : Type 0 where
  pub size : length new ≡ RAM
  pub trap : (k : ℕ) → k < 1024 → entry_of new (4 * k) ≡ Some (trap_word k)
  pub handler : (k : ℕ) → k < 1024 → entry_of new (HANDLERS_PLACE + 4 * k) ≡ Some (handler_word n k)
  pub tables : (k : ℕ) → k < 896 → entry_of new (CONTEXT_TABLE + 4 * k) ≡ Some (table_word (pages_of p) k)
  pub code : (i : ℕ) → i < 1024 * (pages_of p).code_count →
      entry_of new (CODE_PLACE + 4 * i) ≡ Some (slice_index p.words i)
  pub bytes : (i : ℕ) → i < 4096 * data_count (pages_of p) →
      slice_index new (DATA_PLACE + i) ≡ slice_index (laid p.regions) i
  pub stack : (i : ℕ) → STACK_PLACE ≤ i → slice_index new i ≡ slice_index old i
  pub fit : AreBytes old → AreBytes new

-- The state in which an image starts. Registers but those that booting sets, and Y, are as before.
pub record IsStart (n : ℕ) (p : Parts) (old new : State n) : Type 0 where
  pub cpu : new.world.cpu ≡ booted n old.world.cpu
  pub ram : IsPlaced n p old.world.memory.ram new.world.memory.ram
  pub device : new.world.memory.device ≡ record old.world.memory.device { ended = false; stopped = None }
  pub mmu : new.mmu ≡ old.mmu
  pub root : root_of new.mmu ≡ CONTEXT_TABLE
  pub counts : new.counts ≡ no_counts
