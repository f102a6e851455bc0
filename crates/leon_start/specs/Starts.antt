-- RAM in which an image starts on a LEON, whose RAM doesn't begin at 0.
use Rattle.std.specs.Prelude.{ℕ, ◌≡◌, ◌+◌, ◌*◌, ◌/◌, ◌%◌, ◌^◌, ◌<◌, nat_le, nat_lt, ◌==◌, not, ◌&&◌, Bool, List, [], length}
use Rattle.std.specs.Prelude.{Option, Some, None, IsSomeAnd, if◌then◌else◌}
use Rattle.sbx_image.specs.Parts.{Parts}
use Rattle.v8_core.specs.Ram.{entry_of}
use Rattle.v8_map.specs.declared.TheConstants.{CONTEXT_TABLE, TABLES_END, RAM}
use Rattle.v8_board.specs.Seen.{State}
use Rattle.sbx_raw.specs.Runs.{IsBegun}
use Rattle.leon_start.specs.declared.own.OwnWords.{OwnWords}
use Rattle.leon_start.specs.declared.start.RamPlace.{RamPlace}
use Rattle.leon_start.specs.Own.{own_word}

-- the word of number k is one of the page tables'
abbrev pub is_of_tables : ℕ → Bool
is_of_tables k = nat_le (CONTEXT_TABLE / 4) k && nat_lt k (TABLES_END / 4)

-- the bit C of an entry, where caches may keep what it names and it names a page (appendix H)
abbrev pub cacheable : Bool → ℕ → ℕ
cacheable cached w = if cached && (w % 4 == 2) then 128 else 0

-- An entry of the tables names a place in units of 16 bytes (appendix H), as much higher as RAM begins. An entry 0
-- names none.
abbrev pub moved_word : RamPlace → ℕ → ℕ → ℕ
moved_word at k w =
    if is_of_tables k && not (w == 0) then (w + (at.base / 16 + cacheable at.cached w)) % 2 ^ 32 else w

-- what stands in the place of the word w of number k: a word of the processor's own, or w itself, moved
abbrev pub or_moved : Option ℕ → RamPlace → ℕ → ℕ → ℕ
or_moved (Some own) at k w = own
or_moved None at k w = moved_word at k w

abbrev pub start_word : RamPlace → List OwnWords → ℕ → ℕ → ℕ
start_word at own k w = or_moved (own_word own k) at k w

-- each word of the loaded RAM so
abbrev pub IsMoved : RamPlace → List OwnWords → List ℕ → List ℕ → Type 0
IsMoved at own loaded ram = (k : ℕ) → k < RAM / 4 →
    IsSomeAnd (entry_of loaded (4 * k)) (λ w. entry_of ram (4 * k) ≡ Some (start_word at own k w))

-- The start that loading the image makes on a new board of n windows, moved to where RAM begins, with such words.
pub record IsLeonStart (n : ℕ) (p : Parts) (at : RamPlace) (own : List OwnWords) (ram : List ℕ) : Type 0 where
  pub start : State n
  pub begun : IsBegun n p [] start
  pub size : length ram ≡ RAM
  pub words : IsMoved at own start.world.memory.ram ram
