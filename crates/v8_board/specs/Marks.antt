-- Which pages were referenced and modified: R (bit 5) and M (bit 6) of the entries of the tables of code, data and
-- stack.
use Rattle.std.specs.Prelude.{ℕ, zero, suc, ◌+◌, ◌*◌, ◌/◌, ◌%◌, ◌^◌, List, [], ◌∷◌, Option, Some, None}
use Rattle.v8_core.specs.Ram.{entry_of}
use Rattle.v8_map.specs.declared.TheConstants.{CODE_TABLE, DATA_TABLE, STACK_TABLE}
use Rattle.v8_board.specs.declared.page_use.PageUse.{PageUse}

-- the bit of a word that is there
abbrev pub bit_of : Option ℕ → ℕ → ℕ
bit_of (Some w) low = w / 2 ^ low % 2
bit_of None low = 0

-- the number whose bit i, for i below k, is that bit of the entry i of the table at a place
unfoldable pub marks : List ℕ → ℕ → ℕ → ℕ → ℕ
marks ram table low zero = 0
marks ram table low (suc k) = marks ram table low k + bit_of (entry_of ram (table + 4 * k)) low * 2 ^ k

unfoldable pub page_use_of : List ℕ → PageUse
page_use_of ram =
    record {
      referenced = marks ram CODE_TABLE 5 64 ∷ marks ram DATA_TABLE 5 64 ∷ marks ram STACK_TABLE 5 64 ∷ [];
      modified = marks ram CODE_TABLE 6 64 ∷ marks ram DATA_TABLE 6 64 ∷ marks ram STACK_TABLE 6 64 ∷ [];
    }
