-- The marks of RAM, on the entries of pages that an image calls its own.
use Rattle.std.specs.Prelude.{ℕ, ◌≡◌, ◌+◌, ◌*◌, ◌/◌, ◌<◌, true, List}
use Rattle.v8_core.specs.Ram.{entry_of}
use Rattle.v8_map.specs.declared.TheConstants.{PAGE, CODE_START, CODE_TABLE}
use Rattle.v8_board.specs.Marks.{bit_of}
use Rattle.sbx_flat.specs.Parts.{Parts}
use Rattle.sbx_flat.specs.OwnPages.{is_own_data_page, is_own_page}

-- Each entry of the tables of code, data and stack that has R (bit 5) is of a page that the image calls its own, and
-- each that has M (bit 6) is of one of its own data pages that may be written.
pub record OwnMarks (parts : Parts) (ram : List ℕ) : Type 0 where
  pub referenced : (k : ℕ) → k < 192 → bit_of (entry_of ram (CODE_TABLE + 4 * k)) 5 ≡ 1 →
      is_own_page parts (CODE_START / PAGE + k) ≡ true
  pub modified : (k : ℕ) → k < 192 → bit_of (entry_of ram (CODE_TABLE + 4 * k)) 6 ≡ 1 →
      is_own_data_page parts true (CODE_START / PAGE + k) ≡ true
