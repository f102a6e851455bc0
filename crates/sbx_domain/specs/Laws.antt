-- The laws of what is known: words that fit keep fitting.
use Rattle.std.specs.Prelude.{ℕ, ◌<◌, ◌^◌, Option}
use Rattle.v8_word.specs.declared.Icc.{Icc}
use Rattle.sbx_form.specs.Forms.{Cells}
use Rattle.sbx_domain.specs.declared.entry.Entry.{Entry}
use Rattle.sbx_domain.specs.Fits.{Fits, HasAlignment, HasForm, HasInterval, Near, Words, with_word}
use Rattle.sbx_domain.specs.Known.{Known, form_of_entry, range_of_entry, with_entry}

-- a word that has what is then known of it is written to a location
pub record WritesKeepFitting : Type 0 where
  pub near : (start : Cells) (d : Known) (words : Words) (icc : Icc) (y l v : ℕ) (e : Option Entry) → v < 2 ^ 32
      → HasInterval (range_of_entry e) v → HasForm start (form_of_entry e) v
      → Near start d words icc y → Near start (with_entry l e d) (with_word l v words) icc y
  pub fits : (start : Cells) (d : Known) (words : Words) (icc : Icc) (y l v : ℕ) (e : Option Entry) → v < 2 ^ 32
      → HasInterval (range_of_entry e) v → HasForm start (form_of_entry e) v → HasAlignment (range_of_entry e) v
      → Fits start d words icc y → Fits start (with_entry l e d) (with_word l v words) icc y
