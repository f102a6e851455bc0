-- What is known after a write, after codes are set and after Y is.
use Rattle.std.proofs.Common.{◌≡◌, ℕ, ◌^◌, ◌<◌, Bool, true, false, Option, refl, sym, subst}
use Rattle.v8_word.specs.declared.Icc.{Icc}
use Rattle.sbx_image.specs.Range.{Range}
use Rattle.sbx_form.specs.Forms.{Cells}
use Rattle.sbx_domain.specs.declared.entry.Entry.{Entry}
use Rattle.sbx_domain.specs.declared.relation.Relation.{Relation}
use Rattle.sbx_domain.specs.Fits.{Fits, HasAlignment, HasInterval, Near, Relates, Words, with_word}
use Rattle.sbx_domain.specs.Known.{Known, range_of_entry, with_entry}
use Rattle.sbx_domain.specs.Transfer.{with_codes}
use Rattle.sbx_domain.proofs.Writes.{writes_keep_fitting}
use Rattle.sbx_fits.proofs.Entries.{Has}

pub near_written : (start : Cells) (d : Known) (words : Words) (icc : Icc) (y l v : ℕ) (e : Option Entry) → v < 2 ^ 32 → Has start e v
    → Near start d words icc y → Near start (with_entry l e d) (with_word l v words) icc y
near_written start d words icc y l v e small has near = writes_keep_fitting.near start d words icc y l v e small has.interval has.form near

pub fits_written : (start : Cells) (d : Known) (words : Words) (icc : Icc) (y l v : ℕ) (e : Option Entry) → v < 2 ^ 32 → Has start e v → HasAlignment (range_of_entry e) v
    → Fits start d words icc y → Fits start (with_entry l e d) (with_word l v words) icc y
fits_written start d words icc y l v e small has multiple fits = writes_keep_fitting.fits start d words icc y l v e small has.interval has.form multiple fits

-- codes and their relation
pub near_related : (start : Cells) (d : Known) (words : Words) (icc now : Icc) (y : ℕ) (b : Bool) (r : Option Relation) → Relates words now r
    → Near start d words icc y → Near start (record d { icc = b; relation = r }) words now y
near_related start d words icc now y b r relates near = record {
  are_words = near.are_words;
  zero = near.zero;
  intervals = near.intervals;
  forms = near.forms;
  y_word = near.y_word;
  y_interval = near.y_interval;
  relates = relates;
}

pub fits_related : (start : Cells) (d : Known) (words : Words) (icc now : Icc) (y : ℕ) (b : Bool) (r : Option Relation) → Relates words now r
    → Fits start d words icc y → Fits start (record d { icc = b; relation = r }) words now y
fits_related start d words icc now y b r relates fits = record {
  near = near_related start d words icc now y b r relates fits.near;
  multiples = fits.multiples;
  y_multiple = fits.y_multiple;
}

pub near_coded : (t : Bool) (start : Cells) (d : Known) (words : Words) (icc now : Icc) (y : ℕ) (r : Option Relation) → (t ≡ true → Relates words now r) → (t ≡ false → now ≡ icc)
    → Near start d words icc y → Near start (with_codes t r d) words now y
near_coded true start d words icc now y r relates same near = near_related start d words icc now y true r (relates refl) near
near_coded false start d words icc now y r relates same near = subst (λ i. Near start d words i y) (sym (same refl)) near

pub coded_multiples : (t : Bool) (d : Known) (words : Words) (r : Option Relation) → ((l : ℕ) → HasAlignment (range_of_entry (d.entry l)) (words l))
    → (l : ℕ) → HasAlignment (range_of_entry ((with_codes t r d).entry l)) (words l)
coded_multiples true d words r all l = all l
coded_multiples false d words r all l = all l

pub coded_y : (t : Bool) (d : Known) (r : Option Relation) (y : ℕ) → HasAlignment d.y y → HasAlignment (with_codes t r d).y y
coded_y true d r y h = h
coded_y false d r y h = h

pub fits_coded : (t : Bool) (start : Cells) (d : Known) (words : Words) (icc now : Icc) (y : ℕ) (r : Option Relation) → (t ≡ true → Relates words now r) → (t ≡ false → now ≡ icc)
    → Fits start d words icc y → Fits start (with_codes t r d) words now y
fits_coded t start d words icc now y r relates same fits = record {
  near = near_coded t start d words icc now y r relates same fits.near;
  multiples = coded_multiples t d words r fits.multiples;
  y_multiple = coded_y t d r y fits.y_multiple;
}

-- Y
pub near_y : (start : Cells) (d : Known) (words : Words) (icc : Icc) (y now : ℕ) (r : Option Range) → now < 2 ^ 32 → HasInterval r now
    → Near start d words icc y → Near start (record d { y = r }) words icc now
near_y start d words icc y now r small interval near = record {
  are_words = near.are_words;
  zero = near.zero;
  intervals = near.intervals;
  forms = near.forms;
  y_word = small;
  y_interval = interval;
  relates = near.relates;
}

pub fits_y : (start : Cells) (d : Known) (words : Words) (icc : Icc) (y now : ℕ) (r : Option Range) → now < 2 ^ 32 → HasInterval r now → HasAlignment r now
    → Fits start d words icc y → Fits start (record d { y = r }) words icc now
fits_y start d words icc y now r small interval multiple fits = record {
  near = near_y start d words icc y now r small interval fits.near;
  multiples = fits.multiples;
  y_multiple = multiple;
}
