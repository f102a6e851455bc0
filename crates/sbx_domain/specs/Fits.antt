-- Words that agree with what is known.
use Rattle.std.specs.Prelude.{ℕ, ◌≡◌, ◌==◌, ◌<◌, ◌^◌, false, if◌then◌else◌, Option, Some, None}
use Rattle.v8_word.specs.declared.Icc.{Icc}
use Rattle.v8_alu.specs.Results.{difference_codes, signed}
use Rattle.sbx_range.specs.Range.{Range}
use Rattle.sbx_form.specs.Forms.{Cells}
use Rattle.sbx_range.specs.Laws.{HasSigns}
use Rattle.sbx_range.specs.Ranges.{InInterval, IsAligned}
use Rattle.sbx_domain.specs.Forms.{Form, form_value}
use Rattle.sbx_domain.specs.declared.relation.Relation.TheVariants.{Compared, Signs}
use Rattle.sbx_domain.specs.declared.relation.Related.TheVariants.{Location, Word}
use Rattle.sbx_domain.specs.declared.relation.Related.{Related}
use Rattle.sbx_domain.specs.declared.relation.Relation.{Relation}
use Rattle.sbx_domain.specs.Known.{Known, form_of_entry, is_location, range_of_entry}

-- the words of the locations, of which 0 is %g0
abbrev pub Words : Type 0
Words = ℕ → ℕ

-- the same with one of them written
abbrev pub with_word : ℕ → ℕ → Words → Words
with_word l v words = if is_location l then (λ k. if k == l then v else words k) else words

abbrev pub HasInterval : Option Range → ℕ → Type 0
HasInterval None w = Unit {0}
HasInterval (Some r) w = InInterval r w

abbrev pub HasAlignment : Option Range → ℕ → Type 0
HasAlignment None w = Unit {0}
HasAlignment (Some r) w = IsAligned r.alignment w

abbrev pub HasForm : Cells → Option Form → ℕ → Type 0
HasForm start None w = Unit {0}
HasForm start (Some f) w = form_value start f ≡ signed w

abbrev pub word_of_related : Words → Related → ℕ
word_of_related words (Location l) = words l
word_of_related words (Word w) = w

-- codes of a word less another
pub record AreCodesOf (icc : Icc) (x y : ℕ) : Type 0 where
  pub first : x < 2 ^ 32
  pub second : y < 2 ^ 32
  pub codes : icc ≡ difference_codes x y false

abbrev pub Relates : Words → Icc → Option Relation → Type 0
Relates words icc None = Unit {0}
Relates words icc (Some (Compared x y)) = AreCodesOf icc (word_of_related words x) (word_of_related words y)
Relates words icc (Some (Signs l)) = HasSigns icc (words l)

-- Words that lie in the intervals, have the forms over these starting numbers, and relate as is known: all that fuel
-- looks at.
pub record Near (start : Cells) (d : Known) (words : Words) (icc : Icc) (y : ℕ) : Type 0 where
  pub are_words : (l : ℕ) → words l < 2 ^ 32
  pub zero : words 0 ≡ 0
  pub intervals : (l : ℕ) → HasInterval (range_of_entry (d.entry l)) (words l)
  pub forms : (l : ℕ) → HasForm start (form_of_entry (d.entry l)) (words l)
  pub y_word : y < 2 ^ 32
  pub y_interval : HasInterval d.y y
  pub relates : Relates words icc d.relation

-- Words that fit: they are also multiples as the ranges say.
pub record Fits (start : Cells) (d : Known) (words : Words) (icc : Icc) (y : ℕ) : Type 0 where
  pub near : Near start d words icc y
  pub multiples : (l : ℕ) → HasAlignment (range_of_entry (d.entry l)) (words l)
  pub y_multiple : HasAlignment d.y y
