-- The least value of a form.
use Rattle.std.specs.Prelude.{◌≡◌, ℕ, ℤ, ◌+ℤ◌, ◌≤ℤ◌, Option, Some, None}
use Rattle.sbx_range.specs.Range.{Range}
use Rattle.sbx_form.specs.Forms.{Cells, Ends, Within, least_terms, no_range}
use Rattle.sbx_domain.specs.Forms.{Form, form_value}
use Rattle.sbx_domain.specs.Known.{Known, range_at}

abbrev pub range_or_zero : Option Range → Range
range_or_zero None = no_range
range_or_zero (Some r) = r

-- the ends of what is known of each location; 0 where nothing is
abbrev pub ends_known : Known → Ends
ends_known d = record { lo = λ l. (range_or_zero (range_at d l)).lo; hi = λ l. (range_or_zero (range_at d l)).hi }

-- over all numbers between these ends
unfoldable pub least_value : Ends → Form → ℤ
least_value ends f = least_terms ends f.terms +ℤ f.constant

-- No numbers between the ends make a form less than this, and some make it this, where no lower end is above the upper
-- one.
pub record IsLeast (ends : Ends) (f : Form) (least : ℤ) : Type 0 where
  pub below : (cells : Cells) → Within ends cells → least ≤ℤ form_value cells f
  pub reached : ((l : ℕ) → ends.lo l ≤ℤ ends.hi l) → (cells : Cells) × Within ends cells × (form_value cells f ≡ least)
