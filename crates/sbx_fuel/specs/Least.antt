-- The least of terms where they may name a location without a range: it may hold any number, and nothing is least then.
use Rattle.std.specs.Prelude.{◌≡◌, ℕ, Bool, false, not, int_lt, ◌*ℤ◌, ◌+ℤ◌, ℤ, pos, neg_ℤ, List, [], ◌∷◌, Option, Some}
use Rattle.std.specs.Prelude.{None}
use Rattle.std.specs.Int.{int_min}
use Rattle.sbx_image.specs.Range.{Range}
use Rattle.sbx_form.specs.declared.terms.FormTerm.{FormTerm}
use Rattle.sbx_rules.specs.Forms.{Form}
use Rattle.sbx_rules.specs.Known.{Known, form_at, is_location, range_at}

abbrev pub both : Option ℤ → Option ℤ → Option ℤ
both (Some a) (Some b) = Some (a +ℤ b)
both (Some a) None = None
both None b = None

-- of so many times the numbers of a range
abbrev pub least_in : Option Range → ℤ → Option ℤ
least_in None c = None
least_in (Some r) c = Some (int_min (r.lo *ℤ c) (r.hi *ℤ c))

unfoldable pub least_over : (ℕ → Option Range) → List FormTerm → Option ℤ
least_over ranges [] = Some (pos 0)
least_over ranges (t ∷ ts) = both (least_in (ranges t.location) t.coefficient) (least_over ranges ts)

-- What a term of another block's fuel adds where it is taken away, but for its form's terms.
abbrev pub taken : ℤ → Option Form → Option Range → Option ℤ
taken c (Some g) r = Some (neg_ℤ c *ℤ g.constant)
taken c None r = least_in r (neg_ℤ c)

unfoldable pub taken_by : Known → List FormTerm → Option ℤ
taken_by now [] = Some (pos 0)
taken_by now (t ∷ ts) = both (taken t.coefficient (form_at now t.location) (range_at now t.location)) (taken_by now ts)

-- no term stands for nothing
abbrev pub AreNonzero : List FormTerm → Type 0
AreNonzero [] = Unit {0}
AreNonzero (t ∷ ts) = (t.coefficient ≡ pos 0 → ⊥) × AreNonzero ts

abbrev pub negated : FormTerm → FormTerm
negated t = record { location = t.location; coefficient = neg_ℤ t.coefficient }

-- What is no location is never known.
abbrev pub HasOnlyLocations : Known → Type 0
HasOnlyLocations d = (l : ℕ) → is_location l ≡ false → d.entry l ≡ None

-- Whether a number and two least values come to at least 0; where nothing is least, they don't.
abbrev pub is_natural_sum : ℤ → Option ℤ → Option ℤ → Bool
is_natural_sum z (Some m) (Some n) = not (int_lt (z +ℤ (m +ℤ n)) (pos 0))
is_natural_sum z (Some m) None = false
is_natural_sum z None n = false
