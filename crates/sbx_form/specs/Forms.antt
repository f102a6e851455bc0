-- Linear forms over the numbers that a block starts with.
use Rattle.std.specs.Prelude.{ℕ, suc, ◌≤◌, ◌==◌, ℤ, pos, ◌+ℤ◌, ◌*ℤ◌, ◌≤ℤ◌, unsigned_abs, nat_lt, List, [], ◌∷◌}
use Rattle.std.specs.Prelude.{slice_index_or, if◌then◌else◌}
use Rattle.std.specs.Int.{int_min}
use Rattle.std.specs.Ordering.{int_eq}
use Rattle.sbx_form.specs.declared.terms.FormTerm.{FormTerm}
use Rattle.sbx_range.specs.Range.{Range}

-- the numbers that the cells start with, by location
abbrev pub Cells : Type 0
Cells = ℕ → ℤ

abbrev pub terms_value : Cells → List FormTerm → ℤ
terms_value cells [] = pos 0
terms_value cells (t ∷ ts) = (cells t.location *ℤ t.coefficient) +ℤ terms_value cells ts

-- a term before these, unless its coefficient is 0
abbrev pub keep : ℕ → ℤ → List FormTerm → List FormTerm
keep l c ts = if int_eq c (pos 0) then ts else (record { location = l; coefficient = c } ∷ ts)

-- one more term among terms in ascending order
unfoldable pub add_term : ℕ → ℤ → List FormTerm → List FormTerm
add_term l c [] = keep l c []
add_term l c (t ∷ ts) =
    if nat_lt l t.location then keep l c (t ∷ ts)
    else (if l == t.location then keep l (c +ℤ t.coefficient) ts
    else (t ∷ add_term l c ts))

-- k times the first terms, added to the second
unfoldable pub add_terms : ℤ → List FormTerm → List FormTerm → List FormTerm
add_terms k [] ts = ts
add_terms k (u ∷ us) ts = add_terms k us (add_term u.location (k *ℤ u.coefficient) ts)

-- no coefficient is past these
abbrev pub AreWithin : ℕ → List FormTerm → Type 0
AreWithin m [] = Unit {0}
AreWithin m (t ∷ ts) = (unsigned_abs t.coefficient ≤ m) × AreWithin m ts

-- locations ascend, and are all at least this
abbrev pub AscendFrom : ℕ → List FormTerm → Type 0
AscendFrom n [] = Unit {0}
AscendFrom n (t ∷ ts) = (n ≤ t.location) × AscendFrom (suc t.location) ts

-- ends of a cell's numbers, by location
pub record Ends : Type 0 where
  pub lo : ℕ → ℤ
  pub hi : ℕ → ℤ

-- Numbers that lie from the lower to the upper end of their location.
pub record Within (ends : Ends) (cells : Cells) : Type 0 where
  pub low : (l : ℕ) → ends.lo l ≤ℤ cells l
  pub high : (l : ℕ) → cells l ≤ℤ ends.hi l

abbrev pub no_range : Range
no_range = record { lo = pos 0; hi = pos 0; alignment = 0 }

-- the ends of ranges that stand by location
abbrev pub ends_of : List Range → Ends
ends_of ranges =
    record { lo = λ l. (slice_index_or ranges l no_range).lo; hi = λ l. (slice_index_or ranges l no_range).hi }

abbrev pub least_term : Ends → FormTerm → ℤ
least_term ends t = int_min (ends.lo t.location *ℤ t.coefficient) (ends.hi t.location *ℤ t.coefficient)

unfoldable pub least_terms : Ends → List FormTerm → ℤ
least_terms ends [] = pos 0
least_terms ends (t ∷ ts) = least_term ends t +ℤ least_terms ends ts
