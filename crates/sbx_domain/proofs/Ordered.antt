-- The locations of a form ascend, so what is worked out as its least value is the least.
use Rattle.std.proofs.Common.{◌≡◌, ℕ, suc, ◌≤◌, true, ℤ, List, [], ◌∷◌, refl, ap, ◌∙◌, arith}
use Rattle.std.specs.Prelude.{nat_le, ◌&&◌, ◌*ℤ◌, ◌≤ℤ◌}
use Rattle.std.proofs.lemmas.Bool.Decides.{nat_tests}
use Rattle.std.proofs.lemmas.Int.{ints}
use Rattle.sbx_form.specs.declared.terms.FormTerm.{FormTerm}
use Rattle.sbx_form.specs.Forms.{AscendFrom, Ends, add_term, add_terms, least_terms, terms_value}
use Rattle.sbx_form.proofs.Ordered.{least_is_least, sums_stay_in_order}
use Rattle.sbx_range.proofs.Words.{both_true}
use Rattle.sbx_domain.specs.Forms.{Form, ascend_from, form_value}
use Rattle.sbx_domain.specs.Least.{IsLeast, least_value}

-- the order as a test, and as a fact
from_says : (n m : ℕ) → nat_le n m ≡ true → n ≤ m
from_says n m h = grind (arith, nat_tests)

from_tells : (n m : ℕ) → n ≤ m → nat_le n m ≡ true
from_tells n m h = grind (arith, nat_tests)

pub test_says : (n : ℕ) (ts : List FormTerm) → ascend_from n ts ≡ true → AscendFrom n ts
test_says n [] h = tt
test_says n (t ∷ ts) h = (let both = both_true (nat_le n t.location) (ascend_from (suc t.location) ts) h in (from_says n t.location both.0, test_says (suc t.location) ts both.1))

pub test_tells : (n : ℕ) (ts : List FormTerm) → AscendFrom n ts → ascend_from n ts ≡ true
test_tells n [] h = refl
test_tells n (t ∷ ts) h = ap (λ x. x && ascend_from (suc t.location) ts) (from_tells n t.location h.0) ∙ test_tells (suc t.location) ts h.1

-- a sum of forms has its terms in order
pub sum_ascends : (k : ℤ) (us ts : List FormTerm) → AscendFrom 0 ts → AscendFrom 0 (add_terms k us ts)
unfolding add_terms
sum_ascends k [] ts h = h
sum_ascends k (u ∷ us) ts h = sum_ascends k us (add_term u.location (k *ℤ u.coefficient) ts) (sums_stay_in_order.ascend 0 u.location (k *ℤ u.coefficient) ts (omega arith) h)

pub value_is_least : (ends : Ends) (f : Form) → AscendFrom 0 f.terms → IsLeast ends f (least_value ends f)
unfolding least_value form_value
value_is_least ends f h = record {
  below = λ cells within. (let b : least_terms ends f.terms ≤ℤ terms_value cells f.terms = least_is_least.below ends cells f.terms within in omega (arith, ints));
  reached = λ sound. (let r = least_is_least.reached ends 0 f.terms sound h in (r.0, r.1, (let e : terms_value r.0 f.terms ≡ least_terms ends f.terms = r.2 in omega (arith, ints))));
}
