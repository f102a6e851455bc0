-- One more term keeps the order.
use Rattle.std.proofs.Common.{◌≡◌, ℕ, suc, ◌≤◌, true, false, List, [], ◌∷◌, arith, length}
use Rattle.std.specs.Prelude.{◌==◌, nat_lt, ℤ, pos, ◌+ℤ◌}
use Rattle.std.specs.Ordering.{int_eq}
use Rattle.std.proofs.lemmas.Bool.Decides.{nat_tests}
use Rattle.sbx_form.specs.declared.terms.FormTerm.{FormTerm}
use Rattle.sbx_form.specs.Forms.{AscendFrom, add_term, keep}
use Rattle.sbx_form.specs.Laws.{LeastIsLeast, SumsHaveTheSum, SumsStayInOrder}
use Rattle.sbx_form.proofs.Values.{by_test, least-below, least-reached, value-add_term, value-add_terms}

weaker : (n m : ℕ) (ts : List FormTerm) → n ≤ m → AscendFrom m ts → AscendFrom n ts
weaker n m [] le a = tt
weaker n m (t ∷ ts) le a = (let first = a.0 in omega arith, a.1)

kept-ascends : (n l : ℕ) (c : ℤ) (ts : List FormTerm) → n ≤ l → AscendFrom (suc l) ts → AscendFrom n (keep l c ts)
kept-ascends n l c ts le a = by_test (int_eq c (pos 0)) (AscendFrom n) _ _ (λ _. weaker n (suc l) ts (omega arith) a) (λ _. (le, a))

ascends : (n l : ℕ) (c : ℤ) (ts : List FormTerm) → n ≤ l → AscendFrom n ts → AscendFrom n (add_term l c ts)
unfolding add_term
ascends n l c [] le a = kept-ascends n l c [] le tt
ascends n l c (t ∷ ts) le a =
    by_test (nat_lt l t.location) (AscendFrom n) _ _
    (λ h. kept-ascends n l c (t ∷ ts) le (lower l t h, a.1))
    (λ f. by_test (l == t.location) (AscendFrom n) _ _
    (λ e. kept-ascends n l (c +ℤ t.coefficient) ts le (weaker (suc l) (suc t.location) ts (same l t e) a.1))
    (λ g. (a.0, ascends (suc t.location) l c ts (past l t f g) a.1)))
  where
    lower : (l : ℕ) (t : FormTerm) → nat_lt l t.location ≡ true → suc l ≤ t.location
    lower l t h = grind (arith, nat_tests)

    same : (l : ℕ) (t : FormTerm) → (l == t.location) ≡ true → suc l ≤ suc t.location
    same l t e = grind (arith, nat_tests)

    past : (l : ℕ) (t : FormTerm) → nat_lt l t.location ≡ false → (l == t.location) ≡ false → suc t.location ≤ l
    past l t f g = grind (arith, nat_tests)

kept-few : (l : ℕ) (c : ℤ) (ts : List FormTerm) → length (keep l c ts) ≤ suc (length ts)
kept-few l c ts = by_test (int_eq c (pos 0)) (λ r. length r ≤ suc (length ts)) _ _ (λ _. omega arith) (λ _. omega arith)

few : (l : ℕ) (c : ℤ) (ts : List FormTerm) → length (add_term l c ts) ≤ suc (length ts)
unfolding add_term
few l c [] = kept-few l c []
few l c (t ∷ ts) =
    by_test (nat_lt l t.location) (λ r. length r ≤ suc (suc (length ts))) _ _
    (λ _. kept-few l c (t ∷ ts))
    (λ _. by_test (l == t.location) (λ r. length r ≤ suc (suc (length ts))) _ _
    (λ _. let k = kept-few l (c +ℤ t.coefficient) ts in omega arith)
    (λ _. let i = few l c ts in omega arith))

pub sums_have_the_sum : SumsHaveTheSum
sums_have_the_sum = record { one = value-add_term; several = value-add_terms }

pub sums_stay_in_order : SumsStayInOrder
sums_stay_in_order = record { ascend = ascends; few = few }

pub least_is_least : LeastIsLeast
least_is_least = record { below = least-below; reached = least-reached }
