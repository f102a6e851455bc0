-- What is left has the value that it says, whatever the numbers are.
use Rattle.std.proofs.Common.{◌≡◌, ℕ, suc, ◌≤◌, List, [], ◌∷◌, Some, None, refl, ap, arith}
use Rattle.std.specs.Prelude.{Option, ℤ, neg_ℤ, ◌+ℤ◌, ◌-ℤ◌, ◌*ℤ◌}
use Rattle.std.proofs.lemmas.Int.{ints}
use Rattle.sbx_form.specs.declared.terms.FormTerm.{FormTerm}
use Rattle.sbx_form.specs.Forms.{AscendFrom, Cells, add_term, add_terms, terms_value}
use Rattle.sbx_form.proofs.Values.{value-add_terms}
use Rattle.sbx_form.proofs.Ordered.{sums_stay_in_order}
use Rattle.sbx_rules.specs.Forms.{Form, form_value}
use Rattle.sbx_rules.specs.Known.{Known, form_at}
use Rattle.sbx_rules.specs.Fuel.{number_now, numbers_now}
use Rattle.sbx_fuel.specs.Margins.{constant_left, less_constant, less_terms, open_terms, start_terms, with_open}
use Rattle.sbx_fuel.proofs.Products.{sum_less, times_neg}

-- ---- the value of what is left

pub form_is : (cells : Cells) (g : Form) → form_value cells g ≡ g.constant +ℤ terms_value cells g.terms
unfolding form_value
form_is cells g = refl

abbrev pub left_value : Cells → Cells → Known → List FormTerm → List FormTerm → ℤ → ℤ
left_value start others now ts terms z = constant_left now ts z +ℤ (terms_value start (start_terms now ts terms) +ℤ terms_value others (open_terms now ts))

pub left_is : (start others : Cells) (now : Known) (ts terms : List FormTerm) (z : ℤ)
    → left_value start others now ts terms z ≡ z +ℤ (terms_value start terms -ℤ terms_value (numbers_now start now others) ts)
unfolding constant_left start_terms open_terms
left_is start others now [] terms z = omega (arith, ints)
left_is start others now (t ∷ ts) terms z = by_form (form_at now t.location) (λ more y. left_is start others now ts more y)
  where
    numbers : Cells
    numbers = numbers_now start now others

    by_form : (g : Option Form)
        → ((more : List FormTerm) (y : ℤ) → left_value start others now ts more y ≡ y +ℤ (terms_value start more -ℤ terms_value numbers ts))
        → constant_left now ts (less_constant t.coefficient g z) +ℤ
        (terms_value start (start_terms now ts (less_terms t.coefficient g terms)) +ℤ terms_value others (with_open t g (open_terms now ts)))
        ≡ z +ℤ (terms_value start terms -ℤ ((number_now start g (others t.location) *ℤ t.coefficient) +ℤ terms_value numbers ts))
    by_form None after =
        let i = after terms z in
        let n = times_neg (others t.location) t.coefficient in
        omega (arith, ints)
    by_form (Some g) after =
        let i = after (add_terms (neg_ℤ t.coefficient) g.terms terms) (z +ℤ (neg_ℤ t.coefficient *ℤ g.constant)) in
        let v = value-add_terms start (neg_ℤ t.coefficient) g.terms terms in
        let s = sum_less g.constant (terms_value start g.terms) t.coefficient in
        let u : form_value start g ≡ g.constant +ℤ terms_value start g.terms = form_is start g in
        let w = ap (λ n. n *ℤ t.coefficient) u in
        omega (arith, ints)

-- ---- orders

ascend_terms : (k : ℤ) (us ts : List FormTerm) → AscendFrom 0 ts → AscendFrom 0 (add_terms k us ts)
unfolding add_terms
ascend_terms k [] ts h = h
ascend_terms k (u ∷ us) ts h = ascend_terms k us (add_term u.location (k *ℤ u.coefficient) ts) (sums_stay_in_order.ascend 0 u.location (k *ℤ u.coefficient) ts (omega arith) h)

ascend_less : (c : ℤ) (g : Option Form) (ts : List FormTerm) → AscendFrom 0 ts → AscendFrom 0 (less_terms c g ts)
ascend_less c None ts h = h
ascend_less c (Some g) ts h = ascend_terms (neg_ℤ c) g.terms ts h

pub start_ascends : (now : Known) (ts terms : List FormTerm) → AscendFrom 0 terms → AscendFrom 0 (start_terms now ts terms)
unfolding start_terms
start_ascends now [] terms h = h
start_ascends now (t ∷ ts) terms h = start_ascends now ts (less_terms t.coefficient (form_at now t.location) terms) (ascend_less t.coefficient (form_at now t.location) terms h)

pub from_less : (n m : ℕ) (ts : List FormTerm) → n ≤ m → AscendFrom m ts → AscendFrom n ts
from_less n m [] le h = tt
from_less n m (t ∷ ts) le h = (let x = h.0 in omega arith, h.1)

ascend_open : (n : ℕ) (t : FormTerm) (g : Option Form) (ts : List FormTerm) → n ≤ t.location → AscendFrom (suc t.location) ts → AscendFrom n (with_open t g ts)
ascend_open n t None ts le h = (le, h)
ascend_open n t (Some g) ts le h = from_less n (suc t.location) ts (omega arith) h

pub open_ascends : (n : ℕ) (now : Known) (ts : List FormTerm) → AscendFrom n ts → AscendFrom n (open_terms now ts)
unfolding open_terms
open_ascends n now [] h = tt
open_ascends n now (t ∷ ts) h = ascend_open n t (form_at now t.location) (open_terms now ts) h.0 (open_ascends (suc t.location) now ts h.1)
