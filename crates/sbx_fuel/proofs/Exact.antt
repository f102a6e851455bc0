-- The least of what is left, as it is computed, decides the rule of fuel.
use Rattle.std.proofs.Common.{◌≡◌, ℕ, zero, suc, true, List, [], ◌∷◌, map, Some, None, refl, ap, sym, ◌∙◌, arith}
use Rattle.std.specs.Prelude.{Option, nat_lt, ◌==◌, not, ℤ, pos, negsuc, neg_ℤ, ◌+ℤ◌, ◌-ℤ◌, ◌*ℤ◌, ◌≤ℤ◌, int_lt}
use Rattle.std.specs.Ordering.{int_eq}
use Rattle.std.proofs.lemmas.Bool.Decides.{Decides-int_eq}
use Rattle.std.proofs.lemmas.Int.{ints}
use Rattle.sbx_form.specs.declared.terms.FormTerm.{FormTerm}
use Rattle.sbx_form.specs.Forms.{AscendFrom, Cells, add_term, add_terms, keep, terms_value}
use Rattle.sbx_form.proofs.Values.{by_test}
use Rattle.sbx_rules.specs.Forms.{Form, form_value}
use Rattle.sbx_rules.specs.Known.{Known, form_at, nothing_known, range_at}
use Rattle.sbx_rules.specs.Fuel.{InCells, IsEnough, IsPaid, IsWithinBudget}
use Rattle.sbx_fuel.specs.Margins.{AreSome, constant_left, less_constant, less_terms, open_terms, start_terms, with_open}
use Rattle.sbx_fuel.specs.Least.{AreNonzero, both, is_natural_sum, least_in, least_over, negated, taken, taken_by}
use Rattle.sbx_fuel.proofs.Products.{times_neg}
use Rattle.sbx_fuel.proofs.Reached.{IsLeft, has_least, is_left}
use Rattle.sbx_fuel.proofs.Values.{left_is, open_ascends, start_ascends}

-- ---- what is taken is the least of the open terms, with the constants of forms

abbrev plus : ℤ → Option ℤ → Option ℤ
plus z None = None
plus z (Some m) = Some (z +ℤ m)

plus_more : (z k : ℤ) (o : Option ℤ) → plus z (both (Some k) o) ≡ plus (z +ℤ k) o
plus_more z k None = refl
plus_more z k (Some m) = let e : z +ℤ (k +ℤ m) ≡ (z +ℤ k) +ℤ m = omega (arith, ints) in ap Some e

plus_same : (z y : ℤ) (x o p : Option ℤ) → plus z o ≡ plus y p → plus z (both x o) ≡ plus y (both x p)
plus_same z y None o p e = refl
plus_same z y (Some k) None None e = refl
plus_same z y (Some k) None (Some m) e = absurd cc
plus_same z y (Some k) (Some m) None e = absurd cc
plus_same z y (Some k) (Some m) (Some n) e =
    let s : z +ℤ m ≡ y +ℤ n = cc in
    let t : z +ℤ (k +ℤ m) ≡ y +ℤ (k +ℤ n) = omega (arith, ints) in
    ap Some t

taken_is : (now : Known) (ts : List FormTerm) (z : ℤ) → plus z (taken_by now ts) ≡ plus (constant_left now ts z) (least_over (range_at now) (open_terms now ts))
unfolding taken_by constant_left open_terms least_over
taken_is now [] z = refl
taken_is now (t ∷ ts) z = by_form (form_at now t.location) (λ y. taken_is now ts y)
  where
    by_form : (g : Option Form) → ((y : ℤ) → plus y (taken_by now ts) ≡ plus (constant_left now ts y) (least_over (range_at now) (open_terms now ts)))
        → plus z (both (taken t.coefficient g (range_at now t.location)) (taken_by now ts))
        ≡ plus (constant_left now ts (less_constant t.coefficient g z)) (least_over (range_at now) (with_open t g (open_terms now ts)))
    by_form None after = plus_same z (constant_left now ts z) (least_in (range_at now t.location) (neg_ℤ t.coefficient)) (taken_by now ts) (least_over (range_at now) (open_terms now ts)) (after z)
    by_form (Some g) after = plus_more z (neg_ℤ t.coefficient *ℤ g.constant) (taken_by now ts) ∙ after (z +ℤ (neg_ℤ t.coefficient *ℤ g.constant))

-- ---- no term is 0

some_kept : (l : ℕ) (c : ℤ) (ts : List FormTerm) → AreNonzero ts → AreNonzero (keep l c ts)
some_kept l c ts h = by_test (int_eq c (pos 0)) AreNonzero _ _ (λ _. h) (λ other. ((λ e. (let t = (Decides-int_eq c (pos 0)).1 e in absurd cc)), h))

some_added : (l : ℕ) (c : ℤ) (ts : List FormTerm) → AreNonzero ts → AreNonzero (add_term l c ts)
unfolding add_term
some_added l c [] h = some_kept l c [] tt
some_added l c (t ∷ ts) h =
    by_test (nat_lt l t.location) AreNonzero _ _
    (λ _. some_kept l c (t ∷ ts) h)
    (λ _. by_test (l == t.location) AreNonzero _ _ (λ _. some_kept l (c +ℤ t.coefficient) ts h.1) (λ _. (h.0, some_added l c ts h.1)))

some_sums : (k : ℤ) (us ts : List FormTerm) → AreNonzero ts → AreNonzero (add_terms k us ts)
unfolding add_terms
some_sums k [] ts h = h
some_sums k (u ∷ us) ts h = some_sums k us (add_term u.location (k *ℤ u.coefficient) ts) (some_added u.location (k *ℤ u.coefficient) ts h)

some_less : (c : ℤ) (g : Option Form) (ts : List FormTerm) → AreNonzero ts → AreNonzero (less_terms c g ts)
some_less c None ts h = h
some_less c (Some g) ts h = some_sums (neg_ℤ c) g.terms ts h

start_nonzero : (now : Known) (ts terms : List FormTerm) → AreNonzero terms → AreNonzero (start_terms now ts terms)
unfolding start_terms
start_nonzero now [] terms h = h
start_nonzero now (t ∷ ts) terms h = start_nonzero now ts (less_terms t.coefficient (form_at now t.location) terms) (some_less t.coefficient (form_at now t.location) terms h)

neg_nonzero : (c : ℤ) → (c ≡ pos 0 → ⊥) → neg_ℤ c ≡ pos 0 → ⊥
neg_nonzero (pos zero) h e = h refl
neg_nonzero (pos (suc n)) h e = absurd cc
neg_nonzero (negsuc n) h e = let z : suc n ≡ 0 = cc in absurd (omega arith)

some_open : (t : FormTerm) (g : Option Form) (ts : List FormTerm) → (t.coefficient ≡ pos 0 → ⊥) → AreNonzero ts → AreNonzero (with_open t g ts)
some_open t None ts s h = (neg_nonzero t.coefficient s, h)
some_open t (Some g) ts s h = h

open_nonzero : (now : Known) (ts : List FormTerm) → AreNonzero ts → AreNonzero (open_terms now ts)
unfolding open_terms
open_nonzero now [] h = tt
open_nonzero now (t ∷ ts) h = some_open t (form_at now t.location) (open_terms now ts) h.0 (open_nonzero now ts h.1)

-- ---- the test

natural_is : (z : ℤ) → not (int_lt z (pos 0)) ≡ true → pos 0 ≤ℤ z
natural_is z h = grind (arith, ints)

is_natural : (z : ℤ) → pos 0 ≤ℤ z → not (int_lt z (pos 0)) ≡ true
is_natural z h = grind (arith, ints)

-- ---- along an edge

-- terms in the order of their numbers, none of them 0 times its number
pub record AreTerms (ts : List FormTerm) : Type 0 where
  pub ascend : AscendFrom 0 ts
  pub nonzero : AreNonzero ts

module _ (first : Known) (fuel : Form) (weight : ℕ) (now : Known) (next : Form) (some_first : AreSome first) (some_now : AreSome now)
    (fuel_terms : AreTerms fuel.terms) (next_terms : AreTerms next.terms) where
  abbrev pub before : ℤ
  before = (fuel.constant -ℤ next.constant) -ℤ pos weight

  abbrev pub left : ℤ
  left = constant_left now next.terms before

  abbrev pub starts : List FormTerm
  starts = start_terms now next.terms fuel.terms

  abbrev pub opens : List FormTerm
  opens = open_terms now next.terms

  paid : IsLeft first now starts opens left → IsPaid first fuel weight now next
  unfolding form_value
  paid h start others a b =
      let v = left_is start others now next.terms fuel.terms before in
      let l = h start others a b in
      omega (arith, ints)

  leaves : IsPaid first fuel weight now next → IsLeft first now starts opens left
  unfolding form_value
  leaves h start others a b =
      let v = left_is start others now next.terms fuel.terms before in
      let l = h start others a b in
      omega (arith, ints)

  open_least : (n : ℤ) → taken_by now next.terms ≡ Some n → (m : ℤ) × (least_over (range_at now) opens ≡ Some m) × (before +ℤ n ≡ left +ℤ m)
  open_least n e = by_least (least_over (range_at now) opens) refl
    where
      same : plus before (Some n) ≡ plus left (least_over (range_at now) opens)
      same = ap (plus before) (sym e) ∙ taken_is now next.terms before

      by_least : (o : Option ℤ) → least_over (range_at now) opens ≡ o → (m : ℤ) × (least_over (range_at now) opens ≡ Some m) × (before +ℤ n ≡ left +ℤ m)
      by_least None a = let s = same ∙ ap (plus left) a in absurd cc
      by_least (Some m) a = let s = same ∙ ap (plus left) a in (m, a, cc)

  taken_least : (m : ℤ) → least_over (range_at now) opens ≡ Some m → (n : ℤ) × (taken_by now next.terms ≡ Some n) × (before +ℤ n ≡ left +ℤ m)
  taken_least m e = by_least (taken_by now next.terms) refl
    where
      same : plus before (taken_by now next.terms) ≡ plus left (Some m)
      same = taken_is now next.terms before ∙ ap (plus left) e

      by_least : (o : Option ℤ) → taken_by now next.terms ≡ o → (n : ℤ) × (taken_by now next.terms ≡ Some n) × (before +ℤ n ≡ left +ℤ m)
      by_least None a = let s = ap (plus before) (sym a) ∙ same in absurd cc
      by_least (Some n) a = let s = ap (plus before) (sym a) ∙ same in (n, a, cc)

  pub is_paid : is_natural_sum before (least_over (range_at first) starts) (taken_by now next.terms) ≡ true → IsPaid first fuel weight now next
  is_paid e = paid (by_least (least_over (range_at first) starts) (taken_by now next.terms) refl refl e)
    where
      by_least : (o p : Option ℤ) → least_over (range_at first) starts ≡ o → taken_by now next.terms ≡ p → is_natural_sum before o p ≡ true → IsLeft first now starts opens left
      by_least None p a b h = absurd cc
      by_least (Some m) None a b h = absurd cc
      by_least (Some m) (Some n) a b h =
          let k = open_least n b in
          let s = k.2 in
          let g = natural_is (before +ℤ (m +ℤ n)) h in
          is_left first now starts opens left (record { one = m; other = k.0; one_is = a; other_is = k.1; left = omega (arith, ints) })

  pub paid_is : IsPaid first fuel weight now next → is_natural_sum before (least_over (range_at first) starts) (taken_by now next.terms) ≡ true
  paid_is h =
      let least = has_least first now starts opens left some_first some_now
      (start_ascends now next.terms fuel.terms fuel_terms.ascend) (open_ascends 0 now next.terms next_terms.ascend)
      (start_nonzero now next.terms fuel.terms fuel_terms.nonzero) (open_nonzero now next.terms next_terms.nonzero) (leaves h) in
      let k = taken_least least.other least.other_is in
      let s = k.2 in
      let g = least.left in
      let n : pos 0 ≤ℤ (before +ℤ (least.one +ℤ k.0)) = omega (arith, ints) in
      ap (λ o. is_natural_sum before o (taken_by now next.terms)) least.one_is ∙ (ap (λ o. is_natural_sum before (Some least.one) o) k.1 ∙ is_natural (before +ℤ (least.one +ℤ k.0)) n)

-- ---- where a run or a function ends

no_cells : (others : Cells) → InCells nothing_known others
no_cells others l r e = absurd cc

none_some : AreSome nothing_known
none_some l r e = absurd cc

module _ (first : Known) (terms : List FormTerm) (z : ℤ) (some_first : AreSome first) (are_terms : AreTerms terms) where
  abbrev IsAlways : Type 0
  IsAlways = (start : Cells) → InCells first start → pos 0 ≤ℤ (z +ℤ terms_value start terms)

  pub is_always : is_natural_sum z (least_over (range_at first) terms) (Some (pos 0)) ≡ true → IsAlways
  unfolding least_over
  is_always e start a = by_least (least_over (range_at first) terms) refl e
    where
      by_least : (o : Option ℤ) → least_over (range_at first) terms ≡ o → is_natural_sum z o (Some (pos 0)) ≡ true → pos 0 ≤ℤ (z +ℤ terms_value start terms)
      by_least None b h = absurd cc
      by_least (Some m) b h =
          let g = natural_is (z +ℤ (m +ℤ pos 0)) h in
          let l = is_left first nothing_known terms [] z (record { one = m; other = pos 0; one_is = b; other_is = refl; left = g }) start start a (no_cells start) in
          omega (arith, ints)

  pub always_is : IsAlways → is_natural_sum z (least_over (range_at first) terms) (Some (pos 0)) ≡ true
  unfolding least_over
  always_is h =
      let least = has_least first nothing_known terms [] z some_first none_some are_terms.ascend tt are_terms.nonzero tt (λ start others a b. (let l = h start a in omega (arith, ints))) in
      let zero_is : least.other ≡ pos 0 = cc (least.other_is) in
      let g = least.left in
      let n : pos 0 ≤ℤ (z +ℤ (least.one +ℤ pos 0)) = omega (arith, ints) in
      ap (λ o. is_natural_sum z o (Some (pos 0))) least.one_is ∙ is_natural (z +ℤ (least.one +ℤ pos 0)) n

module _ (first : Known) (fuel : Form) (weight : ℕ) (some_first : AreSome first) (are_terms : AreTerms fuel.terms) where
  pub is_enough : is_natural_sum (fuel.constant -ℤ pos weight) (least_over (range_at first) fuel.terms) (Some (pos 0)) ≡ true → IsEnough first fuel weight
  unfolding form_value
  is_enough e start a = let l = is_always first fuel.terms (fuel.constant -ℤ pos weight) some_first are_terms e start a in omega (arith, ints)

  pub enough_is : IsEnough first fuel weight → is_natural_sum (fuel.constant -ℤ pos weight) (least_over (range_at first) fuel.terms) (Some (pos 0)) ≡ true
  unfolding form_value
  enough_is h = always_is first fuel.terms (fuel.constant -ℤ pos weight) some_first are_terms (λ start a. (let l = h start a in omega (arith, ints)))

-- ---- within a budget

negated_value : (cells : Cells) (ts : List FormTerm) → terms_value cells (map negated ts) +ℤ terms_value cells ts ≡ pos 0
negated_value cells [] = refl
negated_value cells (t ∷ ts) =
    let i = negated_value cells ts in
    let n = times_neg (cells t.location) t.coefficient in
    omega (arith, ints)

negated_ascend : (n : ℕ) (ts : List FormTerm) → AscendFrom n ts → AscendFrom n (map negated ts)
negated_ascend n [] h = tt
negated_ascend n (t ∷ ts) h = (h.0, negated_ascend (suc t.location) ts h.1)

negated_nonzero : (ts : List FormTerm) → AreNonzero ts → AreNonzero (map negated ts)
negated_nonzero [] h = tt
negated_nonzero (t ∷ ts) h = (neg_nonzero t.coefficient h.0, negated_nonzero ts h.1)

negated_terms : (ts : List FormTerm) → AreTerms ts → AreTerms (map negated ts)
negated_terms ts h = record { ascend = negated_ascend 0 ts h.ascend; nonzero = negated_nonzero ts h.nonzero }

module _ (first : Known) (fuel : Form) (budget : ℕ) (some_first : AreSome first) (are_terms : AreTerms fuel.terms) where
  pub is_within : is_natural_sum (pos budget -ℤ fuel.constant) (least_over (range_at first) (map negated fuel.terms)) (Some (pos 0)) ≡ true → IsWithinBudget first fuel budget
  unfolding form_value
  is_within e start a =
      let l = is_always first (map negated fuel.terms) (pos budget -ℤ fuel.constant) some_first (negated_terms fuel.terms are_terms) e start a in
      let v = negated_value start fuel.terms in
      omega (arith, ints)

  pub within_is : IsWithinBudget first fuel budget → is_natural_sum (pos budget -ℤ fuel.constant) (least_over (range_at first) (map negated fuel.terms)) (Some (pos 0)) ≡ true
  unfolding form_value
  within_is h =
      always_is first (map negated fuel.terms) (pos budget -ℤ fuel.constant) some_first (negated_terms fuel.terms are_terms)
      (λ start a. (let l = h start a in let v = negated_value start fuel.terms in omega (arith, ints)))
