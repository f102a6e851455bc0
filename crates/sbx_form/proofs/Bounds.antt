-- Coefficients stay within bounds as terms are added.
use Rattle.std.proofs.Common.{◌≡◌, ℕ, zero, suc, ◌+◌, ◌*◌, ◌<◌, ◌≤◌, Bool, true, false, List, [], ◌∷◌, get_or, drop, length, refl, sym, ap, ◌∙◌, arith, add-one}
use Rattle.std.specs.Prelude.{◌==◌, nat_lt, if◌then◌else◌, ℤ, pos, ◌+ℤ◌, ◌*ℤ◌, unsigned_abs}
use Rattle.std.specs.Ordering.{int_eq}
use Rattle.std.proofs.Math.Seq.{drop-cons}
use Rattle.std.proofs.lemmas.List.{drop_all}
use Rattle.std.proofs.lemmas.Int.{ints}
use Rattle.sbx_form.specs.declared.terms.FormTerm.{FormTerm}
use Rattle.sbx_form.specs.Forms.{AreWithin, add_term, add_terms, keep}
use Rattle.sbx_form.proofs.Values.{by_test}

pub wider_bound : (m n : ℕ) (ts : List FormTerm) → m ≤ n → AreWithin m ts → AreWithin n ts
wider_bound m n [] le h = tt
wider_bound m n (t ∷ ts) le h = (let first = h.0 in omega arith, wider_bound m n ts le h.1)

kept_within : (m l : ℕ) (c : ℤ) (ts : List FormTerm) → unsigned_abs c ≤ m → AreWithin m ts → AreWithin m (keep l c ts)
kept_within m l c ts small h = by_test (int_eq c (pos 0)) (AreWithin m) _ _ (λ _. h) (λ _. (small, h))

-- one more term adds its coefficient to one at most
pub added_within : (m n l : ℕ) (c : ℤ) (ts : List FormTerm) → unsigned_abs c ≤ n → AreWithin m ts → AreWithin (m + n) (add_term l c ts)
unfolding add_term
added_within m n l c [] small h = kept_within (m + n) l c [] (omega arith) tt
added_within m n l c (t ∷ ts) small h =
    let first : unsigned_abs t.coefficient ≤ m = h.0 in
    let rest : AreWithin (m + n) ts = wider_bound m (m + n) ts (omega arith) h.1 in
    by_test (nat_lt l t.location) (AreWithin (m + n)) _ _
    (λ _. kept_within (m + n) l c (t ∷ ts) (omega arith) (omega arith, rest))
    (λ _. by_test (l == t.location) (AreWithin (m + n)) _ _
    (λ _. kept_within (m + n) l (c +ℤ t.coefficient) ts (omega (arith, ints)) rest)
    (λ _. (omega arith, added_within m n l c ts small h.1)))

pub within_at : (m : ℕ) (ts : List FormTerm) (k : ℕ) (d : FormTerm) → AreWithin m ts → k < length ts → unsigned_abs (get_or ts k d).coefficient ≤ m
within_at m [] k d h room = absurd (omega arith)
within_at m (t ∷ ts) zero d h room = h.0
within_at m (t ∷ ts) (suc k) d h room = within_at m ts k d h.1 (omega arith)

-- a loop that adds terms
pub more_added : (k : ℤ) (us ts : List FormTerm) (i : ℕ) (d : FormTerm) (total : List FormTerm) → i < length us
    → add_terms k (drop i us) ts ≡ total → add_terms k (drop (i + 1) us) (add_term (get_or us i d).location (k *ℤ (get_or us i d).coefficient) ts) ≡ total
unfolding add_terms
more_added k us ts i d total room so =
    ap (λ n. add_terms k (drop n us) (add_term (get_or us i d).location (k *ℤ (get_or us i d).coefficient) ts)) (add-one i)
    ∙ (ap (λ vs. add_terms k vs ts) (sym (drop-cons us i d room)) ∙ so)

pub all_added : (k n : ℤ) (us ts : List FormTerm) (i : ℕ) (total : List FormTerm) → length us ≤ i → k ≡ n → add_terms k (drop i us) ts ≡ add_terms k us total → ts ≡ add_terms n us total
unfolding add_terms
all_added k n us ts i total past same so =
    ap (λ vs. add_terms k vs ts) (sym (drop_all i us past)) ∙ (so ∙ ap (λ z. add_terms z us total) same)
