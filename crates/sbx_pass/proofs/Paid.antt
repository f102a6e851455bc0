-- An edge that isn't paid is one of the two ways that the pass keeps.
use Rattle.std.proofs.Common.{◌≡◌, ℕ, zero, suc, Bool, true, false, List, [], ◌∷◌, ◌++◌, map, Option, Some, None, refl, ap, subst, inl, inr}
use Rattle.std.specs.Prelude.{◌&&◌, ◌||◌, ◌↔◌, ◌⊎◌, IsTrue, slice_get}
use Rattle.sbx_image.specs.Parts.{Parts}
use Rattle.sbx_rules.specs.Known.{Known}
use Rattle.sbx_rules.specs.Rules.{HasUnpaidEdge, now}
use Rattle.sbx_rules.specs.Ways.{To, Visit, Way, fuel_at, state_at, visits_at, weight_to}
use Rattle.sbx_rules.specs.Fuel.{IsPaid}
use Rattle.sbx_known.specs.declared.courses.Course.{Course}
use Rattle.sbx_known.specs.declared.courses.Courses.{Courses}
use Rattle.sbx_known.specs.Courses.{arrivals_at, arrived, listed, visit_of, visits_of}
use Rattle.sbx_pass.specs.Paying.{IsPaidOn, IsPaidTo}

-- an item of a mapped list
pub record IsFrom (g : Visit → Visit) (xs : List Visit) (n : ℕ) (a : Visit) : Type 0 where
  pub from : Visit
  pub there : slice_get xs n ≡ Some from
  pub is : g from ≡ a

same_some : (x v : Visit) → Some x ≡ Some v → x ≡ v
same_some x v e = cc

pub from_map : (g : Visit → Visit) (xs : List Visit) (n : ℕ) (a : Visit) → slice_get (map g xs) n ≡ Some a → IsFrom g xs n a
from_map g [] n a e = absurd (cc)
from_map g (x ∷ xs) zero a e = record { from = x; there = refl; is = same_some (g x) a e }
from_map g (x ∷ xs) (suc n) a e = let h = from_map g xs n a e in record { from = h.from; there = h.there; is = h.is }

to_map : (g : Visit → Visit) (xs : List Visit) (n : ℕ) (v : Visit) → slice_get xs n ≡ Some v → slice_get (map g xs) n ≡ Some (g v)
to_map g [] n v e = absurd (cc)
to_map g (x ∷ xs) zero v e = ap (λ (y : Visit). Some (g y)) (same_some x v e)
to_map g (x ∷ xs) (suc n) v e = to_map g xs n v e

module _ (parts : Parts) (f b i : ℕ) where
  abbrev weighs : ℕ
  weighs = weight_to parts f b (suc i)

  abbrev Paid : Visit → Type 0
  Paid a = IsPaidTo parts f b weighs a.known a.way

  -- an item of the arrivals whose way isn't paid
  unpaid_way : (d : Known) (w : Way) → (IsPaidTo parts f b weighs d w → ⊥) → (t : ℕ) × (w ≡ To t) × (IsPaid (state_at parts f b 0) (fuel_at parts f b) weighs d (fuel_at parts f t) → ⊥)
  unpaid_way d (To t) no_pay = (t, refl, no_pay)
  unpaid_way d _ no_pay = absurd (no_pay tt)

  pub unpaid_is : (n : ℕ) (a : Visit) → slice_get (arrivals_at parts f b i) n ≡ Some a → (Paid a → ⊥) → HasUnpaidEdge parts f b i
  unpaid_is n a there no_pay =
      let h = from_map (arrived parts f b i) (visits_at parts f b i) n a there in
      let w = unpaid_way (arrived parts f b i h.from).known (arrived parts f b i h.from).way (λ pay. no_pay (subst Paid h.is pay)) in
      (h.from, w.0, record { place = n; visit = h.there; to = w.1 }, w.2)

  paid_way : (d : Known) (w : Way) (t : ℕ) → w ≡ To t → IsPaidTo parts f b weighs d w → IsPaid (state_at parts f b 0) (fuel_at parts f b) weighs d (fuel_at parts f t)
  paid_way d w t e pay = subst (IsPaidTo parts f b weighs d) e pay

  pub none_unpaid : ((n : ℕ) (a : Visit) → slice_get (arrivals_at parts f b i) n ≡ Some a → Paid a) → HasUnpaidEdge parts f b i → ⊥
  none_unpaid all edge =
      let v = edge.0 in
      let there = to_map (arrived parts f b i) (visits_at parts f b i) edge.2.place v edge.2.visit in
      edge.3 (paid_way (now parts f b i v) v.way edge.1 edge.2.to (all edge.2.place (arrived parts f b i v) there))

  all_paid : (o p : Option Course) (d e : Known) → IsPaidOn parts f b weighs o d → IsPaidOn parts f b weighs p e
      → (n : ℕ) (a : Visit) → slice_get (visits_of o d ++ visits_of p e) n ≡ Some a → Paid a
  all_paid None None d e first second n a is = absurd (cc)
  all_paid None (Some c) d e first second zero a is = subst Paid (same_some (visit_of c e) a is) second
  all_paid None (Some c) d e first second (suc n) a is = absurd (cc)
  all_paid (Some c) None d e first second zero a is = subst Paid (same_some (visit_of c d) a is) first
  all_paid (Some c) None d e first second (suc n) a is = absurd (cc)
  all_paid (Some c) (Some k) d e first second zero a is = subst Paid (same_some (visit_of c d) a is) first
  all_paid (Some c) (Some k) d e first second (suc zero) a is = subst Paid (same_some (visit_of k e) a is) second
  all_paid (Some c) (Some k) d e first second (suc (suc n)) a is = absurd (cc)

  first_unpaid : (o p : Option Course) (d e : Known) → arrivals_at parts f b i ≡ visits_of o d ++ visits_of p e → (IsPaidOn parts f b weighs o d → ⊥) → HasUnpaidEdge parts f b i
  first_unpaid None p d e is no_pay = absurd (no_pay tt)
  first_unpaid (Some c) p d e is no_pay = unpaid_is 0 (visit_of c d) (ap (λ (xs : List Visit). slice_get xs 0) is) no_pay

  second_unpaid : (o p : Option Course) (d e : Known) → arrivals_at parts f b i ≡ visits_of o d ++ visits_of p e → (IsPaidOn parts f b weighs p e → ⊥) → HasUnpaidEdge parts f b i
  second_unpaid o None d e is no_pay = absurd (no_pay tt)
  second_unpaid None (Some c) d e is no_pay = unpaid_is 0 (visit_of c e) (ap (λ (xs : List Visit). slice_get xs 0) is) no_pay
  second_unpaid (Some k) (Some c) d e is no_pay = unpaid_is 1 (visit_of c e) (ap (λ (xs : List Visit). slice_get xs 1) is) no_pay

  -- two tests of the two ways decide whether some edge isn't paid
  pub unpaid_told : (cs : Courses) (d e : Known) (s t : Bool) → arrivals_at parts f b i ≡ listed cs d e
      → (IsTrue s ↔ IsPaidOn parts f b weighs cs.first d) → (IsTrue t ↔ IsPaidOn parts f b weighs cs.second e)
      → ((s && t) ≡ false → HasUnpaidEdge parts f b i) × (HasUnpaidEdge parts f b i → (s && t) ≡ false)
  unpaid_told cs d e true true is first second = (
    λ h. absurd (cc),
    λ edge. absurd (none_unpaid (λ n a there. all_paid cs.first cs.second d e (first.0 refl) (second.0 refl) n a (subst (λ (xs : List Visit). slice_get xs n ≡ Some a) is there)) edge),
  )
  unpaid_told cs d e false t is first second = (λ h. first_unpaid cs.first cs.second d e is (λ pay. let never : false ≡ true = first.1 pay in absurd (cc)), λ edge. refl)
  unpaid_told cs d e true false is first second = (λ h. second_unpaid cs.first cs.second d e is (λ pay. let never : false ≡ true = second.1 pay in absurd (cc)), λ edge. refl)

  -- four conditions, each of which a test decides
  pub four : (s t u v : Bool) (A B C D : Type 0) → (IsTrue s ↔ A) → (IsTrue t ↔ B) → (IsTrue u ↔ C) → (IsTrue v ↔ D) → IsTrue (s || t || u || v) ↔ (A ⊎ (B ⊎ (C ⊎ D)))
  four true t u v A B C D a b c d = (λ h. inl (a.0 refl), λ h. refl)
  four false true u v A B C D a b c d = (λ h. inr (inl (b.0 refl)), λ h. refl)
  four false false true v A B C D a b c d = (λ h. inr (inr (inl (c.0 refl))), λ h. refl)
  four false false false true A B C D a b c d = (λ h. inr (inr (inr (d.0 refl))), λ h. refl)
  four false false false false A B C D a b c d = (
    λ h. absurd (cc),
    λ h. elim h [ inl x ↦ a.1 x | inr y ↦ elim y [ inl x ↦ b.1 x | inr z ↦ elim z [ inl x ↦ c.1 x | inr x ↦ d.1 x ] ] ],
  )
