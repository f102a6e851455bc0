-- Which visits a word has, by what stands before it.
use Rattle.std.proofs.Common.{◌≡◌, ℕ, zero, suc, Bool, true, false, [], ◌∷◌, ◌++◌, Option, Some, None, refl, sym, ap, ◌∙◌, subst, inl, inr}
use Rattle.std.specs.Prelude.{◌⊎◌, ◌&&◌, if◌then◌else◌, slice_get}
use Rattle.v8_formats.specs.declared.instr.Branch.{Branch}
use Rattle.v8_formats.specs.declared.instr.Three.{Three}
use Rattle.v8_meaning.specs.declared.operation.Operation.{Operation}
use Rattle.v8_meaning.specs.declared.operation.Operation.TheVariants.{BranchOnCondition, JumpAndLink}
use Rattle.v8_meaning.specs.Operands.{is_always}
use Rattle.sbx_image.specs.Parts.{Parts}
use Rattle.sbx_rules.specs.Known.{Known}
use Rattle.sbx_rules.specs.Ways.{Way, Visit, branch_way, falls, state_at, visit_if, visits_after, visits_at}
use Rattle.sbx_rules.specs.Places.{op_at, op_before}
use Rattle.sbx_range.specs.Refining.{opposite}
use Rattle.sbx_sound.proofs.Running.{IsVisit, straight_visit}
use Rattle.sbx_rules.specs.Refining.{refined}
use Rattle.sbx_sound.proofs.Arrivals.{goes_straight}
use Rattle.sbx_sound.proofs.Transfers.{return_visit}

only_one : (x v : Visit) (n : ℕ) → slice_get (x ∷ []) n ≡ Some v → v ≡ x
only_one x v zero e = cc
only_one x v (suc n) e = absurd (cc)

-- a visit of a slot: one way, and its refined state, or the other
pub record IsWay (o : Option Known) (way : Way) (annulled : Bool) (v : Visit) : Type 0 where
  pub known : o ≡ Some v.known
  pub way_is : v.way ≡ way
  pub annuls : v.annulled ≡ annulled

same_visit : (x v : Visit) → Some x ≡ Some v → x ≡ v
same_visit x v e = cc

one_way : (o : Option Known) (way : Way) (a : Bool) (v : Visit) (n : ℕ) → slice_get (visit_if o way a) n ≡ Some v → IsWay o way a v
one_way None way a v n e = absurd (cc)
one_way (Some d) way a v zero e = subst (IsWay (Some d) way a) (same_visit (record { known = d; way = way; annulled = a }) v e) (record { known = refl; way_is = refl; annuls = refl })
one_way (Some d) way a v (suc n) e = absurd (cc)

two_ways : (o p : Option Known) (first second : Way) (a b t : Bool) (v : Visit) (n : ℕ) →
    slice_get (visit_if o first a ++ (if t then [] else visit_if p second b)) n ≡ Some v → IsWay o first a v ⊎ IsWay p second b v
two_ways None p first second a b true v n e = absurd (cc)
two_ways None p first second a b false v n e = inr (one_way p second b v n e)
two_ways (Some d) p first second a b t v zero e = inl (one_way (Some d) first a v 0 e)
two_ways (Some d) p first second a b true v (suc n) e = absurd (cc)
two_ways (Some d) p first second a b false v (suc n) e = inr (one_way p second b v n e)

module _ (parts : Parts) where
  after_straight : (f b i : ℕ) (op : Operation) (here there : Known) (v : Visit) (n : ℕ) → goes_straight op ≡ true →
      slice_get (visits_after parts f b i op here there) n ≡ Some v → v ≡ record { known = there; way = falls parts f b (suc i); annulled = false }
  after_straight f b i (BranchOnCondition c) here there v n h e = absurd (cc)
  after_straight f b i (JumpAndLink j) here there v n h e = absurd (cc)
  after_straight f b i _ here there v n h e = only_one _ v n e

  pub visit_is_straight : (f b i : ℕ) (v : Visit) → goes_straight (op_before parts f b i) ≡ true → IsVisit parts f b i v → v ≡ straight_visit parts f b i
  unfolding visits_at
  visit_is_straight f b zero v h is = only_one (straight_visit parts f b 0) v is.0 is.1
  visit_is_straight f b (suc i) v h is = after_straight f b i (op_at parts f b i) (state_at parts f b i) (state_at parts f b (suc i)) v is.0 h is.1

  pub visit_is_return : (f b i : ℕ) (t : Three) (v : Visit) → op_at parts f b i ≡ JumpAndLink t → IsVisit parts f b (suc i) v → v ≡ return_visit parts f b (suc i)
  unfolding visits_at
  visit_is_return f b i t v op is =
      only_one (return_visit parts f b (suc i)) v is.0
      (sym (ap (λ o. slice_get (visits_after parts f b i o (state_at parts f b i) (state_at parts f b (suc i))) is.0) op) ∙ is.1)

  pub visit_is_way : (f b i : ℕ) (c : Branch) (v : Visit) → op_at parts f b i ≡ BranchOnCondition c → IsVisit parts f b (suc i) v
      → IsWay (refined c.cond (state_at parts f b i)) (branch_way parts f b i c.displacement) (c.annul && is_always c.cond) v
      ⊎ IsWay (refined (opposite c.cond) (state_at parts f b i)) (falls parts f b (suc i)) c.annul v
  unfolding visits_at
  visit_is_way f b i c v op is =
      two_ways (refined c.cond (state_at parts f b i)) (refined (opposite c.cond) (state_at parts f b i)) (branch_way parts f b i c.displacement)
      (falls parts f b (suc i)) (c.annul && is_always c.cond) c.annul (is_always c.cond) v is.0
      (sym (ap (λ o. slice_get (visits_after parts f b i o (state_at parts f b i) (state_at parts f b (suc i))) is.0) op) ∙ is.1)

  -- the slot of a return has its one way
  pub is_return_visit : (f b i : ℕ) (t : Three) → op_at parts f b i ≡ JumpAndLink t → IsVisit parts f b (suc i) (return_visit parts f b (suc i))
  unfolding visits_at
  is_return_visit f b i t op = (0, ap (λ o. slice_get (visits_after parts f b i o (state_at parts f b i) (state_at parts f b (suc i))) 0) op)
