-- Every place is one of four kinds: straight, the slot of a call, of a return, or of a branch.
use Rattle.std.proofs.Common.{◌≡◌, ℕ, zero, suc, true, false, refl, sym, ap, subst}
use Rattle.std.specs.Prelude.{◌⊎◌, ◌&&◌}
use Rattle.v8_formats.specs.declared.instr.Branch.{Branch}
use Rattle.v8_formats.specs.declared.instr.Three.{Three}
use Rattle.v8_meaning.specs.declared.operation.Operation.{Operation}
use Rattle.v8_meaning.specs.declared.operation.Operation.TheVariants.{BranchOnCondition, Call, JumpAndLink}
use Rattle.v8_meaning.specs.Operands.{is_always}
use Rattle.sbx_image.specs.Parts.{Parts}
use Rattle.sbx_rules.specs.Operations.{is_call, is_return}
use Rattle.sbx_rules.specs.Ways.{Visit, branch_way, falls, state_at}
use Rattle.sbx_rules.specs.Places.{op_at, op_before}
use Rattle.sbx_range.specs.Refining.{opposite}
use Rattle.sbx_sound.proofs.Running.{At, straight_visit}
use Rattle.sbx_form.specs.Forms.{Cells}
use Rattle.sbx_sound.proofs.Shared.{Shared}
use Rattle.sbx_rules.specs.Refining.{refined}
use Rattle.sbx_sound.proofs.Arrivals.{goes_straight}
use Rattle.sbx_sound.proofs.Safe.{Spot, Steps}
use Rattle.sbx_sound.proofs.Transfers.{return_visit}
use Rattle.sbx_sound.proofs.Visits.{IsWay, visit_is_return, visit_is_straight, visit_is_way}

module _ (parts : Parts) where
  abbrev pub spot : (w : ℕ) (k : Shared) (f b i : ℕ) (v : Visit) (start : Cells) → At parts w k f b i v start → Spot parts w
  spot w k f b i v start at = record { k = k; f = f; b = b; i = i; v = v; start = start; at = at }

  -- What the kinds of places owe.
  pub record Kinds : Type 0 where
    pub straight : (w : ℕ) (k : Shared) (f b i : ℕ) (start : Cells) (at : At parts w k f b i (straight_visit parts f b i) start) →
        goes_straight (op_before parts f b i) ≡ true → is_call (op_before parts f b i) ≡ false → is_return (op_before parts f b i) ≡ false →
        Steps parts w (spot w k f b i (straight_visit parts f b i) start at)
    pub called : (w : ℕ) (k : Shared) (f b j displacement : ℕ) (start : Cells) (at : At parts w k f b (suc j) (straight_visit parts f b (suc j)) start) →
        op_at parts f b j ≡ Call displacement → Steps parts w (spot w k f b (suc j) (straight_visit parts f b (suc j)) start at)
    pub returned : (w : ℕ) (k : Shared) (f b j : ℕ) (t : Three) (start : Cells) (at : At parts w k f b (suc j) (return_visit parts f b (suc j)) start) →
        op_at parts f b j ≡ JumpAndLink t → Steps parts w (spot w k f b (suc j) (return_visit parts f b (suc j)) start at)
    pub branched : (w : ℕ) (k : Shared) (f b j : ℕ) (c : Branch) (v : Visit) (start : Cells) (at : At parts w k f b (suc j) v start) → op_at parts f b j ≡ BranchOnCondition c
        → IsWay (refined c.cond (state_at parts f b j)) (branch_way parts f b j c.displacement) (c.annul && is_always c.cond) v
        ⊎ IsWay (refined (opposite c.cond) (state_at parts f b j)) (falls parts f b (suc j)) c.annul v
        → Steps parts w (spot w k f b (suc j) v start at)

  as_visit : (w : ℕ) (k : Shared) (f b i : ℕ) (v x : Visit) (start : Cells) → v ≡ x →
      ((at : At parts w k f b i x start) → Steps parts w (spot w k f b i x start at)) → (at : At parts w k f b i v start) →
      Steps parts w (spot w k f b i v start at)
  as_visit w k f b i v x start e h = subst (λ y. (at : At parts w k f b i y start) → Steps parts w (spot w k f b i y start at)) (sym e) h

  by_before : (kinds : Kinds) (w : ℕ) (k : Shared) (f b j : ℕ) (v : Visit) (start : Cells) (o : Operation) → op_at parts f b j ≡ o →
      (at : At parts w k f b (suc j) v start) → Steps parts w (spot w k f b (suc j) v start at)
  by_before kinds w k f b j v start (BranchOnCondition c) e at = kinds.branched w k f b j c v start at e (visit_is_way parts f b j c v e at.is_visit)
  by_before kinds w k f b j v start (JumpAndLink t) e at =
      as_visit w k f b (suc j) v (return_visit parts f b (suc j)) start (visit_is_return parts f b j t v e at.is_visit)
      (λ a. kinds.returned w k f b j t start a e) at
  by_before kinds w k f b j v start (Call d) e at =
      as_visit w k f b (suc j) v (straight_visit parts f b (suc j)) start (visit_is_straight parts f b (suc j) v (ap goes_straight e) at.is_visit)
      (λ a. kinds.called w k f b j d start a e) at
  by_before kinds w k f b j v start _ e at =
      as_visit w k f b (suc j) v (straight_visit parts f b (suc j)) start (visit_is_straight parts f b (suc j) v (ap goes_straight e) at.is_visit)
      (λ a. kinds.straight w k f b (suc j) start a (ap goes_straight e) (ap is_call e) (ap is_return e)) at

  by_place : (kinds : Kinds) (w : ℕ) (k : Shared) (f b i : ℕ) (v : Visit) (start : Cells) → (at : At parts w k f b i v start) → Steps parts w (spot w k f b i v start at)
  by_place kinds w k f b zero v start at =
      as_visit w k f b 0 v (straight_visit parts f b 0) start (visit_is_straight parts f b 0 v refl at.is_visit)
      (λ a. kinds.straight w k f b 0 start a refl refl refl) at
  by_place kinds w k f b (suc j) v start at = by_before kinds w k f b j v start (op_at parts f b j) refl at

  pub all_steps : Kinds → (w : ℕ) (p : Spot parts w) → Steps parts w p
  all_steps kinds w p = by_place kinds w p.k p.f p.b p.i p.v p.start p.at
