-- The slot of a branch, from the rules: on each of its ways control goes to another block, whether the slot is annulled or not.
use Rattle.std.proofs.Common.{◌≡◌, ◌≢◌, ℕ, suc, ◌+◌, ◌<◌, ◌≤◌, Bool, true, false, length, refl, ap, ◌∙◌, subst, inl, inr, arith}
use Rattle.std.specs.Prelude.{◌⊎◌, ◌&&◌, not, nat_le, nat_lt, if◌then◌else◌}
use Rattle.std.proofs.lemmas.Bool.Decides.{nat_tests}
use Rattle.v8_formats.specs.declared.instr.Branch.{Branch}
use Rattle.v8_meaning.specs.Operands.{is_always}
use Rattle.v8_meaning.specs.declared.operation.Operation.{Operation}
use Rattle.v8_meaning.specs.declared.operation.Operation.TheVariants.{BranchOnCondition, Restore, Save, TrapOnCondition}
use Rattle.sbx_image.specs.Parts.{Parts}
use Rattle.sbx_flat.specs.Runs.{weight_of}
use Rattle.sbx_range.specs.Refining.{opposite}
use Rattle.sbx_form.specs.Forms.{Cells}
use Rattle.sbx_rules.specs.Refining.{refined}
use Rattle.sbx_rules.specs.Transfer.{transferred}
use Rattle.sbx_rules.specs.Fuel.{IsPaid}
use Rattle.sbx_rules.specs.Operations.{is_call, is_framed, is_framed_return, is_restore, is_return, is_save, is_transfer, is_trap}
use Rattle.sbx_image.specs.Order.{function_at, words_in}
use Rattle.sbx_rules.specs.Places.{IsPlace, ends_run, op_at}
use Rattle.sbx_rules.specs.Rules.{has_cells, is_entry, is_inner_edge, is_last, now, same_test}
use Rattle.sbx_rules.specs.Verdicts.{Checked}
use Rattle.sbx_rules.specs.Ways.{Past, To, Visit, Way, after_word, branch_way, cells_at, falls, fuel_at, state_at, weight_to}
use Rattle.sbx_sound.proofs.Order.{IsOrdered}
use Rattle.sbx_sound.proofs.Running.{At, IsVisit}
use Rattle.sbx_sound.proofs.Shared.{Shared}
use Rattle.sbx_sound.proofs.Arrivals.{after_no_call}
use Rattle.sbx_sound.proofs.Asked.{branches_well, has_shape, restores_in_slot}
use Rattle.sbx_sound.proofs.FromChecked.{edge_has_cells, edge_is_paid, goes_somewhere}
use Rattle.sbx_sound.proofs.Goes.{FallsNext, FallsTo, begin_place, falls_by, there}
use Rattle.sbx_sound.proofs.Onward.{HaveResults, branch_leads, no_more, past_no}
use Rattle.sbx_sound.proofs.OtherSteps.{annulled_slot}
use Rattle.sbx_sound.proofs.Returning.{PlainWordsDo, slot_is_no_save, slot_is_plain, slot_keeps_on}
use Rattle.sbx_sound.proofs.Safe.{Spot, Steps}
use Rattle.sbx_sound.proofs.Steps.{plain_edge}
use Rattle.sbx_sound.proofs.Straight.{later_block, same_bytes, same_window, word_is}
use Rattle.sbx_sound.proofs.Visits.{IsWay}

weighs_one : (op : Operation) → is_save op ≡ false → is_restore op ≡ false → is_trap op ≡ false → weight_of op ≡ 1
weighs_one (Save f) s r t = absurd (cc)
weighs_one (Restore f) s r t = absurd (cc)
weighs_one (TrapOnCondition x) s r t = absurd (cc)
weighs_one _ s r t = refl

inner_some : (way : Way) (t : ℕ) → is_inner_edge way ≡ true → way ≡ To t → t ≢ 0
inner_some way t inner e zero_is = let x : is_inner_edge (To 0) ≡ true = subst (λ n. is_inner_edge (To n) ≡ true) zero_is (subst (λ y. is_inner_edge y ≡ true) e inner) in cc

slot_inside : (framed : Bool) (b j : ℕ) → (framed && is_entry b (suc j)) ≡ false
slot_inside framed b j = grind (arith, nat_tests)

last_word : (n i : ℕ) → nat_le n (i + 1) ≡ true → nat_lt (i + 1) n ≡ false
last_word n i h = grind (arith, nat_tests)

undone : (b : Bool) → not b ≡ false → b ≡ true
undone true h = refl
undone false h = absurd (cc)

-- an edge to a block that isn't the first
record IsEdge (blocks : ℕ) (v : Visit) : Type 0 where
  t : ℕ
  way_is : v.way ≡ To t
  some : t ≢ 0
  within : t < blocks

module _ (parts : Parts) (checked : Checked parts) (ordered : IsOrdered parts) (results : HaveResults parts) where
  edge_of : (f b j : ℕ) (c : Branch) (v : Visit) → IsPlace parts f b (suc j) → op_at parts f b j ≡ BranchOnCondition c → IsVisit parts f b (suc j) v
      → IsWay (refined c.cond (state_at parts f b j)) (branch_way parts f b j c.displacement) (c.annul && is_always c.cond) v
      ⊎ IsWay (refined (opposite c.cond) (state_at parts f b j)) (falls parts f b (suc j)) c.annul v
      → IsEdge (length (function_at parts f).blocks) v
  unfolding falls
  edge_of f b j c v place is visit (inl way) =
      let before : IsPlace parts f b j = record { function = place.function; block = place.block; word = (let h = place.word in omega (arith, h)) } in
      let to = branch_leads parts checked ordered results f b j c before is in
      record {
        t = to.block;
        way_is = way.way_is ∙ to.way_is;
        some =
            inner_some (branch_way parts f b j c.displacement) to.block (branches_well parts checked f b j before c is) to.way_is;
        within = to.within;
      }
  edge_of f b j c v place is visit (inr way) =
      by_falls (falls_by (ends_run (op_at parts f b (suc j))) (words_in parts f b) (length (function_at parts f).blocks) b (suc j)
      (slot_is_plain parts checked f b j place (ap is_transfer is)).runs_on)
    where
      after_slot : (o : Operation) → op_at parts f b j ≡ o → is_transfer o ≡ true → is_call o ≡ false → is_last parts f b (suc j) ≡ true
      after_slot o e transfers no_call =
          undone (is_last parts f b (suc j))
          (both (is_transfer (op_at parts f b j)) (is_call (op_at parts f b j)) (not (is_last parts f b (suc j))) (ap is_transfer e ∙ transfers)
          (ap is_call e ∙ no_call) (has_shape parts checked f b (suc j) place).after_slot)
        where
          both : (x y z : Bool) → x ≡ true → y ≡ false → (x && not y && z) ≡ false → z ≡ false
          both true false z p q h = h
          both false y z p q h = absurd (cc)
          both true true z p q h = absurd (cc)

      by_falls : FallsNext (words_in parts f b) (suc j) (falls parts f b (suc j))
          ⊎ (FallsTo (length (function_at parts f).blocks) b (falls parts f b (suc j)) ⊎ (falls parts f b (suc j) ≡ Past)) →
          IsEdge (length (function_at parts f).blocks) v
      by_falls (inl n) = absurd (no_more (words_in parts f b) (suc j) (last_word (words_in parts f b) (suc j) (after_slot (BranchOnCondition c) is refl refl)) n.within)
      by_falls (inr (inl n)) = record { t = b + 1; way_is = way.way_is ∙ n.way_is; some = λ e. (let x : b + 1 ≡ 0 = e in omega arith); within = n.within }
      by_falls (inr (inr n)) = absurd (past_no v.way (way.way_is ∙ n) (goes_somewhere parts checked f b (suc j) place.function place.block place.word v visit))

  pub branch_slots : parts.stack_pages ≤ 16 → PlainWordsDo parts →
      (w : ℕ) (k : Shared) (f b j : ℕ) (c : Branch) (v : Visit) (start : Cells) (at : At parts w k f b (suc j) v start) →
      op_at parts f b j ≡ BranchOnCondition c
      → IsWay (refined c.cond (state_at parts f b j)) (branch_way parts f b j c.displacement) (c.annul && is_always c.cond) v
      ⊎ IsWay (refined (opposite c.cond) (state_at parts f b j)) (falls parts f b (suc j)) c.annul v
      → let p : Spot parts w = record { k = k; f = f; b = b; i = suc j; v = v; start = start; at = at } in
      Steps parts w p
  branch_slots pages does w k f b j c v start at is ways = by_annulled v.annulled refl
    where
      edge : IsEdge (length (function_at parts f).blocks) v
      edge = edge_of f b j c v at.place is at.is_visit ways

      cells : has_cells (now parts f b (suc j) v) (cells_at parts f edge.t) ≡ true
      cells = edge_has_cells parts checked f b (suc j) at.place.function at.place.block at.place.word v edge.t at.is_visit edge.way_is

      paid : IsPaid (state_at parts f b 0) (fuel_at parts f b) (weight_to parts f b (suc (suc j))) (now parts f b (suc j) v) (fuel_at parts f edge.t)
      paid = edge_is_paid parts checked f b (suc j) at.place.function at.place.block at.place.word v edge.t at.is_visit edge.way_is

      no_save : is_save (op_at parts f b (suc j)) ≡ false
      no_save = slot_is_no_save parts checked f b j at.place

      not_so : (x : Bool) → same_test false x ≡ true → x ≡ false
      not_so false h = refl
      not_so true h = absurd (cc)

      no_restore : is_restore (op_at parts f b (suc j)) ≡ false
      no_restore = not_so (is_restore (op_at parts f b (suc j)))
          (subst (λ o. same_test (is_framed_return o) (is_restore (op_at parts f b (suc j))) ≡ true) is (restores_in_slot parts checked f b (suc j) at.place))

      within : (is_framed (function_at parts f).kind && is_entry b (suc j)) ≡ false
      within = slot_inside (is_framed (function_at parts f).kind) b j

      annulled_known : (t : Bool) → t ≡ true → (if t then v.known else after_word parts f b (suc j) v.known) ≡ v.known
      annulled_known true h = refl
      annulled_known false h = absurd (cc)

      known_runs : (t : Bool) → t ≡ false → (if t then v.known else after_word parts f b (suc j) v.known) ≡ transferred (function_at parts f).frame (op_at parts f b (suc j)) v.known
      known_runs false h = after_no_call parts f b (suc j) v.known (ap is_call is)
      known_runs true h = absurd (cc)

      by_annulled : (t : Bool) → v.annulled ≡ t → Steps parts w (record { k = k; f = f; b = b; i = suc j; v = v; start = start; at = at })
      by_annulled true e =
          (let same = annulled_known v.annulled e in
          annulled_slot parts w k f b (suc j) edge.t v start at e edge.way_is edge.some (ap is_call is) (ap is_return is)
          (weighs_one (op_at parts f b (suc j)) no_save no_restore (slot_keeps_on parts checked f b j at.place (ap is_transfer is)).1)
          (same_bytes (function_at parts f) b (suc j) within) (same_window (function_at parts f) b (suc j) edge.t 0 within (later_block edge.t 0 edge.some))
          (subst (λ d. has_cells d (cells_at parts f edge.t) ≡ true) same cells)
          (subst (λ d. IsPaid (state_at parts f b 0) (fuel_at parts f b) (weight_to parts f b (suc (suc j))) d (fuel_at parts f edge.t)) same paid)
          (there parts checked ordered f edge.t 0 (begin_place parts checked ordered f edge.t at.place.function edge.within)))
      by_annulled false e =
          (let p : Spot parts w = record { k = k; f = f; b = b; i = suc j; v = v; start = start; at = at } in
          let same = known_runs v.annulled e in
          plain_edge parts w p edge.t (word_is parts checked ordered pages f b (suc j) at.place) e edge.way_is edge.some (ap is_call is) (ap is_return is)
          (same_bytes (function_at parts f) b (suc j) within) (same_window (function_at parts f) b (suc j) edge.t 0 within (later_block edge.t 0 edge.some))
          (subst (λ d. has_cells d (cells_at parts f edge.t) ≡ true) same cells)
          (subst (λ d. IsPaid (state_at parts f b 0) (fuel_at parts f b) (weight_to parts f b (suc (suc j))) d (fuel_at parts f edge.t)) same paid)
          (there parts checked ordered f edge.t 0 (begin_place parts checked ordered f edge.t at.place.function edge.within))
          (does w p e (slot_is_plain parts checked f b j at.place (ap is_transfer is)) no_save no_restore))
