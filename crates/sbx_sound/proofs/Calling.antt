-- The slot of a CALL, from the rules: the callee begins, and what is left to its caller is positive.
use Rattle.std.proofs.Common.{◌≡◌, ℕ, suc, ◌≤◌, ℤ, Bool, true, false, refl, ap, subst, inl, inr, arith}
use Rattle.std.specs.Prelude.{pos, ◌+ℤ◌, ◌-ℤ◌, ◌≤ℤ◌}
use Rattle.std.proofs.lemmas.Int.{ints}
use Rattle.v8_meaning.specs.declared.operation.Operation.TheVariants.{Call}
use Rattle.sbx_image.specs.Parts.{Parts}
use Rattle.sbx_form.specs.Forms.{Cells}
use Rattle.sbx_rules.specs.Forms.{form_value}
use Rattle.sbx_rules.specs.Fuel.{InCells}
use Rattle.sbx_rules.specs.Operations.{is_call, is_framed_return, is_restore, is_transfer}
use Rattle.sbx_rules.specs.Places.{IsPlace, callee_at, ends_run, op_at, op_before}
use Rattle.sbx_rules.specs.Rules.{same_test}
use Rattle.sbx_rules.specs.Verdicts.{Checked}
use Rattle.sbx_rules.specs.Ways.{falls, fuel_at, state_at, weight_to}
use Rattle.sbx_sound.proofs.Order.{IsOrdered}
use Rattle.sbx_sound.specs.Positive.{IsPositive, left_at}
use Rattle.sbx_sound.proofs.Running.{At, straight_visit}
use Rattle.sbx_sound.proofs.Shared.{Shared}
use Rattle.sbx_sound.proofs.Arrivals.{goes_straight}
use Rattle.sbx_sound.proofs.Asked.{calls_later, restores_in_slot}
use Rattle.sbx_sound.proofs.CallSteps.{call_slot}
use Rattle.sbx_sound.proofs.Goes.{goes_on}
use Rattle.sbx_sound.proofs.Ledger.{edge_pays, near_in_cells, numbers}
use Rattle.sbx_sound.proofs.NearWords.{HasNear}
use Rattle.sbx_sound.proofs.Onward.{HaveResults, begins, near_state}
use Rattle.sbx_sound.proofs.ReturnSteps.{GoesOn}
use Rattle.sbx_sound.proofs.Returning.{PlainWordsDo, slot_is_no_save, slot_is_plain}
use Rattle.sbx_sound.proofs.Safe.{Spot, Steps}
use Rattle.sbx_sound.proofs.Straight.{some_callee, word_is}
use Rattle.sbx_sound.proofs.Wells.{calls_well}

paid_left : (fuel next : ℤ) (t : ℕ) → (pos t +ℤ next) ≤ℤ fuel → pos 1 ≤ℤ (next -ℤ pos 0) → pos 1 ≤ℤ (fuel -ℤ pos t)
paid_left fuel next t paid some = omega (arith, ints)

some_left : (z : ℤ) → pos 1 ≤ℤ z → pos 0 ≤ℤ z
some_left z h = omega (arith, ints)

module _ (parts : Parts) (checked : Checked parts) (ordered : IsOrdered parts) (results : HaveResults parts) (positive : IsPositive parts) where
  -- some fuel is left behind a word after which control goes straight on, also where it ends its block
  pub left_after : (f b i : ℕ) (start : Cells) → IsPlace parts f b i → InCells (state_at parts f b 0) start → HasNear start (state_at parts f b i) → goes_straight (op_before parts f b i) ≡ true
      → goes_straight (op_at parts f b i) ≡ true → is_call (op_at parts f b i) ≡ false → ends_run (op_at parts f b i) ≡ false → pos 1 ≤ℤ left_at parts f b (suc i) start
  unfolding weight_to
  left_after f b i start place begun near before on no_call runs_on = by_way (goes_on parts checked ordered f b i place before on no_call runs_on)
    where
      by_way : GoesOn parts f b i (state_at parts f b (suc i)) (falls parts f b i) → pos 1 ≤ℤ left_at parts f b (suc i) start
      by_way (inl g) = positive f b (suc i) start g.there.place begun
      by_way (inr g) =
          (let n = near_state parts checked ordered results start f b i near in
          let words = n.held.words in
          let there = begins parts checked ordered results start (state_at parts f b (suc i)) f g.t n g.cells in
          let in_cells = near_in_cells (numbers words) (state_at parts f g.t 0) words n.held.icc n.held.y there in
          let pays = edge_pays (state_at parts f b 0) (state_at parts f b (suc i)) (fuel_at parts f b) (fuel_at parts f g.t)
          (weight_to parts f b (suc i)) start words n.held.icc n.held.y g.paid begun n.near in
          paid_left (form_value start (fuel_at parts f b)) (form_value (numbers words) (fuel_at parts f g.t)) (weight_to parts f b (suc i)) pays
          (positive f g.t 0 (numbers words) g.there.place in_cells))

  pub call_slots : parts.stack_pages ≤ 16 → PlainWordsDo parts →
      (w : ℕ) (k : Shared) (f b j displacement : ℕ) (start : Cells) (at : At parts w k f b (suc j) (straight_visit parts f b (suc j)) start) →
      op_at parts f b j ≡ Call displacement
      → let p : Spot parts w = record { k = k; f = f; b = b; i = suc j; v = straight_visit parts f b (suc j); start = start; at = at } in
      Steps parts w p
  call_slots pages does w k f b j displacement start at is =
      let p : Spot parts w = record { k = k; f = f; b = b; i = suc j; v = straight_visit parts f b (suc j); start = start; at = at } in
      let place = at.place in
      let before : IsPlace parts f b j = record { function = place.function; block = place.block; word = (let h = place.word in omega (arith, h)) } in
      let calls : is_call (op_at parts f b j) ≡ true = ap is_call is in
      let callee = some_callee parts f b j (callee_at parts f b j) (calls_later parts checked f b j before calls) in
      let plain = slot_is_plain parts checked f b j place (ap is_transfer is) in
      let no_restore =
      not_so (is_restore (op_at parts f b (suc j)))
      (subst (λ o. same_test (is_framed_return o) (is_restore (op_at parts f b (suc j))) ≡ true) is (restores_in_slot parts checked f b (suc j) place)) in
      let near : HasNear start (state_at parts f b (suc j)) = record { held = record { words = k.words; icc = k.icc; y = k.y }; near = at.fits.near } in
      let left = left_after f b (suc j) start place at.begun near (ap goes_straight is) plain.straight plain.no_call plain.runs_on in
      call_slot parts f b j callee.0 w k start at (word_is parts checked ordered pages f b (suc j) place) (calls_well parts checked ordered pages f b j callee.0 before calls callee.1)
      (some_left (left_at parts f b (suc (suc j)) start) left) (does w p refl plain (slot_is_no_save parts checked f b j place) no_restore)
    where
      not_so : (b : Bool) → same_test false b ≡ true → b ≡ false
      not_so false h = refl
      not_so true h = absurd (cc)
