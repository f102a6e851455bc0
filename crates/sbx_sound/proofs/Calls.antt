-- A call into a function, and the return to its caller.
use Rattle.sbx_sound.proofs.Entries.{called_kept}
use Rattle.std.proofs.Common.{◌≡◌, ℕ, suc, ◌+◌, ◌≤◌, Bool, true, false, List, ◌∷◌, Some, refl, sym, ap, ◌∙◌, subst, arith}
use Rattle.std.specs.Prelude.{pos, ◌+ℤ◌, ◌-ℤ◌, ◌≤ℤ◌, nat_le}
use Rattle.v8_meaning.specs.Operands.{following}
use Rattle.sbx_image.specs.Parts.{Parts}
use Rattle.sbx_image.specs.Function.{Function}
use Rattle.sbx_flat.specs.Registers.{Words}
use Rattle.sbx_flat.specs.Runs.{budget, weight_of}
use Rattle.sbx_rules.specs.Fuel.{IsWithinBudget}
use Rattle.sbx_rules.specs.Rules.{has_cells, is_defined}
use Rattle.sbx_rules.specs.Operations.{is_call, is_framed}
use Rattle.sbx_rules.specs.Fits.{Fits, HasAlignment, HasForm, HasInterval}
use Rattle.sbx_rules.specs.Known.{Known, range_at, form_at, range_of_entry, form_of_entry}
use Rattle.sbx_rules.specs.Forms.{form_value}
use Rattle.sbx_rules.specs.Ways.{Way, after_call, budget_of_callee, cells_at, falls, fuel_at, state_at, weight_to}
use Rattle.sbx_image.specs.Order.{address_of, function_at}
use Rattle.sbx_rules.specs.Places.{callee_at, callee_before, op_at}
use Rattle.sbx_sound.specs.Positive.{left_at}
use Rattle.sbx_sound.proofs.Running.{At, Follows, GoesTo, IsOpen, IsThere, entry_of, left_to_all, straight_visit}
use Rattle.sbx_form.specs.Forms.{Cells}
use Rattle.sbx_sound.proofs.Shared.{AreStored, Open, Shared}
use Rattle.sbx_rules.specs.Transfer.{called, transferred}
use Rattle.sbx_sound.proofs.Arrivals.{Left, entry_bytes, framed_bytes, is_straight_visit, left_by}
use Rattle.sbx_sound.proofs.Ledger.{fits_begin, near_in_cells, numbers, one_call}

module _ (parts : Parts) (f b j g : ℕ) where
  abbrev pub caller : Function
  caller = function_at parts f

  abbrev pub callee : Function
  callee = function_at parts g

  -- what is known after the slot, before the call has its effect
  abbrev pub in_slot : Known
  in_slot = transferred caller.frame (op_at parts f b (suc j)) (state_at parts f b (suc j))

  -- the call as its caller will find it
  abbrev pub opened : Shared → Cells → Words → Open
  opened k start words = record {
    function = f;
    block = b;
    place = j;
    start = start;
    words = words;
    known = is_defined (state_at parts f b (suc (suc j)));
    frame = caller.frame;
    base = k.base;
    back = address_of parts f b j;
  }

  -- What the rules say of a CALL at word j and its slot.
  pub record CallsWell : Type 0 where
    pub calls : is_call (op_at parts f b j) ≡ true
    pub callee_is : callee_at parts f b j ≡ Some g
    pub framed : is_framed caller.kind ≡ true
    pub params : has_cells in_slot (cells_at parts g 0) ≡ true
    pub room : caller.frame + callee.stack_room ≤ caller.stack_room
    pub within_budget : IsWithinBudget (state_at parts g 0 0) (fuel_at parts g 0) callee.budget
    -- the image's order: a function's first block is at its entry
    pub entry : callee.entry ≡ address_of parts g 0 0
    pub there : IsThere parts g 0 0

  known_then : CallsWell → state_at parts f b (suc (suc j)) ≡ called callee.results in_slot
  unfolding state_at
  known_then rules = ap (λ o. after_call parts o in_slot) rules.callee_is

  weight_then : CallsWell → weight_to parts f b (suc (suc j)) ≡ weight_to parts f b (suc j) + (weight_of (op_at parts f b (suc j)) + callee.budget)
  unfolding weight_to
  weight_then rules = ap (λ o. weight_to parts f b (suc j) + (weight_of (op_at parts f b (suc j)) + budget_of_callee parts o)) rules.callee_is

  pub kept_entry : (rules : CallsWell) (l : ℕ) → nat_le 16 l ≡ true → (state_at parts f b (suc (suc j))).entry l ≡ in_slot.entry l
  kept_entry rules l h = ap (λ (d : Known). d.entry l) (known_then rules) ∙ called_kept callee.results in_slot l h

  kept_range : (rules : CallsWell) (l : ℕ) → nat_le 16 l ≡ true → range_at (state_at parts f b (suc (suc j))) l ≡ range_at in_slot l
  kept_range rules l h = ap range_of_entry (kept_entry rules l h)

  kept_form : (rules : CallsWell) (l : ℕ) → nat_le 16 l ≡ true → form_at (state_at parts f b (suc (suc j))) l ≡ form_at in_slot l
  kept_form rules l h = ap form_of_entry (kept_entry rules l h)

  is_opened : (w : ℕ) (k : Shared) (start : Cells) (left : Left) → (rules : CallsWell) → Fits start in_slot left.words left.icc left.y → pos 0 ≤ℤ left_at parts f b (suc (suc j)) start
      → At parts w k f b (suc j) (straight_visit parts f b (suc j)) start → IsOpen parts g (opened k start left.words) k.calls
  is_opened w k start left rules fits stays a = record {
    calls = rules.callee_is;
    slot = a.place;
    framed = rules.framed;
    is_frame = refl;
    back = refl;
    base = ap (λ x. k.base + x) (sym (framed_bytes parts caller b j rules.framed)) ∙ a.base;
    eight = a.eight;
    room = a.room;
    begun = a.begun;
    are_words = fits.near.are_words;
    is_known = λ l h. refl;
    ranges = λ l h. subst (λ o. HasInterval o (left.words l)) (sym (kept_range rules l h)) (fits.near.intervals l);
    multiples = λ l h. subst (λ o. HasAlignment o (left.words l)) (sym (kept_range rules l h)) (fits.multiples l);
    forms = λ l h. subst (λ o. HasForm start o (left.words l)) (sym (kept_form rules l h)) (fits.near.forms l);
    left = stays;
  }

  comes_to : (c r : Bool) (calls : List Open) (way : Way) (address : ℕ) → c ≡ true → callee_before parts f b (suc j) ≡ Some g → GoesTo parts c r f b (suc j) way calls address → address ≡ callee.entry
  comes_to true r calls way address p q h = h ∙ ap (entry_of parts) q
  comes_to false r calls way address p q h = absurd (cc)

  -- CALL and its slot: the callee begins, and the caller waits
  pub enters : (w : ℕ) (k : Shared) (start : Cells) (left : Left) → (rules : CallsWell) → Fits start in_slot left.words left.icc left.y →
      AreStored parts.regions left.memory left.input → pos 0 ≤ℤ left_at parts f b (suc (suc j)) start
      → At parts w k f b (suc j) (straight_visit parts f b (suc j)) start
      → At parts (w + weight_of (op_at parts f b (suc j))) (record (left_by left k) { calls = opened k start left.words ∷ k.calls }) g 0 0 (straight_visit parts g 0 0) (numbers left.words)
  unfolding state_at weight_to
  enters w k start left rules fits stored stays a =
      let begin = fits_begin start in_slot (cells_at parts g 0) left.words left.icc left.y rules.params fits in
      let begun = near_in_cells (numbers left.words) (state_at parts g 0 0) left.words left.icc left.y begin.near in
      let pc = comes_to _ _ k.calls (falls parts f b (suc j)) k.npc rules.calls rules.callee_is a.npc in
      record {
        place = rules.there.place;
        is_visit = is_straight_visit parts g 0 0 refl;
        pc = pc ∙ rules.entry;
        npc = subst (Follows parts g 0 0 (falls parts g 0 0)) (ap following (sym (pc ∙ rules.entry))) rules.there.follows;
        annulled = a.annulled;
        exit = a.exit;
        begun = begun;
        fits = begin;
        link = λ h. absurd (cc);
        calls = (is_opened w k start left rules fits stays a, a.calls);
        base = let z = entry_bytes parts callee in omega (arith, z);
        eight = a.eight;
        room =
            let e = framed_bytes parts caller b j rules.framed in
            let h = a.base in let r = a.room in let s = rules.room in
            omega (arith, e, h, r, s);
        stored = stored;
        ledger = subst
            (λ t. (pos (w + weight_of (op_at parts f b (suc j))) +ℤ
            ((form_value (numbers left.words) (fuel_at parts g 0) -ℤ pos 0) +ℤ
            ((form_value start (fuel_at parts f b) -ℤ pos t) +ℤ left_to_all parts k.calls))) ≤ℤ pos (budget parts)) (sym (weight_then rules))
            (one_call w (weight_of (op_at parts f b (suc j))) (weight_to parts f b (suc j)) callee.budget (budget parts) (form_value start (fuel_at parts f b))
            (form_value (numbers left.words) (fuel_at parts g 0)) (left_to_all parts k.calls) a.ledger (rules.within_budget (numbers left.words) begun));
      }
