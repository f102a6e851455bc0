-- What a checked image gives where a run starts, where a function begins, and at a call.
use Rattle.std.proofs.Common.{◌≡◌, ℕ, suc, ◌+◌, ◌-◌, ◌%◌, ◌^◌, ◌<◌, ◌≤◌, Bool, true, false, List, [], ◌∷◌, length, Option, Some, None, refl, sym, ap, ◌∙◌, subst, arith}
use Rattle.std.specs.Prelude.{◌==◌, ◌&&◌, slice_get, if◌then◌else◌}
use Rattle.std.specs.List.{AllByRecursion}
use Rattle.std.proofs.lemmas.Bool.Decides.{nat_tests}
use Rattle.v8_formats.specs.declared.instr.Operand.{Operand}
use Rattle.v8_formats.specs.declared.instr.Operand.TheVariants.{Register, Immediate}
use Rattle.v8_meaning.specs.declared.operation.Operation.{Operation}
use Rattle.v8_meaning.specs.declared.operation.Operation.TheVariants.{Call, Save}
use Rattle.v8_meaning.specs.Operands.{following}
use Rattle.sbx_image.specs.Function.{Function}
use Rattle.sbx_image.specs.Parts.{Parts}
use Rattle.sbx_image.specs.Spelling.{IsTypedRegion}
use Rattle.sbx_image.specs.Range.{Range}
use Rattle.sbx_flat.specs.Runs.{budget_of}
use Rattle.sbx_rules.specs.Transfer.{saved, transferred}
use Rattle.sbx_rules.specs.Fuel.{IsWithinBudget}
use Rattle.sbx_rules.specs.Operations.{is_call, is_framed, is_transfer}
use Rattle.sbx_image.specs.Order.{address_of, function_at, or_function}
use Rattle.sbx_rules.specs.Places.{IsPlace, callee_at, callee_of, ends_run, find_entry, op_at}
use Rattle.sbx_rules.specs.Rules.{enters_well, has_cells, is_frame_size, is_minus, is_save_of, params_of, room_of_callee, suits}
use Rattle.sbx_rules.specs.Verdicts.{Checked}
use Rattle.sbx_rules.specs.Ways.{falls, fuel_at, out_cells, state_at}
use Rattle.sbx_image.specs.Kind.{Kind}
use Rattle.sbx_image.specs.Kind.TheVariants.{Framed, Leaf}
use Rattle.sbx_sound.proofs.Order.{IsOrdered}
use Rattle.sbx_sound.proofs.Running.{Follows, straight_visit}
use Rattle.sbx_sound.proofs.Arrivals.{goes_straight, is_straight_visit}
use Rattle.sbx_sound.proofs.Asked.{enters, has_params, no_params, room_for_callee, room_for_frame, room_of_the_stack, slot_follows, suits_kind, within_budget}
use Rattle.sbx_sound.proofs.Calls.{CallsWell, in_slot}
use Rattle.sbx_sound.proofs.Goes.{begin_place, goes_on}
use Rattle.sbx_sound.proofs.Ordered.{follows}
use Rattle.sbx_sound.proofs.OtherSteps.{SavesWell}
use Rattle.sbx_sound.proofs.ReturnSteps.{GoesOn}
use Rattle.sbx_sound.proofs.Start.{StartsWell}
use Rattle.sbx_sound.proofs.Tests.{and_left, and_right, equal_numbers}

same_budget : (o : Option Function) → budget_of o ≡ (or_function o).budget
same_budget None = refl
same_budget (Some f) = refl

no_ranges : (rs : List Range) → length rs ≡ 0 → rs ≡ []
no_ranges [] e = refl
no_ranges (r ∷ rs) e = absurd (let h : length (r ∷ rs) ≡ suc (length rs) = refl in omega (arith, e, h))

-- ---- SAVE

minus_is : (frame : ℕ) (o : Operand) → is_minus frame o ≡ true → o ≡ Immediate (2 ^ 32 - frame)
minus_is frame (Immediate w) e = ap Immediate (equal_numbers w (2 ^ 32 - frame) e)
minus_is frame (Register r) e = absurd (cc)

same_three : (rd rs1 : ℕ) (o p : Operand) → rd ≡ 14 → rs1 ≡ 14 → o ≡ p → Save (record { rd = rd; rs1 = rs1; operand2 = o }) ≡ Save (record { rd = 14; rs1 = 14; operand2 = p })
same_three rd rs1 o p a b c =
    ap (λ (x : ℕ). Save (record { rd = x; rs1 = rs1; operand2 = o })) a ∙ ap (λ (x : ℕ). Save (record { rd = 14; rs1 = x; operand2 = o })) b
    ∙ ap (λ (x : Operand). Save (record { rd = 14; rs1 = 14; operand2 = x })) c

save_is : (frame : ℕ) (op : Operation) → is_save_of frame op ≡ true → op ≡ Save (record { rd = 14; rs1 = 14; operand2 = Immediate (2 ^ 32 - frame) })
save_is frame (Save f) e =
    let both = and_left (f.rd == 14 && f.rs1 == 14) (is_minus frame f.operand2) e in
    same_three f.rd f.rs1 f.operand2 (Immediate (2 ^ 32 - frame)) (equal_numbers f.rd 14 (and_left (f.rd == 14) (f.rs1 == 14) both))
    (equal_numbers f.rs1 14 (and_right (f.rd == 14) (f.rs1 == 14) both))
    (minus_is frame f.operand2 (and_right (f.rd == 14 && f.rs1 == 14) (is_minus frame f.operand2) e))
save_is frame _ e = absurd (cc)

frame_big : (n : ℕ) → is_frame_size n ≡ true → 64 ≤ n
frame_big n e = grind (arith, nat_tests)

frame_eight : (n : ℕ) → is_frame_size n ≡ true → n % 8 ≡ 0
frame_eight n e = grind (arith, nat_tests)

pub enters_framed : (function : Function) (op : Operation) → is_framed function.kind ≡ true → enters_well function op ≡ true → (is_save_of function.frame op && is_frame_size function.frame) ≡ true
enters_framed function op framed h = by_kind (is_framed function.kind) framed h
  where
    by_kind : (t : Bool) → t ≡ true → (if t then is_save_of function.frame op && is_frame_size function.frame else function.frame == 0) ≡ true →
        (is_save_of function.frame op && is_frame_size function.frame) ≡ true
    by_kind true e h = h
    by_kind false e h = absurd (cc)

-- ---- calls

-- a function that is found is one of the functions
found_within : (n address : ℕ) (fs : List Function) (m : ℕ) → find_entry n address fs ≡ Some m → m < n + length fs
found_within n address [] m e = absurd (cc)
found_within n address (f ∷ fs) m e = by_test (f.entry == address) (found_within (suc n) address fs m) e
  where
    same : (a : ℕ) → Some a ≡ Some m → a ≡ m
    same a h = cc

    by_test : (t : Bool) → (find_entry (suc n) address fs ≡ Some m → m < suc n + length fs) → (if t then Some n else find_entry (suc n) address fs) ≡ Some m → m < n + length (f ∷ fs)
    by_test true rest h = let s = same n h in let l : length (f ∷ fs) ≡ suc (length fs) = refl in omega (arith, s, l)
    by_test false rest h = let r = rest h in let l : length (f ∷ fs) ≡ suc (length fs) = refl in omega (arith, r, l)

callee_within : (parts : Parts) (pc : ℕ) (op : Operation) (g : ℕ) → callee_of parts pc op ≡ Some g → g < length parts.functions
callee_within parts pc (Call d) g e = let h = found_within 0 _ parts.functions g e in omega (arith, h)
callee_within parts pc _ g e = absurd (cc)

pub callee_place : (parts : Parts) (f b i g : ℕ) → callee_at parts f b i ≡ Some g → g < length parts.functions
unfolding callee_at
callee_place parts f b i g e = callee_within parts (address_of parts f b i) (op_at parts f b i) g e

pub framed_of : (kind : Kind) (op : Operation) → is_call op ≡ true → suits kind op ≡ true → is_framed kind ≡ true
framed_of Framed op c h = refl
framed_of Leaf (Call d) c h = absurd (cc)
framed_of Leaf _ c h = absurd (cc)

pub call_transfers : (op : Operation) → is_call op ≡ true → is_transfer op ≡ true
call_transfers (Call d) h = refl
call_transfers _ h = absurd (cc)

call_straight : (op : Operation) → is_call op ≡ true → goes_straight op ≡ true
call_straight (Call d) h = refl
call_straight _ h = absurd (cc)

module _ (parts : Parts) (checked : Checked parts) (ordered : IsOrdered parts) (pages : parts.stack_pages ≤ 16) where
  -- the entry function begins
  pub starts_well : AllByRecursion IsTypedRegion parts.regions → 0 < length parts.functions → StartsWell parts
  starts_well bytes some =
      let place = begin_place parts checked ordered 0 0 some (ordered.entries 0 some).0 in
      record {
        place = place;
        entry = ordered.first;
        no_params = ap (out_cells 8) (no_ranges (function_at parts 0).params (no_params parts checked 0 0 0 place refl refl));
        follows = subst (λ a. Follows parts 0 0 0 (falls parts 0 0 0) a) (ap following ordered.first) (follows parts ordered 0 0 0 place);
        room = room_of_the_stack parts checked 0 0 0 place refl refl;
        pages = pages;
        within_budget = subst (IsWithinBudget (state_at parts 0 0 0) (fuel_at parts 0 0)) (sym (same_budget (slice_get parts.functions 0))) (within_budget parts checked 0 0 0 place refl);
        bytes = bytes;
      }

  -- a framed function begins with its SAVE
  pub saves_well : (f : ℕ) → f < length parts.functions → is_framed (function_at parts f).kind ≡ true → SavesWell parts f
  unfolding state_at transferred
  saves_well f in_f framed =
      let place = begin_place parts checked ordered f 0 in_f (ordered.entries f in_f).0 in
      let function = function_at parts f in
      let shape = enters_framed function (op_at parts f 0 0) framed (enters parts checked f 0 0 place refl) in
      let size = and_right (is_save_of function.frame (op_at parts f 0 0)) (is_frame_size function.frame) shape in
      let op = save_is function.frame (op_at parts f 0 0) (and_left (is_save_of function.frame (op_at parts f 0 0)) (is_frame_size function.frame) shape) in
      let saves : transferred function.frame (op_at parts f 0 0) (state_at parts f 0 0) ≡ saved (state_at parts f 0 0) = ap (λ o. transferred function.frame o (state_at parts f 0 0)) op in
      record {
        framed = framed;
        op = op;
        big = frame_big function.frame size;
        eight = frame_eight function.frame size;
        room = room_for_frame parts checked f 0 0 place refl;
        pages = pages;
        follows = subst (λ d. GoesOn parts f 0 0 d (falls parts f 0 0)) saves (goes_on parts checked ordered f 0 0 place refl (ap goes_straight op) (ap is_call op) (ap ends_run op));
      }

  -- a CALL and its slot
  pub calls_well : (f b j g : ℕ) → IsPlace parts f b j → is_call (op_at parts f b j) ≡ true → callee_at parts f b j ≡ Some g → CallsWell parts f b j g
  unfolding state_at
  calls_well f b j g place calls callee =
      let within = slot_follows parts checked f b j place (call_transfers (op_at parts f b j) calls) in
      let slot : IsPlace parts f b (suc j) = record { function = place.function; block = place.block; word = within } in
      let in_g = callee_place parts f b j g callee in
      let entry = begin_place parts checked ordered g 0 in_g (ordered.entries g in_g).0 in
      let visit = is_straight_visit parts f b (suc j) (call_straight (op_at parts f b j) calls) in
      record {
        calls = calls;
        callee_is = callee;
        framed = framed_of (function_at parts f).kind (op_at parts f b j) calls (suits_kind parts checked f b j place);
        params = subst (λ o. has_cells (in_slot parts f b j g) (params_of parts f b (suc j) o) ≡ true) callee (has_params parts checked f b (suc j) slot (straight_visit parts f b (suc j)) visit);
        room = subst (λ o. (function_at parts f).frame + room_of_callee parts f b j o ≤ (function_at parts f).stack_room) callee (room_for_callee parts checked f b j place calls);
        within_budget = within_budget parts checked g 0 0 entry refl;
        entry = (ordered.entries g in_g).1;
        there = record { place = entry; follows = follows parts ordered g 0 0 entry };
      }
