-- The steps of words that come straight, from the rules: results, CALL, SAVE and the exit.
use Rattle.std.proofs.Common.{◌≡◌, ◌≢◌, ℕ, suc, ◌+◌, ◌<◌, ◌≤◌, Bool, true, false, length, Option, Some, None, refl, sym, ap, ◌∙◌, subst, inl, inr, arith}
use Rattle.std.specs.Prelude.{◌==◌, ◌&&◌, not, nat_lt, slice_get, if◌then◌else◌}
use Rattle.std.proofs.lemmas.Bool.Decides.{nat_tests}
use Rattle.v8_formats.specs.declared.instr.Branch.{Branch}
use Rattle.v8_formats.specs.declared.instr.Trap.{Trap}
use Rattle.v8_meaning.specs.declared.operation.Operation.{Operation}
use Rattle.v8_meaning.specs.declared.operation.Operation.TheVariants.{BranchOnCondition, Call, Save, TrapOnCondition}
use Rattle.sbx_image.specs.Function.{Function}
use Rattle.sbx_image.specs.Parts.{Parts}
use Rattle.sbx_image.specs.Services.{Services}
use Rattle.sbx_flat.specs.Effects.{declares, service_of}
use Rattle.sbx_range.specs.Refining.{opposite}
use Rattle.sbx_range.proofs.Kept.{one_edge_is_left}
use Rattle.sbx_rules.specs.Operations.{is_call, is_framed, is_return, is_save, is_transfer, reads_of, service_reads}
use Rattle.sbx_image.specs.Order.{function_at, words_in}
use Rattle.sbx_rules.specs.Places.{IsPlace, callee_at, ends_run, is_exit, op_at, op_before, service_asked}
use Rattle.sbx_rules.specs.Fuel.{IsPaid}
use Rattle.sbx_rules.specs.Rules.{has_cells, is_declared, is_entry, is_frame_size, is_later, is_save_of, reads_undefined, touches_reserved}
use Rattle.sbx_rules.specs.Verdicts.{Checked}
use Rattle.sbx_rules.specs.Ways.{Next, Past, To, cells_at, falls, falls_to, fuel_at, state_at, weight_to}
use Rattle.sbx_form.specs.Forms.{Cells}
use Rattle.sbx_sound.proofs.Order.{IsOrdered}
use Rattle.sbx_sound.proofs.Running.{At, IsVisit, bytes_of, straight_visit, window_of}
use Rattle.sbx_sound.proofs.Shared.{Lent, Own, Shared}
use Rattle.sbx_sound.proofs.Arrivals.{after_no_call, goes_straight, is_straight_visit}
use Rattle.sbx_sound.proofs.Asked.{admitted, asks_declared, calls_later, enters, keeps_reserved, reads_known, slot_follows, suits_kind}
use Rattle.sbx_sound.proofs.CallSteps.{call_word}
use Rattle.sbx_sound.proofs.FromChecked.{exit_is_paid}
use Rattle.sbx_sound.proofs.Goes.{goes_on}
use Rattle.sbx_sound.proofs.Ordered.{code_word, follows, lies_low}
use Rattle.sbx_sound.proofs.OtherSteps.{branch_word, exit_word, save_word}
use Rattle.sbx_sound.proofs.Read.{codes_known, read_known}
use Rattle.sbx_sound.proofs.Refined.{looks_at_codes, refines}
use Rattle.sbx_sound.proofs.ReturnSteps.{GoesOn}
use Rattle.sbx_sound.proofs.Safe.{Spot, Steps}
use Rattle.sbx_sound.proofs.Steps.{Does, IsWord, known_then, plain_edge, plain_next}
use Rattle.sbx_sound.proofs.Wells.{call_transfers, enters_framed, framed_of, saves_well}
use Rattle.sbx_sound.proofs.Tests.{and_left}

-- ---- a framed function's window, but before its SAVE

save_of_saves : (frame : ℕ) (op : Operation) → is_save_of frame op ≡ true → is_save op ≡ true
save_of_saves frame (Save f) h = refl
save_of_saves frame _ h = absurd (cc)

no_both : (a b : Bool) → (a ≡ true → b ≡ true → ⊥) → (a && b) ≡ false
no_both true true h = absurd (h refl refl)
no_both true false h = refl
no_both false b h = refl

pub same_bytes : (function : Function) (b i : ℕ) → (is_framed function.kind && is_entry b i) ≡ false → bytes_of function b i ≡ bytes_of function b (suc i)
same_bytes function b i h = by_kind (is_framed function.kind) ((b == 0) && (i == 0)) (second b i) h
  where
    second : (b i : ℕ) → ((b == 0) && (suc i == 0)) ≡ false
    second b i = grind (arith, nat_tests)

    by_kind : (t e : Bool) → ((b == 0) && (suc i == 0)) ≡ false → (t && e) ≡ false → (if t && not e then function.frame else 0) ≡ (if t && not ((b == 0) && (suc i == 0)) then function.frame else 0)
    by_kind false e s h = refl
    by_kind true true s h = absurd (cc)
    by_kind true false s h = sym (ap (λ (x : Bool). if true && not x then function.frame else 0) s)

pub same_window : (function : Function) (b i c j : ℕ) → (is_framed function.kind && is_entry b i) ≡ false → is_entry c j ≡ false → window_of function b i ≡ window_of function c j
same_window function b i c j h g = by_kind (is_framed function.kind) ((b == 0) && (i == 0)) g h
  where
    by_kind : (t e : Bool) → ((c == 0) && (j == 0)) ≡ false → (t && e) ≡ false →
        (if t && not e then Own function.frame else Lent) ≡ (if t && not ((c == 0) && (j == 0)) then Own function.frame else Lent)
    by_kind false e s h = refl
    by_kind true true s h = absurd (cc)
    by_kind true false s h = sym (ap (λ (x : Bool). if true && not x then Own function.frame else Lent) s)

pub lent_leaf : (function : Function) (b i : ℕ) → (is_framed function.kind && is_entry b i) ≡ false → window_of function b i ≡ Lent → is_framed function.kind ≡ false
lent_leaf function b i h = by_kind (is_framed function.kind) ((b == 0) && (i == 0)) h
  where
    by_kind : (t e : Bool) → (t && e) ≡ false → (if t && not e then Own function.frame else Lent) ≡ Lent → t ≡ false
    by_kind false e h l = refl
    by_kind true true h l = absurd (cc)
    by_kind true false h l = absurd (cc)

pub own_inside : (function : Function) (b i : ℕ) → (is_framed function.kind && is_entry b i) ≡ false → is_framed function.kind ≡ true → window_of function b i ≡ Own function.frame
own_inside function b i h = by_kind (is_framed function.kind) ((b == 0) && (i == 0)) h
  where
    by_kind : (t e : Bool) → (t && e) ≡ false → t ≡ true → (if t && not e then Own function.frame else Lent) ≡ Own function.frame
    by_kind false e h l = absurd (cc)
    by_kind true true h l = absurd (cc)
    by_kind true false h l = refl

later_word : (b i : ℕ) → is_entry b (suc i) ≡ false
later_word b i = grind (arith, nat_tests)

pub later_block : (t i : ℕ) → t ≢ 0 → is_entry t i ≡ false
later_block t i some = grind (arith, nat_tests)

call_is_no_save : (op : Operation) → is_call op ≡ true → is_save op ≡ false
call_is_no_save (Call d) h = refl
call_is_no_save _ h = absurd (cc)

call_runs_on : (op : Operation) → is_call op ≡ true → ends_run op ≡ false
call_runs_on (Call d) h = refl
call_runs_on _ h = absurd (cc)

pub some_callee : (parts : Parts) (f b i : ℕ) (o : Option ℕ) → is_later parts f b i o ≡ true → (g : ℕ) × (o ≡ Some g)
some_callee parts f b i None h = absurd (cc)
some_callee parts f b i (Some g) h = (g, refl)

inner_word : (words blocks b i : ℕ) → suc i < words → falls_to false words blocks b i ≡ Next
inner_word words blocks b i less = let e : nat_lt (i + 1) words ≡ true = grind (arith, nat_tests) in ap (λ (t : Bool). if t then Next else (if nat_lt (b + 1) blocks then To (b + 1) else Past)) e

module _ (parts : Parts) (checked : Checked parts) (ordered : IsOrdered parts) (pages : parts.stack_pages ≤ 16) (f b i : ℕ) (place : IsPlace parts f b i) where
  pub word_is : IsWord parts f b i
  word_is = record { code = code_word parts ordered f b i place; admitted = admitted parts checked f b i place }

  -- what isn't SAVE isn't a framed function's first word
  pub inside : is_save (op_at parts f b i) ≡ false → (is_framed (function_at parts f).kind && is_entry b i) ≡ false
  inside no_save = no_both (is_framed (function_at parts f).kind) (is_entry b i) (λ framed entry.
      (let function = function_at parts f in
      let op = op_at parts f b i in
      let shape = enters_framed function op framed (enters parts checked f b i place entry) in
      let saves = save_of_saves function.frame op (and_left (is_save_of function.frame op) (is_frame_size function.frame) shape) in
      cc))

  -- a word that goes straight on, by what it does
  pub straight_steps : (w : ℕ) (k : Shared) (start : Cells) (at : At parts w k f b i (straight_visit parts f b i) start)
      → goes_straight (op_before parts f b i) ≡ true → is_call (op_before parts f b i) ≡ false → is_return (op_before parts f b i) ≡ false
      → goes_straight (op_at parts f b i) ≡ true → is_call (op_at parts f b i) ≡ false → ends_run (op_at parts f b i) ≡ false → is_save (op_at parts f b i) ≡ false
      → let p : Spot parts w = record { k = k; f = f; b = b; i = i; v = straight_visit parts f b i; start = start; at = at } in
      Does parts w p → Steps parts w p
  unfolding state_at
  straight_steps w k start at before no_link no_return straight no_call runs_on no_save does = by_way (goes_on parts checked ordered f b i place before straight no_call runs_on)
    where
      p : Spot parts w
      p = record { k = k; f = f; b = b; i = i; v = straight_visit parts f b i; start = start; at = at }

      then_known : state_at parts f b (suc i) ≡ known_then parts w p
      then_known = after_no_call parts f b i (state_at parts f b i) no_link

      within : (is_framed (function_at parts f).kind && is_entry b i) ≡ false
      within = inside no_save

      by_way : GoesOn parts f b i (state_at parts f b (suc i)) (falls parts f b i) → Steps parts w p
      by_way (inl g) =
          plain_next parts w p word_is refl g.way_is refl no_link no_return straight no_call (same_bytes (function_at parts f) b i within)
          (same_window (function_at parts f) b i b (suc i) within (later_word b i)) g.there does
      by_way (inr g) =
          plain_edge parts w p g.t word_is refl g.way_is g.some no_link no_return (same_bytes (function_at parts f) b i within)
          (same_window (function_at parts f) b i g.t 0 within (later_block g.t 0 g.some))
          (subst (λ d. has_cells d (cells_at parts f g.t) ≡ true) then_known g.cells)
          (subst (λ d. IsPaid (state_at parts f b 0) (fuel_at parts f b) (weight_to parts f b (suc i)) d (fuel_at parts f g.t)) then_known g.paid) g.there does

  -- CALL
  pub call_steps : (w : ℕ) (k : Shared) (start : Cells) (at : At parts w k f b i (straight_visit parts f b i) start) (displacement : ℕ)
      → is_call (op_before parts f b i) ≡ false → is_return (op_before parts f b i) ≡ false → op_at parts f b i ≡ Call displacement
      → let p : Spot parts w = record { k = k; f = f; b = b; i = i; v = straight_visit parts f b i; start = start; at = at } in
      Steps parts w p
  unfolding falls
  call_steps w k start at displacement no_link no_return is =
      let calls : is_call (op_at parts f b i) ≡ true = ap is_call is in
      let callee = some_callee parts f b i (callee_at parts f b i) (calls_later parts checked f b i place calls) in
      let within = inside (call_is_no_save (op_at parts f b i) calls) in
      let framed = framed_of (function_at parts f).kind (op_at parts f b i) calls (suits_kind parts checked f b i place) in
      call_word parts w k f b i displacement callee.0 start at word_is is callee.1
      (record {
        no_call = no_link;
        no_return = no_return;
        next = ap (λ (t : Bool). falls_to t (words_in parts f b) (length (function_at parts f).blocks) b i) (call_runs_on (op_at parts f b i) calls)
            ∙ inner_word (words_in parts f b) (length (function_at parts f).blocks) b i (slot_follows parts checked f b i place (call_transfers (op_at parts f b i) calls));
        same = same_bytes (function_at parts f) b i within;
        small = lies_low parts ordered f b i place;
      }) (own_inside (function_at parts f) b i within framed)

  -- a branch: on the way that the codes allow
  pub branch_steps : (w : ℕ) (k : Shared) (start : Cells) (at : At parts w k f b i (straight_visit parts f b i) start) (c : Branch)
      → goes_straight (op_before parts f b i) ≡ true → is_call (op_before parts f b i) ≡ false → is_return (op_before parts f b i) ≡ false → op_at parts f b i ≡ BranchOnCondition c
      → let p : Spot parts w = record { k = k; f = f; b = b; i = i; v = straight_visit parts f b i; start = start; at = at } in
      Steps parts w p
  unfolding falls
  branch_steps w k start at c before no_link no_return is =
      let visit : IsVisit parts f b i (straight_visit parts f b i) = is_straight_visit parts f b i before in
      let d = state_at parts f b i in
      let known = subst (λ o. reads_undefined (function_at parts f) o d ≡ false) is (reads_known parts checked f b i place (straight_visit parts f b i) visit refl) in
      let kept = subst (λ o. touches_reserved (function_at parts f) o ≡ false) is (keeps_reserved parts checked f b i place (straight_visit parts f b i) visit refl) in
      let within = inside (ap is_save is) in
      let slot = slot_follows parts checked f b i place (ap is_transfer is) in
      branch_word parts w k f b i c start at word_is is
      (record {
        no_call = no_link;
        no_return = no_return;
        next = ap (λ (t : Bool). falls_to t (words_in parts f b) (length (function_at parts f).blocks) b i) (ap ends_run is)
            ∙ inner_word (words_in parts f b) (length (function_at parts f).blocks) b i slot;
        same = same_bytes (function_at parts f) b i within;
        small = lies_low parts ordered f b i place;
      })
      (same_window (function_at parts f) b i b (suc i) within (later_word b i))
      (λ x y same. looks_at_codes c.cond d.icc x y (codes_known (function_at parts f) (BranchOnCondition c) d known kept) same)
      (λ held. refines c.cond d start k.words k.icc k.y held at.fits)
      (λ held. refines (opposite c.cond) d start k.words k.icc k.y (one_edge_is_left.denies c.cond k.icc ∙ ap not held) at.fits)
      (follows parts ordered f b (suc i) (record { function = place.function; block = place.block; word = slot }))

  -- the exit
  pub exit_steps : (w : ℕ) (k : Shared) (start : Cells) (at : At parts w k f b i (straight_visit parts f b i) start) (t : Trap)
      → goes_straight (op_before parts f b i) ≡ true → is_call (op_before parts f b i) ≡ false → op_at parts f b i ≡ TrapOnCondition t → service_of t ≡ Some 0
      → let p : Spot parts w = record { k = k; f = f; b = b; i = i; v = straight_visit parts f b i; start = start; at = at } in
      Steps parts w p
  unfolding reads_of
  exit_steps w k start at t before no_link is service =
      let visit : IsVisit parts f b i (straight_visit parts f b i) = is_straight_visit parts f b i before in
      let d = state_at parts f b i in
      let known = subst (λ o. reads_undefined (function_at parts f) o d ≡ false) is (reads_known parts checked f b i place (straight_visit parts f b i) visit refl) in
      let kept = subst (λ o. touches_reserved (function_at parts f) o ≡ false) is (keeps_reserved parts checked f b i place (straight_visit parts f b i) visit refl) in
      exit_word parts w k f b i t (straight_visit parts f b i) start at word_is refl is service
      (declares_exit parts.services (service_of t) service (subst (λ o. is_declared parts.services (service_asked o) ≡ true) is (asks_declared parts checked f b i place)))
      (read_known (function_at parts f) (TrapOnCondition t) d known kept 0 8 (ap (λ o. slice_get (service_reads o) 0) service) (omega arith))
      no_link
      (exit_is_paid parts checked f b i place.function place.block place.word (ap ends_run is ∙ ap is_exit service))
    where
      declares_exit : (services : Services) (o : Option ℕ) → o ≡ Some 0 → is_declared services o ≡ true → declares services 0 ≡ true
      declares_exit services o e h = sym (ap (is_declared services) e) ∙ h

-- a framed function's SAVE
pub save_steps : (parts : Parts) (checked : Checked parts) (ordered : IsOrdered parts) (pages : parts.stack_pages ≤ 16) (f : ℕ) (place : IsPlace parts f 0 0)
    (w : ℕ) (k : Shared) (start : Cells) (at : At parts w k f 0 0 (straight_visit parts f 0 0) start) → is_framed (function_at parts f).kind ≡ true
    → let p : Spot parts w = record { k = k; f = f; b = 0; i = 0; v = straight_visit parts f 0 0; start = start; at = at } in
    Steps parts w p
save_steps parts checked ordered pages f place w k start at framed =
    save_word parts w k f start at (word_is parts checked ordered pages f 0 0 place) (saves_well parts checked ordered pages f place.function framed)
