-- What an image without a fault gives at a word, rule by rule, in the form in which steps ask for it.
use Rattle.std.proofs.Common.{◌≡◌, ℕ, zero, suc, ◌<◌, ◌≤◌, ◌+◌, ◌*◌, Bool, true, false, List, [], ◌∷◌, Some, refl, sym, ap, ◌∙◌, subst, inl, inr, arith}
use Rattle.std.specs.Prelude.{◌==◌, ◌&&◌, ◌||◌, not, nat_le, nat_lt, length, slice_get}
use Rattle.std.specs.List.{list_any}
use Rattle.std.proofs.lemmas.Bool.Decides.{nat_tests}
use Rattle.v8_formats.specs.declared.instr.Branch.{Branch}
use Rattle.v8_meaning.specs.declared.operation.Operation.{Operation}
use Rattle.v8_meaning.specs.declared.operation.Operation.TheVariants.{BranchOnCondition}
use Rattle.v8_meaning.specs.Admitted.{is_admitted}
use Rattle.sbx_image.specs.Function.{Function}
use Rattle.sbx_image.specs.Parts.{Parts}
use Rattle.sbx_rules.specs.Forms.{Form}
use Rattle.sbx_rules.specs.Known.{Known}
use Rattle.sbx_rules.specs.Transfer.{transferred}
use Rattle.sbx_rules.specs.declared.cause.Cause.{Cause}
use Rattle.sbx_rules.specs.declared.cause.Cause.TheVariants.{NotAdmitted, BadShape, BadBranch, BadCall, UndefinedRead, ReservedRegister, Misaligned}
use Rattle.sbx_rules.specs.declared.cause.Cause.TheVariants.{OutOfBounds, ZeroDivisor, TagOverflow, UndeclaredService, UnkeptCells, OutOfFuel, OutOfStack}
use Rattle.sbx_rules.specs.declared.cause.Cause.TheVariants.{UnkeptResults, BadEntry}
use Rattle.sbx_rules.specs.Fuel.{IsWithinBudget}
use Rattle.sbx_rules.specs.Operations.{access_of, is_call, is_framed, is_framed_return, is_restore, is_return, is_save, is_transfer, is_trap}
use Rattle.sbx_image.specs.Order.{address_of, function_at, words_in}
use Rattle.sbx_rules.specs.Places.{IsPlace, callee_at, callee_before, ends_run, op_at, op_before, service_asked}
use Rattle.sbx_rules.specs.Rules.{Holds, branches_badly, enters_well, has_bad_shape, has_cells, has_outs, is_aligned_access, is_back, is_declared, is_entry}
use Rattle.sbx_rules.specs.Rules.{is_inner_edge, is_last, is_later, is_placed_access, lacks_room, may_divide_by_zero, may_overflow, misses_params, now}
use Rattle.sbx_rules.specs.Rules.{params_of, reads_undefined, room_of_callee, runs_with, same_test, suits, touches_reserved}
use Rattle.sbx_rules.specs.Verdicts.{Checked}
use Rattle.sbx_rules.specs.Ways.{Visit, branch_way, fuel_at, state_at, visits_at}
use Rattle.sbx_sound.proofs.Running.{IsVisit}
use Rattle.sbx_sound.proofs.Tests.{and_denied, at_most, or_left, or_right, undone}

-- ---- tests

no_way : (x : Bool) → (x ≡ true → ⊥) → x ≡ false
no_way true h = absurd (h refl)
no_way false h = refl

not_no_way : (x : Bool) → (not x ≡ true → ⊥) → x ≡ true
not_no_way true h = refl
not_no_way false h = absurd (h refl)

same_some : (x v : Visit) → Some x ≡ Some v → x ≡ v
same_some x v e = cc

-- no visit of a list has a test that none has
none_of : (test : Visit → Bool) (vs : List Visit) (n : ℕ) (v : Visit) → slice_get vs n ≡ Some v → list_any test vs ≡ false → test v ≡ false
none_of test [] n v is h = absurd (cc)
none_of test (x ∷ vs) zero v is h = subst (λ y. test y ≡ false) (same_some x v is) (or_left (test x) (list_any test vs) h)
none_of test (x ∷ vs) (suc n) v is h = none_of test vs n v is (or_right (test x) (list_any test vs) h)

within_holds : (first : Known) (fuel : Form) (budget : ℕ) → ((IsWithinBudget first fuel budget → ⊥) → ⊥) → IsWithinBudget first fuel budget
within_holds first fuel budget h start s = at_most _ _ (λ more. h (λ within. more (within start s)))

module _ (parts : Parts) (checked : Checked parts) (f b i : ℕ) (place : IsPlace parts f b i) where
  abbrev op : Operation
  op = op_at parts f b i

  abbrev before : Operation
  before = op_before parts f b i

  abbrev function : Function
  function = function_at parts f

  none : (cause : Cause) → Holds parts f b i cause → ⊥
  none cause h = checked f (address_of parts f b i) cause (record { block = b; word = i; place = place; lies = refl; holds = h })

  -- V2
  pub admitted : is_admitted op ≡ true
  admitted = not_no_way (is_admitted op) (none NotAdmitted)

  -- ---- V3, clause by clause

  shape : has_bad_shape parts f b i ≡ false
  shape = no_way (has_bad_shape parts f b i) (none BadShape)

  pub record HasShape : Type 0 where
    pub entry : (is_entry b i && not (enters_well function op)) ≡ false
    pub save : (is_save op && not (is_entry b i && is_framed function.kind)) ≡ false
    pub restore : not (same_test (is_framed_return before) (is_restore op)) ≡ false
    pub kind : not (suits function.kind op) ≡ false
    pub slot : (is_transfer before && (is_transfer op || is_trap op)) ≡ false
    pub transfer : (is_transfer op && is_last parts f b i) ≡ false
    pub after_slot : (is_transfer before && not (is_call before) && not (is_last parts f b i)) ≡ false
    pub after_exit : (ends_run op && not (is_last parts f b i)) ≡ false

  eight : (p q r s t u v w : Bool) → (p || q || r || s || t || u || v || w) ≡ false → (p ≡ false) × (q ≡ false) × (r ≡ false) × (s ≡ false) × (t ≡ false) × (u ≡ false) × (v ≡ false) × (w ≡ false)
  eight false false false false false false false false h = (refl, refl, refl, refl, refl, refl, refl, refl)
  eight true q r s t u v w h = absurd (cc)
  eight false true r s t u v w h = absurd (cc)
  eight false false true s t u v w h = absurd (cc)
  eight false false false true t u v w h = absurd (cc)
  eight false false false false true u v w h = absurd (cc)
  eight false false false false false true v w h = absurd (cc)
  eight false false false false false false true w h = absurd (cc)
  eight false false false false false false false true h = absurd (cc)

  pub has_shape : HasShape
  has_shape =
      let e = eight (is_entry b i && not (enters_well function op)) (is_save op && not (is_entry b i && is_framed function.kind))
      (not (same_test (is_framed_return before) (is_restore op))) (not (suits function.kind op))
      (is_transfer before && (is_transfer op || is_trap op)) (is_transfer op && is_last parts f b i)
      (is_transfer before && not (is_call before) && not (is_last parts f b i)) (ends_run op && not (is_last parts f b i)) shape in
      record { entry = e.0; save = e.1; restore = e.2; kind = e.3; slot = e.4; transfer = e.5; after_slot = e.6; after_exit = e.7 }

  pub enters : is_entry b i ≡ true → enters_well function op ≡ true
  enters h = undone (enters_well function op) (and_denied (is_entry b i) (not (enters_well function op)) has_shape.entry h)

  -- a transfer's slot is in its block
  pub slot_follows : is_transfer op ≡ true → suc i < words_in parts f b
  slot_follows h = inside (words_in parts f b) (and_denied (is_transfer op) (is_last parts f b i) has_shape.transfer h)
    where
      inside : (n : ℕ) → nat_le n (i + 1) ≡ false → suc i < n
      inside n e = grind (arith, nat_tests)

  pub suits_kind : suits function.kind op ≡ true
  suits_kind = undone (suits function.kind op) has_shape.kind

  pub restores_in_slot : same_test (is_framed_return before) (is_restore op) ≡ true
  restores_in_slot = undone (same_test (is_framed_return before) (is_restore op)) has_shape.restore

  -- V4
  pub branches_well : (c : Branch) → op ≡ BranchOnCondition c → is_inner_edge (branch_way parts f b i c.displacement) ≡ true
  branches_well c e = undone (is_inner_edge (branch_way parts f b i c.displacement)) (sym (ap (branches_badly parts f b i) e) ∙ no_way (branches_badly parts f b i op) (none BadBranch))

  -- V5
  pub calls_later : is_call op ≡ true → is_later parts f b i (callee_at parts f b i) ≡ true
  calls_later h =
      undone (is_later parts f b i (callee_at parts f b i))
      (and_denied (is_call op) (not (is_later parts f b i (callee_at parts f b i)))
      (no_way (is_call op && not (is_later parts f b i (callee_at parts f b i))) (none BadCall)) h)

  -- ---- V6 to V11, on each way on which the word runs

  on_visit : (test : Known → Bool) → runs_with test (visits_at parts f b i) ≡ false → (v : Visit) → IsVisit parts f b i v → v.annulled ≡ false → test v.known ≡ false
  on_visit test h v is runs = and_denied (not v.annulled) (test v.known) (none_of (λ x. not x.annulled && test x.known) (visits_at parts f b i) is.0 v is.1 h) (ap not runs)

  pub reads_known : (v : Visit) → IsVisit parts f b i v → v.annulled ≡ false → reads_undefined function op v.known ≡ false
  reads_known = on_visit (reads_undefined function op) (no_way (runs_with (reads_undefined function op) (visits_at parts f b i)) (none UndefinedRead))

  pub keeps_reserved : (v : Visit) → IsVisit parts f b i v → v.annulled ≡ false → touches_reserved function op ≡ false
  keeps_reserved = on_visit (λ d. touches_reserved function op) (no_way (runs_with (λ d. touches_reserved function op) (visits_at parts f b i)) (none ReservedRegister))

  pub reaches_aligned : (v : Visit) → IsVisit parts f b i v → v.annulled ≡ false → is_aligned_access (access_of function op v.known) ≡ true
  reaches_aligned v is runs = undone (is_aligned_access (access_of function op v.known))
      (on_visit (λ d. not (is_aligned_access (access_of function op d)))
      (no_way (runs_with (λ d. not (is_aligned_access (access_of function op d))) (visits_at parts f b i)) (none Misaligned)) v is runs)

  pub reaches_placed : (v : Visit) → IsVisit parts f b i v → v.annulled ≡ false → is_placed_access parts function.frame (access_of function op v.known) ≡ true
  reaches_placed v is runs = undone (is_placed_access parts function.frame (access_of function op v.known))
      (on_visit (λ d. not (is_placed_access parts function.frame (access_of function op d)))
      (no_way (runs_with (λ d. not (is_placed_access parts function.frame (access_of function op d))) (visits_at parts f b i))
      (none OutOfBounds)) v is runs)

  pub divides_well : (v : Visit) → IsVisit parts f b i v → v.annulled ≡ false → may_divide_by_zero op v.known ≡ false
  divides_well = on_visit (may_divide_by_zero op) (no_way (runs_with (may_divide_by_zero op) (visits_at parts f b i)) (none ZeroDivisor))

  pub fits_tagged : (v : Visit) → IsVisit parts f b i v → v.annulled ≡ false → may_overflow op v.known ≡ false
  fits_tagged = on_visit (may_overflow op) (no_way (runs_with (may_overflow op) (visits_at parts f b i)) (none TagOverflow))

  -- V12
  pub asks_declared : is_declared parts.services (service_asked op) ≡ true
  asks_declared = not_no_way (is_declared parts.services (service_asked op)) (none UndeclaredService)

  -- V13 at a CALL, after its slot
  pub has_params : (v : Visit) → IsVisit parts f b i v → has_cells (transferred function.frame op v.known) (params_of parts f b i (callee_before parts f b i)) ≡ true
  has_params v is = undone (has_cells (transferred function.frame op v.known) (params_of parts f b i (callee_before parts f b i)))
      (none_of (misses_params parts f b i) (visits_at parts f b i) is.0 v is.1 (no_way (list_any (misses_params parts f b i) (visits_at parts f b i)) (λ h. none UnkeptCells (inr (inl h)))))

  -- V14 of the budget
  pub within_budget : is_entry b i ≡ true → IsWithinBudget (state_at parts f b 0) (fuel_at parts f b) function.budget
  within_budget h = within_holds (state_at parts f b 0) (fuel_at parts f b) function.budget (λ no. none OutOfFuel (inr (inr (inl (h, no)))))

  -- ---- V15

  room : lacks_room parts f b i ≡ false
  room = no_way (lacks_room parts f b i) (none OutOfStack)

  no_less : (m n : ℕ) → nat_lt m n ≡ false → n ≤ m
  no_less m n e = grind (arith, nat_tests)

  pub room_for_frame : is_entry b i ≡ true → function.frame ≤ function.stack_room
  room_for_frame h = no_less function.stack_room function.frame
      (or_left (nat_lt function.stack_room function.frame) _
      (and_denied (is_entry b i) _
      (or_left _ (is_call op && nat_lt function.stack_room (function.frame + room_of_callee parts f b i (callee_at parts f b i))) room) h))

  pub room_for_callee : is_call op ≡ true → function.frame + room_of_callee parts f b i (callee_at parts f b i) ≤ function.stack_room
  room_for_callee h = no_less function.stack_room (function.frame + room_of_callee parts f b i (callee_at parts f b i))
      (and_denied (is_call op) _ (or_right _ (is_call op && nat_lt function.stack_room (function.frame + room_of_callee parts f b i (callee_at parts f b i))) room) h)

  pub room_of_the_stack : f ≡ 0 → is_entry b i ≡ true → function.stack_room + 64 ≤ 4096 * parts.stack_pages
  room_of_the_stack zero_is h = no_less (4096 * parts.stack_pages) (function.stack_room + 64)
      (and_denied (f == 0) _
      (or_right (nat_lt function.stack_room function.frame) _
      (and_denied (is_entry b i) _
      (or_left _ (is_call op && nat_lt function.stack_room (function.frame + room_of_callee parts f b i (callee_at parts f b i))) room) h))
      (first f zero_is))
    where
      first : (n : ℕ) → n ≡ 0 → (n == 0) ≡ true
      first n e = grind (arith, nat_tests)

  -- V17
  pub has_results : (v : Visit) → IsVisit parts f b i v → is_back v.way ≡ true → has_outs 8 function.results (now parts f b i v) ≡ true
  has_results v is back = undone (has_outs 8 function.results (now parts f b i v))
      (and_denied (is_back v.way) (not (has_outs 8 function.results (now parts f b i v)))
      (none_of (λ x. is_back x.way && not (has_outs 8 function.results (now parts f b i x))) (visits_at parts f b i) is.0 v is.1
      (no_way (list_any (λ x. is_back x.way && not (has_outs 8 function.results (now parts f b i x))) (visits_at parts f b i)) (none UnkeptResults))) back)

  -- V18: function 0 doesn't return, and has no params
  entry_rule : ((f == 0) && ((is_entry b i && not (length function.params == 0)) || is_return op)) ≡ false
  entry_rule = no_way ((f == 0) && ((is_entry b i && not (length function.params == 0)) || is_return op)) (none BadEntry)

  pub no_return : (f == 0) ≡ true → is_return op ≡ false
  no_return h = or_right (is_entry b i && not (length function.params == 0)) (is_return op) (and_denied (f == 0) _ entry_rule h)

  pub no_params : (f == 0) ≡ true → is_entry b i ≡ true → length function.params ≡ 0
  no_params h e =
      is_zero (length function.params)
      (undone (length function.params == 0)
      (and_denied (is_entry b i) (not (length function.params == 0))
      (or_left (is_entry b i && not (length function.params == 0)) (is_return op) (and_denied (f == 0) _ entry_rule h)) e))
    where
      is_zero : (n : ℕ) → (n == 0) ≡ true → n ≡ 0
      is_zero n x = grind (arith, nat_tests)
