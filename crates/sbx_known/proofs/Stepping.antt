-- From one word of a block to the next, where no rule was broken before: the ways of a word, and what is known after it on each.
use Rattle.std.proofs.Common.{◌≡◌, ℕ, zero, suc, ◌-◌, ◌<◌, Bool, true, false, List, [], ◌∷◌, ◌++◌, map, Option, Some, None, refl, sym, ap, ◌∙◌, subst, arith}
use Rattle.std.specs.Prelude.{◌&&◌, ◌||◌, not, if◌then◌else◌}
use Rattle.std.specs.List.{list_any}
use Rattle.std.proofs.lemmas.Bool.{false≢true, true≢false}
use Rattle.std.proofs.lemmas.Bool.Decides.{nat_tests}
use Rattle.v8_formats.specs.declared.instr.Branch.{Branch}
use Rattle.v8_meaning.specs.declared.operation.Operation.{Operation}
use Rattle.v8_meaning.specs.declared.operation.Operation.TheVariants.{BranchOnCondition, Call, JumpAndLink}
use Rattle.sbx_image.specs.Parts.{Parts}
use Rattle.sbx_rules.specs.Known.{Known}
use Rattle.sbx_rules.specs.Transfer.{transferred}
use Rattle.sbx_image.specs.Function.{Function}
use Rattle.sbx_rules.specs.Operations.{is_call, is_framed, is_framed_return, is_restore, is_save, is_transfer, is_trap}
use Rattle.sbx_image.specs.Order.{address_of, function_at, words_in}
use Rattle.sbx_rules.specs.Places.{callee_at, callee_before, callee_of, ends_run, op_at, op_before}
use Rattle.sbx_rules.specs.Rules.{enters_well, has_bad_shape, has_cells, is_entry, is_last, misses_params, params_of, same_test, suits}
use Rattle.sbx_rules.specs.Ways.{Visit, after_call, after_word, branch_way, falls, state_at, taken_visit, untaken_visit, visits_after, visits_at}
use Rattle.sbx_known.specs.declared.courses.Course.{Course}
use Rattle.sbx_known.specs.declared.courses.Courses.{Courses}
use Rattle.sbx_known.specs.declared.courses.Going.{Going}
use Rattle.sbx_known.specs.Courses.{IsStraight, arrivals_at, arrived, is_branch, listed, runs, visit_of, visits_of}
use Rattle.sbx_known.specs.Spots.{visits_from}

-- ---- what the rule of shape gives

denied : (x e f g h : Bool) → (x || e || f || g || h) ≡ false → (e ≡ false) × (g ≡ false)
denied false false false false false k = (refl, refl)
denied true e f g h k = absurd (cc)
denied false true f g h k = absurd (cc)
denied false false true g h k = absurd (cc)
denied false false false true h k = absurd (cc)
denied false false false false true k = absurd (cc)

branch_transfers : (op : Operation) → is_branch op ≡ true → is_transfer op ≡ true
branch_transfers (BranchOnCondition c) e = refl
branch_transfers _ e = absurd (cc)

branch_calls : (op : Operation) → is_branch op ≡ true → is_call op ≡ false
branch_calls (BranchOnCondition c) e = refl
branch_calls _ e = absurd (cc)

module _ (parts : Parts) (f b i : ℕ) (well : has_bad_shape parts f b i ≡ false) where
  abbrev op : Operation
  op = op_at parts f b i

  abbrev before : Operation
  before = op_before parts f b i

  abbrev function : Function
  function = function_at parts f

  slots : ((is_transfer before && (is_transfer op || is_trap op)) ≡ false) × ((is_transfer before && not (is_call before) && not (is_last parts f b i)) ≡ false)
  slots = denied
      ((is_entry b i && not (enters_well function op)) || (is_save op && not (is_entry b i && is_framed function.kind))
      || not (same_test (is_framed_return before) (is_restore op)) || not (suits function.kind op))
      (is_transfer before && (is_transfer op || is_trap op)) (is_transfer op && is_last parts f b i)
      (is_transfer before && not (is_call before) && not (is_last parts f b i)) (ends_run op && not (is_last parts f b i)) well

  alone : (s t u : Bool) → (s && (t || u)) ≡ false → t ≡ true → s ≡ false
  alone false t u k e = refl
  alone true true u k e = absurd (true≢false k)
  alone true false u k e = absurd (false≢true e)

  -- no transfer stands in a slot
  no_slot : is_transfer op ≡ true → is_transfer before ≡ false
  no_slot e = alone (is_transfer before) (is_transfer op) (is_trap op) slots.0 e

  last_of : (s t u : Bool) → (s && not t && not u) ≡ false → s ≡ true → t ≡ false → u ≡ true
  last_of true false true k e g = refl
  last_of true false false k e g = absurd (true≢false k)
  last_of true true u k e g = absurd (true≢false g)
  last_of false t u k e g = absurd (false≢true e)

  -- a branch's slot ends its block
  pub ends_block : is_branch before ≡ true → suc i < words_in parts f b → ⊥
  ends_block is less =
      let last = last_of (is_transfer before) (is_call before) (is_last parts f b i) slots.1 (branch_transfers before is) (branch_calls before is) in
      grind (arith, nat_tests, last)

-- ---- what is called before a word

not_called : (parts : Parts) (address : ℕ) (op : Operation) → is_call op ≡ false → callee_of parts address op ≡ None
not_called parts address (Call d) e = absurd (cc)
not_called parts address _ e = refl

pub none_called : (parts : Parts) (f b i : ℕ) → is_call (op_before parts f b i) ≡ false → callee_before parts f b i ≡ None
unfolding callee_at
none_called parts f b zero e = refl
none_called parts f b (suc i) e = not_called parts (address_of parts f b i) (op_at parts f b i) e

transfer_calls : (op : Operation) → is_transfer op ≡ false → is_call op ≡ false
transfer_calls (Call d) e = absurd (cc)
transfer_calls _ e = refl

-- a branch leaves what is known as it is
branch_stays : (frame : ℕ) (c : Branch) (d : Known) → transferred frame (BranchOnCondition c) d ≡ d
unfolding transferred
branch_stays frame c d = refl

-- what is known in a branch's slot is what is known before the branch
slot_known : (parts : Parts) (f b i : ℕ) (c : Branch) → has_bad_shape parts f b i ≡ false → op_at parts f b i ≡ BranchOnCondition c → state_at parts f b (suc i) ≡ state_at parts f b i
unfolding state_at
slot_known parts f b i c well is =
    let quiet = none_called parts f b i (transfer_calls (op_before parts f b i) (no_slot parts f b i well (ap is_transfer is))) in
    ap (λ (g : Option ℕ). after_call parts g (transferred (function_at parts f).frame (op_at parts f b i) (state_at parts f b i))) quiet
    ∙ ap (λ (op : Operation). transferred (function_at parts f).frame op (state_at parts f b i)) is
    ∙ branch_stays (function_at parts f).frame c (state_at parts f b i)

-- ---- the ways of a word

same_visits : (parts : Parts) (f b i : ℕ) (op : Operation) (here there : Known) → ((c : Branch) → op ≡ BranchOnCondition c → there ≡ here)
    → visits_after parts f b i op here there ≡ visits_from parts f b (suc i) op there
same_visits parts f b i (BranchOnCondition c) here there same =
    ap (λ d. visits_after parts f b i (BranchOnCondition c) d d) (sym (same c refl))
    ∙ ap (λ n. taken_visit c (branch_way parts f b n c.displacement) there ++ untaken_visit c (falls parts f b (suc i)) there) (let e : i ≡ suc i - 1 = omega arith in e)
same_visits parts f b i (JumpAndLink j) here there same = refl
same_visits parts f b i _ here there same = refl

-- where no word before it breaks the rule of shape
pub visits_are : (parts : Parts) (f b i : ℕ) → ((j : ℕ) → j < i → has_bad_shape parts f b j ≡ false) → visits_at parts f b i ≡ visits_from parts f b i (op_before parts f b i) (state_at parts f b i)
unfolding visits_at
visits_are parts f b zero well = refl
visits_are parts f b (suc i) well = same_visits parts f b i (op_at parts f b i) (state_at parts f b i) (state_at parts f b (suc i)) (λ c is. slot_known parts f b i c (well i (omega arith)) is)

-- ---- what is known after it

module _ (after : Known → Known) where
  abbrev moved : Visit → Visit
  moved v = record { known = if v.annulled then v.known else after v.known; way = v.way; annulled = v.annulled }

  abbrev left : Option Course → Known → Known
  left o d = if runs o then after d else d

  either : (c : Course) (d : Known) (t : Bool) → visit_of c (if t then d else after d) ≡ visit_of c (if not t then after d else d)
  either c d true = refl
  either c d false = refl

  moved_one : (c : Course) (d : Known) → moved (visit_of c d) ≡ visit_of c (left (Some c) d)
  moved_one c d = either c d c.annulled

  moved_two : (o p : Option Course) (d e : Known) → map moved (visits_of o d ++ visits_of p e) ≡ visits_of o (left o d) ++ visits_of p (left p e)
  moved_two None None d e = refl
  moved_two None (Some b) d e = ap (λ v. v ∷ []) (moved_one b e)
  moved_two (Some a) None d e = ap (λ v. v ∷ []) (moved_one a d)
  moved_two (Some a) (Some b) d e = ap (λ v. v ∷ moved (visit_of b e) ∷ []) (moved_one a d) ∙ ap (λ v. visit_of a (left (Some a) d) ∷ v ∷ []) (moved_one b e)

-- one way, on which the word isn't annulled
abbrev one_way : Going → Courses
one_way going = record { first = Some (record { going = going; annulled = false }); second = None }

module _ (parts : Parts) (f b i : ℕ) where
  abbrev done : Known → Known
  done d = transferred (function_at parts f).frame (op_at parts f b i) d

  -- What is known after the word on each way: the first has the effect of a call that the word ends.
  module _ (cs : Courses) (d e d1 e1 : Known) (visits : visits_at parts f b i ≡ listed cs d e) (straight : is_branch (op_before parts f b i) ≡ false → IsStraight cs)
      (first : d1 ≡ (if runs cs.first then done d else d)) (second : e1 ≡ (if runs cs.second then done e else e)) where
    called : is_branch (op_before parts f b i) ≡ true → callee_before parts f b i ≡ None
    called is = none_called parts f b i (branch_calls (op_before parts f b i) is)

    pub arrivals_are : (d2 : Known) → d2 ≡ after_call parts (callee_before parts f b i) d1 → arrivals_at parts f b i ≡ listed cs d2 e1
    arrivals_are d2 back = by_test (is_branch (op_before parts f b i)) refl
      where
        for_slot : is_branch (op_before parts f b i) ≡ true → arrivals_at parts f b i ≡ listed cs d2 e1
        for_slot is =
            let quiet = called is in
            let same : (x : Known) → after_word parts f b i x ≡ done x = λ x. ap (λ (g : Option ℕ). after_call parts g (done x)) quiet in
            let to : left (after_word parts f b i) cs.first d ≡ d2 = ap (λ x. if runs cs.first then x else d) (same d) ∙ sym (back ∙ ap (λ (g : Option ℕ). after_call parts g d1) quiet ∙ first) in
            let there : left (after_word parts f b i) cs.second e ≡ e1 = ap (λ x. if runs cs.second then x else e) (same e) ∙ sym second in
            ap (map (arrived parts f b i)) visits ∙ moved_two (after_word parts f b i) cs.first cs.second d e
            ∙ ap (λ x. visits_of cs.first x ++ visits_of cs.second (left (after_word parts f b i) cs.second e)) to
            ∙ ap (λ x. visits_of cs.first d2 ++ visits_of cs.second x) there

        for_one : (going : Going) → visits_at parts f b i ≡ listed (one_way going) d e → d1 ≡ done d → arrivals_at parts f b i ≡ listed (one_way going) d2 e1
        for_one going v k =
            ap (map (arrived parts f b i)) v
            ∙ ap (λ x. visit_of (record { going = going; annulled = false }) x ∷ []) (sym (back ∙ ap (after_call parts (callee_before parts f b i)) k))

        for_straight : is_branch (op_before parts f b i) ≡ false → arrivals_at parts f b i ≡ listed cs d2 e1
        for_straight is =
            let s = straight is in
            subst (λ (c : Courses). visits_at parts f b i ≡ listed c d e → d1 ≡ (if runs c.first then done d else d) →
            arrivals_at parts f b i ≡ listed c d2 e1) (sym s.only) (for_one s.going) visits first

        by_test : (t : Bool) → is_branch (op_before parts f b i) ≡ t → arrivals_at parts f b i ≡ listed cs d2 e1
        by_test true is = for_slot is
        by_test false is = for_straight is

    abbrev missing : Option ℕ → Known → Bool
    missing g x = not (has_cells x (params_of parts f b i g))

    none_missing : (vs : List Visit) → list_any (λ v. missing None (done v.known)) vs ≡ false
    none_missing [] = refl
    none_missing (v ∷ vs) = none_missing vs

    -- the callee finds what is known after the slot, before the call has its effect
    pub params_told : list_any (misses_params parts f b i) (visits_at parts f b i) ≡ missing (callee_before parts f b i) d1
    params_told = by_test (is_branch (op_before parts f b i)) refl
      where
        for_slot : is_branch (op_before parts f b i) ≡ true → list_any (misses_params parts f b i) (visits_at parts f b i) ≡ missing (callee_before parts f b i) d1
        for_slot is =
            let quiet = called is in
            ap (λ (g : Option ℕ). list_any (λ v. missing g (done v.known)) (visits_at parts f b i)) quiet ∙ none_missing (visits_at parts f b i)
            ∙ ap (λ (g : Option ℕ). missing g d1) (sym quiet)

        last : (t : Bool) → (t || false) ≡ t
        last true = refl
        last false = refl

        for_one : (going : Going) → visits_at parts f b i ≡ listed (one_way going) d e → d1 ≡ done d →
            list_any (misses_params parts f b i) (visits_at parts f b i) ≡ missing (callee_before parts f b i) d1
        for_one going v k =
            ap (list_any (misses_params parts f b i)) v ∙ last (missing (callee_before parts f b i) (done d))
            ∙ ap (missing (callee_before parts f b i)) (sym k)

        for_straight : is_branch (op_before parts f b i) ≡ false → list_any (misses_params parts f b i) (visits_at parts f b i) ≡ missing (callee_before parts f b i) d1
        for_straight is =
            let s = straight is in
            subst (λ (c : Courses). visits_at parts f b i ≡ listed c d e → d1 ≡ (if runs c.first then done d else d) →
            list_any (misses_params parts f b i) (visits_at parts f b i) ≡ missing (callee_before parts f b i) d1) (sym s.only)
            (for_one s.going) visits first

        by_test : (t : Bool) → is_branch (op_before parts f b i) ≡ t → list_any (misses_params parts f b i) (visits_at parts f b i) ≡ missing (callee_before parts f b i) d1
        by_test true is = for_slot is
        by_test false is = for_straight is

    -- where no branch stands before the word, the block goes on with what is known after it
    pub goes_on : is_branch (op_before parts f b i) ≡ false → d1 ≡ done d
    goes_on is = first ∙ ap (λ (c : Courses). if runs c.first then done d else d) (straight is).only

-- what is known before the next word
pub next_known : (parts : Parts) (f b i : ℕ) (d : Known) → d ≡ after_word parts f b i (state_at parts f b i) → d ≡ state_at parts f b (suc i)
unfolding state_at
next_known parts f b i d is = is

pub performed : (frame : ℕ) (o p : Operation) (runs : Bool) (d x : Known) → o ≡ p → x ≡ (if runs then transferred frame o d else d) → x ≡ (if runs then transferred frame p d else d)
performed frame o p runs d x same is = is ∙ ap (λ (k : Operation). if runs then transferred frame k d else d) same
