-- From each kind of word, and from each end of a block, a program's run comes to its end, where it does from what comes next.
use Rattle.std.proofs.Common.{◌≡◌, ℕ, zero, suc, ◌+◌, ◌-◌, ◌*◌, ◌<◌, ◌≤◌, ◌^◌, ◌%◌, Bool, true, false, List, [], ◌∷◌, ◌++◌, length, Option, Some, None, refl, sym, ap, ◌∙◌, subst, arith}
use Rattle.std.specs.Prelude.{◌==◌, ◌&&◌, ◌||◌, not, if◌then◌else◌, slice_index}
use Rattle.std.proofs.lemmas.List.{length-append}
use Rattle.std.proofs.Math.Nat.{mul-le-mul_left}
use Rattle.v8_word.specs.Conditions.{holds}
use Rattle.v8_word.specs.declared.Cond.{Cond}
use Rattle.v8_word.specs.declared.Cond.TheVariants.{Always}
use Rattle.v8_word.specs.declared.Icc.{Icc}
use Rattle.v8_formats.specs.declared.instr.Branch.{Branch}
use Rattle.v8_formats.specs.declared.instr.Three.{Three}
use Rattle.v8_formats.specs.declared.instr.Trap.{Trap}
use Rattle.v8_meaning.specs.Admitted.{is_admitted}
use Rattle.v8_meaning.specs.Operands.{annuls, following, is_always, is_never, target}
use Rattle.v8_meaning.specs.declared.operation.Operation.{Operation}
use Rattle.v8_meaning.specs.declared.operation.Operation.TheVariants.{BranchOnCondition, Call, JumpAndLink, Restore, Save, TrapOnCondition}
use Rattle.sbx_image.specs.Parts.{Parts}
use Rattle.sbx_flat.specs.Effects.{branched, branches, gets as flat_gets, performs, puts as flat_puts, served, service_of}
use Rattle.sbx_flat.specs.declared.path.Place.{Place}
use Rattle.sbx_flat.specs.declared.path.Traffic.{Traffic}
use Rattle.sbx_flat.specs.Runs.{AreBytes, Behaves, FlatRun, budget, weight, weight_of_service}
use Rattle.sbx_flat.specs.States.{State, Goes, advanced, reg, transferred, with_reg}
use Rattle.sbx_flat.specs.Traffic.{traffic}
use Rattle.sbx_flat.proofs.Kept.{word_small}
use Rattle.sbx_rules.specs.Verdicts.{Checked}
use Rattle.sbx_sound.specs.Law.{IsFormed}
use Rattle.native_lang.specs.Arms.{arm_of}
use Rattle.native_lang.specs.Counts.{makes}
use Rattle.native_lang.specs.Values.{value}
use Rattle.native_lang.specs.World.{World, gets, puts, sets}
use Rattle.native_lang.specs.declared.expr.Expr.{Expr}
use Rattle.native_lang.specs.declared.expr.Expr.TheVariants.{Number, Variable}
use Rattle.native_lang.specs.declared.program.BlockEnd.{BlockEnd}
use Rattle.native_lang.specs.declared.program.BlockEnd.TheVariants.{Dispatch, Exit, Goto, If}
use Rattle.native_lang.specs.declared.program.NativeProgram.{NativeProgram}
use Rattle.native_lang.specs.declared.stmt.Stmt.{Stmt}
use Rattle.native_lang.specs.declared.stmt.Stmt.TheVariants.{Get, Put, Set, Turns}
use Rattle.native_results.specs.DoesAll.{does_all}
use Rattle.native_results.specs.ShowsState.{ShowsState, fresh_words}
use Rattle.native_results.specs.Words.{IsWordOf, counts_after, is_straight}
use Rattle.native_ends.specs.Translations.{AsksFor, Begins, DetachedSlot, HasBlock, HasDetached, HasSlot, IsCondition, IsMadeSlot, IsMadeUnless, IsTranslation, LiesIn, Makes}
use Rattle.native_ends.specs.Translations.{behind, is_decided, is_put, turns_of}
use Rattle.native_ends.proofs.Along.{Before, Behind, Beside, Moved, a_step, annulled_slot, counts_word, longer, made_slot, moves, slot_asks, spot_at, worded}
use Rattle.native_ends.proofs.Backward.{EndsFrom, IsAt, after_all, after_dispatch, after_exit, after_goto, after_if, after_if_not, after_one, at_first, more}
use Rattle.native_ends.proofs.Counts.{makes_more, makes_none}
use Rattle.native_ends.proofs.Flat.{well}
use Rattle.native_ends.proofs.Moves.{admitted_goes, branch_goes, call_goes, jump_goes, jump_low, service_goes, some_service}
use Rattle.native_ends.proofs.Spots.{InSlot, ReturnsTo, Shown, function_at_spot, returns_to, slot_function, slot_of, slot_one_turn}
use Rattle.native_ends.proofs.Worlds.{counted_shows, elsewhere_shows, gets_shows, puts_shows, register_is, register_shows, scratch_is, scratch_shows}

-- ---- conditions and turns

always_holds : (c : Cond) (icc : Icc) → is_always c ≡ true → holds c icc ≡ true
always_holds Always icc h = refl
always_holds _ icc h = absurd (cc)

one_more_turn : (n : ℕ) (slot : Operation) (t : Traffic) → turns_of slot ≡ 1 → counts_after n slot t ≡ t
one_more_turn n (Save f) t h = absurd (omega (arith, h))
one_more_turn n (Restore f) t h = absurd (omega (arith, h))
one_more_turn n _ t h = refl

abbrev pub counted : ℕ → World → World
counted k w = record w { counts = makes k w.counts }

abbrev pub same_counts : Traffic → Traffic
same_counts t = t

module _ (parts : Parts) (formed : IsFormed parts) (checked : Checked parts) (input output : List ℕ) (bytes : AreBytes input) (status : ℕ) (path : List Place)
    (behaves : Behaves parts input output status path) (n : ℕ) (program : NativeProgram) (made_of : IsTranslation parts program) (most : ℕ) where
  -- what the program's run gives at its end
  abbrev pub Good : World → Type 0
  Good w = (w.output ≡ output) × (w.counts ≡ traffic parts n path)

  abbrev pub Ends : (allowed label at : ℕ) → World → Type 0
  Ends allowed label at w = EndsFrom program n status Good allowed label at w

  abbrev pub Point : (label at : ℕ) → List Stmt → BlockEnd → Type 0
  Point label at rest end = IsAt program n status Good label at rest end

  abbrev pub At : List Place → State → World → ℕ → Type 0
  At way s w turns = Before parts formed checked input output bytes status path behaves n way s w w.counts turns

  abbrev pub Near : List Place → State → World → Traffic → ℕ → Type 0
  Near way s w counts turns = Beside parts formed checked input output bytes status path behaves n way s w counts turns

  abbrev pub After : List Place → State → World → Traffic → ℕ → List Stmt → (Traffic → Traffic) → Type 0
  After way s w counts turns made slot = Behind parts formed checked input output bytes status path behaves n way s w counts turns made slot

  abbrev pub onward : List Place → State → List Place
  onward way s = longer parts formed checked input output bytes status path behaves n way s

  abbrev pub label_at : ℕ → ℕ
  label_at a = made_of.labels.at a

  -- the steps that the turns pay for which are left of the budget
  abbrev pub pay : ℕ
  pay = most + 2

  abbrev pub left : List Place → ℕ
  left way = pay * (budget parts + 1 - weight parts way)

  -- What is known of all later places: from where a block begins, and from within one.
  abbrev pub Enters : ℕ → Type 0
  Enters fuel = (way : List Place) (s : State) (w : World) → At way s w 0 → Begins parts s.pc → budget parts < weight parts way + fuel → Ends (left way) (label_at s.pc) 0 w

  abbrev pub GoesOn : ℕ → Type 0
  GoesOn fuel = (f a turns : ℕ) (some : Bool) (rest : List Stmt) (end : BlockEnd) (slot : Option DetachedSlot) → Makes parts made_of.labels f some a turns rest end slot → HasDetached program slot
      → (way : List Place) (s : State) (w : World) (label at : ℕ) → s.pc ≡ a → At way s w turns → Point label at rest end → budget parts < weight parts way + fuel
      → Ends (length rest + 1 + left way) label at w

  -- ---- what is left

  mul_more : (k x j y : ℕ) → x + j ≤ y → k * x + k * j ≤ k * y
  mul_more k x j y less = let h = mul-le-mul_left k less in omega (arith, h)

  pays : (j : ℕ) (way last : List Place) → weight parts way + j ≤ weight parts last → weight parts last ≤ budget parts → left last + pay * j ≤ left way
  pays j way last less within = mul_more pay (budget parts + 1 - weight parts last) j (budget parts + 1 - weight parts way) (omega (arith, less, within))

  within : (way : List Place) (s : State) (w : World) (counts : Traffic) (turns : ℕ) → Near way s w counts turns → weight parts way ≤ budget parts
  within way s w counts turns h = behaves.within_budget way s h.run

  -- ---- within a block

  pub word_case : (fuel : ℕ) → GoesOn fuel → (f a turns : ℕ) (op : Operation) (made rest : List Stmt) (end : BlockEnd) (slot : Option DetachedSlot) →
      AsksFor parts a op → is_straight op ≡ true → IsWordOf op made → Makes parts made_of.labels f true (following a) (turns + turns_of op) rest end slot → HasDetached program slot
      → (way : List Place) (s : State) (w : World) (label at : ℕ) → s.pc ≡ a → At way s w turns → Point label at (made ++ rest) end → budget parts < weight parts way + suc fuel
      → Ends (length (made ++ rest) + 1 + (left way - pay)) label at w
  word_case fuel goes f a turns op made rest end slot asks straight is makes has way s w label at here h point few =
      let there = worded parts formed checked input output bytes status path behaves n way s w w.counts turns op made h.beside h.runs (subst (λ x. AsksFor parts x op) (sym here) asks) straight is in
      let last = onward way s in
      let weighs = there.weighs in
      let pc : there.next.pc ≡ following a = there.on.pc ∙ h.npc ∙ ap following here in
      let next : At last there.next there.new (turns + turns_of op) = record {
        beside = subst (λ (c : Traffic). Near last there.next there.new c (turns + turns_of op)) (sym there.counts_are) there.beside;
        runs = there.on.annulled ∙ h.runs;
        npc = there.on.npc ∙ ap following (sym there.on.pc);
      } in
      let paid = pays 1 way last weighs (within last there.next there.new (counts_after n op w.counts) (turns + turns_of op) there.beside) in
      let all = length-append made rest in
      more program n status Good (length made + (length rest + 1 + left last)) (length (made ++ rest) + 1 + (left way - pay)) label at w (omega (arith, paid, all))
      (after_all program n status Good (length rest + 1 + left last) label at made rest end w there.new point there.done
      (λ to stands. goes f (following a) (turns + turns_of op) true rest end slot makes has last there.next there.new label to pc next stands (omega (arith, few, weighs))))

  -- a service that comes to this state, and its statement to this world
  served_case : (fuel : ℕ) → GoesOn fuel → (f a k : ℕ) (t : Trap) (stmt : Stmt) (rest : List Stmt) (end : BlockEnd) (slot : Option DetachedSlot) →
      AsksFor parts a (TrapOnCondition t) → (fives : weight_of_service (service_of t) ≡ 5) → Makes parts made_of.labels f true (following a) 5 rest end slot → HasDetached program slot
      → (way : List Place) (s to : State) (w new : World) (label at : ℕ) → s.pc ≡ a → At way s w 0 → Point label at (stmt ∷ rest) end → budget parts < weight parts way + suc fuel
      → ((next : State) → performs parts (fresh_words w) (TrapOnCondition t) s ≡ Goes next → next ≡ advanced to) → to.exit ≡ None → to.annulled ≡ false → to.npc ≡ s.npc
      → ShowsState parts new to → new.counts ≡ w.counts → does_all n (stmt ∷ []) w ≡ Some new
      → Ends (length (stmt ∷ rest) + 1 + (left way - pay)) label at w
  served_case fuel goes f a k t stmt rest end slot asks fives makes_rest has way s to w new label at here h point few is open_now runs npc shows same done =
      let asks_here = subst (λ x. AsksFor parts x (TrapOnCondition t)) (sym here) asks in
      let moved = moves parts formed checked input output bytes status path behaves n way s w w.counts 0 (TrapOnCondition t) (advanced to) h.beside h.runs asks_here is in
      let last = onward way s in
      let weighs = moved.weighs in
      let counts : traffic parts n last ≡ makes 5 new.counts =
      counts_word parts formed checked input output bytes status path behaves n way s w w.counts 0 (TrapOnCondition t) h.beside h.runs asks_here
      ∙ ap (λ (x : ℕ). makes x (makes 0 w.counts)) fives ∙ ap (makes 5) (makes_none w.counts) ∙ ap (makes 5) (sym same) in
      let beside : Near last (advanced to) new new.counts 5 = record { run = moved.run; open_now = open_now; shows = elsewhere_shows parts new to to.npc (following to.npc) to.annulled to.exit shows; counted = counts } in
      let next : At last (advanced to) new 5 = record { beside = beside; runs = runs; npc = refl } in
      let paid = pays 1 way last weighs (within last (advanced to) new new.counts 5 beside) in
      more program n status Good (1 + (length rest + 1 + left last)) (length (stmt ∷ rest) + 1 + (left way - pay)) label at w (omega (arith, paid))
      (after_all program n status Good (length rest + 1 + left last) label at (stmt ∷ []) rest end w new point done
      (λ place stands. goes f (following a) 5 true rest end slot makes_rest has last (advanced to) new label place (npc ∙ h.npc ∙ ap following here) next stands (omega (arith, few, weighs))))

  gets_counts : (xs : List ℕ) (w : World) → (gets 8 xs w).counts ≡ w.counts
  gets_counts [] w = refl
  gets_counts (x ∷ xs) w = refl

  -- of what gets and puts leave of a state
  gets_keep : (xs : List ℕ) (s : State) → ((flat_gets xs s).exit ≡ s.exit) × ((flat_gets xs s).annulled ≡ s.annulled) × ((flat_gets xs s).npc ≡ s.npc)
  gets_keep [] s = (refl, refl, refl)
  gets_keep (x ∷ xs) s = (refl, refl, refl)

  pub gets_case : (fuel : ℕ) → GoesOn fuel → (f a : ℕ) (t : Trap) (rest : List Stmt) (end : BlockEnd) (slot : Option DetachedSlot) →
      AsksFor parts a (TrapOnCondition t) → service_of t ≡ Some 1 → Makes parts made_of.labels f true (following a) 5 rest end slot → HasDetached program slot
      → (way : List Place) (s : State) (w : World) (label at : ℕ) → s.pc ≡ a → At way s w 0 → Point label at (Get 8 ∷ rest) end → budget parts < weight parts way + suc fuel
      → Ends (length (Get 8 ∷ rest) + 1 + (left way - pay)) label at w
  gets_case fuel goes f a t rest end slot asks service makes_rest has way s w label at here h point few =
      let kept = gets_keep s.input s in
      served_case fuel goes f a 1 t (Get 8) rest end slot asks (ap weight_of_service service) makes_rest has way s (flat_gets s.input s) w (gets 8 w.input w) label at here h point few
      (λ next e. (service_goes parts (fresh_words w) s next t 1 service e).1)
      (kept.0 ∙ h.beside.open_now) (kept.1 ∙ h.runs) kept.2 (gets_shows parts w s h.beside.shows) (gets_counts w.input w) refl

  put_number : (o : Option ℕ) (k : ℕ) → is_put o ≡ true → o ≡ Some k → (j : ℕ) × (o ≡ Some (suc (suc j)))
  put_number None k h e = absurd (cc)
  put_number (Some zero) k h e = absurd (cc)
  put_number (Some (suc zero)) k h e = absurd (cc)
  put_number (Some (suc (suc j))) k h e = (j, refl)

  pub puts_case : (fuel : ℕ) → GoesOn fuel → (f a : ℕ) (t : Trap) (rest : List Stmt) (end : BlockEnd) (slot : Option DetachedSlot) →
      AsksFor parts a (TrapOnCondition t) → is_put (service_of t) ≡ true → Makes parts made_of.labels f true (following a) 5 rest end slot → HasDetached program slot
      → (way : List Place) (s : State) (w : World) (label at : ℕ) → s.pc ≡ a → At way s w 0 → Point label at (Put (Variable 8) ∷ rest) end → budget parts < weight parts way + suc fuel
      → Ends (length (Put (Variable 8) ∷ rest) + 1 + (left way - pay)) label at w
  puts_case fuel goes f a t rest end slot asks service makes_rest has way s w label at here h point few =
      let asks_here = subst (λ x. AsksFor parts x (TrapOnCondition t)) (sym here) asks in
      let on = a_step parts formed checked input output bytes status path behaves n way s w w.counts 0 (TrapOnCondition t) h.beside h.runs asks_here in
      let some = some_service parts (fresh_words w) s on.0 t on.1 in
      let two = put_number (service_of t) some.0 service some.1 in
      served_case fuel goes f a (suc (suc two.0)) t (Put (Variable 8)) rest end slot asks (ap weight_of_service two.1) makes_rest has way s (flat_puts s) w (puts (slice_index w.variables 8) w) label at here h point few
      (λ next e. (service_goes parts (fresh_words w) s next t (suc (suc two.0)) two.1 e).1)
      h.beside.open_now h.runs refl (puts_shows parts w s h.beside.shows) refl refl

  pub exits_case : (f a turns : ℕ) (t : Trap) → AsksFor parts a (TrapOnCondition t) → service_of t ≡ Some 0
      → (way : List Place) (s : State) (w : World) (label at : ℕ) → s.pc ≡ a → At way s w turns → Point label at (Turns (turns + 3) ∷ []) (Exit (Variable 8)) → Ends 2 label at w
  exits_case f a turns t asks service way s w label at here h point =
      let asks_here = subst (λ x. AsksFor parts x (TrapOnCondition t)) (sym here) asks in
      let to : State = advanced (served 0 s) in
      let moved = moves parts formed checked input output bytes status path behaves n way s w w.counts turns (TrapOnCondition t) to h.beside h.runs asks_here
      (λ next e. (service_goes parts (fresh_words w) s next t 0 service e).1) in
      let answer = behaves.one_answer (onward way s) to (reg s 8) moved.run refl in
      let new = counted (turns + 3) w in
      let counts : new.counts ≡ traffic parts n path =
      sym (makes_more turns 3 w.counts) ∙ sym (ap (λ (x : ℕ). makes x (makes turns w.counts)) (ap weight_of_service service))
      ∙ sym (counts_word parts formed checked input output bytes status path behaves n way s w w.counts turns (TrapOnCondition t) h.beside h.runs asks_here)
      ∙ ap (traffic parts n) answer.2 in
      after_one program n status Good 1 label at (Turns (turns + 3)) [] (Exit (Variable 8)) w new point refl
      (λ place stands. after_exit program n status Good label place (Variable 8) new stands
      (register_is parts w s 8 (omega arith) h.beside.shows ∙ answer.1)
      (h.beside.shows.output ∙ answer.0, counts))

  -- ---- behind a delay slot

  -- where the program has counted all turns
  entered : (fuel : ℕ) → Enters fuel → (way last : List Place) (s next : State) (w new : World) (counts : Traffic) (turns : ℕ)
      → Before parts formed checked input output bytes status path behaves n last next new counts turns → new.counts ≡ makes turns counts
      → Begins parts next.pc → weight parts way + 1 ≤ weight parts last → budget parts < weight parts way + suc fuel
      → (a : ℕ) → next.pc ≡ a → Ends (left last) (label_at a) 0 new
  entered fuel enters way last s next w new counts turns h same begins weighs few a at =
      let b = h.beside in
      let there : At last next new 0 = record {
        beside = record { run = b.run; open_now = b.open_now; shows = b.shows; counted = b.counted ∙ sym same ∙ sym (makes_none new.counts) };
        runs = h.runs;
        npc = h.npc;
      } in
      subst (λ x. Ends (left last) (label_at x) 0 new) at (enters last next new there begins (omega (arith, few, weighs)))

  -- the same of a world whose turns are counted by one statement more
  counted_before : (last : List Place) (next : State) (new : World) (counts : Traffic) (turns k : ℕ) → Before parts formed checked input output bytes status path behaves n last next new counts turns
      → Before parts formed checked input output bytes status path behaves n last next (counted k new) counts turns
  counted_before last next new counts turns k h = record {
    beside = record { run = h.beside.run; open_now = h.beside.open_now; shows = counted_shows parts new next (makes k new.counts) h.beside.shows; counted = h.beside.counted };
    runs = h.runs;
    npc = h.npc;
  }

  -- the slot's statements, and the turns
  slot_then : (way : List Place) (s : State) (w : World) (counts : Traffic) (turns allowed : ℕ) (made : List Stmt) (slot : Traffic → Traffic) (end : BlockEnd) (label at : ℕ)
      → (h : After way s w counts turns made slot) → Point label at (made ++ Turns turns ∷ []) end
      → ((to : ℕ) → Point label to [] end → Ends allowed label to (counted turns h.new)) → Ends (length made + suc allowed) label at w
  slot_then way s w counts turns allowed made slot end label at h point goes =
      after_all program n status Good (suc allowed) label at made (Turns turns ∷ []) end w h.new point h.done
      (λ to stands. after_one program n status Good allowed label to (Turns turns) [] end h.new (counted turns h.new) stands refl goes)

  -- on from there
  slot_enters : (fuel : ℕ) → Enters fuel → (way now : List Place) (s : State) (w : World) (counts : Traffic) (turns : ℕ) (made : List Stmt) (slot : Traffic → Traffic)
      → (h : After now s w counts turns made slot) → w.counts ≡ counts → weight parts way + 1 ≤ weight parts now → budget parts < weight parts way + suc fuel
      → (a : ℕ) → s.npc ≡ a → Ends (left h.last) (label_at a) 0 (counted turns h.new)
  slot_enters fuel enters way now s w counts turns made slot h same weighs few a at =
      let before = counted_before h.last h.next h.new (slot counts) turns turns h.before in
      let more_weight = h.weighs in
      entered fuel enters way h.last s h.next w (counted turns h.new) (slot counts) turns before (ap (makes turns) (h.counts_are ∙ ap slot same)) h.begins (omega (arith, weighs, more_weight)) few a (h.pc ∙ at)

  slot_pays : (way now : List Place) (s : State) (w : World) (counts : Traffic) (turns : ℕ) (made : List Stmt) (slot : Traffic → Traffic) (h : After now s w counts turns made slot)
      → weight parts way + 1 ≤ weight parts now → left h.last + pay * 2 ≤ left way
  slot_pays way now s w counts turns made slot h weighs =
      let more_weight = h.weighs in
      pays 2 way h.last (omega (arith, weighs, more_weight)) (within h.last h.next h.new (slot counts) turns h.before.beside)

  -- ---- branches

  with_turns : (way : List Place) (s : State) (w : World) (counts : Traffic) (a b : ℕ) (made : List Stmt) (slot : Traffic → Traffic) → a ≡ b → After way s w counts a made slot → After way s w counts b made slot
  with_turns way s w counts a b made slot e h = subst (λ x. After way s w counts x made slot) e h

  admitted_is : (b : Branch) → is_admitted (BranchOnCondition b) ≡ true → is_never b.cond ≡ false
  unfolding is_admitted
  admitted_is b h = undone (is_never b.cond) h
    where
      undone : (x : Bool) → not x ≡ true → x ≡ false
      undone false h = refl
      undone true h = absurd (cc)

  -- a branch, from a world that shows its state
  module _ (way : List Place) (s : State) (w : World) (turns : ℕ) (b : Branch) (h : At way s w turns) (asks : AsksFor parts s.pc (BranchOnCondition b)) where
    branched_to : Moved parts formed checked input output bytes status path behaves n way s (branches b s)
    branched_to =
        moves parts formed checked input output bytes status path behaves n way s w w.counts turns (BranchOnCondition b) (branches b s) h.beside h.runs asks
        (λ next e. branch_goes parts (fresh_words w) s next b e)

    -- the same state in another world, where a variable is set or turns are counted
    near_slot : (v : World) → ShowsState parts v s → Near (onward way s) (branches b s) v w.counts (turns + 1)
    near_slot v shows = record {
      run = branched_to.run;
      open_now = h.beside.open_now;
      shows = elsewhere_shows parts v s s.npc (branched b s) (annuls b s.icc) s.exit shows;
      counted = counts_word parts formed checked input output bytes status path behaves n way s w w.counts turns (BranchOnCondition b) h.beside h.runs asks ∙ makes_more turns 1 w.counts;
    }

    in_slot : InSlot parts formed checked (branches b s) (BranchOnCondition b)
    in_slot =
        slot_of parts formed checked s (branches b s) (BranchOnCondition b)
        (spot_at parts formed checked input output bytes status path behaves n way s w w.counts turns h.beside)
        (spot_at parts formed checked input output bytes status path behaves n (onward way s) (branches b s) w w.counts (turns + 1) (near_slot w h.beside.shows)) asks refl h.npc

    slot_asked : (slot : Operation) → HasSlot parts s.pc slot → AsksFor parts (branches b s).pc slot
    slot_asked slot has = slot_asks parts formed checked input output bytes status path behaves n (branches b s) s.pc slot in_slot.spot h.npc has

    one_turn_slot : (slot : Operation) → HasSlot parts s.pc slot → turns_of slot ≡ 1
    one_turn_slot slot has = slot_one_turn parts formed checked (branches b s) (BranchOnCondition b) slot in_slot refl refl (slot_asked slot has)

    run_slot : (v : World) (slot : Operation) (made : List Stmt) → ShowsState parts v s → annuls b s.icc ≡ false → HasSlot parts s.pc slot → IsMadeSlot slot made
        → After (onward way s) (branches b s) v w.counts (turns + 2) made (counts_after n slot)
    run_slot v slot made shows runs has is =
        let one = one_turn_slot slot has in
        with_turns (onward way s) (branches b s) v w.counts (turns + 1 + turns_of slot) (turns + 2) made (counts_after n slot) (omega (arith, one))
        (made_slot parts formed checked input output bytes status path behaves n (onward way s) (branches b s) v w.counts (turns + 1) (BranchOnCondition b) slot made (near_slot v shows) runs in_slot refl
        (slot_asked slot has) is)

    pass_slot : (v : World) → ShowsState parts v s → annuls b s.icc ≡ true → After (onward way s) (branches b s) v w.counts (turns + 2) [] same_counts
    pass_slot v shows annulled =
        with_turns (onward way s) (branches b s) v w.counts (turns + 1 + 1) (turns + 2) [] same_counts (omega arith)
        (annulled_slot parts formed checked input output bytes status path behaves n (onward way s) (branches b s) v w.counts (turns + 1) (BranchOnCondition b) (near_slot v shows) annulled in_slot refl)

    never_not : is_never b.cond ≡ true → ⊥
    never_not never =
        let on = a_step parts formed checked input output bytes status path behaves n way s w w.counts turns (BranchOnCondition b) h.beside h.runs asks in
        let no = admitted_is b (admitted_goes parts (fresh_words w) s on.0 (BranchOnCondition b) on.1).0 in
        cc

    taken_goes : holds b.cond s.icc ≡ true → branched b s ≡ target s.pc b.displacement
    taken_goes e = ap (λ (x : Bool). if x then target s.pc b.displacement else following s.npc) e

    untaken_goes : holds b.cond s.icc ≡ false → branched b s ≡ behind s.pc
    untaken_goes e = ap (λ (x : Bool). if x then target s.pc b.displacement else following s.npc) e ∙ (let at = h.npc in omega (arith, at))

  -- ---- blocks that transfers end

  nothing_behind : {A : Type 0} (xs : List A) → xs ++ [] ≡ xs
  nothing_behind [] = refl
  nothing_behind (x ∷ xs) = ap (λ ys. x ∷ ys) (nothing_behind xs)

  one_behind : (made : List Stmt) (s : Stmt) → length (made ++ s ∷ []) ≡ length made + 1
  one_behind made s = length-append made (s ∷ [])

  -- the slot, the turns and on
  goto_case : (fuel : ℕ) → Enters fuel → (way now : List Place) (s : State) (w : World) (counts : Traffic) (turns : ℕ) (made : List Stmt) (slot : Traffic → Traffic) (label at a : ℕ)
      → (h : After now s w counts turns made slot) → w.counts ≡ counts → weight parts way + 1 ≤ weight parts now → budget parts < weight parts way + suc fuel
      → s.npc ≡ a → Point label at (made ++ Turns turns ∷ []) (Goto (label_at a)) → Ends (length made + 2 + (left way - pay)) label at w
  goto_case fuel enters way now s w counts turns made slot label at a h same weighs few on point =
      let paid = slot_pays way now s w counts turns made slot h weighs in
      more program n status Good (length made + suc (suc (left h.last))) (length made + 2 + (left way - pay)) label at w (omega (arith, paid))
      (slot_then now s w counts turns (suc (left h.last)) made slot (Goto (label_at a)) label at h point
      (λ to stands. after_goto program n status Good (left h.last) label to (label_at a) (counted turns h.new) stands
      (slot_enters fuel enters way now s w counts turns made slot h same weighs few a on)))

  as_rest : (made : List Stmt) (s : Stmt) (allowed label at : ℕ) (w : World) → Ends (length made + 2 + allowed) label at w → Ends (length (made ++ s ∷ []) + 1 + allowed) label at w
  as_rest made s allowed label at w h =
      let one = one_behind made s in
      more program n status Good (length made + 2 + allowed) (length (made ++ s ∷ []) + 1 + allowed) label at w (omega (arith, one)) h

  pub jumps_case : (fuel : ℕ) → Enters fuel → (a turns : ℕ) (b : Branch) (slot : Operation) (made : List Stmt) → AsksFor parts a (BranchOnCondition b) → is_always b.cond ≡ true → HasSlot parts a slot
      → IsMadeUnless b.annul slot made → (way : List Place) (s : State) (w : World) (label at : ℕ) → s.pc ≡ a → At way s w turns
      → Point label at (made ++ Turns (turns + 2) ∷ []) (Goto (label_at (target a b.displacement))) → budget parts < weight parts way + suc fuel
      → Ends (length (made ++ Turns (turns + 2) ∷ []) + 1 + (left way - pay)) label at w
  jumps_case fuel enters a turns b slot made asks always has is way s w label at here h point few =
      as_rest made (Turns (turns + 2)) (left way - pay) label at w (by_annul b.annul refl is)
    where
      asks_here : AsksFor parts s.pc (BranchOnCondition b)
      asks_here = subst (λ x. AsksFor parts x (BranchOnCondition b)) (sym here) asks

      has_here : HasSlot parts s.pc slot
      has_here = subst (λ x. HasSlot parts x slot) (sym here) has

      weighs : weight parts way + 1 ≤ weight parts (onward way s)
      weighs = (branched_to way s w turns b h asks_here).weighs

      on : branched b s ≡ target a b.displacement
      on = taken_goes way s w turns b h asks_here (always_holds b.cond s.icc always) ∙ ap (λ x. target x b.displacement) here

      runs : (x : Bool) → b.annul ≡ false → annuls b s.icc ≡ false
      runs x e = ap (λ (y : Bool). y && (is_always b.cond || not (holds b.cond s.icc))) e

      passes : b.annul ≡ true → annuls b s.icc ≡ true
      passes e = ap (λ (y : Bool). y && (is_always b.cond || not (holds b.cond s.icc))) e ∙ ap (λ (y : Bool). y || not (holds b.cond s.icc)) always

      by_annul : (x : Bool) → b.annul ≡ x → IsMadeUnless x slot made → Ends (length made + 2 + (left way - pay)) label at w
      by_annul true e none =
          goto_case fuel enters way (onward way s) (branches b s) w w.counts (turns + 2) made same_counts label at (target a b.displacement)
          (subst (λ xs. After (onward way s) (branches b s) w w.counts (turns + 2) xs same_counts) (sym none) (pass_slot way s w turns b h asks_here w h.beside.shows (passes e)))
          refl weighs few on point
      by_annul false e of =
          goto_case fuel enters way (onward way s) (branches b s) w w.counts (turns + 2) made (counts_after n slot) label at (target a b.displacement)
          (run_slot way s w turns b h asks_here w slot made h.beside.shows (runs true e) has_here of)
          refl weighs few on point

  pub passes_case : (a turns : ℕ) (b : Branch) → AsksFor parts a (BranchOnCondition b) → is_never b.cond ≡ true → (way : List Place) (s : State) (w : World) → s.pc ≡ a → At way s w turns → ⊥
  passes_case a turns b asks never way s w here h = never_not way s w turns b h (subst (λ x. AsksFor parts x (BranchOnCondition b)) (sym here) asks) never

  undecided : (cond : Cond) → is_decided cond ≡ false → is_always cond ≡ false
  undecided cond h = first (is_always cond) (is_never cond) h
    where
      first : (x y : Bool) → (x || y) ≡ false → x ≡ false
      first false y h = refl
      first true y h = absurd (cc)

  pub asks_case : (fuel : ℕ) → Enters fuel → (a turns : ℕ) (b : Branch) (slot : Operation) (made : List Stmt) (asked : Expr) → AsksFor parts a (BranchOnCondition b) → b.annul ≡ false
      → IsCondition b.cond asked → HasSlot parts a slot → IsMadeSlot slot made → (way : List Place) (s : State) (w : World) (label at : ℕ) → s.pc ≡ a → At way s w turns
      → Point label at (Set 43 asked ∷ made ++ Turns (turns + 2) ∷ []) (If (Variable 43) (label_at (target a b.displacement)) (label_at (behind a))) → budget parts < weight parts way + suc fuel
      → Ends (length (Set 43 asked ∷ made ++ Turns (turns + 2) ∷ []) + 1 + (left way - pay)) label at w
  asks_case fuel enters a turns b slot made asked asks annul condition has is way s w label at here h point few =
      let paid = slot_pays way (onward way s) (branches b s) v w.counts (turns + 2) made (counts_after n slot) behind_it weighs in
      let one = one_behind made (Turns (turns + 2)) in
      more program n status Good (suc (length made + suc (suc (left behind_it.last)))) (length (Set 43 asked ∷ made ++ Turns (turns + 2) ∷ []) + 1 + (left way - pay)) label at w (omega (arith, paid, one))
      (after_one program n status Good (length made + suc (suc (left behind_it.last))) label at (Set 43 asked) (made ++ Turns (turns + 2) ∷ []) end w v point refl
      (λ to stands. slot_then (onward way s) (branches b s) v w.counts (turns + 2) (suc (left behind_it.last)) made (counts_after n slot) end label to behind_it stands
      (λ place rest. by_test (holds b.cond s.icc) refl place rest)))
    where
      end : BlockEnd
      end = If (Variable 43) (label_at (target a b.displacement)) (label_at (behind a))

      v : World
      v = sets 43 (value w.variables asked) w

      asks_here : AsksFor parts s.pc (BranchOnCondition b)
      asks_here = subst (λ x. AsksFor parts x (BranchOnCondition b)) (sym here) asks

      has_here : HasSlot parts s.pc slot
      has_here = subst (λ x. HasSlot parts x slot) (sym here) has

      weighs : weight parts way + 1 ≤ weight parts (onward way s)
      weighs = (branched_to way s w turns b h asks_here).weighs

      runs : annuls b s.icc ≡ false
      runs = ap (λ (y : Bool). y && (is_always b.cond || not (holds b.cond s.icc))) annul

      behind_it : After (onward way s) (branches b s) v w.counts (turns + 2) made (counts_after n slot)
      behind_it = run_slot way s w turns b h asks_here v slot made (scratch_shows parts w s 43 (value w.variables asked) (omega arith) h.beside.shows) runs has_here is

      taken_is : (slice_index behind_it.new.variables 43 == 0) ≡ not (holds b.cond s.icc)
      taken_is =
          ap (λ (x : ℕ). x == 0) (behind_it.kept 43 (omega arith) (omega arith) ∙ scratch_is parts w s 43 (value w.variables asked) (omega arith) h.beside.shows)
          ∙ condition w.variables s.icc h.beside.shows.icc

      enters_at : (to : ℕ) → branched b s ≡ to → Ends (left behind_it.last) (label_at to) 0 (counted (turns + 2) behind_it.new)
      enters_at to on = slot_enters fuel enters way (onward way s) (branches b s) v w.counts (turns + 2) made (counts_after n slot) behind_it refl weighs few to on

      by_test : (x : Bool) → holds b.cond s.icc ≡ x → (to : ℕ) → Point label to [] end → Ends (suc (left behind_it.last)) label to (counted (turns + 2) behind_it.new)
      by_test true e to stands =
          after_if program n status Good (left behind_it.last) label to (label_at (target a b.displacement)) (label_at (behind a)) (Variable 43) (counted (turns + 2) behind_it.new) stands
          (taken_is ∙ ap not e) (enters_at (target a b.displacement) (taken_goes way s w turns b h asks_here e ∙ ap (λ x. target x b.displacement) here))
      by_test false e to stands =
          after_if_not program n status Good (left behind_it.last) label to (label_at (target a b.displacement)) (label_at (behind a)) (Variable 43) (counted (turns + 2) behind_it.new) stands
          (taken_is ∙ ap not e) (enters_at (behind a) (untaken_goes way s w turns b h asks_here e ∙ ap behind here))

  pub detaches_case : (fuel : ℕ) → Enters fuel → ((label : ℕ) (made : List Stmt) (end : BlockEnd) → HasBlock program label made end → length made ≤ most)
      → (a turns other : ℕ) (b : Branch) (slot : Operation) (made : List Stmt) (asked : Expr) → AsksFor parts a (BranchOnCondition b) → is_decided b.cond ≡ false → b.annul ≡ true
      → IsCondition b.cond asked → HasSlot parts a slot → IsMadeSlot slot made → HasBlock program other made (Goto (label_at (target a b.displacement)))
      → (way : List Place) (s : State) (w : World) (label at : ℕ) → s.pc ≡ a → At way s w turns
      → Point label at (Turns (turns + 2) ∷ []) (If asked other (label_at (behind a))) → budget parts < weight parts way + suc fuel
      → Ends (length (Turns (turns + 2) ∷ []) + 1 + (left way - pay)) label at w
  detaches_case fuel enters shorter a turns other b slot made asked asks open_still annul condition has is block way s w label at here h point few =
      more program n status Good (suc (1 + (left way - pay))) (length (Turns (turns + 2) ∷ []) + 1 + (left way - pay)) label at w (omega arith)
      (after_one program n status Good (1 + (left way - pay)) label at (Turns (turns + 2)) [] end w v point refl (λ to stands. by_test (holds b.cond s.icc) refl to stands))
    where
      end : BlockEnd
      end = If asked other (label_at (behind a))

      v : World
      v = counted (turns + 2) w

      asks_here : AsksFor parts s.pc (BranchOnCondition b)
      asks_here = subst (λ x. AsksFor parts x (BranchOnCondition b)) (sym here) asks

      has_here : HasSlot parts s.pc slot
      has_here = subst (λ x. HasSlot parts x slot) (sym here) has

      weighs : weight parts way + 1 ≤ weight parts (onward way s)
      weighs = (branched_to way s w turns b h asks_here).weighs

      shows_v : ShowsState parts v s
      shows_v = counted_shows parts w s (makes (turns + 2) w.counts) h.beside.shows

      same_world : (x y : World) → Some x ≡ Some y → y ≡ x
      same_world x y e = cc

      -- annulled
      passed : annuls b s.icc ≡ true → branched b s ≡ behind a → (to : ℕ) → Point label to [] end → (value v.variables asked == 0) ≡ true → Ends (1 + (left way - pay)) label to v
      passed annulled on to stands none =
          (let pass = pass_slot way s w turns b h asks_here w h.beside.shows annulled in
          let paid = slot_pays way (onward way s) (branches b s) w w.counts (turns + 2) [] same_counts pass weighs in
          let there = slot_enters fuel enters way (onward way s) (branches b s) w w.counts (turns + 2) [] same_counts pass refl weighs few (behind a) on in
          let there_v : Ends (left pass.last) (label_at (behind a)) 0 v = subst (λ (x : World). Ends (left pass.last) (label_at (behind a)) 0 (counted (turns + 2) x)) (same_world w pass.new pass.done) there in
          more program n status Good (suc (left pass.last)) (1 + (left way - pay)) label to v (omega (arith, paid))
          (after_if_not program n status Good (left pass.last) label to other (label_at (behind a)) asked v stands none there_v))

      -- made in its own block
      made_there : annuls b s.icc ≡ false → branched b s ≡ target a b.displacement → (to : ℕ) → Point label to [] end → (value v.variables asked == 0) ≡ false → Ends (1 + (left way - pay)) label to v
      made_there runs on to stands some =
          (let it = run_slot way s w turns b h asks_here v slot made shows_v runs has_here is in
          let paid = slot_pays way (onward way s) (branches b s) v w.counts (turns + 2) made (counts_after n slot) it weighs in
          let same = one_more_turn n slot (makes (turns + 2) w.counts) (one_turn_slot way s w turns b h asks_here slot has_here) in
          let also = one_more_turn n slot w.counts (one_turn_slot way s w turns b h asks_here slot has_here) in
          let heavier = it.weighs in
          let counts : it.new.counts ≡ makes (turns + 2) (counts_after n slot w.counts) = it.counts_are ∙ same ∙ ap (makes (turns + 2)) (sym also) in
          let there : Ends (left it.last) (label_at (target a b.displacement)) 0 it.new =
          entered fuel enters way it.last s it.next v it.new (counts_after n slot w.counts) (turns + 2) it.before counts it.begins (omega (arith, weighs, heavier)) few (target a b.displacement) (it.pc ∙ on) in
          let short = shorter other made (Goto (label_at (target a b.displacement))) block in
          let first : Point other 0 (made ++ []) (Goto (label_at (target a b.displacement))) =
          subst (λ xs. Point other 0 xs (Goto (label_at (target a b.displacement)))) (sym (nothing_behind made)) (at_first program n status Good other made (Goto (label_at (target a b.displacement))) block) in
          more program n status Good (suc (length made + suc (left it.last))) (1 + (left way - pay)) label to v (omega (arith, paid, short))
          (after_if program n status Good (length made + suc (left it.last)) label to other (label_at (behind a)) asked v stands some
          (after_all program n status Good (suc (left it.last)) other 0 made [] (Goto (label_at (target a b.displacement))) v it.new first it.done
          (λ place rest. after_goto program n status Good (left it.last) other place (label_at (target a b.displacement)) it.new rest there))))

      asked_is : (value v.variables asked == 0) ≡ not (holds b.cond s.icc)
      asked_is = condition w.variables s.icc h.beside.shows.icc

      by_test : (x : Bool) → holds b.cond s.icc ≡ x → (to : ℕ) → Point label to [] end → Ends (1 + (left way - pay)) label to v
      by_test true e to stands =
          made_there (ap (λ (y : Bool). y && (is_always b.cond || not (holds b.cond s.icc))) annul ∙ ap (λ (y : Bool). y || not (holds b.cond s.icc)) (undecided b.cond open_still) ∙ ap not e)
          (taken_goes way s w turns b h asks_here e ∙ ap (λ x. target x b.displacement) here) to stands (asked_is ∙ ap not e)
      by_test false e to stands =
          passed (ap (λ (y : Bool). y && (is_always b.cond || not (holds b.cond s.icc))) annul ∙ ap (λ (y : Bool). y || not (holds b.cond s.icc)) (undecided b.cond open_still) ∙ ap not e)
          (untaken_goes way s w turns b h asks_here e ∙ ap behind here) to stands (asked_is ∙ ap not e)

  -- ---- calls and returns

  pub calls_case : (fuel : ℕ) → Enters fuel → (a turns displacement : ℕ) (slot : Operation) (made : List Stmt) → AsksFor parts a (Call displacement) → HasSlot parts a slot → IsMadeSlot slot made
      → (way : List Place) (s : State) (w : World) (label at : ℕ) → s.pc ≡ a → At way s w turns
      → Point label at (Set 15 (Number a) ∷ made ++ Turns (turns + 2) ∷ []) (Goto (label_at (target a displacement))) → budget parts < weight parts way + suc fuel
      → Ends (length (Set 15 (Number a) ∷ made ++ Turns (turns + 2) ∷ []) + 1 + (left way - pay)) label at w
  calls_case fuel enters a turns displacement slot made asks has is way s w label at here h point few =
      let one = one_behind made (Turns (turns + 2)) in
      more program n status Good (suc (length made + 2 + (left way - pay))) (length (Set 15 (Number a) ∷ made ++ Turns (turns + 2) ∷ []) + 1 + (left way - pay)) label at w (omega (arith, one))
      (after_one program n status Good (length made + 2 + (left way - pay)) label at (Set 15 (Number a)) (made ++ Turns (turns + 2) ∷ []) (Goto (label_at (target a displacement))) w v point refl
      (λ to stands. goto_case fuel enters way (onward way s) called v w.counts (turns + 2) made (counts_after n slot) label to (target a displacement) behind_it refl moved.weighs few
      (ap (λ x. target x displacement) here) stands))
    where
      v : World
      v = sets 15 a w

      called : State
      called = transferred (target s.pc displacement) (with_reg 15 s.pc s)

      asks_here : AsksFor parts s.pc (Call displacement)
      asks_here = subst (λ x. AsksFor parts x (Call displacement)) (sym here) asks

      has_here : HasSlot parts s.pc slot
      has_here = subst (λ x. HasSlot parts x slot) (sym here) has

      moved : Moved parts formed checked input output bytes status path behaves n way s called
      moved = moves parts formed checked input output bytes status path behaves n way s w w.counts turns (Call displacement) called h.beside h.runs asks_here
          (λ next e. call_goes parts (fresh_words w) s next displacement e)

      shows : ShowsState parts v (with_reg 15 s.pc s)
      shows = subst (λ x. ShowsState parts (sets 15 x w) (with_reg 15 s.pc s)) here (register_shows parts w s 15 s.pc (omega arith) refl h.beside.shows)

      near : Near (onward way s) called v w.counts (turns + 1)
      near = record {
        run = moved.run;
        open_now = h.beside.open_now;
        shows = elsewhere_shows parts v (with_reg 15 s.pc s) s.npc (target s.pc displacement) s.annulled s.exit shows;
        counted = counts_word parts formed checked input output bytes status path behaves n way s w w.counts turns (Call displacement) h.beside h.runs asks_here ∙ makes_more turns 1 w.counts;
      }

      in_slot_of : InSlot parts formed checked called (Call displacement)
      in_slot_of =
          slot_of parts formed checked s called (Call displacement)
          (spot_at parts formed checked input output bytes status path behaves n way s w w.counts turns h.beside)
          (spot_at parts formed checked input output bytes status path behaves n (onward way s) called v w.counts (turns + 1) near) asks_here refl h.npc

      asked_there : AsksFor parts called.pc slot
      asked_there = slot_asks parts formed checked input output bytes status path behaves n called s.pc slot in_slot_of.spot h.npc has_here

      behind_it : After (onward way s) called v w.counts (turns + 2) made (counts_after n slot)
      behind_it =
          let one = slot_one_turn parts formed checked called (Call displacement) slot in_slot_of refl refl asked_there in
          with_turns (onward way s) called v w.counts (turns + 1 + turns_of slot) (turns + 2) made (counts_after n slot) (omega (arith, one))
          (made_slot parts formed checked input output bytes status path behaves n (onward way s) called v w.counts (turns + 1) (Call displacement) slot made near h.runs in_slot_of refl asked_there is)

  same_call : (r call : ℕ) → r < 2 ^ 32 → call < 2 ^ 32 - 8 → (r + 8) % 2 ^ 32 ≡ (call + 8) % 2 ^ 32 → r ≡ call
  same_call r call small low e = omega (arith, small, low, e)

  small_register : (way : List Place) (s : State) → FlatRun parts input way s → (r : ℕ) → reg s r < 2 ^ 32
  unfolding reg
  small_register way s run r = word_small s.registers r (well parts formed checked input output bytes status path behaves way s run).calls.words

  pub returns_case : (fuel : ℕ) → Enters fuel → (f a turns : ℕ) (jump : Three) (slot : Operation) (made : List Stmt) → AsksFor parts a (JumpAndLink jump) → LiesIn parts f a → HasSlot parts a slot
      → IsMadeSlot slot made → (way : List Place) (s : State) (w : World) (label at : ℕ) → s.pc ≡ a → At way s w turns
      → Point label at (Set 44 (Variable jump.rs1) ∷ made ++ Turns (turns + 1 + turns_of slot) ∷ []) (Goto (made_of.labels.returns f)) → budget parts < weight parts way + suc fuel
      → Ends (length (Set 44 (Variable jump.rs1) ∷ made ++ Turns (turns + 1 + turns_of slot) ∷ []) + 1 + (left way - pay)) label at w
  returns_case fuel enters f a turns jump slot made asks lies has is way s w label at here h point few =
      let one = one_behind made (Turns total) in
      let paid = slot_pays way (onward way s) jumped v w.counts total made (counts_after n slot) behind_it moved.weighs in
      more program n status Good (suc (length made + suc (suc (suc (left behind_it.last))))) (length (Set 44 (Variable jump.rs1) ∷ made ++ Turns total ∷ []) + 1 + (left way - pay)) label at w (omega (arith, one, paid))
      (after_one program n status Good (length made + suc (suc (suc (left behind_it.last)))) label at (Set 44 (Variable jump.rs1)) (made ++ Turns total ∷ []) (Goto (made_of.labels.returns f)) w v point refl
      (λ to stands. slot_then (onward way s) jumped v w.counts total (suc (suc (left behind_it.last))) made (counts_after n slot) (Goto (made_of.labels.returns f)) label to behind_it stands
      (λ place rest. after_goto program n status Good (suc (left behind_it.last)) label place (made_of.labels.returns f) (counted total behind_it.new) rest back)))
    where
      total : ℕ
      total = turns + 1 + turns_of slot

      v : World
      v = sets 44 (slice_index w.variables jump.rs1) w

      jumped : State
      jumped = transferred ((reg s jump.rs1 + 8) % 2 ^ 32) s

      asks_here : AsksFor parts s.pc (JumpAndLink jump)
      asks_here = subst (λ x. AsksFor parts x (JumpAndLink jump)) (sym here) asks

      has_here : HasSlot parts s.pc slot
      has_here = subst (λ x. HasSlot parts x slot) (sym here) has

      moved : Moved parts formed checked input output bytes status path behaves n way s jumped
      moved = moves parts formed checked input output bytes status path behaves n way s w w.counts turns (JumpAndLink jump) jumped h.beside h.runs asks_here
          (λ next e. jump_goes parts (fresh_words w) s next jump e)

      low : jump.rs1 < 32
      low = let on = a_step parts formed checked input output bytes status path behaves n way s w w.counts turns (JumpAndLink jump) h.beside h.runs asks_here in jump_low parts (fresh_words w) s on.0 jump on.1

      near : Near (onward way s) jumped v w.counts (turns + 1)
      near = record {
        run = moved.run;
        open_now = h.beside.open_now;
        shows = elsewhere_shows parts v s s.npc ((reg s jump.rs1 + 8) % 2 ^ 32) s.annulled s.exit (scratch_shows parts w s 44 (slice_index w.variables jump.rs1) (omega arith) h.beside.shows);
        counted = counts_word parts formed checked input output bytes status path behaves n way s w w.counts turns (JumpAndLink jump) h.beside h.runs asks_here ∙ makes_more turns 1 w.counts;
      }

      spot_here : Shown parts formed checked s
      spot_here = spot_at parts formed checked input output bytes status path behaves n way s w w.counts turns h.beside

      in_slot_of : InSlot parts formed checked jumped (JumpAndLink jump)
      in_slot_of =
          slot_of parts formed checked s jumped (JumpAndLink jump) spot_here
          (spot_at parts formed checked input output bytes status path behaves n (onward way s) jumped v w.counts (turns + 1) near) asks_here refl h.npc

      asked_there : AsksFor parts jumped.pc slot
      asked_there = slot_asks parts formed checked input output bytes status path behaves n jumped s.pc slot in_slot_of.spot h.npc has_here

      behind_it : After (onward way s) jumped v w.counts total made (counts_after n slot)
      behind_it = made_slot parts formed checked input output bytes status path behaves n (onward way s) jumped v w.counts (turns + 1) (JumpAndLink jump) slot made near h.runs in_slot_of refl asked_there is

      -- the call that it goes behind
      same_function : f ≡ in_slot_of.spot.spot.f
      same_function =
          function_at_spot parts formed checked f s spot_here (subst (λ x. LiesIn parts f x) (sym here) lies)
          ∙ sym (slot_function parts formed checked s jumped (JumpAndLink jump) spot_here in_slot_of.spot asks_here refl h.npc)

      to_call : ReturnsTo parts formed checked f jumped.npc
      to_call = subst (λ g. ReturnsTo parts formed checked g jumped.npc) (sym same_function) (returns_to parts formed checked jumped jump in_slot_of)

      held : reg s jump.rs1 ≡ to_call.call
      held = same_call (reg s jump.rs1) to_call.call (small_register way s h.beside.run jump.rs1) to_call.low to_call.npc_is

      variable_is : slice_index behind_it.new.variables 44 ≡ to_call.call
      variable_is =
          behind_it.kept 44 (omega arith) (omega arith)
          ∙ scratch_is parts w s 44 (slice_index w.variables jump.rs1) (omega arith) h.beside.shows
          ∙ register_is parts w s jump.rs1 low h.beside.shows ∙ held

      back : Ends (suc (left behind_it.last)) (made_of.labels.returns f) 0 (counted total behind_it.new)
      back =
          let at_returns = made_of.returns f to_call.function in
          let goes = slot_enters fuel enters way (onward way s) jumped v w.counts total made (counts_after n slot) behind_it refl moved.weighs few (behind to_call.call) to_call.npc_is in
          after_dispatch program n status Good (left behind_it.last) (made_of.labels.returns f) 0 44 (label_at (behind to_call.call)) at_returns.arms (counted total behind_it.new)
          (at_first program n status Good (made_of.labels.returns f) [] (Dispatch 44 at_returns.arms) at_returns.there)
          (ap (λ x. arm_of at_returns.arms.items x) variable_is ∙ at_returns.arm to_call.call to_call.displacement to_call.asks to_call.callee) goes
