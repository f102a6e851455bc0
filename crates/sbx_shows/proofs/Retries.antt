-- A window trap, the turns of its handler, and the same instruction again, as one step.
use Rattle.std.proofs.Common.{◌≡◌, ℕ, zero, suc, ◌+◌, ◌-◌, ◌/◌, ◌^◌, ◌<◌, ◌≤◌, ◌⊎◌, inl, inr, Bool, true, false, not, length, Option, Some, None, refl, sym, ap, ◌∙◌, subst, arith}
use Rattle.std.specs.Prelude.{◌==◌, ◌||◌}
use Rattle.std.proofs.lemmas.Bool.Decides.{nat_tests}
use Rattle.v8_core.specs.Admitted.{is_admitted}
use Rattle.v8_core.specs.Transfers.{bytes_in}
use Rattle.v8_core.specs.Operation.{Operation}
use Rattle.v8_core.specs.Operation.TheVariants.{Restore, Save}
use Rattle.v8_core.specs.Stop.{Stop}
use Rattle.v8_core.specs.MmuRegs.{MmuRegs}
use Rattle.v8_core.specs.declared.turn.DataAccess.{DataAccess}
use Rattle.v8_core.specs.declared.turn.Event.{Event}
use Rattle.v8_core.specs.declared.turn.Event.TheVariants.{Annulled, ErrorMode, Ran, Stopped, Trapped}
use Rattle.v8_core.specs.declared.turn.Turn.{Turn}
use Rattle.v8_core.specs.Accesses.{World, is_user}
use Rattle.v8_core.specs.Steps.{attempts, ends, goes_on, next, tries}
use Rattle.v8_loaded.specs.Board.{Device, board}
use Rattle.v8_loaded.specs.Turns.{IsHandlers, ReachesArea, world_after, turn_at}
use Rattle.v8_loaded.specs.Users.{AsksFor, IsHandled}
use Rattle.v8_routines.specs.Overflow.{stack_pointer}
use Rattle.v8_routines.specs.Underflow.{stack_pointer as filled_pointer}
use Rattle.v8_board.specs.declared.outcome.Counts.{Counts}
use Rattle.v8_board.specs.Counting.{counted, counts_after, with_turn}
use Rattle.v8_board.specs.Seen.{ending_of}
use Rattle.v8_board.specs.Start.{pages_of}
use Rattle.sbx_flat.specs.Parts.{Parts}
use Rattle.sbx_flat.specs.States.{State}
use Rattle.sbx_flat.specs.Traffic.{after_operation}
use Rattle.sbx_shows.specs.Advances.{Advances, IsMoment, counts_by, more, so_many}
use Rattle.sbx_flat.specs.Calls.{base, depth}
use Rattle.sbx_flat.specs.WellFormed.{IsStacked}
use Rattle.sbx_shows.specs.Steps.{OneTurn, Stands}
use Rattle.sbx_shows.specs.Turns.{IsOwnEvent, IsOwnTurn, ReachesCall, StandsAtMove, StaysBeside, moves_window}
use Rattle.sbx_shows.proofs.Advancing.{counted_is, counts_are, not_ended, one_own, one_ran, one_shows, step_of, traffic_of}
use Rattle.sbx_shows.proofs.Callers.{restore_turn, returns, save_turn}
use Rattle.sbx_shows.proofs.Own.{no_word, on_word, user_own}
use Rattle.sbx_shows.proofs.Places.{here, word}
use Rattle.sbx_shows.proofs.Traffics.{overflow_counts, underflow_counts}
use Rattle.sbx_shows.specs.Laws.{RestoresUnderflow, SavesOverflow}
use Rattle.sbx_shows.proofs.Overflow as spilling
use Rattle.sbx_shows.proofs.Underflow as filling

-- ---- a turn with such an event was made by a machine that had not ended

abbrev is_going : Event → Bool
is_going Ran = true
is_going Annulled = true
is_going (Trapped t) = true
is_going (ErrorMode t) = false
is_going (Stopped s) = false

going_by : (n : ℕ) (mmu : MmuRegs) (w : World n Device) (event : Event) → (next board n mmu w).0.event ≡ event → is_going event ≡ true → ending_of n w ≡ None
unfolding next
going_by n mmu w event told going = by_parts w.memory.device.stopped w.cpu.control.error refl refl
  where
    no_more : (e : Event) → e ≡ event → is_going e ≡ false → ⊥
    no_more e same ended = let bad : true ≡ false = sym going ∙ ap is_going (sym same) ∙ ended in cc

    by_parts : (o : Option Stop) (p : Option ℕ) → w.memory.device.stopped ≡ o → w.cpu.control.error ≡ p → ending_of n w ≡ None
    by_parts None None a b = not_ended n w a b
    by_parts (Some s) p a b = absurd (no_more (Stopped s) (sym (ap (λ o. (goes_on board n mmu w o w.cpu.control.error w.cpu.control.annul).0.event) a) ∙ told) refl)
    by_parts None (Some t) a b =
        absurd (no_more (ErrorMode t)
        (sym (ap (λ o. (goes_on board n mmu w o w.cpu.control.error w.cpu.control.annul).0.event) a
        ∙ ap (λ p. (goes_on board n mmu w None p w.cpu.control.annul).0.event) b) ∙ told) refl)

-- ---- a handler's turn

handlers_own : (n : ℕ) (parts : Parts) (mmu : MmuRegs) (pages : ℕ) (s : State) (k : ℕ) (store : Bool) (w : World n Device) → StandsAtMove parts s →
    IsStacked pages s.registers → k < depth s.registers →
    IsHandlers (base s.registers k) 64 store (next board n mmu w).0 → IsOwnTurn parts s (next board n mmu w).0
handlers_own n parts mmu pages s k store w at_move st less h =
    let t = (next board n mmu w).0 in
    record {
      trap = subst (IsOwnEvent parts) (sym h.event) tt;
      annulled = λ e. absurd (no_run (sym h.event ∙ e));
      within = on_word parts s t.word t.user t.pc t.access (no_word n mmu w)
          (subst (λ u. StaysBeside parts s u t.pc t.access) (sym h.system) (in_system t.pc h.page, inr (at_move, in_call t.access h.access)));
    }
  where
    in_system : (pc : ℕ) → (pc / 4096 ≡ 0xF0000) ⊎ (pc / 4096 ≡ 0xF0001) → ((pc / 4096 == 0xF0000) || (pc / 4096 == 0xF0001)) ≡ true
    in_system pc (inl e) = grind (arith, nat_tests, e)
    in_system pc (inr e) = grind (arith, nat_tests, e)

    no_run : Ran ≡ Annulled → ⊥
    no_run e = cc

    in_call : (o : Option DataAccess) → ReachesArea (base s.registers k) 64 store o → ReachesCall s.registers o
    in_call None a = tt
    in_call (Some access) (low, high, eight, double, kind) =
        let aligned = st.aligned k less in
        let top : access.va + 8 ≤ base s.registers k + 64 = omega arith in
        (k, less, low, subst (λ z. access.va + bytes_in z ≤ base s.registers k + 64) (sym double) top)

-- what is told of a turn's mode is the mode of the state before it
module _ (n : ℕ) (mmu : MmuRegs) (w : World n Device) where
  told_of : (o : Option Stop) (e : Option ℕ) (a : Bool) → (goes_on board n mmu w o e a).0.user ≡ is_user n w.cpu
  unfolding tries
  told_of (Some stop) e a = refl
  told_of None (Some t) a = refl
  told_of None None true = refl
  told_of None None false = let a = attempts board n mmu w in by_trap a.0 a.1.0.access a.1.0.trap a.1.1
    where
      by_trap : (fetched : Option ℕ) (access : Option DataAccess) (t : Option ℕ) (mid : World n Device) → (ends board n w fetched access t mid).0.user ≡ is_user n w.cpu
      by_trap fetched access None mid = refl
      by_trap fetched access (Some t) mid = refl

  told_mode : (next board n mmu w).0.user ≡ is_user n w.cpu
  unfolding next
  told_mode = told_of w.memory.device.stopped w.cpu.control.error w.cpu.control.annul

in_system_by : (b : Bool) → not b ≡ false → b ≡ true
in_system_by true e = refl
in_system_by false e = absurd (cc)

system_before : (n : ℕ) (mmu : MmuRegs) (w : World n Device) → (next board n mmu w).0.user ≡ false → w.cpu.control.s ≡ true
system_before n mmu w e = in_system_by w.cpu.control.s (sym (told_mode n mmu w) ∙ e)

-- ---- counts

overflow_counted : (c : Counts) → c.turns < 2 ^ 64 - 1 → c.overflows ≤ c.turns → counts_after (Trapped 5) c ≡ more c 1 1 0
overflow_counted c small few =
    counts_are (counted c.turns) (counted c.overflows) c.underflows (c.turns + 1) (c.overflows + 1) (c.underflows + 0) (counted_is c.turns small)
    (counted_is c.overflows (omega arith)) (omega arith)

underflow_counted : (c : Counts) → c.turns < 2 ^ 64 - 1 → c.underflows ≤ c.turns → counts_after (Trapped 6) c ≡ more c 1 0 1
underflow_counted c small few =
    counts_are (counted c.turns) c.overflows (counted c.underflows) (c.turns + 1) (c.overflows + 0) (c.underflows + 1) (counted_is c.turns small) (omega arith)
    (counted_is c.underflows (omega arith))

-- a trap, and turns that run
all_counts : (n : ℕ) (mmu : MmuRegs) (x : World n Device) (c : Counts) (t o u k : ℕ) → (turn_at board n mmu 0 x).event ≡ Trapped t →
    ((j : ℕ) → j < 24 → (turn_at board n mmu (suc j) x).event ≡ Ran) → counts_after (Trapped t) c ≡ more c 1 o u →
    k ≤ 24 → c.turns + suc k ≤ 2 ^ 64 - 1 → counts_by n mmu x (suc k) c ≡ more c (suc k) o u
all_counts n mmu x c t o u zero trap ran first less small = ap (λ e. counts_after e c) trap ∙ first
all_counts n mmu x c t o u (suc k) trap ran first less small =
    ap (λ e. counts_after e (counts_by n mmu x (suc k) c)) (ran k (omega arith))
    ∙ ap with_turn (all_counts n mmu x c t o u k trap ran first (omega arith) (omega arith))
    ∙ counts_are (counted (c.turns + suc k)) (c.overflows + o) (c.underflows + u) (c.turns + suc (suc k)) (c.overflows + o) (c.underflows + u)
    (counted_is (c.turns + suc k) (omega arith) ∙ omega arith) refl refl

-- ---- the trap, the 23 turns of its handler, and the instruction again

module _ (n : ℕ) (parts : Parts) (mmu : MmuRegs) (x : World n Device) (s : State) (r i : ℕ) (h : Stands n parts mmu x s r i) (op : Operation)
    (is : AsksFor parts.words i op) (admitted : is_admitted op ≡ true) (moves : moves_window op ≡ true)
    (t sp j : ℕ) (store : Bool) (handled : IsHandled n parts.words mmu x i t sp store) (own_trap : IsOwnEvent parts (Trapped t)) (open_call : j < depth s.registers) (at : sp ≡ base s.registers j)
    (mid windows : ℕ) (shown : Stands n parts mmu (world_after board n mmu 24 x) s mid i) (one : OneTurn n parts mmu (world_after board n mmu 24 x) s op windows) where
  turns : (k : ℕ) → k < 23 → IsHandlers (base s.registers j) 64 store (turn_at board n mmu (suc k) x)
  turns k less = subst (λ q. IsHandlers q 64 store (turn_at board n mmu (suc k) x)) at (handled.turns k less)

  pub first_event : (turn_at board n mmu 0 x).event ≡ Trapped t
  first_event = ap (λ (o : Turn). o.event) handled.trap

  later_event : (k : ℕ) → k < 24 → (turn_at board n mmu (suc k) x).event ≡ Ran
  later_event k less =
      let split : (k < 23) ⊎ (k ≡ 23) = search arith in
      elim split [
        | inl before ↦ (turns k before).event
        | inr last ↦ ap (λ q. (turn_at board n mmu (suc q) x).event) last ∙ one_ran n parts mmu (world_after board n mmu 24 x) s mid i shown op is admitted windows one
      ]

  all_going : (k : ℕ) → k < 25 → ending_of n (world_after board n mmu k x) ≡ None
  all_going zero less = going_by n mmu x (Trapped t) first_event refl
  all_going (suc k) less = going_by n mmu (world_after board n mmu (suc k) x) Ran (later_event k (omega arith)) refl

  at_move : StandsAtMove parts s
  at_move = (word n parts mmu x s r i h, here n parts mmu x s r i h, subst (λ o. moves_window o ≡ true) (sym is) moves)

  all_own : (k : ℕ) → k < 25 → IsOwnTurn parts s (turn_at board n mmu k x)
  all_own zero less =
      subst (IsOwnTurn parts s) (sym handled.trap)
      (user_own n parts s x.cpu (Trapped t) (word n parts mmu x s r i h) i None h.shows.control.user (h.shows.control.pc ∙ h.place) h.within own_trap
      (λ e. cc) tt)
  all_own (suc k) less =
      let split : (k < 23) ⊎ (k ≡ 23) = search arith in
      elim split [
        | inl before ↦ handlers_own n parts mmu (pages_of parts).stack_count s j store (world_after board n mmu (suc k) x) at_move h.shows.stacked open_call (turns k before)
        | inr last ↦ subst (λ q. IsOwnTurn parts s (turn_at board n mmu (suc q) x)) (sym last) (one_own n parts mmu (world_after board n mmu 24 x) s mid i shown op is admitted windows one)
      ]

  all_moments : (k : ℕ) → k < 25 → IsMoment n parts (world_after board n mmu k x) s
  all_moments zero less = inr (r, h.shows)
  all_moments (suc k) less =
      let split : (k < 23) ⊎ (k ≡ 23) = search arith in
      elim split [
        | inl before ↦ inl (system_before n mmu (world_after board n mmu (suc k) x) (turns k before).system)
        | inr last ↦ subst (λ q. IsMoment n parts (world_after board n mmu (suc q) x) s) (sym last) (inr (mid, shown.shows))
      ]

  pub retried_advances : (o u : ℕ) → ((c : Counts) → c.turns < 2 ^ 64 - 1 → c.overflows ≤ c.turns → c.underflows ≤ c.turns → counts_after (Trapped t) c ≡ more c 1 o u) →
      ((p q k : ℕ) → after_operation n op (so_many r p q k) ≡ so_many windows (p + o) (q + u) (k + 25)) → Advances n parts mmu x s r 25 o u windows
  retried_advances o u first traffic = record {
    next_state = one.next_state;
    step = step_of n parts mmu x s r i h op is admitted one.fresh one.next_state one.is_fresh one.goes;
    going = all_going;
    own = all_own;
    moments = all_moments;
    counts = λ c small a b. all_counts n mmu x c t o u 24 first_event later_event (first c (omega arith) a b) (omega arith) small;
    traffic = λ p q k. traffic_of n parts mmu x s r i h op is admitted (so_many r p q k) ∙ traffic p q k;
    ends = inl (one_shows n parts mmu (world_after board n mmu 24 x) s mid i shown op is admitted windows one);
  }

-- ---- SAVE and RESTORE

pub saves_overflow : SavesOverflow
unfolding is_admitted
saves_overflow n parts mmu x s r i f h is good full =
    let few = h.shows.file.few in
    let open_calls = h.shows.calls.open_calls in
    let handled = spilling.handled n parts mmu x s r i h f is full in
    let shown = spilling.overflow_shows n parts mmu x s r i h f is full in
    let pointer = spilling.pointer_is n parts mmu x s r i h f is full in
    let after_it : Stands n parts mmu (world_after board n mmu 24 x) s (r - 1) i = record { fits = h.fits; root = h.root; shows = shown; straight = h.straight; place = h.place; within = h.within } in
    let back : suc (r - 1) ≡ r = omega arith in
    let one = subst (λ q. OneTurn n parts mmu (world_after board n mmu 24 x) s (Save f) q) back (save_turn n parts mmu (world_after board n mmu 24 x) s (r - 1) i after_it f is good (omega arith)) in (
      first_event n parts mmu x s r i h (Save f) is refl refl 5 (stack_pointer n x.cpu) (r - 1) true handled.turns refl (omega arith) pointer (r - 1) r after_it one,
      shown,
      retried_advances n parts mmu x s r i h (Save f) is refl refl 5 (stack_pointer n x.cpu) (r - 1) true handled.turns refl (omega arith) pointer (r - 1) r after_it one 1 0
          (λ c small a b. overflow_counted c small a)
          (λ p q k. let e : q ≡ q + 0 = omega arith in overflow_counts n r p q k f full ∙ ap (λ z. so_many r (p + 1) z (k + 25)) e),
    )

pub restores_underflow : RestoresUnderflow
unfolding is_admitted
restores_underflow n parts mmu x s i f h is good =
    let few = h.shows.file.few in
    let back = returns n parts mmu x s 1 i h f is good in
    let deep : length s.registers.older ≡ suc (length back.older) = ap length back.is in
    let two : 2 ≤ depth s.registers = omega arith in
    let handled = filling.handled n parts mmu x s i h f is two in
    let shown = filling.underflow_shows n parts mmu x s i h f is two in
    let pointer = filling.pointer_is n parts mmu x s i h f is two in
    let after_it : Stands n parts mmu (world_after board n mmu 24 x) s 2 i = record { fits = h.fits; root = h.root; shows = shown; straight = h.straight; place = h.place; within = h.within } in
    let one = restore_turn n parts mmu (world_after board n mmu 24 x) s 2 i after_it f is good (omega arith) in (
      first_event n parts mmu x s 1 i h (Restore f) is refl refl 6 (filled_pointer n x.cpu) 1 false handled.turns refl two pointer 2 1 after_it one,
      shown,
      retried_advances n parts mmu x s 1 i h (Restore f) is refl refl 6 (filled_pointer n x.cpu) 1 false handled.turns refl two pointer 2 1 after_it one 0 1
          (λ c small a b. underflow_counted c small b)
          (λ p q k. let e : p ≡ p + 0 = omega arith in underflow_counts n p q k f ∙ ap (λ z. so_many 1 z (q + 1) (k + 25)) e),
    )
