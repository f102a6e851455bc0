-- One turn, and an annulled one, as a step with its counts and traffic.
use Rattle.std.proofs.Common.{◌≡◌, ℕ, ◌+◌, ◌-◌, ◌^◌, ◌<◌, inl, inr, Bool, true, false, Some, None, refl, sym, ap, ◌∙◌, subst, arith}
use Rattle.std.specs.Prelude.{◌==◌, if◌then◌else◌}
use Rattle.std.proofs.lemmas.Bool.Decides.{nat_tests}
use Rattle.v8_core.specs.Admitted.{is_admitted}
use Rattle.v8_core.specs.Operands.{following}
use Rattle.v8_core.specs.Operation.{Operation}
use Rattle.v8_core.specs.MmuRegs.{MmuRegs}
use Rattle.v8_core.specs.Effects.{advanced as board_advanced}
use Rattle.v8_core.specs.declared.turn.Event.TheVariants.{Annulled, Ran}
use Rattle.v8_core.specs.declared.turn.Turn.{Turn}
use Rattle.v8_core.specs.Accesses.{World}
use Rattle.v8_core.specs.Steps.{goes_on, next, skipped, turn_of}
use Rattle.v8_loaded.specs.Board.{Device, board}
use Rattle.v8_loaded.specs.Turns.{world_after, turn_at}
use Rattle.v8_loaded.specs.Users.{AsksFor}
use Rattle.v8_board.specs.declared.outcome.Counts.{Counts}
use Rattle.v8_board.specs.Counting.{counted, counts_after, with_turn}
use Rattle.v8_board.specs.Seen.{ending_by, ending_of, error_ending}
use Rattle.sbx_flat.specs.Parts.{Parts}
use Rattle.sbx_flat.specs.Effects.{does}
use Rattle.sbx_flat.specs.Registers.{Fresh, IsFresh, still}
use Rattle.sbx_flat.specs.Runs.{place_of, reached_by}
use Rattle.sbx_flat.specs.States.{Goes, State, advanced}
use Rattle.sbx_flat.specs.Traffic.{after_operation, after_place, after_word}
use Rattle.sbx_flat.specs.Turns.{Step, asked, turn, word_at, goes_on as flat_goes_on}
use Rattle.sbx_flat.specs.declared.path.Place.{Place}
use Rattle.sbx_flat.specs.declared.path.Traffic.{Traffic}
use Rattle.sbx_flat.proofs.Law.{still_is_fresh}
use Rattle.sbx_flat.proofs.Turns.{performs_admitted, place_at_word, turn_at as flat_turn_at}
use Rattle.sbx_shows.specs.Advances.{Advances, IsMoment, more, so_many}
use Rattle.sbx_shows.specs.Shows.{Shows}
use Rattle.sbx_shows.specs.Steps.{OneTurn, Stands}
use Rattle.sbx_shows.specs.Turns.{IsOwnTurn}
use Rattle.sbx_shows.proofs.Own.{user_own}
use Rattle.sbx_shows.proofs.Places.{here, word}
use Rattle.sbx_shows.proofs.Traffics.{at_word}
use Rattle.sbx_shows.proofs.Users.{control_shows, next_whole, next_word}

-- ---- counts

pub not_ended : (n : ℕ) (w : World n Device) → w.memory.device.stopped ≡ None → w.cpu.control.error ≡ None → ending_of n w ≡ None
unfolding ending_of
not_ended n w running sane = ap (λ s. ending_by s w.cpu.control.tt w.cpu.control.error) running ∙ ap error_ending sane

pub counted_is : (k : ℕ) → k < 2 ^ 64 - 1 → counted k ≡ k + 1
counted_is k less =
    let no : (k == 2 ^ 64 - 1) ≡ false = grind (arith, nat_tests) in
    ap (λ (b : Bool). if b then k else k + 1) no

pub counts_are : (a b c d e f : ℕ) → a ≡ d → b ≡ e → c ≡ f →
    (let x : Counts = record { turns = a; overflows = b; underflows = c } in let y : Counts = record { turns = d; overflows = e; underflows = f } in x ≡ y)
counts_are a b c d e f p q r = ap (λ t. record { turns = t; overflows = b; underflows = c }) p ∙ ap (λ t. record { turns = d; overflows = t; underflows = c }) q
    ∙ ap (λ t. record { turns = d; overflows = e; underflows = t }) r

pub turn_counts : (c : Counts) → c.turns < 2 ^ 64 - 1 → with_turn c ≡ more c 1 0 0
turn_counts c small = counts_are (counted c.turns) c.overflows c.underflows (c.turns + 1) (c.overflows + 0) (c.underflows + 0) (counted_is c.turns small) (omega arith) (omega arith)

-- the traffic of a step without a window trap
pub no_traps : (windows o u k : ℕ) → so_many windows o u k ≡ so_many windows (o + 0) (u + 0) k
no_traps windows o u k =
    let a : o ≡ o + 0 = omega arith in
    let b : u ≡ u + 0 = omega arith in
    ap (λ q. so_many windows q u k) a ∙ ap (λ q. so_many windows (o + 0) q k) b

-- ---- the flat step

module _ (n : ℕ) (parts : Parts) (mmu : MmuRegs) (x : World n Device) (s : State) (r i : ℕ) (h : Stands n parts mmu x s r i) (op : Operation)
    (is : AsksFor parts.words i op) (admitted : is_admitted op ≡ true) where
  pub step_of : (fresh : Fresh) (next_state : State) → IsFresh fresh → does parts fresh op s ≡ Goes next_state → Step parts s next_state
  step_of fresh next_state words goes = (
    fresh,
    words,
    flat_turn_at parts fresh s (word n parts mmu x s r i h) h.shows.going h.straight (here n parts mmu x s r i h)
        ∙ performs_admitted parts fresh (asked (word n parts mmu x s r i h)) s (subst (λ o. is_admitted o ≡ true) (sym is) admitted)
        ∙ ap (λ o. does parts fresh o s) is ∙ goes,
  )

  pub traffic_of : (t : Traffic) → after_place parts n (place_of parts s) t ≡ after_operation n op t
  traffic_of t =
      let w = word n parts mmu x s r i h in
      let p : Place = record { pc = s.pc; annulled = false; address = reached_by (asked w) s } in
      ap (λ p. after_place parts n p t) (place_at_word parts s w h.straight (here n parts mmu x s r i h))
      ∙ at_word parts n p w t refl (here n parts mmu x s r i h)
      ∙ ap (λ o. after_operation n o t) is

  -- one turn
  pub one_own : (to : ℕ) (one : OneTurn n parts mmu x s op to) → IsOwnTurn parts s (next board n mmu x).0
  one_own to one =
      let told : (next board n mmu x).0 ≡ turn_of n x.cpu Ran (Some one.word) one.access = ap (λ (p : Turn × World n Device). p.0) one.turn in
      subst (IsOwnTurn parts s) (sym told) (user_own n parts s x.cpu Ran one.word i one.access h.shows.control.user (h.shows.control.pc ∙ h.place) h.within tt (λ e. cc) one.reaches)

  pub one_ran : (to : ℕ) (one : OneTurn n parts mmu x s op to) → (next board n mmu x).0.event ≡ Ran
  one_ran to one = ap (λ (p : Turn × World n Device). p.0.event) one.turn

  pub one_shows : (to : ℕ) (one : OneTurn n parts mmu x s op to) → Shows n parts (next board n mmu x).1 one.next_state to
  one_shows to one = subst (λ (w : World n Device). Shows n parts w one.next_state to) (sym (ap (λ (p : Turn × World n Device). p.1) one.turn)) one.shows

  pub one_advances : (to : ℕ) → OneTurn n parts mmu x s op to → ((o u k : ℕ) → after_operation n op (so_many r o u k) ≡ so_many to o u (k + 1)) → Advances n parts mmu x s r 1 0 0 to
  one_advances to one traffic = record {
    next_state = one.next_state;
    step = step_of one.fresh one.next_state one.is_fresh one.goes;
    going = λ k less. let e : 0 ≡ k = omega arith in subst (λ q. ending_of n (world_after board n mmu q x) ≡ None) e (not_ended n x h.shows.device.running h.shows.control.sane);
    own = λ k less. let e : 0 ≡ k = omega arith in subst (λ q. IsOwnTurn parts s (turn_at board n mmu q x)) e (one_own to one);
    moments = λ k less. let e : 0 ≡ k = omega arith in subst (λ q. IsMoment n parts (world_after board n mmu q x) s) e (inr (r, h.shows));
    counts = λ c small a b. ap (λ e. counts_after e c) (one_ran to one) ∙ turn_counts c (omega arith);
    traffic = λ o u k. traffic_of (so_many r o u k) ∙ traffic o u k ∙ no_traps to o u (k + 1);
    ends = inl (one_shows to one);
  }

-- ---- an annulled instruction

annulled_step : (parts : Parts) (s : State) → s.exit ≡ None → s.annulled ≡ true → Step parts s (advanced (record s { annulled = false }))
unfolding turn
annulled_step parts s going annul = (still, still_is_fresh, ap (λ o. flat_goes_on parts still s o s.annulled) going ∙ ap (flat_goes_on parts still s None) annul)

pub annulled_turn : (n : ℕ) (mmu : MmuRegs) (x : World n Device) → x.memory.device.stopped ≡ None → x.cpu.control.error ≡ None → x.cpu.control.annul ≡ true →
    next board n mmu x ≡ (turn_of n x.cpu Annulled None None, record x { cpu = skipped n x.cpu })
unfolding next
annulled_turn n mmu x running sane annul =
    ap (λ o. goes_on board n mmu x o x.cpu.control.error x.cpu.control.annul) running ∙ ap (λ e. goes_on board n mmu x None e x.cpu.control.annul) sane ∙ ap (goes_on board n mmu x None None) annul

annulled_traffic : (parts : Parts) (n : ℕ) (s : State) (t : Traffic) → s.annulled ≡ true → after_place parts n (place_of parts s) t ≡ record t { turns = t.turns + 1 }
unfolding after_place place_of
annulled_traffic parts n s t annul = ap (λ (q : Bool). if q then record t { turns = t.turns + 1 } else after_word n (word_at parts.words s.pc) t) annul

pub annulled_advances : (n : ℕ) (parts : Parts) (mmu : MmuRegs) (x : World n Device) (s : State) (r : ℕ) → Shows n parts x s r → s.annulled ≡ true → Advances n parts mmu x s r 1 0 0 r
unfolding board_advanced
annulled_advances n parts mmu x s r h annul =
    let t = advanced (record s { annulled = false }) in
    let c = x.cpu.control in
    let a = h.control in
    let told = annulled_turn n mmu x h.device.running a.sane (a.annul ∙ annul) in
    let plain = turn_of n x.cpu Annulled None None in
    let turn_is : (next board n mmu x).0 ≡ plain = ap (λ (p : Turn × World n Device). p.0) told in
    let mine : IsOwnTurn parts s plain = record { trap = tt; annulled = λ e. annul; within = refl } in
    let shown = control_shows n parts x s r s.npc (following s.npc) false s.icc s.y (record (board_advanced c) { annul = false }) h
    (record {
      pc = a.npc;
      npc = ap following a.npc;
      npc_word = next_word c.npc;
      npc_whole = next_whole c.npc a.npc_whole;
      annul = refl;
      icc = a.icc;
      y =
          a.y;
      y_word = a.y_word;
      user = a.user;
      traps = a.traps;
      sane = a.sane;
      table = a.table;
    }) in
    record {
      next_state = t;
      step = annulled_step parts s h.going annul;
      going = λ k less. let e : 0 ≡ k = omega arith in subst (λ q. ending_of n (world_after board n mmu q x) ≡ None) e (not_ended n x h.device.running a.sane);
      own = λ k less. let e : 0 ≡ k = omega arith in subst (λ q. IsOwnTurn parts s (turn_at board n mmu q x)) e (subst (IsOwnTurn parts s) (sym turn_is) mine);
      moments = λ k less. let e : 0 ≡ k = omega arith in subst (λ q. IsMoment n parts (world_after board n mmu q x) s) e (inr (r, h));
      counts = λ k small d b. ap (λ (t : Turn). counts_after t.event k) turn_is ∙ turn_counts k (omega arith);
      traffic = λ o u k. annulled_traffic parts n s (so_many r o u k) annul ∙ no_traps r o u (k + 1);
      ends = inl (subst (λ (w : World n Device). Shows n parts w t r) (sym (ap (λ (p : Turn × World n Device). p.1) told)) shown);
    }
