-- How many turns a slice of a run had, as the board's count tells.
use Rattle.std.proofs.Common.{◌≡◌, ℕ, zero, suc, ◌+◌, ◌-◌, ◌^◌, ◌<◌, ◌≤◌, Bool, true, false, [], None, refl, ap, ◌∙◌, arith}
use Rattle.std.proofs.lemmas.Bool.Decides.{nat_tests}
use Rattle.std.specs.Prelude.{◌≢◌, ◌==◌, if◌then◌else◌}
use Rattle.v8_core.specs.declared.turn.Event.{Event}
use Rattle.v8_core.specs.declared.turn.Event.TheVariants.{Ran, Annulled, Trapped, ErrorMode, Stopped}
use Rattle.v8_core.specs.Answers.{one_more}
use Rattle.v8_core.specs.Steps.{next}
use Rattle.v8_board.specs.Board.{board}
use Rattle.v8_board.specs.Counting.{counted, counts_after, with_turn}
use Rattle.v8_board.specs.declared.outcome.Counts.{Counts}
use Rattle.v8_board.specs.Seen.{State, counts_unless, ending_of, turned}
use Rattle.v8_board.specs.Runs.{IsCutShort, IsRun, state_after}
use Rattle.sbx_port.specs.Streams.{IsSlice}

-- window overflow, type 5, and underflow, type 6, are counted beside turns
trap_counts : (a b : Bool) (c o u : Counts) → o.turns ≡ c.turns → u.turns ≡ c.turns → (if a then o else (if b then u else c)).turns ≡ c.turns
trap_counts true b c o u over under = over
trap_counts false true c o u over under = under
trap_counts false false c o u over under = refl

event_counts : (e : Event) (c : Counts) → (counts_after e c).turns ≡ counted c.turns
event_counts Ran c = refl
event_counts Annulled c = refl
event_counts (Trapped t) c =
    let w = with_turn c in
    trap_counts (t == 5) (t == 6) w (record w { overflows = counted w.overflows }) (record w { underflows = counted w.underflows }) refl refl
event_counts (ErrorMode t) c = refl
event_counts (Stopped s) c = refl

turn_counts : (n : ℕ) (s : State n) → ending_of n s.world ≡ None → (turned n s).1.counts.turns ≡ counted s.counts.turns
unfolding turned
turn_counts n s going =
    ap (λ e. (counts_unless e (next board n s.mmu s.world).0.event s.counts).turns) going ∙ event_counts (next board n s.mmu s.world).0.event s.counts

not_most : (k : ℕ) → k < 2 ^ 64 - 1 → (k == 2 ^ 64 - 1) ≡ false
not_most k less = grind (arith, nat_tests)

counted_more : (k : ℕ) → k < 2 ^ 64 - 1 → counted k ≡ k + 1
counted_more k less = ap (λ (b : Bool). if b then k else k + 1) (not_most k less)

turns_counted : (n k : ℕ) (s : State n) → ((j : ℕ) → j < k → ending_of n (state_after n j s).world ≡ None) → s.counts.turns + k < 2 ^ 64 → (state_after n k s).counts.turns ≡ s.counts.turns + k
turns_counted n zero s running small = omega arith
turns_counted n (suc k) s running small =
    let so_far = turns_counted n k s (λ j less. running j (omega (arith, less))) (omega (arith, small)) in
    let one = turn_counts n (state_after n k s) (running k (omega arith)) in
    let more = counted_more (state_after n k s).counts.turns (omega (arith, so_far, small)) in
    one ∙ more ∙ (omega (arith, so_far))

-- a run that was cut short, and that the count could tell
pub cut_counted : (n limit : ℕ) (s t : State n) (cut : IsCutShort n limit s t) → ((k : ℕ) → k < limit → s.counts.turns + k < 2 ^ 64) → t.counts.turns ≡ s.counts.turns + cut.turns.count
cut_counted n limit s t cut small =
    ap (λ (u : State n). u.counts.turns) cut.turns.is ∙ turns_counted n cut.turns.count s cut.turns.running (small cut.turns.count cut.within)

-- the count when the slice began, and that after it
pub counts_on : (n most counted now : ℕ) (s t : State n) → IsCutShort n most s t → ((k : ℕ) → k < most → counted + k < 2 ^ 64) → counted ≡ s.counts.turns → now ≡ t.counts.turns → counted ≤ now
counts_on n most counted now s t cut small was is =
    let same = cut_counted n most s t cut (λ k less. let few = small k less in omega (arith, few, was)) in
    omega (arith, same, was, is)

pub slice_cut : (n left most counted now : ℕ) (s t : State n) → IsCutShort n most s t → ((k : ℕ) → k < most → counted + k < 2 ^ 64) → counted ≡ s.counts.turns → now ≡ t.counts.turns → most ≤ left
    → IsSlice n left s (now - counted) t
slice_cut n left most counted now s t cut small was is fits =
    let same = cut_counted n most s t cut (λ k less. let few = small k less in omega (arith, few, was)) in
    let within = cut.within in
    record { turns = cut.turns; few = omega (arith, same, was, is); within = omega (arith, same, was, is, within, fits); all = λ none. omega (arith, same, was, is) }

pub slice_whole : (n left most : ℕ) (s t : State n) → IsRun n most s t → most ≤ left → IsSlice n left s most t
slice_whole n left most s t run fits = record { turns = run.turns; few = run.within; within = fits; all = run.whole }

-- a slice that was cut short where the port was full has made turns, since the port was empty when it began
pub slice_goes : (n most counted now : ℕ) (s t : State n) → IsCutShort n most s t → ((k : ℕ) → k < most → counted + k < 2 ^ 64) → counted ≡ s.counts.turns → now ≡ t.counts.turns
    → s.world.memory.device.output ≡ [] → t.world.memory.device.output ≢ [] → 0 < now - counted
slice_goes n most counted now s t cut small was is empty full = by_count cut.turns.count refl
  where
    by_count : (k : ℕ) → cut.turns.count ≡ k → 0 < now - counted
    by_count zero none = absurd (full (ap (λ (u : State n). u.world.memory.device.output) (cut.turns.is ∙ ap (λ (i : ℕ). state_after n i s) none) ∙ empty))
    by_count (suc k) some =
        let same = cut_counted n most s t cut (λ i less. let few = small i less in omega (arith, few, was)) in
        omega (arith, same, was, is, some)

-- a port that had not failed has done so where it failed once more
pub failed_some : {f : ℕ} (k : ℕ) → k ≡ 0 → f ≡ one_more k → 0 < f
failed_some k none is = (let once = is ∙ ap one_more none in omega (arith, once))
