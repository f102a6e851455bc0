-- A step of the engine into the front of a room.
use Rattle.std.proofs.Common.{◌≡◌, ◌≢◌, ◌-◌, ◌≤◌, ℕ, ◌+◌, Bool, List, Some, refl, ◌++◌, drop, length, take, sym, ap, subst, ◌∙◌, arith, length-append}
use Rattle.sbx_flat.specs.Runs.{budget}
use Rattle.engine_runs.specs.Going.{IsAllOf, IsFrontOf}
use Rattle.engine_runs.specs.Steps.{Goes, IsStep, StandsSo, turns_of}
use Rattle.engine_runs.specs.declared.flat_session.FlatStand.{FlatStand}
use Rattle.engine_runs.specs.declared.flat_session.FlatStand.TheVariants.{Ended, Full, Lost, Paused, Wants}
use Rattle.engine_runs.specs.declared.flat_session.FlatStep.{FlatStep}
use Rattle.geyserpan.proofs.Fronts.{behind_same, longer, written_same}
use Rattle.geyserpan.specs.Engines.{GoesOn, StepsSo, is_last}
use Rattle.geyserpan.specs.declared.engine_slot.EngineRun.{EngineRun}
use Rattle.geyserpan.specs.declared.engine_slot.EngineSlot.{EngineSlot}
use Rattle.geyserpan.specs.declared.run_slot.Done.{Done}
use Rattle.geyserpan.specs.declared.statuses.TheConstants.{ENDED, FULL, HANDLE, LOST, OUTPUT, PAUSED, WANTS}

-- what the engine's step says, of the whole room
pub engine_stepped_on : (old new : EngineRun) (most : ℕ) (input before after front front_after rest : List ℕ) (last : Bool) (step : FlatStep) (done : Done) (status : ℕ)
    → IsStep old.paced new.paced most input last front front_after step
    → before ≡ front ++ rest → after ≡ front_after ++ rest → length front ≡ length front_after
    → done.read ≡ step.read → done.written ≡ step.written
    → (status ≡ ENDED → step.stand ≡ Ended done.exit) → status ≢ HANDLE
    → done.turns ≡ turns_of new.paced.course → length front ≤ old.granted → new.granted ≡ old.granted - step.written
    → (status ≡ WANTS → step.stand ≡ Wants)
    → (status ≡ FULL → (step.stand ≡ Full) × (length front ≡ length before))
    → (status ≡ OUTPUT → (step.stand ≡ Full) × (length front ≡ old.granted))
    → (status ≡ PAUSED → step.stand ≡ Paused) → (status ≡ LOST → step.stand ≡ Lost) → (status ≢ ENDED → done.exit ≡ 0) → done.zero ≡ 0
    → GoesOn old new most input last before after done status
engine_stepped_on old new most input before after front front_after rest last step done status is was now long read written ended held turns few left wants full cut paused lost exit zero =
    let takes : take done.written after ≡ take step.written front_after =
    ap (λ (k : ℕ). take k after) written ∙ ap (λ (l : List ℕ). take step.written l) now ∙ written_same front front_after rest step.written is.written long in
    let reads : take done.read input ≡ take step.read input = ap (λ (k : ℕ). take k input) read in record {
      read = subst (λ (k : ℕ). k ≤ length input) (sym read) is.read;
      written = subst (λ (k : ℕ). k ≤ length after) (sym written) (subst (λ (l : List ℕ). step.written ≤ length l) (sym now) (longer step.written front_after rest is.written));
      behind = ap (λ (k : ℕ). drop k after) written ∙ ap (λ (l : List ℕ). drop step.written l) now ∙ behind_same front front_after rest step.written is.written long is.behind
          ∙ ap (λ (l : List ℕ). drop step.written l) (sym was) ∙ ap (λ (k : ℕ). drop k before) (sym written);
      goes = λ parts n so_far all g.
          subst (λ (r : List ℕ). Goes parts n (so_far ++ r) (all ++ take done.written after) new.paced) (sym reads)
          (subst (λ (w : List ℕ). Goes parts n (so_far ++ take step.read input) (all ++ w) new.paced) (sym takes) (is.goes parts n so_far all g));
      front = λ parts n so_far all g.
          subst (λ (r : List ℕ). IsFrontOf parts (so_far ++ r) new.paced.met (all ++ take done.written after)) (sym reads)
          (subst (λ (w : List ℕ). IsFrontOf parts (so_far ++ take step.read input) new.paced.met (all ++ w)) (sym takes) (is.front parts n so_far all g));
      whole = λ found parts n so_far all g.
          subst (λ (r : List ℕ). IsAllOf parts n (so_far ++ r) new.paced.met (all ++ take done.written after) done.exit new.paced.course.tally.traffic) (sym reads)
          (subst (λ (w : List ℕ). IsAllOf parts n (so_far ++ take step.read input) new.paced.met (all ++ w) done.exit new.paced.course.tally.traffic) (sym takes)
          (is.whole done.exit (ended found) parts n so_far all g));
      within = λ parts n so_far all g. subst (λ (k : ℕ). k ≤ budget parts) (sym turns) (is.within parts n so_far all g);
      lost = λ found. is.lost (lost found);
      held = held;
      turns = turns;
      most = is.turns;
      paused = λ found. is.paused (paused found);
      exit = exit;
      zero = zero;
      granted = (let fits = is.written in omega (arith, fits, long, few, left, written));
      wants = λ waits. (let at = stands Wants (wants waits) in (read ∙ at.0, at.1, at.2));
      full = λ filled.
          (let (stand, whole) = full filled in
          let (at, more) = stands Full stand in
          let was_long : length before ≡ length front + length rest = ap (λ (l : List ℕ). length l) was ∙ length-append {A = ℕ} front rest in
          let now_long : length after ≡ length front_after + length rest = ap (λ (l : List ℕ). length l) now ∙ length-append {A = ℕ} front_after rest in
          (omega (arith, written, at, whole, was_long, now_long, long), more));
      output = λ ends. (let (stand, whole) = cut ends in let (at, more) = stands Full stand in (omega (arith, at, whole, left, long), more));
      met = is.met;
    }
  where
    stands : (stand : FlatStand) → step.stand ≡ stand → StandsSo stand new.paced.course input last front_after step.read step.written
    stands stand same = subst (λ (s : FlatStand). StandsSo s new.paced.course input last front_after step.read step.written) same is.stands

one_run : (a b : EngineRun) → Some a ≡ Some b → a ≡ b
one_run a b is = cc

-- and of the handle that holds the run
pub engine_steps_so : (slot : EngineSlot) (there run new : EngineRun) (asked : ℕ) (input : List ℕ) (last : ℕ) (before after : List ℕ) (done : Done) (status : ℕ)
    → slot.run ≡ Some there → slot.run ≡ Some run → GoesOn there new asked input (is_last last) before after done status
    → StepsSo run (record { run = Some new }) asked input last before after done status
engine_steps_so slot there run new asked input last before after done status found held goes =
    (new, refl, subst (λ (old : EngineRun). GoesOn old new asked input (is_last last) before after done status) (one_run there run (sym found ∙ held)) goes)
