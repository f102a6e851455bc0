-- A step into the front of a room.
use Rattle.std.proofs.Common.{◌≡◌, ◌≢◌, ◌-◌, ◌≤◌, ℕ, ◌+◌, Bool, false, List, Some, refl, ◌++◌, drop, length, take, sym, ap, subst, ◌∙◌, arith, length-append}
use Rattle.std.proofs.lemmas.Bool.Decides.{nat_tests}
use Rattle.sbx_image.specs.Parts.{Parts}
use Rattle.sbx_flat.specs.Runs.{budget}
use Rattle.sbx_session.specs.Going.{Goes, IsAllOf, IsFrontOf}
use Rattle.sbx_session.specs.Steps.{IsStep, IsVouched, StandsSo, turns_of}
use Rattle.sbx_session.specs.declared.session.Stand.{Stand}
use Rattle.sbx_session.specs.declared.session.Stand.TheVariants.{Ended, Full, Paused, Wants}
use Rattle.sbx_session.specs.declared.session.Step.{Step}
use Rattle.geyserpan.proofs.Fronts.{behind_same, longer, written_same}
use Rattle.geyserpan.specs.Goings.{IsGoingOn}
use Rattle.geyserpan.specs.Runs.{Runs, StepsSo, granted_in, turns_in}
use Rattle.geyserpan.specs.Engines.{is_last}
use Rattle.geyserpan.specs.declared.run_slot.RunSlot.{RunSlot}
use Rattle.geyserpan.specs.declared.run_slot.Done.{Done}
use Rattle.geyserpan.specs.declared.run_slot.Going.{Going}
use Rattle.geyserpan.specs.declared.statuses.TheConstants.{ENDED, FULL, HANDLE, LOST, OUTPUT, PAUSED, WANTS}

-- what the session's step says, of the whole room
pub stepped_on : (old new : Going) (asked : ℕ) (input before after front front_after rest : List ℕ) (last : Bool) (step : Step) (done : Done) (status : ℕ)
    → IsStep 8 old.session new.session asked input last front front_after step
    → before ≡ front ++ rest → after ≡ front_after ++ rest → length front ≡ length front_after
    → done.read ≡ step.read → done.written ≡ step.written
    → (status ≢ LOST → IsVouched step.stand) → (status ≡ ENDED → step.stand ≡ Ended done.exit) → status ≢ HANDLE
    → done.turns ≡ turns_of new.session → length front ≤ old.granted → new.granted ≡ old.granted - step.written
    → (status ≡ WANTS → step.stand ≡ Wants)
    → (status ≡ FULL → (step.stand ≡ Full) × (length front ≡ length before))
    → (status ≡ OUTPUT → (step.stand ≡ Full) × (length front ≡ old.granted))
    → (status ≡ PAUSED → step.stand ≡ Paused) → (status ≢ ENDED → done.exit ≡ 0) → done.zero ≡ 0
    → IsGoingOn old new asked input last before after done status
stepped_on old new asked input before after front front_after rest last step done status is was now long read written vouched ended held turns few left wants full cut paused exit zero =
    let takes : take done.written after ≡ take step.written front_after =
    ap (λ (k : ℕ). take k after) written ∙ ap (λ (l : List ℕ). take step.written l) now ∙ written_same front front_after rest step.written is.written long in
    let reads : take done.read input ≡ take step.read input = ap (λ (k : ℕ). take k input) read in record {
      read = subst (λ (k : ℕ). k ≤ length input) (sym read) is.read;
      written = subst (λ (k : ℕ). k ≤ length after) (sym written) (subst (λ (l : List ℕ). step.written ≤ length l) (sym now) (longer step.written front_after rest is.written));
      behind = ap (λ (k : ℕ). drop k after) written ∙ ap (λ (l : List ℕ). drop step.written l) now ∙ behind_same front front_after rest step.written is.written long is.behind
          ∙ ap (λ (l : List ℕ). drop step.written l) (sym was) ∙ ap (λ (k : ℕ). drop k before) (sym written);
      goes = λ found parts so_far all g.
          subst (λ (r : List ℕ). Goes 8 parts (so_far ++ r) (all ++ take done.written after) new.session) (sym reads)
          (subst (λ (w : List ℕ). Goes 8 parts (so_far ++ take step.read input) (all ++ w) new.session) (sym takes) (is.goes (vouched found) parts so_far all g));
      front = λ parts so_far all g.
          subst (λ (r : List ℕ). IsFrontOf parts (so_far ++ r) new.session.met (all ++ take done.written after)) (sym reads)
          (subst (λ (w : List ℕ). IsFrontOf parts (so_far ++ take step.read input) new.session.met (all ++ w)) (sym takes) (is.front parts so_far all g));
      whole = λ found parts so_far all g.
          subst (λ (t : ℕ). IsAllOf parts 8 (so_far ++ take done.read input) new.session.met (all ++ take done.written after) done.exit t) (sym turns)
          (subst (λ (r : List ℕ). IsAllOf parts 8 (so_far ++ r) new.session.met (all ++ take done.written after) done.exit (turns_of new.session)) (sym reads)
          (subst (λ (w : List ℕ). IsAllOf parts 8 (so_far ++ take step.read input) new.session.met (all ++ w) done.exit (turns_of new.session)) (sym takes)
          (is.whole done.exit (ended found) parts so_far all g)));
      within = λ parts so_far all g. subst (λ (k : ℕ). k ≤ budget parts) (sym turns) (is.within parts so_far all g);
      held = held;
      turns = turns;
      most = is.turns;
      paused = λ found. is.paused (paused found);
      exit = exit;
      zero = zero;
      granted = (let fits = is.written in omega (arith, fits, long, few, left, written));
      wants = λ waits. (let at = stands Wants (wants waits) in (read ∙ at.0, at.1, at.2));
      full = λ filled.
          (let (stand, whole) = full filled in
          let (at, more) = stands Full stand in
          let was_long : length before ≡ length front + length rest = ap (λ (l : List ℕ). length l) was ∙ length-append {A = ℕ} front rest in
          let now_long : length after ≡ length front_after + length rest = ap (λ (l : List ℕ). length l) now ∙ length-append {A = ℕ} front_after rest in
          (omega (arith, written, at, whole, was_long, now_long, long), more));
      output = λ ends. (let (stand, whole) = cut ends in let (at, more) = stands Full stand in (omega (arith, at, whole, left, long), more));
    }
  where
    stands : (stand : Stand) → step.stand ≡ stand → StandsSo 8 stand new.session input last front_after step
    stands stand same = subst (λ (s : Stand). StandsSo 8 s new.session input last front_after step) same is.stands

one_run : (a b : Going) → Some a ≡ Some b → a ≡ b
one_run a b is = cc

-- a word that says that the piece isn't the last is 0
not_last : (word : ℕ) → is_last word ≡ false → word ≡ 0
not_last word isnt = grind (arith, nat_tests, isnt)

-- and of the handle that holds the run
pub steps_so : (old : RunSlot) (going new : Going) (asked : ℕ) (input : List ℕ) (last : ℕ) (before after : List ℕ) (done : Done) (status : ℕ) → old.going ≡ Some going
    → IsGoingOn going new asked input (is_last last) before after done status → StepsSo old (record { going = Some new }) asked input last before after done status
steps_so old going new asked input last before after done status held is = record {
  read = λ vouched. is.read;
  written = λ vouched. is.written;
  behind = λ vouched. is.behind;
  goes = λ vouched parts so_far all runs. (new, refl, is.goes vouched.0 parts so_far all (of_this parts so_far all runs));
  front = λ some parts so_far all runs. is.front parts so_far all (of_this parts so_far all runs);
  whole = λ ended parts so_far all runs. is.whole ended parts so_far all (of_this parts so_far all runs);
  within = λ some parts so_far all runs. is.within parts so_far all (of_this parts so_far all runs);
  empty = λ none. absurd (is.held none);
  turns = λ some. is.turns;
  most = λ some. (let turns = is.most in let was = ap turns_in held in omega (arith, turns, was));
  paused = λ waits parts so_far all runs.
      (let all_made = is.paused waits parts so_far all (of_this parts so_far all runs) in let was = ap turns_in held in omega (arith, all_made, was));
  exit = λ some. is.exit;
  zero = λ some. is.zero;
  granted = λ some. is.granted ∙ sym (ap granted_in held);
  wants = λ waits. (let (read, more, asks) = is.wants waits in (read, not_last last more, asks));
  full = is.full;
  output = is.output;
}
  where
    of_this : (parts : Parts) (so_far all : List ℕ) → Runs old parts so_far all → Goes 8 parts so_far all going.session
    of_this parts so_far all (found, same, goes) =
        subst (λ (g : Going). Goes 8 parts so_far all g.session) (one_run found going (sym same ∙ held)) goes
