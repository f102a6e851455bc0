use Rattle.std.proofs.Common.{ℕ, List, [], Option, None, take, length, refl, sym, subst, arith}
use Rattle.std.specs.Prelude.{◌==◌}
use Rattle.engine_runs.specs.Answer.{HasRead, Serves}
use Rattle.engine_runs.specs.declared.flat_run.FlatRun.{FlatRun}
use Rattle.engine_runs.proofs.Ends.{few}
use Rattle.engine_runs.proofs.Ran.{answered, known_so}
use Rattle.engine_runs.proofs.Reading.{has_never, has_read}
use Rattle.engine_runs.proofs.runs.run_over.Goals as goal

pub serve-requires-clause-few : goal.serve-requires-clause-few
serve-requires-clause-few c =
    let to = c.advance_over-halt.new.read in
    few c.args.accepted.now c.args.windows (take to c.args.input.now) c.rounds.output.items (to == length c.args.input.now) c.advance_over-halt.new.self
    (has_read c.args.accepted.now c.args.windows c.args.input.now c.rounds.output.items c.rounds.read to c.rounds.course c.advance_over-halt.ensures.read.0
    c.advance_over-halt.ensures.read.1 c.rounds.invariant.has c.advance_over-halt.new.self c.advance_over-halt.ensures.goes)

pub serve-requires-clause-found : goal.serve-requires-clause-found
serve-requires-clause-found c = λ is.
    has_never c.args.accepted.now c.args.windows c.args.input.now c.rounds.output.items c.rounds.read c.advance_over-halt.new.read c.rounds.course
    c.advance_over-halt.ensures.read.0 c.advance_over-halt.ensures.read.1 c.rounds.invariant.has (c.advance_over-halt.ensures.lost is)

pub rounds-init : goal.rounds-init
rounds-init c = record {
  has = subst (λ (w : List ℕ). HasRead c.args.accepted.now c.args.windows c.args.input.now 0 w c.in_ok-course.course) (sym c.new-output.ensures.items)
      (known_so c.args.accepted.now c.args.windows [] [] (0 == length c.args.input.now) c.in_ok-course.course c.in_ok-course.ensures);
  within = omega arith;
  rounds = omega arith;
  turns = c.in_ok-course.course.tally.few;
}

pub rounds-preserved : goal.rounds-preserved
rounds-preserved c =
    let so = c.rounds.invariant in
    let to = c.advance_over-halt.new.read in
    let old : FlatRun = c.advance_over-halt.new.self in
    let new : FlatRun = c.serve.new.course in
    let serves : Serves c.args.input.now to c.rounds.output.items old c.serve.new.read c.serve.new.output.items new None =
    subst (λ (ended : Option ℕ). Serves c.args.input.now to c.rounds.output.items old c.serve.new.read c.serve.new.output.items new ended) c.in-None.is c.in_ok-serve.ensures in
    let so_many = so.rounds in
    let onward = c.advance_over-halt.ensures.onward in
    let more = serves.2 in record {
      has = serves.0 c.args.accepted.now c.args.windows
          (has_read c.args.accepted.now c.args.windows c.args.input.now c.rounds.output.items c.rounds.read to c.rounds.course c.advance_over-halt.ensures.read.0
          c.advance_over-halt.ensures.read.1 so.has old c.advance_over-halt.ensures.goes);
      within = serves.1;
      rounds = omega (arith, so_many, onward, more);
      turns = serves.3;
    }

pub returns-in-Some : goal.returns-in-Some
returns-in-Some c =
    let to = c.advance_over-halt.new.read in
    let now : FlatRun = c.advance_over-halt.new.self in
    answered c.args.accepted.now c.args.windows c.args.input.now to c.rounds.output.items now c.tells_bytes.ensures
    (has_read c.args.accepted.now c.args.windows c.args.input.now c.rounds.output.items c.rounds.read to c.rounds.course c.advance_over-halt.ensures.read.0
    c.advance_over-halt.ensures.read.1 c.rounds.invariant.has now c.advance_over-halt.ensures.goes)
    c.in-Some.status c.serve.new.read c.serve.new.output.items c.serve.new.course
    (subst (λ (ended : Option ℕ). Serves c.args.input.now to c.rounds.output.items now c.serve.new.read c.serve.new.output.items c.serve.new.course ended)
    c.in-Some.is c.in_ok-serve.ensures) c.serve.new.course.tally refl
    _ refl refl refl refl refl
