use Rattle.std.proofs.Common.{◌≡◌, Some, rules}
use Rattle.geyserpan.proofs.SteppedOn.{steps_so}
use Rattle.geyserpan.proofs.run_exports.geyserpan_step.Goals as goal

pub returns-in-Some-clause-empty : goal.returns-in-Some-clause-empty
returns-in-Some-clause-empty c = λ none. absurd (c.step.ensures.goes.held none)

pub returns-in-Some-clause-steps : goal.returns-in-Some-clause-steps
returns-in-Some-clause-steps c =
    let held : c.args.run.now.value.going ≡ Some c.in-Some.going = search rules in
    steps_so c.args.run.now.value c.in-Some.going c.step.new.self c.args.turns c.args.input.now c.args.last c.args.room.now c.step.new.room c.step.new.done c.step.result held c.step.ensures.goes
