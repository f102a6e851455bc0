use Rattle.std.proofs.Common.{◌≡◌, Some, rules}
use Rattle.geyserpan.proofs.EngineSteppedOn.{engine_steps_so}
use Rattle.geyserpan.proofs.engine_exports.geyserpan_engine_step.Goals as goal

pub returns-in-Some-clause-steps : goal.returns-in-Some-clause-steps
returns-in-Some-clause-steps c = λ run held.
    let found : c.args.engine.now.value.run ≡ Some c.in-Some.run' = search rules in
    engine_steps_so c.args.engine.now.value c.in-Some.run' run c.step.new.self c.args.turns c.args.input.now c.args.last c.args.room.now c.step.new.room c.step.new.done
    c.step.result found held c.step.ensures
