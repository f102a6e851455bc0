use Rattle.std.proofs.lemmas.Grind.{common_steps}
use Rattle.std.proofs.Common.{subst, rules, arith}
use Rattle.sbx_flat.specs.Turns.{turn}
use Rattle.flat_plain.specs.Comes.{Turns}
use Rattle.flat_plain.specs.Shows.{filled}
use Rattle.flat_plain.proofs.Reached.{reaches_more}
use Rattle.flat_plain.proofs.machine.Plain.run.Goals as goal

pub loop-count-preserved : goal.loop-count-preserved
loop-count-preserved c = record {
  reached =
      let step = subst (λ told. Turns (turn c.args.image.now (filled c.args.fill)) c.loop-count.self c.step.new.self told) c.in-Went.is c.in_ok-step.ensures in
      reaches_more c.args.image.now c.args.fill c.args.self.now c.loop-count.self c.step.new.self c.loop-count.path.items c.place-place.result
      c.push.new.self.items (search rules) c.loop-count.invariant.reached c.place-place.ensures step (search rules);
  steps = search rules;
}

pub loop-count-init : goal.loop-count-init
loop-count-init c = grind (arith, common_steps)
