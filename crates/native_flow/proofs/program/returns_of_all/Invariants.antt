use Rattle.native_flow.specs.Assembling.{AreReturning}
use Rattle.native_flow.proofs.program.returns_of_all.Given as goal

abbrev pub invariant-loop-function : goal.invariant-loop-function
invariant-loop-function l = AreReturning l.image l.labels.starts.items l.labels.sites.items l.function-index l.blocks.items
