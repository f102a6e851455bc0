use Rattle.native_flow.specs.Labelling.{AreStarts, function_or_end}
use Rattle.native_flow.proofs.labels.Labels.of.Given as goal

abbrev pub invariant-loop-number : goal.invariant-loop-number
invariant-loop-number l = AreStarts l.image (function_or_end l.image l.number) l.noted.starts.items l.noted.owners.items
