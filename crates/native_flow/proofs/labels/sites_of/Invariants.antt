use Rattle.native_flow.specs.Labelling.{HasCallsBelow}
use Rattle.native_flow.proofs.labels.sites_of.Given as goal

abbrev pub invariant-loop-k : goal.invariant-loop-k
invariant-loop-k l = HasCallsBelow l.words l.k l.sites.items
