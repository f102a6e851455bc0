use Rattle.std.proofs.Common.{◌≡◌, ◌++◌, drop}
use Rattle.native_flow.specs.Returning.{arms_for}
use Rattle.native_flow.proofs.returns.arms_of.Given as goal

abbrev pub invariant-loop-site : goal.invariant-loop-site
invariant-loop-site l =
    l.arms.items ++ arms_for l.labels.starts.items l.entry (drop l.site-index l.labels.sites.items) ≡
    arms_for l.labels.starts.items l.entry l.labels.sites.items
