use Rattle.std.proofs.Common.{refl}
use Rattle.native_flow.proofs.Arming.{has_arm}
use Rattle.native_flow.proofs.returns.returns_of.Goals as goal

pub returns : goal.returns
returns c = record {
  arms = c.in_ok-arms_of.field-0;
  none = c.new.ensures.items;
  ends = refl;
  arm = has_arm c.args.labels.now.starts.items c.args.labels.now.sites.items c.args.entry c.in_ok-arms_of.field-0.items c.in_ok-arms_of.ensures;
}
