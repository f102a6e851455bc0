use Rattle.std.proofs.Common.{subst, rules}
use Rattle.sbx_flat.specs.Runs.{FlatSafe}
use Rattle.sbx_sound.specs.Verdicts.{Checked}
use Rattle.sbx_depth.specs.Law.{DepthIsEnough}
use Rattle.sbx_verify.proofs.verifier.Accepted.image.Goals as goal

pub returns-clause-image : goal.returns-clause-image
returns-clause-image c = search rules

pub returns-clause-checked : goal.returns-clause-checked
returns-clause-checked c = subst Checked c.self.view_is c.self.invariant

pub returns-clause-safe : goal.returns-clause-safe
returns-clause-safe c = subst FlatSafe c.self.view_is (c.checked_is_safe.ensures c.self.inside.image c.tells_form.ensures c.self.invariant)

pub returns-clause-depth : goal.returns-clause-depth
returns-clause-depth c = subst DepthIsEnough c.self.view_is (c.declared_depth_is_enough.ensures c.self.inside.image c.tells_form.ensures c.self.invariant)
