use Rattle.sbx_parts.proofs.Limits.{version_within}
use Rattle.sbx_image.proofs.image.Image.version.Goals as goal

pub returns-clause-some : goal.returns-clause-some
returns-clause-some c = (version_within c.self.inside.parts c.self.invariant).0

pub returns-clause-few : goal.returns-clause-few
returns-clause-few c = (version_within c.self.inside.parts c.self.invariant).1
