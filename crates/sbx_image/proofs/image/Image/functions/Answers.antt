use Rattle.sbx_parts.proofs.Limits.{functions_counted}
use Rattle.sbx_image.proofs.image.Image.functions.Goals as goal

pub returns-clause-counted : goal.returns-clause-counted
returns-clause-counted c = rw (← c.self.view_is) (functions_counted c.self.inside.parts c.self.invariant)
