use Rattle.std.proofs.Common.{sym}
use Rattle.std.proofs.lemmas.Option.{IfSome_then}
use Rattle.v8_core.proofs.machine.Machine.cached.Goals as goal

pub returns : goal.returns
returns g c = rw (sym c.self.view_is) (IfSome_then c.found.result c.found.ensures (λ f leads. leads _ _ c.self.invariant))
