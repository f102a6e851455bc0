use Rattle.std.proofs.Common.{ap}
use Rattle.v8_core.specs.Parts.{Parts}
use Rattle.v8_core.proofs.machine.Machine.trap_type.Goals as goal

pub returns : goal.returns
returns g c = ap (λ (p : Parts g.row.N g.row.B.Denot). p.cpu.control.tt) c.self.view_is
