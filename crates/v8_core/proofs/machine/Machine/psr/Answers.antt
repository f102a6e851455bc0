use Rattle.std.proofs.Common.{ap, ◌∙◌}
use Rattle.v8_core.specs.Parts.{Parts}
use Rattle.v8_core.specs.Registers.{psr_of}
use Rattle.v8_core.proofs.machine.Machine.psr.Goals as goal

pub returns : goal.returns
returns g c = c.psr.ensures ∙ ap (λ (p : Parts g.row.N g.row.B.Denot). psr_of g.row.N p.cpu) c.self.view_is
