use Rattle.std.proofs.Common.{ap, ◌∙◌}
use Rattle.v8_core.specs.Parts.{Parts}
use Rattle.v8_core.specs.Registers.{tbr_of}
use Rattle.v8_core.proofs.machine.Machine.tbr.Goals as goal

pub returns : goal.returns
returns g c = c.tbr.ensures ∙ ap (λ (p : Parts g.row.N g.row.B.Denot). tbr_of p.cpu.control) c.self.view_is
