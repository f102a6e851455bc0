use Rattle.std.proofs.Common.{ap, ◌∙◌}
use Rattle.v8_core.specs.Parts.{Parts}
use Rattle.v8_core.proofs.machine.Machine.wim.Goals as goal

pub returns : goal.returns
returns g c = c.wim.ensures.value ∙ ap (λ (p : Parts g.row.N g.row.B.Denot). p.cpu.regs.mask) c.self.view_is
