use Rattle.std.proofs.Common.{ap, ◌∙◌}
use Rattle.v8_core.specs.Parts.{Parts}
use Rattle.v8_core.specs.Windows.{reg_of}
use Rattle.v8_core.proofs.machine.Machine.reg.Goals as goal

pub returns : goal.returns
returns g c = c.get.ensures ∙ ap (λ (p : Parts g.row.N g.row.B.Denot). reg_of g.row.N p.cpu.regs c.args.r) c.self.view_is
