use Rattle.std.proofs.Common.{ℕ, ap, ◌∙◌}
use Rattle.v8_core.specs.Cpu.{Cpu}
use Rattle.v8_core.specs.Registers.{psr_window}
use Rattle.v8_core.specs.Windows.{Windows, with_reg}
use Rattle.inspect_states.specs.Registers.{entered}
use Rattle.inspect_machine.proofs.Setting.{window_set}
use Rattle.inspect_machine.proofs.bare.set_register.Goals as goal

pub returns-clause-registers : goal.returns-clause-registers
returns-clause-registers g c =
    let set = window_set g.row.N c.args.machine.now.cpu c.set_psr.new.self.cpu c.from.result c.set_psr.result c.set_psr.ensures.answer c.set_psr.ensures.cpu in
    ap (λ (x : Cpu g.row.N). x.regs) c.set_reg.ensures.cpu
    ∙ ap (λ (v : Windows). with_reg g.row.N v c.args.register.now.register c.args.register.now.word)
    (set.0 ∙ ap (λ (w : ℕ). entered g.row.N c.args.machine.now.cpu.regs (psr_window w)) c.from.ensures)

pub returns-clause-rest : goal.returns-clause-rest
returns-clause-rest g c =
    let set = window_set g.row.N c.args.machine.now.cpu c.set_psr.new.self.cpu c.from.result c.set_psr.result c.set_psr.ensures.answer c.set_psr.ensures.cpu in (
      ap (λ (x : Cpu g.row.N). x.control.annul) c.set_reg.ensures.cpu ∙ set.1.0,
      ap (λ (x : Cpu g.row.N). x.control.status) c.set_reg.ensures.cpu ∙ set.1.1,
      ap (λ (x : Cpu g.row.N). x.control.error) c.set_reg.ensures.cpu ∙ set.1.2,
    )
