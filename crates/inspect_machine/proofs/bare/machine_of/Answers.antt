use Rattle.std.proofs.Common.{List, ap, fold, ◌∙◌, arith}
use Rattle.std.proofs.lemmas.Grind.{common_steps}
use Rattle.v8_core.specs.Registers.{started_with}
use Rattle.v8_core.specs.Windows.{Windows}
use Rattle.inspect_start.specs.declared.start.Register.{Register}
use Rattle.inspect_machine.specs.Bare.{with_control, with_register}
use Rattle.inspect_machine.proofs.Setting.{same_rest, unboots}
use Rattle.inspect_machine.proofs.bare.machine_of.Goals as goal

pub set_control-requires : goal.set_control-requires
set_control-requires g c =
    let plain = unboots g.row.N c.new-machine.result.cpu c.set_reg.new.self.cpu c.set_wim.new.self.cpu c.requires.at_least c.new-machine.ensures.cpu c.set_reg.ensures.cpu c.set_wim.ensures.cpu in
    let rest = same_rest (started_with 0) c.set_wim.new.self.cpu.control c.set_registers.new.machine.cpu.control plain.1 c.set_registers.ensures.rest in (
      grind (arith, common_steps),
      ((c.requires.fit.pc, c.requires.fit.npc), (c.requires.fit.window, rest)),
    )

pub returns-clause-cpu : goal.returns-clause-cpu
returns-clause-cpu g c =
    let plain = unboots g.row.N c.new-machine.result.cpu c.set_reg.new.self.cpu c.set_wim.new.self.cpu c.requires.at_least c.new-machine.ensures.cpu c.set_reg.ensures.cpu c.set_wim.ensures.cpu in
    c.set_control.ensures.cpu
    ∙ ap (λ (v : Windows). with_control g.row.N v c.args.start.now.control)
    (c.set_registers.ensures.registers ∙ ap (λ (xs : List Register). fold (with_register g.row.N) c.set_wim.new.self.cpu.regs xs) c.as_slice.ensures.value
    ∙ ap (λ (v : Windows). fold (with_register g.row.N) v c.args.start.now.registers.items) plain.0)
