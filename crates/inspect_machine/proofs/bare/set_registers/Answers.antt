use Rattle.std.proofs.Common.{◌∙◌, refl, sym, arith}
use Rattle.std.specs.Prelude.{fold}
use Rattle.std.proofs.lemmas.List.{at_drop_all}
use Rattle.inspect_machine.specs.Bare.{with_register}
use Rattle.inspect_machine.proofs.Setting.{fold_more, same_rest}
use Rattle.inspect_machine.proofs.bare.set_registers.Goals as goal

pub loop-register-init : goal.loop-register-init
loop-register-init g c = record { registers = refl; rest = (refl, refl, refl); mmu = refl; bus = refl }

pub loop-register-preserved : goal.loop-register-preserved
loop-register-preserved g c =
    let l = c.loop-register in
    record {
      registers = fold_more (with_register g.row.N) l.machine.cpu.regs c.args.registers.now l.register-index c.register-item.result c.set_register.new.machine.cpu.regs
          (omega arith) c.register-item.is c.set_register.ensures.registers ∙ l.invariant.registers;
      rest = same_rest c.args.machine.now.cpu.control l.machine.cpu.control c.set_register.new.machine.cpu.control l.invariant.rest c.set_register.ensures.rest;
      mmu = c.set_register.ensures.mmu ∙ l.invariant.mmu;
      bus = c.set_register.ensures.bus ∙ l.invariant.bus;
    }

pub returns-clause-registers : goal.returns-clause-registers
returns-clause-registers g c =
    let l = c.loop-register in
    sym (at_drop_all (fold (with_register g.row.N) l.machine.cpu.regs) c.args.registers.now l.register-index (omega arith)) ∙ l.invariant.registers
