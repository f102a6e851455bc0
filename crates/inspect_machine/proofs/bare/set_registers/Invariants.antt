use Rattle.std.proofs.Common.{◌≡◌, drop, fold}
use Rattle.inspect_machine.specs.Bare.{SameRest, with_register}
use Rattle.inspect_machine.proofs.bare.set_registers.Given as goal

-- the registers so far were written: those that are left make all of them
abbrev pub invariant-loop-register : goal.invariant-loop-register
invariant-loop-register g l = record {
  registers : fold (with_register g.row.N) l.machine.cpu.regs (drop l.register-index l.registers)
      ≡ fold (with_register g.row.N) l.initial.machine.cpu.regs l.registers;
  rest : SameRest l.initial.machine.cpu.control l.machine.cpu.control;
  mmu : l.machine.mmu ≡ l.initial.machine.mmu;
  bus : l.machine.bus ≡ l.initial.machine.bus;
}
