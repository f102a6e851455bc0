use Rattle.std.proofs.Common.{◌≡◌}
use Rattle.inspect_states.specs.Registers.{copied}
use Rattle.inspect_states.proofs.registers.copy_window.Given as goal

-- the registers so far were taken over
abbrev pub invariant-loop-number : goal.invariant-loop-number
invariant-loop-number g l = l.known ≡ copied g.row.N l.initial.known l.machine.cpu.regs l.number
