use Rattle.std.proofs.Common.{◌≡◌, ◌++◌, string_bytes}
use Rattle.inspect_states.specs.Registers.{changes_text}
use Rattle.inspect_states.proofs.registers.push_changes.Given as goal

-- the registers so far were told
abbrev pub invariant-loop-number : goal.invariant-loop-number
invariant-loop-number g l = string_bytes l.line ≡ string_bytes l.initial.line ++ changes_text g.row.N l.known l.machine.cpu.regs l.number
