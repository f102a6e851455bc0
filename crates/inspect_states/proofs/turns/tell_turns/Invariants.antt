use Rattle.std.proofs.Common.{◌≡◌}
use Rattle.v8_core.specs.Completes.{world_of}
use Rattle.inspect_states.proofs.Told.{Telling}
use Rattle.inspect_states.proofs.turns.tell_turns.Given as goal

-- the turns so far were told
abbrev pub invariant-loop-done : goal.invariant-loop-done
invariant-loop-done g l =
    (l.machine.mmu ≡ l.initial.machine.mmu)
    × Telling g.B.Bus.meaning g.row.N l.mmu
    (world_of g.row.N l.initial.machine.cpu (g.B.Bus.state l.initial.machine.bus)).held
    (world_of g.row.N l.machine.cpu (g.B.Bus.state l.machine.bus)).held l.done
    (record { registers = l.initial.teller.registers; ram = (g.B.Bus.state l.initial.teller.memory).held.ram })
    (record { registers = l.teller.registers; ram = (g.B.Bus.state l.teller.memory).held.ram }) (g.W.Write.contents l.initial.out) (g.W.Write.contents l.out)
