use Rattle.std.proofs.Common.{string_bytes}
use Rattle.v8_core.specs.Completes.{world_of}
use Rattle.inspect_states.proofs.Told.{nothing_begun, turn_begun, turn_told}
use Rattle.inspect_states.proofs.turns.tell_turn.Goals as goal

pub returns-in-Ok-put_all-clause-whole : goal.returns-in-Ok-put_all-clause-whole
returns-in-Ok-put_all-clause-whole g c =
    turn_told g.B.Bus.meaning g.row.N c.args.mmu.now c.args.machine.now.mmu c.args.number
    (world_of g.row.N c.args.machine.now.cpu (g.B.Bus.state c.args.machine.now.bus)).held
    (world_of g.row.N c.step.new.self.cpu (g.B.Bus.state c.step.new.self.bus)).held c.shown_of-before.result c.in-Ok.turn
    (record { registers = c.args.teller.now.registers; ram = (g.B.Bus.state c.args.teller.now.memory).held.ram })
    (record { registers = c.make_line.new.self.registers; ram = (g.B.Bus.state c.make_line.new.self.memory).held.ram }) (g.W.Write.contents c.args.out.now)
    (g.W.Write.contents c.put_all.new.out) (string_bytes c.make_line.new.self.line) c.as_bytes.result.now
    c.requires c.in-Ok.ensures.step.0 c.shown_of-before.ensures c.in-Ok-make_line.ensures c.as_bytes.ensures.value c.in-Ok-put_all.ensures.whole

pub returns-in-Err-clause-part : goal.returns-in-Err-clause-part
returns-in-Err-clause-part g c =
    nothing_begun g.B.Bus.meaning g.row.N c.args.mmu.now c.args.number
    (world_of g.row.N c.args.machine.now.cpu (g.B.Bus.state c.args.machine.now.bus)).held
    (record { registers = c.args.teller.now.registers; ram = (g.B.Bus.state c.args.teller.now.memory).held.ram }) (g.W.Write.contents c.args.out.now)

pub returns-in-Err-make_line-clause-part : goal.returns-in-Err-make_line-clause-part
returns-in-Err-make_line-clause-part g c =
    nothing_begun g.B.Bus.meaning g.row.N c.args.mmu.now c.args.number
    (world_of g.row.N c.args.machine.now.cpu (g.B.Bus.state c.args.machine.now.bus)).held
    (record { registers = c.args.teller.now.registers; ram = (g.B.Bus.state c.args.teller.now.memory).held.ram }) (g.W.Write.contents c.args.out.now)

pub returns-in-Err-put_all-clause-part : goal.returns-in-Err-put_all-clause-part
returns-in-Err-put_all-clause-part g c =
    turn_begun g.B.Bus.meaning g.row.N c.args.mmu.now c.args.machine.now.mmu c.args.number
    (world_of g.row.N c.args.machine.now.cpu (g.B.Bus.state c.args.machine.now.bus)).held
    (world_of g.row.N c.step.new.self.cpu (g.B.Bus.state c.step.new.self.bus)).held c.shown_of-before.result c.in-Ok.turn
    (record { registers = c.args.teller.now.registers; ram = (g.B.Bus.state c.args.teller.now.memory).held.ram })
    (record { registers = c.make_line.new.self.registers; ram = (g.B.Bus.state c.make_line.new.self.memory).held.ram }) (g.W.Write.contents c.args.out.now)
    (g.W.Write.contents c.put_all.new.out) (string_bytes c.make_line.new.self.line) c.as_bytes.result.now
    c.requires c.in-Ok.ensures.step.0 c.shown_of-before.ensures c.in-Ok-make_line.ensures c.as_bytes.ensures.value c.in-Err-put_all.ensures.part
