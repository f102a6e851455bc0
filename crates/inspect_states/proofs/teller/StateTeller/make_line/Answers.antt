use Rattle.std.proofs.Common.{string_bytes}
use Rattle.v8_core.specs.Walked.{root_of}
use Rattle.inspect_states.proofs.Lines.{lines_are}
use Rattle.inspect_states.proofs.teller.StateTeller.make_line.Goals as goal

pub returns : goal.returns
returns g c =
    lines_are g.row.N (root_of c.args.mmu.now) c.args.number c.args.before.now c.args.turn.now c.args.machine.now.cpu (g.B.Bus.state c.args.machine.now.bus).held.ram
    (g.B.Bus.state c.args.self.now.memory).held.ram (g.B.Bus.state c.put_changes.new.self.memory).held.ram c.args.self.now.registers c.put_changes.new.self.registers
    c.places_of-places.result (string_bytes c.clear.new.self) (string_bytes c.push_turn.new.line) (string_bytes c.put_changes.new.self.line) c.put_changes.result
    c.places_of-places.ensures.fetched c.places_of-places.ensures.accessed c.places_of-places.ensures.stored c.places_of-places.ensures.second
    c.clear.ensures.bytes c.in_ok-push_turn.ensures c.put_changes.ensures.text c.put_changes.ensures.registers c.put_changes.ensures.memory
