use Rattle.std.proofs.Common.{ap, ◌∙◌, refl}
use Rattle.std.proofs.lemmas.Result.{on_ok_weaker}
use Rattle.v8_core.specs.Completes.{world_of}
use Rattle.inspect_states.proofs.Told.{begun_is, end_begun, on_err_weaker, start_begun, states_told, turns_begun}
use Rattle.inspect_states.proofs.turns.tell_states.Goals as goal

pub returns-in-Err-clause-part : goal.returns-in-Err-clause-part
returns-in-Err-clause-part g c = start_begun g.B.Bus.meaning g.row.N c.args.mmu.now c.args.limit _ _ _ _ c.in-Err.ensures.part

pub returns-in-Err-tell_turns-clause-part : goal.returns-in-Err-tell_turns-clause-part
returns-in-Err-tell_turns-clause-part g c =
    turns_begun g.B.Bus.meaning g.row.N c.args.mmu.now c.args.limit _ _ _ _ _ _ c.in-Ok.ensures.whole
    (begun_is {D = g.B.Bus.Device} g.row.N
    (world_of g.row.N c.args.machine.now.cpu (g.B.Bus.state c.args.machine.now.bus)).held c.args.teller.now.registers c.put_start.new.teller.registers (g.B.Bus.state c.args.teller.now.memory).held.ram
    (g.B.Bus.state c.put_start.new.teller.memory).held.ram
    c.in-Ok.ensures.registers (ap (λ m. (g.B.Bus.state m).held.ram) c.put_start.ensures.memory)) c.in-Err-tell_turns.ensures.part

pub returns-in-Ok-tell_turns-clause-whole : goal.returns-in-Ok-tell_turns-clause-whole
returns-in-Ok-tell_turns-clause-whole g c =
    on_ok_weaker c.put_end.result
    (states_told g.B.Bus.meaning g.row.N c.args.mmu.now c.args.limit _ _ c.in-Ok-tell_turns.count _ _ _ _ _ _ _ c.in-Ok.ensures.whole
    (begun_is {D = g.B.Bus.Device} g.row.N
    (world_of g.row.N c.args.machine.now.cpu (g.B.Bus.state c.args.machine.now.bus)).held c.args.teller.now.registers c.put_start.new.teller.registers (g.B.Bus.state c.args.teller.now.memory).held.ram
    (g.B.Bus.state c.put_start.new.teller.memory).held.ram
    c.in-Ok.ensures.registers (ap (λ m. (g.B.Bus.state m).held.ram) c.put_start.ensures.memory)) c.in-Ok-tell_turns.ensures.whole) c.put_end.ensures.whole

pub returns-in-Ok-tell_turns-clause-part : goal.returns-in-Ok-tell_turns-clause-part
returns-in-Ok-tell_turns-clause-part g c =
    on_err_weaker c.put_end.result
    (end_begun g.B.Bus.meaning g.row.N c.args.mmu.now c.args.limit _ _ c.in-Ok-tell_turns.count _ _ _ _ _ _ _ c.in-Ok.ensures.whole
    (begun_is {D = g.B.Bus.Device} g.row.N
    (world_of g.row.N c.args.machine.now.cpu (g.B.Bus.state c.args.machine.now.bus)).held c.args.teller.now.registers c.put_start.new.teller.registers (g.B.Bus.state c.args.teller.now.memory).held.ram
    (g.B.Bus.state c.put_start.new.teller.memory).held.ram
    c.in-Ok.ensures.registers (ap (λ m. (g.B.Bus.state m).held.ram) c.put_start.ensures.memory)) c.in-Ok-tell_turns.ensures.whole) c.put_end.ensures.part
