use Rattle.std.proofs.lemmas.Grind.{common_steps}
use Rattle.std.proofs.Common.{string_bytes, arith}
use Rattle.inspect_run.proofs.Told.{nothing_begun, turn_begun, watched_turn}
use Rattle.inspect_run.proofs.watch.watch_turn.Goals as goal

pub returns-in-Ok-put_all-clause-whole : goal.returns-in-Ok-put_all-clause-whole
returns-in-Ok-put_all-clause-whole g c =
    watched_turn g.row.N c.args.functions.now c.args.number c.args.board.now.state c.step.new.self.state c.forget_output.new.board.state c.in-Ok.turn
    (g.W.Write.contents c.args.out.now) (g.W.Write.contents c.put_all.new.out) (string_bytes c.make_turn.new.self.line) c.as_bytes.result.now
    c.in-Ok.ensures.turn c.in-Ok-make_turn.ensures c.as_bytes.ensures.value c.in-Ok-put_all.ensures.whole c.forget_output.ensures

pub returns-in-Err-clause-part : goal.returns-in-Err-clause-part
returns-in-Err-clause-part g c =
    nothing_begun g.row.N c.args.functions.now c.args.number c.args.board.now.state (g.W.Write.contents c.args.out.now)

pub returns-in-Err-make_turn-clause-part : goal.returns-in-Err-make_turn-clause-part
returns-in-Err-make_turn-clause-part g c =
    nothing_begun g.row.N c.args.functions.now c.args.number c.args.board.now.state (g.W.Write.contents c.args.out.now)

pub returns-in-Err-put_all-clause-part : goal.returns-in-Err-put_all-clause-part
returns-in-Err-put_all-clause-part g c =
    turn_begun g.row.N c.args.functions.now c.args.number c.args.board.now.state c.step.new.self.state c.in-Ok.turn (g.W.Write.contents c.args.out.now)
    (g.W.Write.contents c.put_all.new.out) (string_bytes c.make_turn.new.self.line) c.as_bytes.result.now
    c.in-Ok.ensures.turn c.in-Ok-make_turn.ensures c.as_bytes.ensures.value c.in-Err-put_all.ensures.part

pub forget_output-requires : goal.forget_output-requires
forget_output-requires g c = assumption

pub step-requires : goal.step-requires
step-requires g c = assumption

pub make_turn-requires : goal.make_turn-requires
make_turn-requires g c = assumption

pub returns-in-Err-clause-fault : goal.returns-in-Err-clause-fault
returns-in-Err-clause-fault g c = grind (arith, common_steps)

pub returns-in-Err-make_turn-clause-fault : goal.returns-in-Err-make_turn-clause-fault
returns-in-Err-make_turn-clause-fault g c = grind (arith, common_steps)

pub returns-in-Err-put_all-clause-fault : goal.returns-in-Err-put_all-clause-fault
returns-in-Err-put_all-clause-fault g c = grind (arith, common_steps)
