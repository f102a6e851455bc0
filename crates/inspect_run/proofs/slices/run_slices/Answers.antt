use Rattle.std.proofs.lemmas.Grind.{common_steps}
use Rattle.std.proofs.Common.{arith}
use Rattle.v8_board.proofs.Contained.{run_kept}
use Rattle.inspect_run.proofs.Sliced.{no_slice, one_slice_more, slices_and_rest}
use Rattle.inspect_run.proofs.slices.run_slices.Goals as goal

pub loop-init : goal.loop-init
loop-init g c = no_slice g.row.N c.args.board.now.state

pub loop-preserved : goal.loop-preserved
loop-preserved g c =
    one_slice_more g.row.N c.loop.counter c.args.board.now.state c.loop.board.state c.run.new.self.state c.loop.invariant c.in-Ok.ensures.run

pub returns-in-Ok-run-clause-run : goal.returns-in-Ok-run-clause-run
returns-in-Ok-run-clause-run g c =
    slices_and_rest g.row.N c.loop.counter c.args.limit c.args.board.now.state c.loop.board.state c.run-2.new.self.state (omega arith) c.loop.invariant c.in-Ok-run.ensures.run

pub returns-in-Ok-run-clause-contained : goal.returns-in-Ok-run-clause-contained
returns-in-Ok-run-clause-contained g c =
    run_kept g.row.N c.args.limit c.args.board.now.state c.run-2.new.self.state
    (slices_and_rest g.row.N c.loop.counter c.args.limit c.args.board.now.state c.loop.board.state c.run-2.new.self.state (omega arith) c.loop.invariant c.in-Ok-run.ensures.run)

pub returns-in-Err-clause-fault : goal.returns-in-Err-clause-fault
returns-in-Err-clause-fault g c = assumption

pub run-requires : goal.run-requires
run-requires g c = assumption

pub returns-in-Err-run-clause-fault : goal.returns-in-Err-run-clause-fault
returns-in-Err-run-clause-fault g c = assumption

pub run-requires-2 : goal.run-requires-2
run-requires-2 g c = assumption

pub returns-in-Err-run-clause-run : goal.returns-in-Err-run-clause-run
returns-in-Err-run-clause-run g c = assumption

pub returns-in-Err-run-clause-contained : goal.returns-in-Err-run-clause-contained
returns-in-Err-run-clause-contained g c = assumption

pub returns-in-Ok-run-clause-fault : goal.returns-in-Ok-run-clause-fault
returns-in-Ok-run-clause-fault g c = assumption

pub fault_of-requires-in-Err-run : goal.fault_of-requires-in-Err-run
fault_of-requires-in-Err-run g c = grind (arith, common_steps)
