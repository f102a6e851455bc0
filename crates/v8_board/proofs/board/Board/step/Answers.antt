use Rattle.std.proofs.Common.{arith}
use Rattle.std.proofs.lemmas.Grind.{common_steps}
use Rattle.v8_board.proofs.Contained.{ok_kept_by, result_kept}
use Rattle.v8_board.proofs.board.Board.step.Goals as goal

pub returns-in-None-clause-contained : goal.returns-in-None-clause-contained
returns-in-None-clause-contained g c = result_kept g.row.N c.args.self.now.state c.turn.new.self.state c.turn.result c.turn.ensures.turn c.turn.ensures.state

pub returns-in-Some-clause-contained : goal.returns-in-Some-clause-contained
returns-in-Some-clause-contained g c = result_kept g.row.N c.args.self.now.state c.repeat.new.self.state c.repeat.result c.repeat.ensures.turn c.repeat.ensures.state

pub returns-in-None-clause-turn_is : goal.returns-in-None-clause-turn_is
returns-in-None-clause-turn_is g c = ok_kept_by g.row.N c.args.self.now.state c.turn.new.self.state c.turn.result c.turn.ensures.turn

pub returns-in-Some-clause-turn_is : goal.returns-in-Some-clause-turn_is
returns-in-Some-clause-turn_is g c = ok_kept_by g.row.N c.args.self.now.state c.repeat.new.self.state c.repeat.result c.repeat.ensures.turn

pub ending-requires : goal.ending-requires
ending-requires g c = assumption

pub repeat-requires : goal.repeat-requires
repeat-requires g c = grind (arith, common_steps)

pub turn-requires : goal.turn-requires
turn-requires g c = grind (arith, common_steps)

pub returns-in-Some-clause-own : goal.returns-in-Some-clause-own
returns-in-Some-clause-own g c = assumption

pub returns-in-None-clause-state : goal.returns-in-None-clause-state
returns-in-None-clause-state g c = assumption

pub returns-in-Some-clause-state : goal.returns-in-Some-clause-state
returns-in-Some-clause-state g c = assumption

pub returns-in-Some-clause-count : goal.returns-in-Some-clause-count
returns-in-Some-clause-count g c = assumption

pub returns-in-None-clause-turn : goal.returns-in-None-clause-turn
returns-in-None-clause-turn g c = assumption

pub returns-in-None-clause-count : goal.returns-in-None-clause-count
returns-in-None-clause-count g c = assumption

pub returns-in-Some-clause-calls : goal.returns-in-Some-clause-calls
returns-in-Some-clause-calls g c = assumption

pub returns-in-None-clause-own : goal.returns-in-None-clause-own
returns-in-None-clause-own g c = assumption

pub returns-in-Some-clause-turn : goal.returns-in-Some-clause-turn
returns-in-Some-clause-turn g c = assumption

pub returns-in-None-clause-calls : goal.returns-in-None-clause-calls
returns-in-None-clause-calls g c = assumption
