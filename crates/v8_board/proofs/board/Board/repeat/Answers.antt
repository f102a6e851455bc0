use Rattle.v8_core.specs.Answers.{Grows, failed_after}
use Rattle.v8_core.specs.Calls.{calls_by, most_calls}
use Rattle.v8_core.specs.declared.turn.Turn.{Turn}
use Rattle.v8_contained.specs.Board.{board}
use Rattle.v8_core.proofs.Counted.{counted}
use Rattle.v8_board.specs.Seen.{Seen, turned}
use Rattle.std.proofs.Common.{◌≡◌, subst, arith}
use Rattle.std.proofs.lemmas.Grind.{common_steps}
use Rattle.v8_board.proofs.Sizes.{first_fits}
use Rattle.v8_board.proofs.board.Board.repeat.Goals as goal

pub returns-clause-turn : goal.returns-clause-turn
unfolding turned
returns-clause-turn g c = grind (arith, common_steps)

pub returns-clause-state : goal.returns-clause-state
returns-clause-state g c = grind (arith, common_steps)

pub returns-clause-count : goal.returns-clause-count
returns-clause-count g c =
    let ends = counted _ _ c.step.result _ _ c.step.ensures.step in
    subst (λ (s : Seen g.row.N). g.P.Port.failed c.step.new.self.bus.port ≡ failed_after c.step.result s.failed) c.self.view_is ends.0

pub returns-clause-calls : goal.returns-clause-calls
returns-clause-calls g c =
    let ends = counted _ _ c.step.result _ _ c.step.ensures.step in
    let calls = g.P.Port.calls c.step.new.self.bus.port in
    subst (λ (s : Seen g.row.N). Grows (most_calls (λ (turn : Turn). calls_by board s.state.world.memory.device turn.access) c.step.result) s.calls calls) c.self.view_is ends.1.0

pub returns-clause-own : goal.returns-clause-own
returns-clause-own g c = (counted _ _ c.step.result _ _ c.step.ensures.step).1.1

pub step-requires : goal.step-requires
step-requires g c = search (first_fits)

pub invariant_of-self : goal.invariant_of-self
unfolding turned
invariant_of-self g c = grind (arith, common_steps)
