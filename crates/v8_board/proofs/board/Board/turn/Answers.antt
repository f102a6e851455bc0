use Rattle.std.proofs.lemmas.Grind.{common_steps}
use Rattle.std.proofs.Common.{rules, ap, sym, subst, ◌≤◌, ◌+◌, arith}
use Rattle.v8_core.specs.Calls.{calls_by}
use Rattle.v8_contained.specs.Board.{board}
use Rattle.v8_board.specs.Seen.{Seen, turned}
use Rattle.v8_board.proofs.Sizes.{first_fits}
use Rattle.v8_board.proofs.board.Board.turn.Goals as goal

pub returns-in-Ok-clause-turn : goal.returns-in-Ok-clause-turn
unfolding turned
returns-in-Ok-clause-turn g c = search rules

pub returns-in-Ok-clause-count : goal.returns-in-Ok-clause-count
returns-in-Ok-clause-count g c = rw (sym (ap (λ (s : Seen g.row.N). s.failed) c.self.view_is)) c.in-Ok.ensures.step.1.failed

pub returns-in-Err-clause-count : goal.returns-in-Err-clause-count
returns-in-Err-clause-count g c = rw (sym (ap (λ (s : Seen g.row.N). s.failed) c.self.view_is)) c.in-Err.ensures.step.1.failed

pub returns-in-Err-clause-state : goal.returns-in-Err-clause-state
returns-in-Err-clause-state g c =
    let same = c.in-Err.ensures.step.0 in
    rw (ap (λ w. w.cpu) same, ap (λ w. w.memory.ram) same, ap (λ w. w.memory.device) same, c.step.ensures.mmu) (ap (λ (s : Seen g.row.N). s.state) c.self.view_is)

pub returns-in-Ok-clause-calls : goal.returns-in-Ok-clause-calls
returns-in-Ok-clause-calls g c =
    let calls = g.P.Port.calls c.step.new.self.bus.port in
    subst (λ (s : Seen g.row.N). (s.calls ≤ calls) × (calls ≤ s.calls + calls_by board s.state.world.memory.device c.in-Ok.turn.access)) c.self.view_is c.in-Ok.ensures.step.1.calls

pub returns-in-Err-clause-calls : goal.returns-in-Err-clause-calls
returns-in-Err-clause-calls g c =
    let calls = g.P.Port.calls c.step.new.self.bus.port in
    subst (λ (s : Seen g.row.N). (s.calls ≤ calls) × (calls ≤ s.calls + 1)) c.self.view_is c.in-Err.ensures.step.1.calls

pub returns-in-Err-clause-own : goal.returns-in-Err-clause-own
returns-in-Err-clause-own g c = c.in-Err.ensures.step.1.fault

pub invariant_of-self : goal.invariant_of-self
unfolding turned
invariant_of-self g c = grind (arith, common_steps)

pub step-requires : goal.step-requires
step-requires g c = search (first_fits)

pub invariant_of-self-in-Err : goal.invariant_of-self-in-Err
unfolding turned
invariant_of-self-in-Err g c = grind (arith, common_steps)

pub returns-in-Ok-clause-own : goal.returns-in-Ok-clause-own
returns-in-Ok-clause-own g c = assumption

pub returns-in-Err-clause-turn : goal.returns-in-Err-clause-turn
returns-in-Err-clause-turn g c = assumption

pub returns-in-Ok-clause-state : goal.returns-in-Ok-clause-state
returns-in-Ok-clause-state g c = assumption
