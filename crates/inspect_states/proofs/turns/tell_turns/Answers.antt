use Rattle.std.proofs.Common.{refl, ◌∙◌, sym, arith}
use Rattle.v8_core.specs.Completes.{world_of}
use Rattle.inspect_states.proofs.Told.{all_told, nothing_told, part_told, run_told, told_more}
use Rattle.inspect_states.proofs.turns.tell_turns.Goals as goal

pub loop-done-init : goal.loop-done-init
loop-done-init g c = (
  refl,
  nothing_told g.B.Bus.meaning g.row.N c.args.mmu.now
      (world_of g.row.N c.args.machine.now.cpu (g.B.Bus.state c.args.machine.now.bus)).held
      (record { registers = c.args.teller.now.registers; ram = (g.B.Bus.state c.args.teller.now.memory).held.ram }) (g.W.Write.contents c.args.out.now),
)

pub loop-done-preserved : goal.loop-done-preserved
loop-done-preserved g c = (
  c.tell_turn.ensures.mmu ∙ c.loop-done.invariant.0,
  told_more g.B.Bus.meaning g.row.N c.args.mmu.now _ _ _ c.loop-done.done _ _ _ _ _ _ c.loop-done.invariant.1
      (sym c.is_over.ensures ∙ c.if-is_over.false) c.in-Ok.ensures.whole,
)

pub returns-then-is_over-clause-whole : goal.returns-then-is_over-clause-whole
returns-then-is_over-clause-whole g c =
    run_told g.B.Bus.meaning g.row.N c.args.mmu.now c.args.limit _ _ c.loop-done.done _ _ _ _ c.loop-done.invariant.1 (omega arith)
    (λ none. let bad = sym none ∙ sym c.is_over.ensures ∙ c.if-is_over.true in absurd (let worse : ⊥ = cc in worse))

pub returns-in-Err-clause-part : goal.returns-in-Err-clause-part
returns-in-Err-clause-part g c =
    part_told g.B.Bus.meaning g.row.N c.args.mmu.now c.args.limit _ _ c.loop-done.done _ _ _ _ _ c.loop-done.invariant.1 (omega arith) c.in-Err.ensures.part

pub returns-clause-whole : goal.returns-clause-whole
returns-clause-whole g c =
    all_told g.B.Bus.meaning g.row.N c.args.mmu.now c.args.limit _ _ c.loop-done.done _ _ _ _ c.loop-done.invariant.1 (omega arith)
