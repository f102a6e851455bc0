use Rattle.std.proofs.Common.{ap, refl, ◌∙◌, arith}
use Rattle.std.specs.Prelude.{if◌then◌else◌}
use Rattle.native_flow.proofs.Making.{on_ok, passes_apart, passes_counted}
use Rattle.native_flow.proofs.blocks.BlockMaking.word.Goals as goal

pub returns-then-counts_itself : goal.returns-then-counts_itself
returns-then-counts_itself c = on_ok c.word.result (λ _ adds straight. passes_apart c.args.operation.now c.args.self.now (record c.args.self.now { statements = c.word.new.statements })
    (c.counts_itself.ensures ∙ ap (λ b. if b then 0 else 1) c.if-counts_itself.true) straight (adds straight) refl) c.word.ensures

pub returns : goal.returns
returns c = on_ok c.word-2.result (λ _ adds straight. passes_counted c.args.operation.now c.args.self.now c.turns.new.self (record c.turns.new.self { statements = c.word-2.new.statements })
    (c.counts_itself.ensures ∙ ap (λ b. if b then 0 else 1) c.if-counts_itself.false) straight c.in_ok-turns.ensures.list (c.in_ok-turns.ensures.turns (omega arith)) (adds straight) refl) c.word-2.ensures
