use Rattle.std.proofs.Common.{sym, ◌∙◌}
use Rattle.leon_start.proofs.Owning.{behind, found, nowhere}
use Rattle.leon_start.proofs.own.own_word.Goals as goal

pub returns-then-is_some : goal.returns-then-is_some
returns-then-is_some c =
    found c.args.number c.args.parts.now c.loop-part.part-index c.loop-part.invariant _ c.loop-part-test.true c.word_in-word.result
    c.word_in-word.ensures (sym c.is_some.ensures ∙ c.if-is_some.true)

pub loop-part-preserved : goal.loop-part-preserved
loop-part-preserved c =
    behind c.args.number c.args.parts.now c.loop-part.part-index c.loop-part.invariant _ c.loop-part-test.true c.word_in-word.result
    c.word_in-word.ensures (sym c.is_some.ensures ∙ c.if-is_some.false)

pub returns : goal.returns
returns c = nowhere c.args.number c.args.parts.now c.loop-part.part-index c.loop-part.invariant c.loop-part-test.false
