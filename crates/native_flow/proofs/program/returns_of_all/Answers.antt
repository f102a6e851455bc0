use Rattle.std.proofs.Common.{◌<◌, get_or, length, ap, ◌∙◌, subst}
use Rattle.native_flow.proofs.Assembling.{next_return}
use Rattle.native_flow.proofs.program.returns_of_all.Goals as goal

pub loop-function-preserved : goal.loop-function-preserved
loop-function-preserved c =
    let at = c.loop-function.function-index in
    let x = c.function-item.result in
    let there = c.functions-function-items.ensures.value in
    next_return c.args.image.now c.args.labels.now.starts.items c.args.labels.now.sites.items at c.loop-function.blocks.items c.push.new.self.items c.in_ok-returns_of.field-0 x
    c.loop-function.invariant (subst (λ l. at < length l) there c.loop-function-test.true) (c.function-item.is ∙ ap (λ l. get_or l at x) there) c.in_ok-returns_of.ensures
    c.in_ok-push.ensures.items
