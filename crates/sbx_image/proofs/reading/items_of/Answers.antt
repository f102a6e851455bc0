use Rattle.std.proofs.Common.{arith}
use Rattle.std.proofs.lemmas.Grind.{common_steps}
use Rattle.std.proofs.lemmas.Result.{err_from_is_err_and}
use Rattle.sbx_image.specs.Reading.{items_at}
use Rattle.sbx_image.proofs.Loops.{goes_on, ends, is_done}
use Rattle.sbx_image.proofs.reading.items_of.Goals as goal

pub returns-in_err-item : goal.returns-in_err-item
returns-in_err-item g c =
    let p = err_from_is_err_and c.from_residual-in_err-item.result c.from_residual-in_err-item.ensures.1 in
    let item_at = g.T.Readable.item_at c.args.setting in
    let at = g.T.Readable.at in
    rw (p.1, p.2)
    (λ kept. ends item_at c.in_err-item.field-0.0 c.loop.items.items c.args.count c.loop.counter (at c.loop.state c.loop.rest.now)
    (items_at item_at c.args.count (at c.args.first c.args.bytes.now)) c.loop-test.true (c.in_err-item.ensures kept) c.loop.invariant)

pub loop-preserved : goal.loop-preserved
loop-preserved g c =
    let item_at = g.T.Readable.item_at c.args.setting in
    let at = g.T.Readable.at in
    rw c.in_ok-push.ensures.items
    (goes_on item_at c.loop.items.items c.args.count c.loop.counter (at c.loop.state c.loop.rest.now) c.in_ok-item.item
    (at c.in_ok-item.next c.in_ok-item.after.now)
    (items_at item_at c.args.count (at c.args.first c.args.bytes.now)) c.loop-test.true c.in_ok-item.ensures c.loop.invariant)

pub returns : goal.returns
returns g c =
    let item_at = g.T.Readable.item_at c.args.setting in
    let at = g.T.Readable.at in
    is_done item_at c.loop.items.items c.args.count c.loop.counter (at c.loop.state c.loop.rest.now)
    (items_at item_at c.args.count (at c.args.first c.args.bytes.now)) c.loop-test.false c.loop.invariant

pub loop-init : goal.loop-init
loop-init g c = grind (arith, common_steps)
