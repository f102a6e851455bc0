use Rattle.std.proofs.Common.{Ok, Err}
use Rattle.std.proofs.lemmas.Result.{err_from_is_err_and}
use Rattle.sbx_parts.specs.Rules.{each}
use Rattle.sbx_parts.proofs.Eaches.{at_item, goes_on, fails, is_done}
use Rattle.sbx_parts.proofs.lists.check_each.Goals as goal

pub returns-in_err-state : goal.returns-in_err-state
returns-in_err-state g c =
    let p = err_from_is_err_and c.from_residual.result c.from_residual.ensures.1 in
    let keeps = g.T.HasRules.keeps c.args.setting in
    rw (p.1, p.2)
    (fails keeps c.args.items.now c.loop-item.item-index c.loop-item.state c.in_err-state.field-0.0 c.item-item.result
    (each keeps c.args.first c.args.items.now) c.loop-item-test.true
    (at_item keeps c.args.items.now c.loop-item.item-index c.loop-item.state c.item-item.result
    (Err c.in_err-state.field-0.0) c.item-item.is c.in_err-state.ensures) c.loop-item.invariant)

pub loop-item-preserved : goal.loop-item-preserved
loop-item-preserved g c =
    let keeps = g.T.HasRules.keeps c.args.setting in
    goes_on keeps c.args.items.now c.loop-item.item-index c.loop-item.state c.in_ok-state.state c.item-item.result
    (each keeps c.args.first c.args.items.now) c.loop-item-test.true
    (at_item keeps c.args.items.now c.loop-item.item-index c.loop-item.state c.item-item.result
    (Ok c.in_ok-state.state) c.item-item.is c.in_ok-state.ensures) c.loop-item.invariant

pub returns : goal.returns
returns g c =
    let keeps = g.T.HasRules.keeps c.args.setting in
    is_done keeps c.args.items.now c.loop-item.item-index c.loop-item.state (each keeps c.args.first c.args.items.now) c.loop-item-test.false c.loop-item.invariant
