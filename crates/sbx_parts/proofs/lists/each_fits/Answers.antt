use Rattle.std.proofs.Common.{subst}
use Rattle.sbx_parts.proofs.Every.{goes_on, is_done}
use Rattle.sbx_parts.proofs.lists.each_fits.Goals as goal

pub loop-item-preserved : goal.loop-item-preserved
loop-item-preserved g c =
    goes_on g.T.Typed.is_typed c.args.items.now c.loop-item.item-index c.item-item.result c.loop-item-test.true
    (subst g.T.Typed.is_typed c.item-item.is c.fits.ensures) c.loop-item.invariant

pub returns : goal.returns
returns g c = is_done g.T.Typed.is_typed c.args.items.now c.loop-item.item-index c.loop-item-test.false c.loop-item.invariant
