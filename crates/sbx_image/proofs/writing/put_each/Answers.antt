use Rattle.std.proofs.lemmas.Grind.{common_steps}
use Rattle.std.proofs.Common.{subst, sym, arith}
use Rattle.sbx_image.proofs.writing.put_each.Goals as goal

pub put-requires : goal.put-requires
put-requires g c = subst g.T.Writable.is_counted (sym c.item-item.is) (c.requires c.loop-item.item-index c.item-item.result c.loop-item-test.true)

pub returns : goal.returns
returns g c = grind (arith, common_steps)

pub loop-item-preserved : goal.loop-item-preserved
loop-item-preserved g c = grind (arith, common_steps)
