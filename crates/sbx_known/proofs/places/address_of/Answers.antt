use Rattle.std.proofs.Common.{arith, ap, ◌+◌, ◌*◌}
use Rattle.sbx_image.specs.Block.{Block}
use Rattle.sbx_image.specs.Order.{address_of}
use Rattle.sbx_known.proofs.InOrder.{fits_low, lies_low}
use Rattle.sbx_known.proofs.places.address_of.Goals as goal

pub overflow_cast-result : goal.overflow_cast-result
overflow_cast-result c =
    let low = fits_low c.args.image.now c.requires.keeps c.args.function c.args.block c.args.number _ c.requires.place (ap (λ (b : Block). b.address) c.block_at.ensures) in
    omega (arith, low)

pub overflow_mul-result : goal.overflow_mul-result
overflow_mul-result c =
    let low = fits_low c.args.image.now c.requires.keeps c.args.function c.args.block c.args.number _ c.requires.place (ap (λ (b : Block). b.address) c.block_at.ensures) in
    omega (arith, low)

pub overflow_add-result : goal.overflow_add-result
overflow_add-result c =
    let low = fits_low c.args.image.now c.requires.keeps c.args.function c.args.block c.args.number _ c.requires.place (ap (λ (b : Block). b.address) c.block_at.ensures) in
    omega (arith, low)

pub returns-clause-value : goal.returns-clause-value
unfolding address_of
returns-clause-value c = ap (λ (b : Block). b.address + 4 * c.args.number) c.block_at.ensures

pub returns-clause-low : goal.returns-clause-low
unfolding address_of
returns-clause-low c =
    let low = lies_low c.args.image.now c.requires.keeps c.args.function c.args.block c.args.number c.requires.place in
    let same = ap (λ (b : Block). b.address) c.block_at.ensures in
    omega (arith, low.0, same)
