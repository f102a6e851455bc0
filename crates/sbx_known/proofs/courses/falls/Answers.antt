use Rattle.std.proofs.Common.{arith}
use Rattle.sbx_known.proofs.Counts.{few_words}
use Rattle.sbx_known.proofs.Limits.{function_limited}
use Rattle.sbx_known.proofs.courses.falls.Goals as goal

pub overflow_add-spot : goal.overflow_add-spot
overflow_add-spot c =
    let place = c.requires.place in
    let few = few_words c.args.image.now c.args.spot.now.function c.args.spot.now.block c.requires.keeps (place.function, place.block) in
    let within = place.word in
    omega (arith, few, within)

pub overflow_add-spot-else-spot : goal.overflow_add-spot-else-spot
overflow_add-spot-else-spot c =
    let few = (function_limited c.args.image.now c.requires.keeps c.args.spot.now.function c.requires.place.function).blocks in
    let within = c.requires.place.block in
    omega (arith, few, within)
