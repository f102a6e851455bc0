use Rattle.std.proofs.Common.{arith, ap, length, List, ℕ}
use Rattle.sbx_known.proofs.InOrder.{in_code}
use Rattle.sbx_known.proofs.places.word_of.Goals as goal

pub overflow_sub-place : goal.overflow_sub-place
overflow_sub-place c = c.address_of.ensures.low

pub bounds-words-place : goal.bounds-words-place
bounds-words-place c =
    let within = in_code c.args.image.now c.requires.keeps c.args.function c.args.block c.args.number _ c.requires.place c.address_of.ensures.value in
    let same = ap (λ (xs : List ℕ). length xs) c.words.ensures in
    omega (arith, within, same)
