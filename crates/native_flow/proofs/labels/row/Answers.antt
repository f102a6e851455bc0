use Rattle.std.proofs.Common.{arith}
use Rattle.native_flow.proofs.Starting.{few_words, row_from, row_is, row_to}
use Rattle.native_flow.proofs.labels.row.Goals as goal

pub overflow_add-block : goal.overflow_add-block
overflow_add-block c = let f = c.requires.fits in omega (arith, f)

pub word_place-first-requires : goal.word_place-first-requires
word_place-first-requires c = row_from c.args.image.now c.args.number c.args.block c.block_or_end.result c.keeps_its_format.ensures.kept c.requires.is c.block_or_end.ensures

pub word_place-last-requires : goal.word_place-last-requires
word_place-last-requires c = row_to c.args.image.now c.args.number c.args.block c.block_or_end-2.result c.keeps_its_format.ensures.kept c.requires.is c.block_or_end-2.ensures

pub returns : goal.returns
returns c =
    let row = row_is c.args.image.now c.args.number c.args.block c.word_place-first.result c.word_place-last.result c.block_or_end.result c.block_or_end-2.result c.keeps_its_format.ensures.kept
    c.requires.is c.block_or_end.ensures c.block_or_end-2.ensures c.word_place-first.ensures c.word_place-last.ensures in
    let within = row.within in
    let few = few_words c.args.image.now c.keeps_its_format.ensures.kept in
    record { row = row; few = omega (arith, within, few) }
