use Rattle.std.proofs.Common.{get_or, length, ap, ◌∙◌, arith}
use Rattle.native_flow.proofs.Starting.{at_bound, first_block, function_is, last_block}
use Rattle.native_flow.proofs.labels.BlockStarts.note_function.Goals as goal

pub loop-block-init : goal.loop-block-init
loop-block-init c =
    at_bound c.args.image.now _ _ c.args.self.now.starts.items c.args.self.now.owners.items (first_block c.args.image.now c.args.number c.keeps_its_format.ensures.kept c.requires.is) c.requires.before

pub note_block-requires-clause-is : goal.note_block-requires-clause-is
note_block-requires-clause-is c =
    let x = c.index-functions-number.result in
    let same = function_is c.args.image.now.functions c.args.number x c.requires.is (c.index-functions-number.is ∙ ap (λ l. get_or l c.args.number x) c.functions.ensures.value) in
    let many = ap (λ g. length g.blocks) same in
    let other = ap (λ g. length g.blocks) c.index-functions-number.is in
    let end = c.len-block-end.ensures in
    let less = c.loop-block-test.true in
    (c.requires.is, omega (arith, many, other, end, less))

pub returns : goal.returns
returns c =
    let x = c.index-functions-number.result in
    let same = function_is c.args.image.now.functions c.args.number x c.requires.is (c.index-functions-number.is ∙ ap (λ l. get_or l c.args.number x) c.functions.ensures.value) in
    let many = ap (λ g. length g.blocks) same in
    let other = ap (λ g. length g.blocks) c.index-functions-number.is in
    let end = c.len-block-end.ensures in
    let past = c.loop-block-test.false in
    at_bound c.args.image.now _ _ c.loop-block.self.starts.items c.loop-block.self.owners.items (last_block c.args.image.now c.args.number c.loop-block.block (omega (arith, many, other, end, past))) c.loop-block.invariant
