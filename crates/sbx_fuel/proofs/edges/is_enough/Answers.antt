use Rattle.std.proofs.Common.{arith}
use Rattle.std.proofs.lemmas.Grind.{common_steps}
use Rattle.sbx_rules.specs.Forms.{Form}
use Rattle.sbx_rules.specs.Known.{Known}
use Rattle.sbx_rules.specs.Fuel.{IsEnough}
use Rattle.sbx_fuel.proofs.KeptBlocks.{among, of_block, of_image, stands, stands_kept}
use Rattle.sbx_fuel.proofs.edges.is_enough.Goals as goal

pub is_enough_for-requires : goal.is_enough_for-requires
is_enough_for-requires c =
    let s = stands c.args.image.now c.functions.result.now c.args.f c.args.b c.index-functions-f.result c.as_slice.result.now c.index-as_slice-b.result
    c.functions.ensures.value c.requires.function c.index-functions-f.is c.as_slice.ensures c.requires.block c.index-as_slice-b.is in
    record { kept = stands_kept c.args.image.now c.requires.kept c.args.f c.args.b c.index-functions-f.result c.index-as_slice-b.result s c.requires.function c.requires.block }

pub returns-clause-enough : goal.returns-clause-enough
returns-clause-enough c = λ e.
    (let s = stands c.args.image.now c.functions.result.now c.args.f c.args.b c.index-functions-f.result c.as_slice.result.now c.index-as_slice-b.result
    c.functions.ensures.value c.requires.function c.index-functions-f.is c.as_slice.ensures c.requires.block c.index-as_slice-b.is in
    of_image (λ (d : Known) (g : Form). IsEnough d g c.args.weight) c.args.image.now c.args.f c.args.b c.index-functions-f.result c.index-as_slice-b.result s (c.is_enough_for.ensures.enough e))

pub returns-clause-short : goal.returns-clause-short
returns-clause-short c = λ e h.
    (let s = stands c.args.image.now c.functions.result.now c.args.f c.args.b c.index-functions-f.result c.as_slice.result.now c.index-as_slice-b.result
    c.functions.ensures.value c.requires.function c.index-functions-f.is c.as_slice.ensures c.requires.block c.index-as_slice-b.is in
    c.is_enough_for.ensures.short e (of_block (λ (d : Known) (g : Form). IsEnough d g c.args.weight) c.args.image.now c.args.f c.args.b c.index-functions-f.result c.index-as_slice-b.result s h))

pub bounds-functions-f : goal.bounds-functions-f
bounds-functions-f c = grind (arith, common_steps)

pub bounds-as_slice-b : goal.bounds-as_slice-b
bounds-as_slice-b c =
    among c.args.image.now c.functions.result.now c.args.f c.args.b c.index-functions-f.result c.as_slice.result.now c.functions.ensures.value
    c.requires.function c.index-functions-f.is c.as_slice.ensures c.requires.block

pub offset_bounds-as_slice-b : goal.offset_bounds-as_slice-b
offset_bounds-as_slice-b c =
    grind (
      arith,
      common_steps,
      among c.args.image.now c.functions.result.now c.args.f c.args.b c.index-functions-f.result c.as_slice.result.now c.functions.ensures.value
          c.requires.function c.index-functions-f.is c.as_slice.ensures c.requires.block,
    )
