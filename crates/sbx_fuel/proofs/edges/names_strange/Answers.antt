use Rattle.std.proofs.Common.{arith}
use Rattle.std.proofs.lemmas.Grind.{common_steps}
use Rattle.sbx_fuel.proofs.KeptBlocks.{among}
use Rattle.sbx_fuel.proofs.edges.names_strange.Goals as goal

pub bounds-functions-f : goal.bounds-functions-f
bounds-functions-f c = grind (arith, common_steps)

pub bounds-as_slice-b : goal.bounds-as_slice-b
bounds-as_slice-b c =
    among c.args.image.now c.functions.result.now c.args.f c.args.b c.index-functions-f.result c.as_slice.result.now c.functions.ensures.value
    c.requires.function c.index-functions-f.is c.as_slice.ensures c.requires.block

pub offset_bounds-as_slice-b : goal.offset_bounds-as_slice-b
offset_bounds-as_slice-b c =
    grind (
      arith,
      common_steps,
      among c.args.image.now c.functions.result.now c.args.f c.args.b c.index-functions-f.result c.as_slice.result.now c.functions.ensures.value
          c.requires.function c.index-functions-f.is c.as_slice.ensures c.requires.block,
    )
