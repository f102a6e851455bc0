use Rattle.std.proofs.lemmas.Grind.{common_steps}
use Rattle.std.proofs.Common.{sym, subst, arith}
use Rattle.sbx_rules.specs.Forms.{Form}
use Rattle.sbx_rules.specs.Known.{Known}
use Rattle.sbx_rules.specs.Fuel.{IsWithinBudget}
use Rattle.sbx_rules.specs.Ways.{fuel_at, state_at}
use Rattle.sbx_fuel.proofs.KeptBlocks.{among, of_block, of_image, stands, stands_kept}
use Rattle.sbx_fuel.proofs.edges.is_within_budget.Goals as goal

pub is_within-requires : goal.is_within-requires
is_within-requires c =
    let s = stands c.args.image.now c.functions.result.now c.args.f c.args.b c.index-functions-f.result c.as_slice.result.now c.index-as_slice-b.result
    c.functions.ensures.value c.requires.function c.index-functions-f.is c.as_slice.ensures c.requires.block c.index-as_slice-b.is in
    record { kept = stands_kept c.args.image.now c.requires.kept c.args.f c.args.b c.index-functions-f.result c.index-as_slice-b.result s c.requires.function c.requires.block }

pub returns-clause-within : goal.returns-clause-within
returns-clause-within c = λ e.
    (let s = stands c.args.image.now c.functions.result.now c.args.f c.args.b c.index-functions-f.result c.as_slice.result.now c.index-as_slice-b.result
    c.functions.ensures.value c.requires.function c.index-functions-f.is c.as_slice.ensures c.requires.block c.index-as_slice-b.is in
    subst (λ k. IsWithinBudget (state_at c.args.image.now c.args.f c.args.b 0) (fuel_at c.args.image.now c.args.f c.args.b) k.budget) (sym s.function_is)
    (of_image (λ (d : Known)
    (g : Form). IsWithinBudget d g c.index-functions-f.result.budget) c.args.image.now c.args.f c.args.b c.index-functions-f.result
    c.index-as_slice-b.result s (c.is_within.ensures.within e)))

pub returns-clause-above : goal.returns-clause-above
returns-clause-above c = λ e h.
    (let s = stands c.args.image.now c.functions.result.now c.args.f c.args.b c.index-functions-f.result c.as_slice.result.now c.index-as_slice-b.result
    c.functions.ensures.value c.requires.function c.index-functions-f.is c.as_slice.ensures c.requires.block c.index-as_slice-b.is in
    c.is_within.ensures.above e
    (of_block (λ (d : Known)
    (g : Form). IsWithinBudget d g c.index-functions-f.result.budget) c.args.image.now c.args.f c.args.b c.index-functions-f.result
    c.index-as_slice-b.result s
    (subst (λ k. IsWithinBudget (state_at c.args.image.now c.args.f c.args.b 0) (fuel_at c.args.image.now c.args.f c.args.b) k.budget) s.function_is h)))

pub bounds-functions-f : goal.bounds-functions-f
bounds-functions-f c = grind (arith, common_steps)

pub bounds-as_slice-b : goal.bounds-as_slice-b
bounds-as_slice-b c =
    among c.args.image.now c.functions.result.now c.args.f c.args.b c.index-functions-f.result c.as_slice.result.now c.functions.ensures.value
    c.requires.function c.index-functions-f.is c.as_slice.ensures c.requires.block

pub offset_bounds-as_slice-b : goal.offset_bounds-as_slice-b
offset_bounds-as_slice-b c =
    grind (
      arith,
      common_steps,
      among c.args.image.now c.functions.result.now c.args.f c.args.b c.index-functions-f.result c.as_slice.result.now c.functions.ensures.value
          c.requires.function c.index-functions-f.is c.as_slice.ensures c.requires.block,
    )
