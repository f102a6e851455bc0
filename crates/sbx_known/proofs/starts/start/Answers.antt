use Rattle.std.proofs.Common.{List, length, sym, ap, ◌∙◌, arith}
use Rattle.std.proofs.lemmas.List.{length-take-le}
use Rattle.sbx_image.specs.Cell.{Cell}
use Rattle.sbx_image.specs.Function.{Function}
use Rattle.sbx_image.specs.Range.{Range}
use Rattle.sbx_known.proofs.Limits.{function_limited}
use Rattle.sbx_known.proofs.starts.start.Goals as goal

pub param_cells-cells-requires : goal.param_cells-cells-requires
param_cells-cells-requires c =
    let few = (function_limited c.args.image.now c.requires.keeps c.args.function c.requires.block.0).params in
    let same = ap (λ (rs : List Range). length rs) (c.as_slice-params.ensures ∙ ap (λ (g : Function). g.params) c.function_at.ensures.value) in
    omega (arith, few, same)

pub slice_bounds-cells-end : goal.slice_bounds-cells-end
slice_bounds-cells-end c =
    let few = (function_limited c.args.image.now c.requires.keeps c.args.function c.requires.block.0).params in
    let same = ap (λ (rs : List Range). length rs) (c.as_slice-params.ensures ∙ ap (λ (g : Function). g.params) c.function_at.ensures.value) in
    let size = c.param_cells-cells.ensures.size in
    omega (arith, few, same, size)

pub slice_bounds-start-end : goal.slice_bounds-start-end
slice_bounds-start-end c =
    let few = (function_limited c.args.image.now c.requires.keeps c.args.function c.requires.block.0).params in
    let same = ap (λ (rs : List Range). length rs) (c.as_slice-params.ensures ∙ ap (λ (g : Function). g.params) c.function_at.ensures.value) in
    let size = c.param_cells-cells.ensures.size in
    sym (length-take-le {A = Cell} (length c.as_slice-params.result.now) c.param_cells-cells.result (omega (arith, few, same, size)))
