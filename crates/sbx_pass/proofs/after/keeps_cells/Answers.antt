use Rattle.std.proofs.Common.{List, sym, ap, ◌∙◌}
use Rattle.sbx_image.specs.Function.{Function}
use Rattle.sbx_image.specs.Range.{Range}
use Rattle.sbx_rules.specs.Known.{known}
use Rattle.sbx_image.specs.Order.{function_at}
use Rattle.sbx_rules.specs.Rules.{has_cells, has_outs}
use Rattle.sbx_pass.proofs.Params.{cells_first, outs_are_cells}
use Rattle.sbx_pass.proofs.after.keeps_cells.Goals as goal

pub returns-then-block-eq0 : goal.returns-then-block-eq0
returns-then-block-eq0 c =
    let d = known c.args.state.now in
    let parts = c.args.image.now in
    let f = c.args.function in
    c.has_outs.ensures ∙ ap (λ (rs : List Range). has_outs 8 rs d) (c.as_slice-params.ensures ∙ ap (λ (g : Function). g.params) c.function_at.ensures.value)
    ∙ outs_are_cells 8 (function_at parts f).params d ∙ ap (has_cells d) (sym (cells_first parts f c.args.block c.if-block-eq0.true))
