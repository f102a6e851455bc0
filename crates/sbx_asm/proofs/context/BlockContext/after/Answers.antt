use Rattle.std.proofs.Common.{List, sym, ap, ◌∙◌}
use Rattle.std.specs.Prelude.{not, ◌&&◌, ◌||◌}
use Rattle.std.specs.List.{flat_map}
use Rattle.sbx_asm.specs.declared.context.BlockContext.{BlockContext}
use Rattle.sbx_asm.specs.Items.{Item, up_to, ends_block, cells, terms}
use Rattle.sbx_asm.proofs.Contexts.{in_block}
use Rattle.sbx_asm.proofs.context.BlockContext.after.Goals as goal

pub returns-else-ends_block : goal.returns-else-ends_block
returns-else-ends_block c = λ values before h acting begins annotated.
    let own : List Item = up_to ends_block before in
    in_block values before c.args.line.now c.args.self c.args.is_acting _ c.with_cell.result c.with_term.result (sym c.ends_block.ensures ∙ c.if-ends_block.false) h acting
    (λ j. not (begins j) && ((c.has_fuel.ensures j && annotated j) || (h j).has_fuel))
    (c.with_cell.ensures (flat_map cells own) (ap (λ (b : BlockContext). b.cells) h))
    (c.with_term.ensures (flat_map terms own) (ap (λ (b : BlockContext). b.terms) h))
