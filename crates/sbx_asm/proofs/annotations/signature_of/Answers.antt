use Rattle.std.proofs.Common.{List, get_or, ◌∙◌, arith}
use Rattle.std.proofs.lemmas.Grind.{common_steps}
use Rattle.std.specs.List.{flat_map}
use Rattle.sbx_asm.specs.Items.{Item, params, results, depths}
use Rattle.sbx_asm.proofs.Walks.{all_given}
use Rattle.sbx_asm.proofs.Firsts.{first_found}
use Rattle.sbx_asm.proofs.annotations.signature_of.Goals as goal

pub returns : goal.returns
returns c =
    let lines : List Item = c.args.lines.now in
    let so_far = c.loop-line.invariant in
    let done = c.loop-line-test.false in (
      c.new.ensures ∙ all_given params c.loop-line.params.items (flat_map params lines) lines c.loop-line.line-index done so_far.0,
      c.new-2.ensures ∙ all_given results c.loop-line.results.items (flat_map results lines) lines c.loop-line.line-index done so_far.1,
      c.unwrap_or.ensures ∙ first_found 0 depths c.loop-line.depth (get_or (flat_map depths lines) 0 0) lines c.loop-line.line-index done so_far.2,
    )

pub loop-line-preserved : goal.loop-line-preserved
loop-line-preserved c = grind (arith, common_steps)
