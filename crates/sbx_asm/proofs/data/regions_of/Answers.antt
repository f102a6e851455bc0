use Rattle.std.proofs.Common.{List, ◌∷◌, ◌+◌, drop, ◌∙◌}
use Rattle.sbx_asm.specs.Items.{Item}
use Rattle.sbx_asm.specs.Images.{regions_of}
use Rattle.sbx_asm.specs.Rules.{Values}
use Rattle.sbx_asm.specs.Kept.{worth, regions_with}
use Rattle.sbx_asm.proofs.Walks.{goes_on}
use Rattle.sbx_asm.proofs.DataRegions.{all_regions}
use Rattle.sbx_asm.proofs.data.regions_of.Goals as goal

pub loop-line-preserved : goal.loop-line-preserved
loop-line-preserved c =
    let values : Values = worth c.args.table.now in
    let lines : List Item = c.args.lines.now in
    let so_far = c.loop-line.invariant in (
      c.line-item.result ∷ so_far.0,
      c.after-place.ensures so_far.0 so_far.1,
      c.in_ok-add_line.ensures so_far.0 (drop (c.loop-line.line-index + 1) lines) so_far.1
          ∙ goes_on (regions_with values c.loop-line.data so_far.0) (regions_of values lines) lines c.loop-line.line-index c.line-item.result c.loop-line-test.true c.line-item.is so_far.2,
    )

pub returns : goal.returns
returns c =
    let values : Values = worth c.args.table.now in
    let so_far = c.loop-line.invariant in
    c.new-3.ensures ∙ c.in_ok-end_region.ensures.regions
    ∙ all_regions values c.loop-line.data so_far.0 c.args.lines.now c.loop-line.line-index
    (regions_of values c.args.lines.now) c.loop-line-test.false so_far.2
