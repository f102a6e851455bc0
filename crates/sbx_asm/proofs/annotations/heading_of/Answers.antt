use Rattle.std.proofs.Common.{List, sym, get_or, ◌∙◌, arith}
use Rattle.std.proofs.lemmas.Grind.{common_steps}
use Rattle.std.proofs.lemmas.List.{at_drop_all}
use Rattle.std.specs.List.{flat_map, list_any}
use Rattle.sbx_image.specs.Services.{Services}
use Rattle.sbx_asm.specs.Items.{Item, services, stacks, depths, has, is_region}
use Rattle.sbx_asm.proofs.Firsts.{first_found, later, with_depths, with_regions}
use Rattle.sbx_asm.proofs.annotations.heading_of.Goals as goal

pub loop-line-preserved : goal.loop-line-preserved
loop-line-preserved c = grind (arith, common_steps, with_depths, with_regions)

pub returns : goal.returns
returns c =
    let lines : List Item = c.args.lines.now in
    let none : Services = record { 0 = 0 } in
    let so_far = c.loop-line.invariant in
    let done = c.loop-line-test.false in (
      sym (at_drop_all (λ (js : List Item). later c.loop-line.version (list_any (has depths) js) (list_any is_region js)) lines c.loop-line.line-index done) ∙ so_far.0,
      c.unwrap_or.ensures ∙ first_found none services c.loop-line.services (get_or (flat_map services lines) 0 none) lines c.loop-line.line-index done so_far.1,
      c.unwrap_or-2.ensures ∙ first_found 1 stacks c.loop-line.stack (get_or (flat_map stacks lines) 0 1) lines c.loop-line.line-index done so_far.2,
    )
