use Rattle.std.proofs.Common.{◌≡◌, List, pos, get_or, w64, to_z, of_z, ◌∙◌, arith, rules}
use Rattle.std.proofs.lemmas.Grind.{common_steps}
use Rattle.std.specs.List.{flat_map}
use Rattle.std.proofs.lemmas.Int.{to_z-of_z}
use mir.Val.{SFits}
use Rattle.sbx_asm.specs.Items.{Item, fuels, cells, terms}
use Rattle.sbx_asm.proofs.Walks.{all_given}
use Rattle.sbx_asm.proofs.Firsts.{first_found}
use Rattle.sbx_asm.proofs.annotations.block_with.Goals as goal

pub returns : goal.returns
returns c =
    let lines : List Item = c.args.lines.now in
    let so_far = c.loop-line.invariant in
    let done = c.loop-line-test.false in
    let fits : SFits w64 c.unwrap_or.result = search rules in
    let bits : to_z w64 (of_z w64 c.unwrap_or.result) ≡ c.unwrap_or.result = to_z-of_z w64 c.unwrap_or.result fits in
    let fuel = bits ∙ c.unwrap_or.ensures ∙ first_found (pos 0) fuels c.loop-line.fuel (get_or (flat_map fuels lines) 0 (pos 0)) lines c.loop-line.line-index done so_far.0 in
    let own_cells = c.new.ensures ∙ all_given cells c.loop-line.cells.items (flat_map cells lines) lines c.loop-line.line-index done so_far.1 in
    let own_terms = c.new-2.ensures ∙ all_given terms c.loop-line.terms.items (flat_map terms lines) lines c.loop-line.line-index done so_far.2 in
    λ j. record { address = c.args.address; fuel = fuel j; cells = own_cells j; terms = own_terms j }

pub loop-line-preserved : goal.loop-line-preserved
loop-line-preserved c = grind (arith, common_steps)
