use Rattle.std.proofs.Common.{◌+◌, List, [], ◌∷◌, ◌++◌, refl, ap, drop, arith}
use Rattle.std.proofs.lemmas.Grind.{common_steps}
use Rattle.sbx_asm.specs.Items.{Item, each}
use Rattle.inspect_names.specs.declared.rows.SourceRow.{SourceRow}
use Rattle.inspect_names.specs.Rows.{row_at}
use Rattle.sbx_asm.proofs.Walks.{one_more}
use Rattle.inspect_names.proofs.rows.rows_of.Goals as goal

pub loop-line-init : goal.loop-line-init
loop-line-init c = record {
  before = [];
  stands = c.start-place.ensures;
  rows = ap (λ (rows : List SourceRow). rows ++ each row_at [] c.args.lines.now) c.new-rows.ensures.items;
}

pub loop-line-preserved : goal.loop-line-preserved
loop-line-preserved c =
    let lines : List Item = c.args.lines.now in
    let so_far = c.loop-line.invariant in
    record {
      before = c.line-item.result ∷ so_far.before;
      stands = c.after-place.ensures so_far.before so_far.stands;
      rows = one_more row_at c.loop-line.rows.items c.push_row.new.rows.items (each row_at [] lines) so_far.before lines c.loop-line.line-index c.line-item.result
          (drop (c.loop-line.line-index + 1) lines) c.loop-line-test.true c.line-item.is refl
          (c.in_ok-push_row.ensures so_far.before (drop (c.loop-line.line-index + 1) lines) so_far.stands) so_far.rows;
    }

pub returns : goal.returns
returns c = grind (arith, common_steps)
