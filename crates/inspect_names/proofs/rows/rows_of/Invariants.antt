use Rattle.std.proofs.Common.{◌≡◌, List, ◌++◌, [], drop}
use Rattle.sbx_asm.specs.Items.{Item, each}
use Rattle.sbx_asm.specs.Kept.{place_at}
use Rattle.inspect_names.specs.Rows.{row_at}
use Rattle.inspect_names.proofs.rows.rows_of.Given as goal

abbrev pub invariant-loop-line : goal.invariant-loop-line
invariant-loop-line l = record {
  before : List Item;
  stands : l.place ≡ place_at before;
  rows : l.rows.items ++ each row_at before (drop l.line-index l.lines) ≡ each row_at [] l.lines;
}
