use Rattle.std.proofs.Common.{◌≡◌, List, ◌++◌, [], drop}
use Rattle.sbx_asm.specs.Items.{Item, each}
use Rattle.sbx_asm.specs.Kept.{place_at, worth}
use Rattle.inspect_check.specs.Alone.{found_at}
use Rattle.inspect_check.proofs.faults.faults_behind.Given as goal

abbrev pub invariant-loop-line : goal.invariant-loop-line
invariant-loop-line l = record {
  before : List Item;
  stands : l.place ≡ place_at before;
  found : l.found.items ++ each (found_at (worth l.survey.table) l.survey.repeats.items l.behind) before (drop l.line-index l.lines) ≡
      each (found_at (worth l.survey.table) l.survey.repeats.items l.behind) [] l.lines;
}
