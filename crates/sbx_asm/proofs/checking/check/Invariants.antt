use Rattle.std.proofs.Common.{◌≡◌, List, ◌++◌, [], drop}
use Rattle.std.specs.List.{fold}
use Rattle.sbx_asm.specs.Rules.{told, faults_at}
use Rattle.sbx_asm.specs.Items.{Item, each}
use Rattle.sbx_asm.specs.Images.{words_at}
use Rattle.sbx_asm.specs.Kept.{worth, context_at}
use Rattle.sbx_asm.proofs.checking.check.Given as goal

abbrev pub invariant-loop-at : goal.invariant-loop-at
invariant-loop-at l = record {
  before : List Item;
  context : l.context ≡ context_at (worth l.table) before;
  faults : fold told l.checked.fault (each (faults_at (worth l.table)) before (drop l.at l.lines)) ≡ fold told l.fn.told_before (each (faults_at (worth l.table)) [] l.lines);
  words : l.checked.words.items ++ each (words_at (worth l.table)) before (drop l.at l.lines) ≡ each (words_at (worth l.table)) [] l.lines;
}
