use Rattle.std.proofs.Common.{◌≡◌, drop}
use Rattle.sbx_asm.specs.Items.{ends_block}
use Rattle.sbx_asm.specs.Rules.{acts}
use Rattle.sbx_asm.specs.Kept.{worth}
use Rattle.sbx_asm.proofs.Ahead.{found_in}
use Rattle.sbx_asm.proofs.checking.any_acts.Given as goal

abbrev pub invariant-loop-line : goal.invariant-loop-line
invariant-loop-line l = found_in ends_block (acts (worth l.table)) (drop l.line-index l.lines) ≡ found_in ends_block (acts (worth l.table)) l.lines
