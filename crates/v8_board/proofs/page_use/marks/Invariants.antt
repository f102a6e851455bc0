use Rattle.std.proofs.Common.{◌≡◌, ◌<◌, ◌^◌}
use Rattle.v8_board.specs.Marks.{marks}
use Rattle.v8_board.proofs.page_use.marks.Given as goal

abbrev pub invariant-loop-i : goal.invariant-loop-i
invariant-loop-i g l = record { sum : l.all ≡ marks l.memory.ram l.table l.low l.i; bound : l.all < 2 ^ l.i }
