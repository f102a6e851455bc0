use Rattle.std.proofs.Common.{◌≡◌, ◌++◌, take, drop}
use Rattle.sbx_asm.specs.Items.{up_to, ends_function}
use Rattle.sbx_asm.proofs.own.up_to_function.Given as goal

abbrev pub invariant-loop-at : goal.invariant-loop-at
invariant-loop-at l = take l.at l.lines ++ up_to ends_function (drop l.at l.lines) ≡ up_to ends_function l.lines
