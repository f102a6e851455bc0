use Rattle.std.proofs.Common.{◌≡◌, None, drop}
use Rattle.std.specs.List.{fold}
use Rattle.sbx_asm.specs.Rules.{told}
use Rattle.sbx_asm.proofs.fault.least_of.Given as goal

abbrev pub invariant-loop-fault : goal.invariant-loop-fault
invariant-loop-fault l = fold told l.least (drop l.fault-index l.faults) ≡ fold told None l.faults
