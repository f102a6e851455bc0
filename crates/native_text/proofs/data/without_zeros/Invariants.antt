use Rattle.std.proofs.Common.{length}
use Rattle.native_text.specs.Programs.{IsPadded}
use Rattle.native_text.proofs.data.without_zeros.Given as goal

abbrev pub decreases-loop-front : goal.decreases-loop-front
decreases-loop-front l = length l.front

abbrev pub invariant-loop-front : goal.invariant-loop-front
invariant-loop-front l = IsPadded l.front l.bytes
