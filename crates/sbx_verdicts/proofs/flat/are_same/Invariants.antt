use Rattle.std.proofs.Common.{◌≡◌, length}
use Rattle.sbx_verdicts.proofs.flat.are_same.Given as goal

-- what is left of both tells of the whole
abbrev pub invariant-loop-place : goal.invariant-loop-place
invariant-loop-place l = l.ours ≡ l.theirs → l.first ≡ l.second

abbrev pub decreases-loop-place : goal.decreases-loop-place
decreases-loop-place l = length l.ours
