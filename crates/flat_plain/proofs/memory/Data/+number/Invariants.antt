use Rattle.flat_plain.proofs.memory.Data.+number.Given as goal

abbrev pub decreases-number : goal.decreases-number
decreases-number l = l.count
