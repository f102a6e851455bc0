use Rattle.flat_plain.proofs.memory.Data.+store.Given as goal

abbrev pub decreases-store : goal.decreases-store
decreases-store l = l.count
