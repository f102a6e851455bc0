use Rattle.native_flow.specs.Labelling.{AreStarts, word_address}
use Rattle.native_flow.proofs.labels.BlockStarts.note_block.Given as goal

abbrev pub invariant-loop-k : goal.invariant-loop-k
invariant-loop-k l = AreStarts l.image (word_address l.k) l.self.starts.items l.self.owners.items
