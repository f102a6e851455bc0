use Rattle.native_flow.specs.Labelling.{AreStarts, block_or_end}
use Rattle.native_flow.proofs.labels.BlockStarts.note_function.Given as goal

abbrev pub invariant-loop-block : goal.invariant-loop-block
invariant-loop-block l = AreStarts l.image (block_or_end l.image l.number l.block) l.self.starts.items l.self.owners.items
