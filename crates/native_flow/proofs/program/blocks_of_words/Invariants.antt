use Rattle.native_flow.specs.Assembling.{AreFrom}
use Rattle.native_flow.proofs.program.blocks_of_words.Given as goal

abbrev pub invariant-loop-number : goal.invariant-loop-number
invariant-loop-number l = AreFrom l.image l.labels.starts.items l.edges.items l.number l.blocks.items
