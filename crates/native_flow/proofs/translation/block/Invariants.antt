use Rattle.std.proofs.Common.{◌≡◌, slice_index, nat_lt}
use Rattle.native_flow.specs.Labelling.{labels_of, word_address}
use Rattle.native_flow.specs.Making.{Stands}
use Rattle.native_flow.proofs.translation.block.Given as goal

abbrev pub invariant-loop-k : goal.invariant-loop-k
invariant-loop-k l = record {
  stands : Stands l.image (labels_of l.labels.starts.items) l.function (slice_index l.labels.starts.items l.number) (nat_lt l.first l.k) (word_address l.k) l.making;
  same : l.edges.items ≡ l.fn.edges.items;
}
