use Rattle.std.proofs.Common.{length, refl, ap}
use Rattle.native_flow.proofs.Growing.{branched_from, grown_by}
use Rattle.native_flow.proofs.translation.branched.Goals as goal

pub returns-clause-block : goal.returns-clause-block
returns-clause-block c = λ f start some asks slot stands.
    branched_from c.args.image.now c.args.labels.now.starts.items f start c.edge_label-label.result (length c.as_slice.result.now) c.in_ok-block.field-0 c.args.edges.now.items c.note_edge.new.edges.items c.in_ok-block.field-0.edge
    (c.in_ok-block.ensures c.args.image.now f start some asks slot stands) c.edge_label-label.ensures (ap length c.as_slice.ensures.value) refl c.in_ok-note_edge.ensures

pub returns-clause-grows : goal.returns-clause-grows
returns-clause-grows c = grown_by c.args.edges.now.items c.note_edge.new.edges.items c.in_ok-block.field-0.edge c.in_ok-note_edge.ensures
