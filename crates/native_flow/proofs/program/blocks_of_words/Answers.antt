use Rattle.native_flow.proofs.Assembling.{next_from}
use Rattle.native_flow.proofs.program.blocks_of_words.Goals as goal

pub loop-number-preserved : goal.loop-number-preserved
loop-number-preserved c =
    next_from c.args.image.now c.args.labels.now.starts.items c.loop-number.edges.items c.block.new.edges.items c.loop-number.number c.loop-number.blocks.items c.push.new.self.items
    c.in_ok-block.field-0 c.loop-number.invariant c.in_ok-block.ensures.grows c.in_ok-block.ensures.block c.in_ok-push.ensures.items
