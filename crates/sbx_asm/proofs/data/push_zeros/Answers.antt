use Rattle.std.proofs.Common.{◌∙◌}
use Rattle.sbx_asm.proofs.Copies.{one_more}
use Rattle.sbx_asm.proofs.data.push_zeros.Goals as goal

pub loop-preserved : goal.loop-preserved
loop-preserved c = c.in_ok-push.ensures.items ∙ one_more c.args.bytes.now.items c.loop.bytes.items c.loop.counter 0 c.loop.invariant
