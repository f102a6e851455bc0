use Rattle.std.proofs.lemmas.Result.{IfOk-weaker}
use Rattle.native_flow.proofs.Growing.{puts}
use Rattle.native_flow.proofs.translation.serve.Goals as goal

pub returns : goal.returns
returns c = IfOk-weaker c.put.result _ _ (λ _ h. λ on. h c.args.trap.now (puts c.args.trap.now c.is_get.result c.is_get.ensures c.if-is_get.false on)) c.put.ensures
