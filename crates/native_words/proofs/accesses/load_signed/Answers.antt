use Rattle.std.proofs.lemmas.Result.{IfOk-weaker}
use Rattle.native_words.proofs.Loading.{signed_made}
use Rattle.native_words.proofs.accesses.load_signed.Goals as goal

pub returns : goal.returns
returns c = IfOk-weaker c.assign.result _ _ (λ _ list. λ loading sign.
    signed_made loading c.args.rd c.args.above c.args.address c.in_ok-up.up c.in_ok-down.down c.args.width sign c.assign.ensures.low c.in_ok-up.ensures c.in_ok-down.ensures
    c.args.statements.now.list.items c.push.new.self.list.items c.set.new.self.list.items c.assign.new.self.list.items c.in_ok-push.ensures c.in_ok-set.ensures list) c.assign.ensures.list
