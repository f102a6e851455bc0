use Rattle.std.proofs.lemmas.Result.{IfOk-weaker}
use Rattle.native_words.proofs.Exchanging.{exchange_as}
use Rattle.native_words.proofs.accesses.exchanges.Goals as goal

pub returns : goal.returns
returns c = IfOk-weaker c.assign.result _ _ (λ _ list.
    exchange_as c.args.with c.args.rd c.args.address c.left_by.result c.width_of-width.result c.left_by.ensures.low c.width_of-width.ensures c.left_by.ensures.value
    c.args.statements.now.list.items c.set.new.self.list.items c.set-2.new.self.list.items c.push.new.self.list.items c.push-2.new.self.list.items c.assign.new.self.list.items
    c.in_ok-set.ensures c.in_ok-set-2.ensures c.in_ok-push.ensures c.in_ok-push-2.ensures list) c.assign.ensures.list
