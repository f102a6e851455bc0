use Rattle.std.proofs.lemmas.Result.{IfOk-weaker}
use Rattle.native_words.proofs.Storing.{pair_made}
use Rattle.native_words.proofs.accesses.store_pair.Goals as goal

pub returns : goal.returns
returns c = IfOk-weaker c.push-2.result _ _ (λ _ list.
    pair_made c.args.rd c.odd_of.result c.args.address c.register-first.result c.register-other.result c.in_ok-second.second c.register-first.ensures.low c.odd_of.ensures
    c.register-first.ensures.value c.register-other.ensures.value c.in_ok-second.ensures c.args.statements.now.list.items c.set.new.self.list.items c.push.new.self.list.items
    c.push-2.new.self.list.items c.in_ok-set.ensures c.in_ok-push.ensures list) c.push-2.ensures
