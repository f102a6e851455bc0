use Rattle.std.proofs.lemmas.Result.{IfOk-weaker}
use Rattle.native_words.proofs.Storing.{store_made}
use Rattle.native_words.proofs.accesses.store.Goals as goal

pub returns : goal.returns
returns c = IfOk-weaker c.push.result _ _ (λ _ list. λ size fits.
    store_made size c.args.rd c.args.address c.register-word.result c.args.width fits c.register-word.ensures.low c.register-word.ensures.value
    c.args.statements.now.list.items c.push.new.self.list.items list) c.push.ensures
