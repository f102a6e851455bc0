use Rattle.std.proofs.lemmas.Result.{IfOk-weaker}
use Rattle.native_words.proofs.Plainly.{y_written}
use Rattle.native_words.proofs.plain.write_y.Goals as goal

pub returns : goal.returns
returns c = IfOk-weaker c.set.result _ _ (λ _ list.
    y_written c.args.f.now c.register-first.result c.operand-second.result c.in_ok-e.e c.register-first.ensures.low c.operand-second.ensures.is c.register-first.ensures.value
    c.operand-second.ensures.value c.in_ok-e.ensures c.args.statements.now.list.items c.set.new.self.list.items list) c.set.ensures
