use Rattle.std.proofs.lemmas.Result.{IfOk-weaker}
use Rattle.native_words.proofs.Plainly.{y_read}
use Rattle.native_words.proofs.plain.read_y.Goals as goal

pub returns : goal.returns
returns c = IfOk-weaker c.assign.result _ _ (λ _ list.
    y_read c.args.rd c.assign.ensures.low c.args.statements.now.list.items c.assign.new.self.list.items list) c.assign.ensures.list
