use Rattle.std.proofs.Common.{◌*◌, ◌%◌, ap}
use Rattle.std.proofs.lemmas.Result.{IfOk-weaker}
use Rattle.native_words.proofs.Plainly.{high_made}
use Rattle.native_words.proofs.plain.set_high.Goals as goal

pub returns : goal.returns
returns c = IfOk-weaker c.assign.result _ _ (λ _ list.
    high_made c.args.f.now _ c.assign.ensures.low (ap (λ n. n * 1024 % 4294967296) c.from.ensures) c.args.statements.now.list.items c.assign.new.self.list.items list) c.assign.ensures.list
