use Rattle.std.proofs.lemmas.Result.{IfOk-weaker}
use Rattle.native_words.proofs.Turning.{restore_as}
use Rattle.native_words.proofs.windows.restore.Goals as goal

pub returns : goal.returns
returns c = IfOk-weaker c.assign.result _ _ (λ _ list.
    restore_as c.args.f.now c.in_ok-sum.sum c.sum_of.ensures.low c.sum_of.ensures.is c.in_ok-sum.ensures.value c.args.statements.now.list.items c.set.new.self.list.items
    c.push.new.self.list.items c.push-2.new.self.list.items c.assign.new.self.list.items c.in_ok-set.ensures c.assign.ensures.low c.in_ok-push.ensures c.in_ok-push-2.ensures list) c.assign.ensures.list
