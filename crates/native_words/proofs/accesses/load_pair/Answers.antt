use Rattle.std.proofs.lemmas.Result.{IfOk-weaker}
use Rattle.native_words.proofs.Pairs.{pair_made}
use Rattle.native_words.proofs.accesses.load_pair.Goals as goal

pub returns : goal.returns
returns c = IfOk-weaker c.load-2.result _ _ (λ _ list.
    pair_made c.args.rd c.odd_of.result c.args.address c.in_ok-second.second c.load.ensures.low c.odd_of.ensures c.in_ok-second.ensures
    c.args.statements.now.list.items c.set.new.self.list.items c.load.new.statements.list.items c.load-2.new.statements.list.items c.in_ok-set.ensures c.in_ok-load.ensures.list list) c.load-2.ensures.list
