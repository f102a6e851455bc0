use Rattle.std.proofs.lemmas.Result.{IfOk-weaker}
use Rattle.v8_meaning.specs.declared.operation.Transfer.TheVariants as transfer
use Rattle.native_words.proofs.Accessing.{access_as}
use Rattle.native_words.proofs.accesses.transfer.Goals as goal

pub returns-in-Load : goal.returns-in-Load
returns-in-Load c = IfOk-weaker c.loads.result _ _ (λ _ adds.
    access_as c.args.transfer (transfer.Load c.in-Load.loading) c.args.operand.now c.in_ok-address.address c.in-Load.is c.sum_of.ensures.low c.sum_of.ensures.is c.in_ok-address.ensures.value
    c.args.statements.now.list.items c.loads.new.statements.list.items adds) c.loads.ensures

pub returns-in-Store : goal.returns-in-Store
returns-in-Store c = IfOk-weaker c.stores.result _ _ (λ _ adds.
    access_as c.args.transfer (transfer.Store c.in-Store.size) c.args.operand.now c.in_ok-address.address c.in-Store.is c.sum_of.ensures.low c.sum_of.ensures.is c.in_ok-address.ensures.value
    c.args.statements.now.list.items c.stores.new.statements.list.items adds) c.stores.ensures

pub returns-in-Exchange : goal.returns-in-Exchange
returns-in-Exchange c = IfOk-weaker c.exchanges.result _ _ (λ _ adds.
    access_as c.args.transfer (transfer.Exchange c.in-Exchange.with) c.args.operand.now c.in_ok-address.address c.in-Exchange.is c.sum_of.ensures.low c.sum_of.ensures.is c.in_ok-address.ensures.value
    c.args.statements.now.list.items c.exchanges.new.statements.list.items adds) c.exchanges.ensures
