use Rattle.native_results.specs.Recipes.{followed}
use Rattle.native_results.proofs.Making.{chain, on_ok}
use Rattle.native_results.proofs.Adding.{computes, computes_alone, with_operands}
use Rattle.native_results.proofs.statements.Statements.compute.Goals as goal

pub returns-in-Some : goal.returns-in-Some
returns-in-Some c = on_ok c.assign.result (λ _ at. computes_alone c.args.op c.args.f.now c.in-Some.operator c.in_ok-result.result c.args.self.now.list.items c.assign.new.self.list.items
    c.assign.ensures.low c.computed.ensures.low c.computed.ensures.is c.in-Some.ensures c.in_ok-result.ensures.value at) c.assign.ensures.list

pub returns : goal.returns
returns c =
    let f = c.args.f.now in
    let old = c.args.self.now.list.items in
    let mid = c.follow.new.self.list.items in
    on_ok c.assign_result.result (λ _ at. computes c.args.op f c.recipe_of.result old mid c.assign_result.new.self.list.items c.assign_result.ensures.low c.operands.ensures.low c.operands.ensures.is
    c.recipe_of.ensures (chain (with_operands f) (followed c.recipe_of.result) old c.operands.new.self.list.items mid c.in_ok-operands.ensures.made c.in_ok-follow.ensures) at) c.assign_result.ensures.list
