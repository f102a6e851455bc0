use Rattle.native_results.proofs.Making.{on_ok}
use Rattle.native_results.proofs.Adding.{lays_out}
use Rattle.native_results.proofs.statements.Statements.operands.Goals as goal

pub returns-clause-made : goal.returns-clause-made
returns-clause-made c = on_ok c.set-2.result (λ _ at. lays_out c.args.f.now c.register-first.result c.operand-second.result c.args.self.now.list.items c.set.new.self.list.items c.set-2.new.self.list.items
    c.operand-second.ensures.is c.in_ok-set.ensures at c.register-first.ensures.value c.operand-second.ensures.value) c.set-2.ensures
