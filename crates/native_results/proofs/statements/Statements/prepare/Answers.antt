use Rattle.std.proofs.Common.{sym, subst}
use Rattle.native_results.specs.Bench.{Turns}
use Rattle.native_results.specs.Recipes.{prepared}
use Rattle.native_results.proofs.Making.{on_ok}
use Rattle.native_results.proofs.statements.Statements.prepare.Goals as goal

pub returns-in-Stepped : goal.returns-in-Stepped
returns-in-Stepped c =
    on_ok c.step.result (λ _ last. subst (λ o. Turns (prepared o) c.args.self.now.list.items c.step.new.self.list.items) (sym c.in-Stepped.is) last) c.step.ensures
