use Rattle.native_results.specs.Bench.{bench_of}
use Rattle.native_results.specs.Recipes.{with_added, with_multiplier, with_partial}
use Rattle.native_results.proofs.Making.{chain, on_ok}
use Rattle.native_results.proofs.statements.Statements.step.Goals as goal

pub returns : goal.returns
returns c =
    let old = c.args.self.now.list.items in
    let a = c.choose_second.new.self.list.items in
    let b = c.move_multiplier.new.self.list.items in
    on_ok c.move_partial.result (λ _ last. chain (λ v. with_multiplier (with_added (bench_of v))) with_partial old b c.move_partial.new.self.list.items
    (chain (λ v. with_added (bench_of v)) with_multiplier old a b c.in_ok-choose_second.ensures c.in_ok-move_multiplier.ensures) last) c.move_partial.ensures
