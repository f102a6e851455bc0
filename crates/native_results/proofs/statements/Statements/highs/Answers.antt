use Rattle.std.proofs.Common.{arith, slice_index, sym, subst}
use Rattle.native_lang.specs.Values.{applied}
use Rattle.native_results.specs.Bench.{Turns}
use Rattle.native_results.specs.Recipes.{with_high}
use Rattle.native_results.proofs.Making.{on_ok, one}
use Rattle.native_results.proofs.statements.Statements.highs.Goals as goal

pub returns : goal.returns
returns c =
    let old = c.args.self.now.list.items in
    let new = c.set.new.self.list.items in
    on_ok c.set.result (λ _ at. subst (λ h. Turns (with_high h) old new) (sym c.in-Some.is)
    (one 36 c.in_ok-high.high (λ v. applied c.in-Some.operator (slice_index v 40) (slice_index v 41)) old new (omega arith) (omega arith) at c.in_ok-high.ensures)) c.set.ensures
