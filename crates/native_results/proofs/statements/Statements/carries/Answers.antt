use Rattle.std.proofs.Common.{arith, slice_index, sym, subst}
use Rattle.native_lang.specs.Values.{applied}
use Rattle.native_results.specs.Bench.{Turns}
use Rattle.native_results.specs.Recipes.{with_carry_in}
use Rattle.native_results.proofs.Making.{on_ok, one}
use Rattle.native_results.proofs.statements.Statements.carries.Goals as goal

pub returns : goal.returns
returns c =
    let old = c.args.self.now.list.items in
    let new = c.set.new.self.list.items in
    on_ok c.set.result (λ _ at. subst (λ b. Turns (with_carry_in c.args.operator b) old new) (sym c.if-not-carry.false)
    (one 42 c.in_ok-result.result (λ v. applied c.args.operator (slice_index v 42) (slice_index v 35)) old new (omega arith) (omega arith) at c.in_ok-result.ensures)) c.set.ensures
