use Rattle.std.proofs.Common.{arith, refl, sym, subst}
use Rattle.native_lang.specs.declared.expr.Expr.TheVariants.{Variable}
use Rattle.native_results.specs.Bench.{Turns, bench_of}
use Rattle.native_results.specs.Codes.{coded}
use Rattle.native_results.specs.Quotients.{with_quotient_codes}
use Rattle.native_results.specs.declared.codes.CodesBy.TheVariants.{Logic}
use Rattle.native_results.proofs.Making.{also, on_ok}
use Rattle.native_results.proofs.statements.Statements.quotient_codes.Goals as goal

pub returns : goal.returns
returns c =
    let old = c.args.self.now.list.items in
    let mid = c.codes_by.new.self.list.items in
    let new = c.set.new.self.list.items in
    on_ok c.set.result (λ _ at. subst (λ b. Turns (with_quotient_codes b) old new) (sym c.if-not-codes.false)
    (also (λ v. coded Logic (bench_of v)) 34 (Variable 45) (λ k. k.nowhere) old mid new (omega arith) (omega arith) c.in_ok-codes_by.ensures at (λ v. refl))) c.set.ensures
