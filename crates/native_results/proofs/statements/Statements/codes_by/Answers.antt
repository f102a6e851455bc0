use Rattle.std.proofs.Common.{arith, slice_index}
use Rattle.native_lang.specs.Values.{applied}
use Rattle.native_lang.specs.declared.operator.Operator.TheVariants as operators
use Rattle.native_results.specs.Bench.{bench_of}
use Rattle.native_results.specs.Codes.{carry_by, overflow_by, with_negative, with_overflow, with_zero}
use Rattle.native_results.proofs.Making.{also, on_ok, one}
use Rattle.native_results.proofs.statements.Statements.codes_by.Goals as goal

pub returns : goal.returns
returns c =
    let old = c.args.self.now.list.items in
    let m = c.args.making in
    let a = one 32 c.in_ok-negative.negative (λ v. applied operators.LessSigned (slice_index v 42) 0) old c.set.new.self.list.items (omega arith) (omega arith) c.in_ok-set.ensures c.in_ok-negative.ensures in
    let b = also (λ v. with_negative (bench_of v)) 33 c.in_ok-zero.zero (λ k. applied operators.Equal k.result 0) old c.set.new.self.list.items c.set-2.new.self.list.items (omega arith) (omega arith) a c.in_ok-set-2.ensures c.in_ok-zero.ensures in
    let d = also (λ v. with_zero (with_negative (bench_of v))) 34 c.in_ok-overflow.overflow (overflow_by m) old c.set-2.new.self.list.items c.set-3.new.self.list.items (omega arith) (omega arith) b c.in_ok-set-3.ensures c.in_ok-overflow.ensures in
    on_ok c.set-4.result (λ _ at. also (λ v. with_overflow m (with_zero (with_negative (bench_of v)))) 35 c.in_ok-carry.carry (carry_by m) old c.set-3.new.self.list.items c.set-4.new.self.list.items (omega arith) (omega arith) d at c.in_ok-carry.ensures) c.set-4.ensures
