use Rattle.std.proofs.Common.{Bool, List, arith}
use Rattle.std.specs.Prelude.{not}
use Rattle.v8_meaning.specs.declared.operation.Operation.{Operation}
use Rattle.sbx_image.specs.Function.{Function}
use Rattle.sbx_rules.specs.Known.{known}
use Rattle.sbx_rules.specs.declared.cause.Cause.{Cause}
use Rattle.sbx_rules.specs.declared.cause.Cause.TheVariants.{UndefinedRead, ReservedRegister, Misaligned, OutOfBounds, ZeroDivisor, TagOverflow}
use Rattle.sbx_rules.specs.Operations.{access_of}
use Rattle.sbx_image.specs.Order.{function_at}
use Rattle.sbx_rules.specs.Places.{op_at}
use Rattle.sbx_rules.specs.Rules.{Holds, is_aligned_access, is_placed_access, may_divide_by_zero, may_overflow, reads_undefined, runs_with, touches_reserved}
use Rattle.sbx_rules.specs.Ways.{Visit, visits_at}
use Rattle.sbx_known.specs.Courses.{listed}
use Rattle.sbx_pass.proofs.Telling.{both, by_test, same_test}
use Rattle.sbx_pass.proofs.before.fault_on_ways.Goals as goal

pub returns : goal.returns
returns c =
    let parts = c.args.image.now in
    let f = c.args.spot.now.function in
    let b = c.args.spot.now.block in
    let i = c.args.spot.now.number in
    let o = c.args.spot.now.operation in
    let s = c.requires.spot in
    let fn = c.function_at-function.result.now in
    let ways = listed c.args.courses.now (known c.args.here.now) (known c.args.other.now) in
    let P : Cause → Type 0 = Holds parts f b i in
    let asks_6 : Function → Operation → List Visit → Bool = λ (fn : Function) (o : Operation) (vs : List Visit). runs_with (reads_undefined fn o) vs in
    let rule6 = by_test P UndefinedRead c.reads_undefined_on.result (asks_6 (function_at parts f) (op_at parts f b i) (visits_at parts f b i)) c.then_some.result c.then_some.ensures
    (same_test asks_6 c.reads_undefined_on.result fn (function_at parts f) o (op_at parts f b i) ways
    (visits_at parts f b i) c.reads_undefined_on.ensures c.function_at-function.ensures.value s.operation c.requires.visits) (λ h. h) (λ h. h) in
    let asks_7 : Function → Operation → List Visit → Bool = λ (fn : Function) (o : Operation) (vs : List Visit). runs_with (λ _. touches_reserved fn o) vs in
    let rule7 = by_test P ReservedRegister c.touches_reserved_on.result (asks_7 (function_at parts f) (op_at parts f b i) (visits_at parts f b i)) c.then_some-2.result c.then_some-2.ensures
    (same_test asks_7 c.touches_reserved_on.result fn (function_at parts f) o (op_at parts f b i) ways (visits_at parts f b i)
    (c.touches_reserved_on.ensures (known c.args.here.now) (known c.args.other.now)) c.function_at-function.ensures.value s.operation c.requires.visits)
    (λ h. h) (λ h. h) in
    let asks_8 : Function → Operation → List Visit → Bool = λ (fn : Function) (o : Operation) (vs : List Visit). runs_with (λ d. not (is_aligned_access (access_of fn o d))) vs in
    let rule8 = by_test P Misaligned c.is_misaligned_on.result (asks_8 (function_at parts f) (op_at parts f b i) (visits_at parts f b i)) c.then_some-3.result c.then_some-3.ensures
    (same_test asks_8 c.is_misaligned_on.result fn (function_at parts f) o (op_at parts f b i) ways
    (visits_at parts f b i) c.is_misaligned_on.ensures c.function_at-function.ensures.value s.operation c.requires.visits) (λ h. h) (λ h. h) in
    let asks_9 : Function → Operation → List Visit → Bool = λ (fn : Function) (o : Operation) (vs : List Visit). runs_with (λ d. not (is_placed_access parts fn.frame (access_of fn o d))) vs in
    let rule9 = by_test P OutOfBounds c.is_outside_on.result (asks_9 (function_at parts f) (op_at parts f b i) (visits_at parts f b i)) c.then_some-4.result c.then_some-4.ensures
    (same_test asks_9 c.is_outside_on.result fn (function_at parts f) o (op_at parts f b i) ways
    (visits_at parts f b i) c.is_outside_on.ensures c.function_at-function.ensures.value s.operation c.requires.visits) (λ h. h) (λ h. h) in
    let asks_10 : Function → Operation → List Visit → Bool = λ (fn : Function) (o : Operation) (vs : List Visit). runs_with (may_divide_by_zero o) vs in
    let rule10 = by_test P ZeroDivisor c.may_divide_by_zero_on.result (asks_10 (function_at parts f) (op_at parts f b i) (visits_at parts f b i)) c.then_some-5.result c.then_some-5.ensures
    (same_test asks_10 c.may_divide_by_zero_on.result fn (function_at parts f) o (op_at parts f b i) ways
    (visits_at parts f b i) c.may_divide_by_zero_on.ensures c.function_at-function.ensures.value s.operation c.requires.visits) (λ h. h) (λ h. h) in
    let asks_11 : Function → Operation → List Visit → Bool = λ (fn : Function) (o : Operation) (vs : List Visit). runs_with (may_overflow o) vs in
    let rule11 = by_test P TagOverflow c.may_overflow_on.result (asks_11 (function_at parts f) (op_at parts f b i) (visits_at parts f b i)) c.then_some-6.result c.then_some-6.ensures
    (same_test asks_11 c.may_overflow_on.result fn (function_at parts f) o (op_at parts f b i) ways
    (visits_at parts f b i) c.may_overflow_on.ensures c.function_at-function.ensures.value s.operation c.requires.visits) (λ h. h) (λ h. h) in
    let to7 = both P 6 7 8 c.then_some.result c.then_some-2.result c.or.result (omega arith) (omega arith) c.or.ensures rule6 rule7 in
    let to8 = both P 6 8 9 c.or.result c.then_some-3.result c.or-2.result (omega arith) (omega arith) c.or-2.ensures to7 rule8 in
    let to9 = both P 6 9 10 c.or-2.result c.then_some-4.result c.or-3.result (omega arith) (omega arith) c.or-3.ensures to8 rule9 in
    let to10 = both P 6 10 11 c.or-3.result c.then_some-5.result c.or-4.result (omega arith) (omega arith) c.or-4.ensures to9 rule10 in
    both P 6 11 12 c.or-4.result c.then_some-6.result c.or-5.result (omega arith) (omega arith) c.or-5.ensures to10 rule11
