use Rattle.std.proofs.Common.{ap, ◌∙◌, arith}
use Rattle.std.specs.Prelude.{◌&&◌, not}
use Rattle.v8_meaning.specs.Admitted.{is_admitted}
use Rattle.v8_meaning.specs.declared.operation.Operation.{Operation}
use Rattle.sbx_rules.specs.declared.cause.Cause.{Cause}
use Rattle.sbx_rules.specs.declared.cause.Cause.TheVariants.{NotAnInstruction, NotAdmitted, BadShape, BadBranch, BadCall}
use Rattle.sbx_rules.specs.Operations.{is_call}
use Rattle.sbx_rules.specs.Places.{callee_at, op_at}
use Rattle.sbx_rules.specs.Rules.{Holds, branches_badly, has_bad_shape, is_later}
use Rattle.sbx_pass.proofs.Telling.{both, by_test, one}
use Rattle.sbx_pass.proofs.before.fault_of_word.Goals as goal

pub returns : goal.returns
returns c =
    let parts = c.args.image.now in
    let f = c.args.spot.now.function in
    let b = c.args.spot.now.block in
    let i = c.args.spot.now.number in
    let s = c.requires in
    let P : Cause → Type 0 = Holds parts f b i in
    let first = one P NotAnInstruction c.args.spot.now.is_no_instruction c.then_some.result c.then_some.ensures s.no_instruction.0 s.no_instruction.1 in
    let second = by_test P NotAdmitted (not c.is_admitted.result) (not (is_admitted (op_at parts f b i))) c.then_some-2.result c.then_some-2.ensures
    (ap not (c.is_admitted.ensures ∙ ap is_admitted s.operation)) (λ h. h) (λ h. h) in
    let third = by_test P BadShape c.has_bad_shape.result (has_bad_shape parts f b i) c.then_some-3.result c.then_some-3.ensures c.has_bad_shape.ensures (λ h. h) (λ h. h) in
    let fourth = by_test P BadBranch c.branches_badly.result (branches_badly parts f b i (op_at parts f b i)) c.then_some-4.result c.then_some-4.ensures
    (c.branches_badly.ensures ∙ ap (branches_badly parts f b i) s.operation) (λ h. h) (λ h. h) in
    let fifth = by_test P BadCall c.calls_badly.result (is_call (op_at parts f b i) && not (is_later parts f b i (callee_at parts f b i))) c.then_some-5.result c.then_some-5.ensures
    (c.calls_badly.ensures parts b i ∙ ap (λ (o : Operation). is_call o && not (is_later parts f b i c.args.spot.now.callee)) s.operation
    ∙ ap (λ g. is_call (op_at parts f b i) && not (is_later parts f b i g)) s.callee) (λ h. h) (λ h. h) in
    let two = both P 1 2 3 c.then_some.result c.then_some-2.result c.or.result (omega arith) (omega arith) c.or.ensures first second in
    let three = both P 1 3 4 c.or.result c.then_some-3.result c.or-2.result (omega arith) (omega arith) c.or-2.ensures two third in
    let four = both P 1 4 5 c.or-2.result c.then_some-4.result c.or-3.result (omega arith) (omega arith) c.or-3.ensures three fourth in
    both P 1 5 6 c.or-3.result c.then_some-5.result c.or-4.result (omega arith) (omega arith) c.or-4.ensures four fifth
