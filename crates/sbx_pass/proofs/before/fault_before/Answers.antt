use Rattle.std.proofs.Common.{ap, ◌∙◌, arith}
use Rattle.std.specs.Prelude.{not}
use Rattle.v8_meaning.specs.declared.operation.Operation.{Operation}
use Rattle.sbx_image.specs.Services.{Services}
use Rattle.sbx_rules.specs.declared.cause.Cause.{Cause}
use Rattle.sbx_rules.specs.declared.cause.Cause.TheVariants.{UndeclaredService}
use Rattle.sbx_rules.specs.Places.{op_at, service_asked}
use Rattle.sbx_rules.specs.Rules.{Holds, is_declared}
use Rattle.sbx_pass.proofs.Telling.{both, by_test}
use Rattle.sbx_pass.proofs.before.fault_before.Goals as goal

pub returns : goal.returns
returns c =
    let parts = c.args.image.now in
    let f = c.args.spot.now.function in
    let b = c.args.spot.now.block in
    let i = c.args.spot.now.number in
    let P : Cause → Type 0 = Holds parts f b i in
    let last = by_test P UndeclaredService (not c.is_declared.result) (not (is_declared parts.services (service_asked (op_at parts f b i)))) c.then_some.result c.then_some.ensures
    (ap not (c.is_declared.ensures ∙ ap (λ (x : Services). is_declared x (service_asked c.args.spot.now.operation)) c.services.ensures
    ∙ ap (λ (o : Operation). is_declared parts.services (service_asked o)) c.requires.spot.operation)) (λ h. h) (λ h. h) in
    let two = both P 1 6 12 c.fault_of_word.result c.fault_on_ways.result c.or.result (omega arith) (omega arith) c.or.ensures c.fault_of_word.ensures c.fault_on_ways.ensures in
    both P 1 12 13 c.or.result c.then_some.result c.or-2.result (omega arith) (omega arith) c.or-2.ensures two last
