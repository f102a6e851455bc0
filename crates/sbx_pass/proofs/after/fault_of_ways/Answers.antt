use Rattle.std.proofs.Common.{sym, ap, ◌∙◌, arith}
use Rattle.std.specs.Prelude.{◌&&◌, ◌||◌, ◌==◌, not, length}
use Rattle.std.specs.List.{list_any}
use Rattle.v8_meaning.specs.declared.operation.Operation.{Operation}
use Rattle.sbx_image.specs.Function.{Function}
use Rattle.sbx_rules.specs.Known.{known}
use Rattle.sbx_rules.specs.declared.cause.Cause.{Cause}
use Rattle.sbx_rules.specs.declared.cause.Cause.TheVariants.{OutOfStack, RunsPastEnd, UnkeptResults, BadEntry, TooDeep}
use Rattle.sbx_rules.specs.Operations.{is_return}
use Rattle.sbx_image.specs.Order.{function_at}
use Rattle.sbx_rules.specs.Places.{op_at}
use Rattle.sbx_rules.specs.Rules.{Holds, has_outs, is_back, is_entry, is_past, lacks_depth, lacks_room, now}
use Rattle.sbx_rules.specs.Ways.{Visit, visits_at}
use Rattle.sbx_known.specs.Courses.{arrived, listed}
use Rattle.sbx_pass.proofs.Arriving.{any_mapped}
use Rattle.sbx_pass.proofs.Telling.{both, by_test, from_19}
use Rattle.sbx_pass.proofs.after.fault_of_ways.Goals as goal

pub returns : goal.returns
returns c =
    let parts = c.args.image.now in
    let f = c.args.spot.now.function in
    let b = c.args.spot.now.block in
    let i = c.args.spot.now.number in
    let d = known c.args.here.now in
    let e = known c.args.other.now in
    let ways = c.requires.arrivals in
    let P : Cause → Type 0 = Holds parts f b i in
    let room = by_test P OutOfStack c.lacks_room.result (lacks_room parts f b i) c.then_some.result c.then_some.ensures c.lacks_room.ensures (λ h. h) (λ h. h) in
    let past = by_test P RunsPastEnd c.some_goes_past.result (list_any (λ (v : Visit). is_past v.way) (visits_at parts f b i)) c.then_some-2.result c.then_some-2.ensures
    (c.some_goes_past.ensures d e ∙ ap (list_any (λ (v : Visit). is_past v.way)) (sym ways) ∙ sym (any_mapped (λ v. is_past v.way) (arrived parts f b i) (visits_at parts f b i))) (λ h. h) (λ h. h) in
    let results =
    by_test P UnkeptResults c.breaks_results_on.result
    (list_any (λ (v : Visit). is_back v.way && not (has_outs 8 (function_at parts f).results (now parts f b i v)))
    (visits_at parts f b i)) c.then_some-3.result c.then_some-3.ensures
    (c.breaks_results_on.ensures
    ∙ ap (λ (g : Function). list_any (λ (v : Visit). is_back v.way && not (has_outs 8 g.results v.known)) (listed c.args.courses.now d e)) c.function_at-function.ensures.value
    ∙ ap (list_any (λ (v : Visit). is_back v.way && not (has_outs 8 (function_at parts f).results v.known))) (sym ways)
    ∙ sym (any_mapped (λ v. is_back v.way && not (has_outs 8 (function_at parts f).results v.known)) (arrived parts f b i) (visits_at parts f b i))) (λ h. h) (λ h. h) in
    let entry = by_test P BadEntry c.is_bad_entry.result
    ((f == 0) && ((is_entry b i && not (length (function_at parts f).params == 0))
    || is_return (op_at parts f b i))) c.then_some-4.result c.then_some-4.ensures
    (c.is_bad_entry.ensures ∙ ap (λ (o : Operation). (f == 0) && ((is_entry b i && not (length (function_at parts f).params == 0)) || is_return o)) c.requires.spot.operation) (λ h. h) (λ h. h) in
    let two = both P 15 16 17 c.then_some.result c.then_some-2.result c.or.result (omega arith) (omega arith) c.or.ensures room past in
    let three = both P 15 17 18 c.or.result c.then_some-3.result c.or-2.result (omega arith) (omega arith) c.or-2.ensures two results in
    let four = both P 15 18 19 c.or-2.result c.then_some-4.result c.or-3.result (omega arith) (omega arith) c.or-3.ensures three entry in
    let depth = by_test P TooDeep c.lacks_depth.result (lacks_depth parts f b i) c.then_some-5.result c.then_some-5.ensures c.lacks_depth.ensures (λ h. h) (λ h. h) in
    both P 15 19 21 c.or-3.result c.then_some-5.result c.or-4.result (omega arith) (omega arith) c.or-4.ensures four (from_19 P (λ want h. h) c.then_some-5.result depth)

pub breaks_results_on-requires : goal.breaks_results_on-requires
breaks_results_on-requires c = assumption
