use Rattle.std.proofs.Common.{◌≡◌, ◌+◌, refl, ap, ◌∙◌, subst, arith}
use Rattle.std.specs.Prelude.{◌&&◌, ◌==◌, if◌then◌else◌}
use Rattle.v8_meaning.specs.declared.operation.Operation.{Operation}
use Rattle.sbx_domain.specs.Known.{known}
use Rattle.sbx_rules.specs.Places.{callee_at, callee_before, op_at, op_before}
use Rattle.sbx_rules.specs.Ways.{after_word, weight_of_place, weight_to}
use Rattle.sbx_known.specs.Courses.{is_branch}
use Rattle.sbx_known.proofs.Counts.{few_words, from_spot, next_one, no_weight, weight_step}
use Rattle.inspect_known.proofs.Entering.{Knows, goes_on, starts}
use Rattle.inspect_known.proofs.enter.enter.Goals as goal

pub loop-number-init : goal.loop-number-init
loop-number-init c =
    let parts = c.args.image.now in
    let f = c.args.function in
    let b = c.args.block in
    record {
      known = starts parts f b c.args.end (known c.start.new.state) c.start.ensures;
      weight = no_weight parts f b;
      bound = omega arith;
      before = refl;
      called = refl;
      called_is = tt;
    }

pub overflow_add-weight : goal.overflow_add-weight
overflow_add-weight c =
    let place = c.requires.place in
    let few = few_words c.args.image.now c.args.function c.args.block c.requires.keeps (place.function, place.block) in
    let within = place.word in
    let bound = c.loop-number.invariant.bound in
    let more = c.weight_of_spot-weight.ensures.bound in
    let less = c.loop-number-test.true in
    omega (arith, few, within, bound, more, less)

pub loop-number-preserved : goal.loop-number-preserved
loop-number-preserved c =
    let parts = c.args.image.now in
    let f = c.args.function in
    let b = c.args.block in
    let i = c.loop-number.number in
    let end = c.args.end in
    let r = c.spot_at-spot.result in
    let at = c.spot_at-spot.ensures.place in
    let spot = c.spot_at-spot.ensures.spot in
    let d = known c.loop-number.state in
    let x = known c.pass_to_slot.new.state in
    let less = c.loop-number-test.true in
    let weighs = from_spot (λ f b i. c.weight_of_spot-weight.result ≡ weight_of_place parts f b i) f b i r.function r.block r.number at.0 at.1 at.2 c.weight_of_spot-weight.ensures.value in
    let asks = from_spot (λ f b i. r.operation ≡ op_at parts f b i) f b i r.function r.block r.number at.0 at.1 at.2 spot.operation in
    let calls = from_spot (λ f b i. r.callee ≡ callee_at parts f b i) f b i r.function r.block r.number at.0 at.1 at.2 spot.callee in
    let moved = from_spot
    (λ f b i. x ≡
    (if ((c.loop-number.number + 1) == end)
    && is_branch r.operation then d else after_word parts f b i d)) f b i r.function r.block r.number at.0 at.1 at.2 c.pass_to_slot.ensures in
    let goes : x ≡ (if ((i + 1) == end) && is_branch (op_at parts f b i) then d else after_word parts f b i d) =
    moved ∙ ap (λ (o : Operation). if ((i + 1) == end) && is_branch o then d else after_word parts f b i d) asks in
    let bound = c.loop-number.invariant.bound in
    let more = c.weight_of_spot-weight.ensures.bound in
    record {
      known = subst (λ n. Knows parts f b n end x) (next_one i) (goes_on parts f b i end (omega (arith, less)) d x (c.loop-number.invariant.known.before (omega (arith, less))) goes);
      weight = weight_step parts f b i c.loop-number.weight c.weight_of_spot-weight.result c.loop-number.invariant.weight weighs ∙ ap (weight_to parts f b) (next_one i);
      bound = omega (arith, bound, more);
      before = asks ∙ ap (op_before parts f b) (next_one i);
      called = calls ∙ ap (callee_before parts f b) (next_one i);
      called_is = spot.callee_is;
    }

pub overflow_add-weight-2 : goal.overflow_add-weight-2
overflow_add-weight-2 c =
    let place = c.requires.place in
    let few = few_words c.args.image.now c.args.function c.args.block c.requires.keeps (place.function, place.block) in
    let within = place.word in
    let bound = c.loop-number.invariant.bound in
    let more = c.weight_of_spot-weight-2.ensures.bound in
    let top = c.loop-number.auto.number-end in
    omega (arith, few, within, bound, more, top)

pub returns-clause-weight : goal.returns-clause-weight
returns-clause-weight c =
    let parts = c.args.image.now in
    let f = c.args.function in
    let b = c.args.block in
    let end = c.args.end in
    let r = c.spot_at-spot-2.result in
    let at = c.spot_at-spot-2.ensures.place in
    let weighs = from_spot (λ f b i. c.weight_of_spot-weight-2.result ≡ weight_of_place parts f b i) f b end r.function r.block r.number at.0 at.1 at.2 c.weight_of_spot-weight-2.ensures.value in
    let top = c.loop-number.auto.number-end in
    let past = c.loop-number-test.false in
    let ended : c.loop-number.number ≡ end = omega (arith, top, past) in
    weight_step parts f b end c.loop-number.weight c.weight_of_spot-weight-2.result (c.loop-number.invariant.weight ∙ ap (weight_to parts f b) ended) weighs
