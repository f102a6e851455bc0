use Rattle.std.proofs.Common.{◌≡◌, ◌+◌, ◌<◌, ℕ, suc, false, refl, ap, ◌∙◌, subst, arith}
use Rattle.sbx_rules.specs.Known.{known}
use Rattle.sbx_image.specs.Order.{words_in}
use Rattle.sbx_rules.specs.Places.{callee_at, callee_before, op_at, op_before}
use Rattle.sbx_rules.specs.Rules.{Holds, has_bad_shape}
use Rattle.sbx_rules.specs.Ways.{state_at, weight_of_place, weight_to}
use Rattle.sbx_pass.specs.Firsts.{AreKept, IsLeastOf, Tells}
use Rattle.sbx_known.proofs.Counts.{at_spot, few_words, from_spot, next_one, no_weight, weight_step}
use Rattle.sbx_pass.proofs.Blocks.{first_of_block, none_more, none_yet, shapes_kept}
use Rattle.sbx_pass.proofs.block.first_fault_in_block.Goals as goal

pub loop-number-init : goal.loop-number-init
loop-number-init c =
    let parts = c.args.image.now in
    let f = c.args.function in
    let b = c.args.block in
    record {
      none = none_yet parts f b;
      known = λ _. c.start.ensures;
      weight = no_weight parts f b;
      bound = omega arith;
      before = refl;
      called = refl;
      called_is = tt;
    }

pub overflow_add-weight : goal.overflow_add-weight
overflow_add-weight c =
    let few = few_words c.args.image.now c.args.function c.args.block c.requires.keeps c.requires.block in
    let bound = c.loop-number.invariant.bound in
    let more = c.weight_of_spot-weight.ensures.bound in
    let within = c.loop-number-test.true in
    let count = c.words_in-count.ensures in
    omega (arith, few, bound, more, within, count)

pub fault_at-requires-clause-shape : goal.fault_at-requires-clause-shape
fault_at-requires-clause-shape c =
    let parts = c.args.image.now in
    let f = c.args.function in
    let b = c.args.block in
    let i = c.loop-number.number in
    let r = c.spot_at-spot.result in
    let at = c.spot_at-spot.ensures.place in
    at_spot (λ f b i. (j : ℕ) → j < i → has_bad_shape parts f b j ≡ false) f b i r.function r.block r.number at.0 at.1 at.2 (shapes_kept parts f b i c.loop-number.invariant.none)

pub fault_at-requires-clause-weight : goal.fault_at-requires-clause-weight
fault_at-requires-clause-weight c =
    let parts = c.args.image.now in
    let f = c.args.function in
    let b = c.args.block in
    let i = c.loop-number.number in
    let r = c.spot_at-spot.result in
    let at = c.spot_at-spot.ensures.place in
    let weighs = from_spot (λ f b i. c.weight_of_spot-weight.result ≡ weight_of_place parts f b i) f b i r.function r.block r.number at.0 at.1 at.2 c.weight_of_spot-weight.ensures.value in
    at_spot (λ f b i. c.loop-number.weight + c.weight_of_spot-weight.result ≡ weight_to parts f b (suc i)) f b i r.function r.block r.number at.0 at.1 at.2
    (weight_step parts f b i c.loop-number.weight c.weight_of_spot-weight.result c.loop-number.invariant.weight weighs)

pub loop-number-preserved : goal.loop-number-preserved
loop-number-preserved c =
    let parts = c.args.image.now in
    let f = c.args.function in
    let b = c.args.block in
    let i = c.loop-number.number in
    let r = c.spot_at-spot.result in
    let at = c.spot_at-spot.ensures.place in
    let spot = c.spot_at-spot.ensures.spot in
    let none = c.in_default.is in
    let told = from_spot (λ f b i. Tells (Holds parts f b i) 1 21 c.fault_at.result) f b i r.function r.block r.number at.0 at.1 at.2 c.fault_at.ensures.told in
    let kept : AreKept (Holds parts f b i) 1 21 = subst (Tells (Holds parts f b i) 1 21) none told in
    let weighs = from_spot (λ f b i. c.weight_of_spot-weight.result ≡ weight_of_place parts f b i) f b i r.function r.block r.number at.0 at.1 at.2 c.weight_of_spot-weight.ensures.value in
    let goes_on =
    from_spot (λ f b i. suc i < words_in parts f b →
    known c.fault_at.new.here ≡ state_at parts f b (suc i)) f b i r.function r.block r.number at.0 at.1 at.2 (c.fault_at.ensures.next none) in
    let asks = from_spot (λ f b i. r.operation ≡ op_at parts f b i) f b i r.function r.block r.number at.0 at.1 at.2 spot.operation in
    let calls = from_spot (λ f b i. r.callee ≡ callee_at parts f b i) f b i r.function r.block r.number at.0 at.1 at.2 spot.callee in
    let bound = c.loop-number.invariant.bound in
    let more = c.weight_of_spot-weight.ensures.bound in
    let count = c.words_in-count.ensures in
    record {
      none = none_more parts f b i c.loop-number.invariant.none kept;
      known = λ less. goes_on (omega (arith, less, count)) ∙ ap (state_at parts f b) (next_one i);
      weight = weight_step parts f b i c.loop-number.weight c.weight_of_spot-weight.result c.loop-number.invariant.weight weighs ∙ ap (weight_to parts f b) (next_one i);
      bound = omega (arith, bound, more);
      before = asks ∙ ap (op_before parts f b) (next_one i);
      called = calls ∙ ap (callee_before parts f b) (next_one i);
      called_is = spot.callee_is;
    }

pub returns-in-Some : goal.returns-in-Some
returns-in-Some c =
    let parts = c.args.image.now in
    let f = c.args.function in
    let b = c.args.block in
    let i = c.loop-number.number in
    let r = c.spot_at-spot.result in
    let at = c.spot_at-spot.ensures.place in
    let told = from_spot (λ f b i. Tells (Holds parts f b i) 1 21 c.fault_at.result) f b i r.function r.block r.number at.0 at.1 at.2 c.fault_at.ensures.told in
    let least : IsLeastOf (Holds parts f b i) 1 21 c.in-Some.cause = subst (Tells (Holds parts f b i) 1 21) c.in-Some.is told in
    let within = c.loop-number-test.true in
    let count = c.words_in-count.ensures in
    first_of_block parts f b i c.in-Some.cause (omega (arith, within, count)) c.loop-number.invariant.none least
