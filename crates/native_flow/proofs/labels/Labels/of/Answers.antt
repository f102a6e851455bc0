use Rattle.std.proofs.Common.{length, arith, ap}
use Rattle.native_flow.proofs.Starting.{at_bound, few_starts, last_function, no_starts, starts_as}
use Rattle.native_flow.proofs.labels.Labels.of.Goals as goal

pub loop-number-init : goal.loop-number-init
loop-number-init c = starts_as c.args.image.now _ _ _ _ _ c.new.ensures.items c.new-2.ensures.items (no_starts c.args.image.now c.keeps_its_format.ensures.kept)

pub returns-clause-starts : goal.returns-clause-starts
returns-clause-starts c = at_bound c.args.image.now _ _ c.loop-number.noted.starts.items c.loop-number.noted.owners.items (last_function c.args.image.now c.loop-number.number (omega (arith, ap length c.functions-number-end.ensures.value))) c.loop-number.invariant

pub invariant_of-result : goal.invariant_of-result
invariant_of-result c =
    let starts = at_bound c.args.image.now _ _ c.loop-number.noted.starts.items c.loop-number.noted.owners.items (last_function c.args.image.now c.loop-number.number (omega (arith, ap length c.functions-number-end.ensures.value))) c.loop-number.invariant in
    record { few = few_starts c.args.image.now c.loop-number.noted.starts.items c.loop-number.noted.owners.items c.keeps_its_format.ensures.kept starts; rise = starts.ascending }
