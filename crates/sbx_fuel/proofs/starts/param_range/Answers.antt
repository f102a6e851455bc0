use Rattle.std.proofs.Common.{◌∙◌, ◌-◌, ap, sym, arith, pos}
use Rattle.std.proofs.lemmas.Option.{slice_get-get_or, slice_get_past}
use Rattle.sbx_image.specs.Range.{Range}
use Rattle.sbx_rules.specs.Known.{range_of_entry}
use Rattle.sbx_fuel.proofs.Counting.{before_params, param_is}
use Rattle.sbx_fuel.proofs.starts.param_range.Goals as goal

none : Range
none = record { lo = pos 0; hi = pos 0; alignment = 0 }

pub returns-then-location-lt8 : goal.returns-then-location-lt8
returns-then-location-lt8 c = sym (ap range_of_entry (before_params 8 c.args.params.now c.args.location c.if-location-lt8.true))

pub returns-then-place-params : goal.returns-then-place-params
unfolding none
returns-then-place-params c =
    sym (param_is 8 c.args.params.now c.args.location (c.from-place.result - 8) (omega arith) ∙ slice_get-get_or c.args.params.now (c.from-place.result - 8) none (omega arith))

pub returns-else-place-params : goal.returns-else-place-params
returns-else-place-params c =
    sym (param_is 8 c.args.params.now c.args.location (c.from-place.result - 8) (omega arith) ∙ slice_get_past c.args.params.now (c.from-place.result - 8) (omega arith))
