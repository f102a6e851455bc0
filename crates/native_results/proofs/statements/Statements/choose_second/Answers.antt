use Rattle.std.proofs.Common.{arith, ap, ◌∙◌}
use Rattle.std.specs.Prelude.{slice_index, bit_and}
use Rattle.native_lang.specs.Values.{applied}
use Rattle.native_lang.specs.declared.operator.Operator.TheVariants as operators
use Rattle.native_results.proofs.Making.{on_ok, one}
use Rattle.native_results.proofs.statements.Statements.choose_second.Goals as goal

pub returns : goal.returns
returns c = on_ok c.set.result (λ _ at. one 41 c.in_ok-added.added (λ v. bit_and (slice_index v 41) (applied operators.Difference 0 (bit_and (slice_index v 36) 1))) _ _ (omega arith) (omega arith) at
    (λ v. c.in_ok-added.ensures v ∙ ap (bit_and (slice_index v 41)) (c.in_ok-mask.ensures v ∙ ap (applied operators.Difference 0) (c.in_ok-low.ensures v)))) c.set.ensures
