use Rattle.std.proofs.Common.{arith, ap, ◌∙◌}
use Rattle.std.specs.Prelude.{slice_index, bit_or}
use Rattle.native_lang.specs.Values.{applied, value}
use Rattle.native_lang.specs.declared.operator.Operator.TheVariants as operators
use Rattle.native_results.proofs.Making.{on_ok, one}
use Rattle.native_results.proofs.statements.Statements.move_multiplier.Goals as goal

pub returns : goal.returns
returns c = on_ok c.set.result (λ _ at. one 36 c.in_ok-multiplier.multiplier (λ v. bit_or (applied operators.ShiftLeft (slice_index v 40) 31) (applied operators.ShiftRight (slice_index v 36) 1)) _ _ (omega arith) (omega arith) at
    (λ v. c.in_ok-multiplier.ensures v ∙ ap (λ t. bit_or t (value v c.in_ok-rest.rest)) (c.in_ok-lowest.ensures v)
    ∙ ap (bit_or (applied operators.ShiftLeft (slice_index v 40) 31)) (c.in_ok-rest.ensures v))) c.set.ensures
