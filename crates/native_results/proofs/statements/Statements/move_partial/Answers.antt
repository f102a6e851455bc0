use Rattle.std.proofs.Common.{arith, ap, ◌∙◌}
use Rattle.std.specs.Prelude.{slice_index, bit_or, bit_xor}
use Rattle.native_lang.specs.Values.{applied, value}
use Rattle.native_lang.specs.declared.operator.Operator.TheVariants as operators
use Rattle.native_results.proofs.Making.{on_ok, one}
use Rattle.native_results.proofs.statements.Statements.move_partial.Goals as goal

pub returns : goal.returns
returns c = on_ok c.set.result (λ _ at. one 40 c.in_ok-partial.partial (λ v. bit_or (applied operators.ShiftLeft (bit_xor (slice_index v 32) (slice_index v 34)) 31) (applied operators.ShiftRight (slice_index v 40) 1)) _ _ (omega arith) (omega arith) at
    (λ v. c.in_ok-partial.ensures v ∙ ap (λ t. bit_or t (value v c.in_ok-half.half)) (c.in_ok-sign.ensures v ∙ ap (λ t. applied operators.ShiftLeft t 31) (c.in_ok-less.ensures v))
    ∙ ap (bit_or (applied operators.ShiftLeft (bit_xor (slice_index v 32) (slice_index v 34)) 31)) (c.in_ok-half.ensures v))) c.set.ensures
