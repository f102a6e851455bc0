use Rattle.std.proofs.Common.{arith}
use Rattle.std.specs.Prelude.{slice_index}
use Rattle.native_lang.specs.Values.{applied}
use Rattle.native_results.proofs.Making.{on_ok, one}
use Rattle.native_results.proofs.statements.Statements.results.Goals as goal

pub returns : goal.returns
returns c = on_ok c.set.result (λ _ at. one 42 c.in_ok-result.result (λ v. applied c.args.operator (slice_index v 40) (slice_index v 41)) _ _ (omega arith) (omega arith) at c.in_ok-result.ensures) c.set.ensures
