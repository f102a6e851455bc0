use Rattle.std.proofs.Common.{arith}
use Rattle.std.specs.Prelude.{slice_index}
use Rattle.native_results.specs.Codes.{turned}
use Rattle.native_results.proofs.Making.{on_ok, one}
use Rattle.native_results.proofs.statements.Statements.turn_second.Goals as goal

pub returns : goal.returns
returns c = on_ok c.set.result (λ _ at. one 41 c.in_ok-turned.turned (λ v. turned (slice_index v 41)) _ _ (omega arith) (omega arith) at c.in_ok-turned.ensures) c.set.ensures
