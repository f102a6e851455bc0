use Rattle.std.proofs.Common.{arith}
use Rattle.std.proofs.lemmas.Grind.{common_steps}
use Rattle.sbx_domain.specs.Forms.{is_kept}
use Rattle.sbx_domain.proofs.lin.kept.Goals as goal

pub overflow_cast-result : goal.overflow_cast-result
unfolding is_kept
overflow_cast-result c = grind (arith, common_steps)

pub packed-requires-clause-few : goal.packed-requires-clause-few
packed-requires-clause-few c = assumption

pub overflow_cast-result-then-are_small : goal.overflow_cast-result-then-are_small
unfolding is_kept
overflow_cast-result-then-are_small c = grind (arith, common_steps)

pub packed-requires-clause-small : goal.packed-requires-clause-small
unfolding is_kept
packed-requires-clause-small c = grind (arith, common_steps)
