use Rattle.std.proofs.lemmas.Grind.{common_steps}
use Rattle.std.proofs.Common.{sym, arith}
use Rattle.std.proofs.lemmas.List.{get_or_past}
use Rattle.sbx_domain.specs.Packed.{no_term}
use Rattle.sbx_domain.proofs.lin.kept_at.Goals as goal

pub returns-else-place-terms : goal.returns-else-place-terms
returns-else-place-terms c = sym (get_or_past c.args.terms.now c.args.place no_term c.if-place-terms.false)

pub of-requires : goal.of-requires
of-requires c = grind (arith, common_steps)
