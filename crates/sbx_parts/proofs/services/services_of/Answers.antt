use Rattle.bitflags.proofs.OnLiterals.{bitflags_on_literals}
use Rattle.sbx_parts.proofs.services.services_of.Goals as goal

pub returns-clause-known : goal.returns-clause-known
unfolding bitflags_on_literals
returns-clause-known c = c.from_bits.ensures.known tt
