use Rattle.std.proofs.lemmas.Grind.{common_steps}
use Rattle.std.proofs.Common.{arith, sym, subst}
use Rattle.v8_mmu.specs.Walked.{root_of}
use Rattle.v8_cache.specs.Holds.{Holds}
use Rattle.v8_core.proofs.machine.Machine.port_mut.Goals as goal

pub returns : goal.returns
returns g c = grind (arith, common_steps)

-- RAM stays, whatever the port is left as
pub invariant_of-self-lent : goal.invariant_of-self-lent
invariant_of-self-lent g c = λ w. subst (λ ram. Holds ram (root_of c.self.inside.mmu) c.self.inside.cache) (sym (c.port_mut.ensures.ram w)) c.self.invariant
