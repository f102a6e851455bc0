use Rattle.std.proofs.lemmas.Grind.{common_steps}
use Rattle.std.proofs.Common.{rules, arith}
use Rattle.v8_state.specs.Registers.{psr_of}
use Rattle.v8_state.proofs.state.Cpu.psr.Goals as goal

pub returns : goal.returns
unfolding psr_of
returns g c = search rules

pub cwp-requires : goal.cwp-requires
unfolding psr_of
cwp-requires g c = grind (arith, common_steps)

pub overflow_add-result-3 : goal.overflow_add-result-3
unfolding psr_of
overflow_add-result-3 g c = grind (arith, common_steps)

pub overflow_add-result-2 : goal.overflow_add-result-2
unfolding psr_of
overflow_add-result-2 g c = grind (arith, common_steps)

pub overflow_mul-result : goal.overflow_mul-result
unfolding psr_of
overflow_mul-result g c = grind (arith, common_steps)

pub overflow_add-result : goal.overflow_add-result
unfolding psr_of
overflow_add-result g c = grind (arith, common_steps)
