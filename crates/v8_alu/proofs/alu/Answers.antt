use Rattle.std.proofs.Common.{rules}
use Rattle.v8_alu.specs.Outcomes.{outcome}
use Rattle.v8_alu.proofs.alu.Goals as goal

pub returns-in-Addx : goal.returns-in-Addx
unfolding outcome
returns-in-Addx c = search rules

pub returns-in-Smul : goal.returns-in-Smul
unfolding outcome
returns-in-Smul c = search rules

pub returns-in-Sra : goal.returns-in-Sra
unfolding outcome
returns-in-Sra c = search rules
