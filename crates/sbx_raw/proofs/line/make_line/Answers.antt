use Rattle.std.proofs.Common.{rules, arith}
use Rattle.sbx_raw.specs.Text.{line_of}
use Rattle.std.proofs.lemmas.Grind.{common_steps}
use Rattle.sbx_raw.proofs.line.make_line.Goals as goal

pub push_place-requires : goal.push_place-requires
push_place-requires c = search rules

pub returns : goal.returns
unfolding line_of
returns c = grind (arith, common_steps)
