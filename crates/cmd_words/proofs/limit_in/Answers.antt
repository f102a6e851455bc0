use Rattle.std.proofs.Common.{codes}
use Rattle.clap.specs.Words.{found_of}
use Rattle.cmd_words.proofs.Lines.{given_in, other_in, from_zero}
use Rattle.cmd_words.proofs.limit_in.Goals as goal

pub returns-clause-given : goal.returns-clause-given
returns-clause-given c =
    given_in 0 9999999999 100000 c.get_str.result c.ok_or.result c.turns.result (found_of c.args.found.now)
    (codes "limit") c.get_str.ensures c.ok_or.ensures.ok_part
    (from_zero 9999999999 100000 c.get_str.result c.turns.result c.turns.ensures.given c.turns.ensures.left_out)

pub returns-clause-other : goal.returns-clause-other
returns-clause-other c =
    other_in 0 9999999999 100000 c.get_str.result c.ok_or.result c.turns.result (found_of c.args.found.now)
    (codes "limit") c.get_str.ensures c.ok_or.ensures.ok_part
    (from_zero 9999999999 100000 c.get_str.result c.turns.result c.turns.ensures.given c.turns.ensures.left_out)
