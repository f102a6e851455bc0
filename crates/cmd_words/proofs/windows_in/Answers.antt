use Rattle.std.proofs.Common.{codes}
use Rattle.clap.specs.Words.{found_of}
use Rattle.cmd_words.proofs.Lines.{given_in, other_in}
use Rattle.cmd_words.proofs.windows_in.Goals as goal

pub returns-clause-given : goal.returns-clause-given
returns-clause-given c =
    given_in 4 32 8 c.get_str.result c.ok_or.result c.window_count.result (found_of c.args.found.now)
    (codes "windows") c.get_str.ensures c.ok_or.ensures.ok_part (c.window_count.ensures.given, c.window_count.ensures.left_out)

pub returns-clause-other : goal.returns-clause-other
returns-clause-other c =
    other_in 4 32 8 c.get_str.result c.ok_or.result c.window_count.result (found_of c.args.found.now)
    (codes "windows") c.get_str.ensures c.ok_or.ensures.ok_part (c.window_count.ensures.given, c.window_count.ensures.left_out)
