use Rattle.std.proofs.Common.{map}
use Rattle.clap.specs.Words.{app_of}
use Rattle.cmd_words.proofs.Lines.{found_by, refused_on}
use Rattle.cmd_words.proofs.matches_of.Goals as goal

pub returns-in-Ok-clause-found : goal.returns-in-Ok-clause-found
returns-in-Ok-clause-found g c =
    found_by (app_of c.in_ok-command.command) (map g.S.AsStr.text c.args.words.now) c.in-Ok.matches c.in_ok-command.ensures
    c.in-Ok.ensures.kinds c.in-Ok.ensures.matches

pub returns-in-Err-clause-refused : goal.returns-in-Err-clause-refused
returns-in-Err-clause-refused g c =
    refused_on (app_of c.in_ok-command.command) (map g.S.AsStr.text c.args.words.now) c.in-Err.error c.usage_of.result
    c.in_ok-command.ensures c.in-Err.ensures.kinds c.usage_of.ensures
