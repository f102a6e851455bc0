use Rattle.clap.specs.Words.{found_of}
use Rattle.cmd_words.proofs.Lines.{path_missing, path_there}
use Rattle.cmd_words.proofs.path_in.Goals as goal

pub returns-clause-there : goal.returns-clause-there
returns-clause-there c = path_there c.get_str.result c.ok_or.result (found_of c.args.found.now) c.args.name.now c.get_str.ensures c.ok_or.ensures.ok_part

pub returns-clause-missing : goal.returns-clause-missing
returns-clause-missing c = path_missing c.get_str.result c.ok_or.result (found_of c.args.found.now) c.args.name.now c.get_str.ensures c.ok_or.ensures.ok_part
