use Rattle.cmd_words.specs.Lines.{image_rule}
use Rattle.cmd_words.proofs.Lines.{first_is}
use Rattle.cmd_words.proofs.of_image.Goals as goal

pub returns : goal.returns
returns c = first_is c.of.result c.args.name.now c.path.result image_rule c.of.ensures c.path.ensures.rule
