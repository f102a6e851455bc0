use Rattle.std.proofs.Common.{[], ◌∷◌, codes}
use Rattle.cmd_words.specs.Lines.{image_rule, shape_with, windows_rule}
use Rattle.cmd_words.proofs.Lines.{first_is, takes}
use Rattle.cmd_words.proofs.run.Goals as goal

pub returns : goal.returns
returns c =
    takes c.of-windows.result c.with.result c.path.result (shape_with (codes "run") (windows_rule ∷ [])) image_rule c.with.ensures
    (first_is c.of-windows.result (codes "run") c.number.result windows_rule c.of-windows.ensures c.number.ensures.rule)
    c.path.ensures.rule c.path.ensures.local
