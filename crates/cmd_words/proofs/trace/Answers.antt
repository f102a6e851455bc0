use Rattle.std.proofs.Common.{[], ◌∷◌, codes}
use Rattle.cmd_words.specs.Lines.{image_rule, limit_rule, shape_with, windows_rule}
use Rattle.cmd_words.proofs.Lines.{first_is, takes}
use Rattle.cmd_words.proofs.trace.Goals as goal

pub returns : goal.returns
returns c =
    takes c.with-limited.result c.with.result c.path.result (shape_with (codes "trace") (windows_rule ∷ limit_rule ∷ [])) image_rule c.with.ensures
    (takes c.of.result c.with-limited.result c.number-limit.result (shape_with (codes "trace") (windows_rule ∷ [])) limit_rule c.with-limited.ensures
    (first_is c.of.result (codes "trace") c.number-windows.result windows_rule c.of.ensures c.number-windows.ensures.rule)
    c.number-limit.ensures.rule c.number-limit.ensures.local)
    c.path.ensures.rule c.path.ensures.local
