use Rattle.std.proofs.Common.{[], ◌∷◌, codes}
use Rattle.cmd_words.specs.Lines.{path_rule, shape_with}
use Rattle.cmd_words.proofs.Lines.{first_is, takes}
use Rattle.cmd_words.proofs.asm.Goals as goal

pub returns : goal.returns
returns c =
    takes c.of-source.result c.with.result c.path-2.result (shape_with (codes "asm") (path_rule (codes "SRC") ∷ [])) (path_rule (codes "OUT")) c.with.ensures
    (first_is c.of-source.result (codes "asm") c.path.result (path_rule (codes "SRC")) c.of-source.ensures c.path.ensures.rule)
    c.path-2.ensures.rule c.path-2.ensures.local
