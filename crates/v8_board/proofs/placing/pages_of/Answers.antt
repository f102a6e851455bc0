use Rattle.std.proofs.Common.{length, rules, subst, sym, ◌≤◌, ◌∙◌, List, Bool}
use Rattle.v8_board.specs.Start.{pages_of}
use Rattle.v8_board.proofs.Placed.{rights_are}
use Rattle.v8_board.proofs.placing.pages_of.Goals as goal

pub returns : goal.returns
unfolding pages_of
returns c = rw (c.requires.rights ∙ sym (rights_are c.args.image.now (subst (λ (rs : List Bool). length rs ≤ 64) c.requires.rights c.requires.few))) (search rules)
