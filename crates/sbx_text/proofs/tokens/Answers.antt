use Rattle.std.proofs.Common.{List, ap, sym, ◌∙◌}
use Rattle.sbx_text.specs.declared.Token.{Token}
use Rattle.sbx_text.specs.Tokens.{tokens_of, in_front}
use Rattle.sbx_text.proofs.Law.{law_of}
use Rattle.sbx_text.proofs.Scans.{in_front_none}
use Rattle.sbx_text.proofs.tokens.Goals as goal

pub returns-in-Ok-clause-exact : goal.returns-in-Ok-clause-exact
returns-in-Ok-clause-exact c =
    sym (in_front_none (tokens_of c.args.line.now)) ∙ ap (λ (ts : List Token). in_front ts (tokens_of c.args.line.now)) (sym c.new-found.ensures.items) ∙ c.in-Ok.ensures.exact

pub returns-in-Ok-clause-slices : goal.returns-in-Ok-clause-slices
returns-in-Ok-clause-slices c =
    law_of c.args.line.now _
    (sym (in_front_none (tokens_of c.args.line.now)) ∙ ap (λ (ts : List Token). in_front ts (tokens_of c.args.line.now)) (sym c.new-found.ensures.items) ∙ c.in-Ok.ensures.exact)
