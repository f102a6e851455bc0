use Rattle.std.proofs.Common.{ap, ◌∙◌}
use Rattle.std.specs.List.{filter}
use Rattle.v8_forms.specs.Forms.{forms}
use Rattle.v8_syntax.specs.Statements.{statement_tokens}
use Rattle.v8_syntax.specs.declared.fault.SyntaxFault.TheVariants.{UnknownMnemonic}
use Rattle.v8_syntax.proofs.Index.{begins, by_letter}
use Rattle.v8_syntax.proofs.statement.word_of_statement.Goals as goal

pub returns : goal.returns
returns g c =
    by_letter (g.S.Symbols.values c.args.symbols.now) (g.S.Symbols.place c.args.symbols.now) c.args.line.now c.args.name.now (statement_tokens c.args.line.now c.args.tokens.now)
    UnknownMnemonic c.numbers_from-numbers.result.now c.first_of.result
    (λ d. c.numbers_from-numbers.ensures.forms d ∙ ap (λ letter. filter (begins letter) forms) c.sign_byte.ensures)
    (λ d. c.first_of.ensures d)
