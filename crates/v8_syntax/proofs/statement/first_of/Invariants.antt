use Rattle.std.proofs.Common.{◌≡◌, map, drop, get_or}
use Rattle.v8_forms.specs.Forms.{Form, forms}
use Rattle.v8_syntax.specs.Statements.{statement_tokens, first_of}
use Rattle.v8_syntax.proofs.statement.first_of.Given as goal

-- the first of those that are left is the first of all
abbrev pub invariant-loop-number : goal.invariant-loop-number
invariant-loop-number g l =
    (d : Form)
    → first_of (g.S.Symbols.values l.symbols) (g.S.Symbols.place l.symbols) l.line l.fault (map (λ k. get_or forms k d) (drop l.number-index l.numbers)) l.name (statement_tokens l.line l.tokens)
    ≡ first_of (g.S.Symbols.values l.symbols) (g.S.Symbols.place l.symbols) l.line l.fn.fault (map (λ k. get_or forms k d) l.numbers) l.name (statement_tokens l.line l.tokens)
