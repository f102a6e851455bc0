use Rattle.std.proofs.Common.{◌≡◌, None, length}
use Rattle.sbx_directives.specs.Directives.{behind}
use Rattle.sbx_directives.specs.Data.{is_known, is_fit}
use Rattle.sbx_directives.proofs.Misfits.{told}
use Rattle.sbx_directives.proofs.values.misfit.Given as goal

abbrev pub invariant-loop-operand : goal.invariant-loop-operand
invariant-loop-operand g l =
    told (is_known (g.S.Symbols.values l.symbols) l.line) (is_fit (g.S.Symbols.values l.symbols) l.line l.width) l.fault (behind l.line l.rest)
    ≡ told (is_known (g.S.Symbols.values l.symbols) l.line) (is_fit (g.S.Symbols.values l.symbols) l.line l.width) None (behind l.line l.tokens)

abbrev pub decreases-loop-operand : goal.decreases-loop-operand
decreases-loop-operand g l = length l.rest
