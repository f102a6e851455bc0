use Rattle.std.proofs.Common.{◌≡◌, ◌≤◌, ◌++◌, true, length}
use Rattle.std.specs.List.{list_all, flat_map}
use Rattle.sbx_directives.specs.Directives.{behind}
use Rattle.sbx_directives.specs.Data.{is_fit, bytes_of}
use Rattle.sbx_directives.proofs.values.push_all.Given as goal

-- what is there and what is still to come is all of it
abbrev pub invariant-loop-operand : goal.invariant-loop-operand
invariant-loop-operand g l =
    (list_all (is_fit (g.S.Symbols.values l.symbols) l.line l.width) (behind l.line l.rest) ≡ true)
    × (l.out.items ++ flat_map (bytes_of (g.S.Symbols.values l.symbols) l.line l.width) (behind l.line l.rest)
    ≡ l.initial.out.items ++ flat_map (bytes_of (g.S.Symbols.values l.symbols) l.line l.width) (behind l.line l.tokens))
    × (length l.initial.out.items ≤ length l.out.items)

abbrev pub decreases-loop-operand : goal.decreases-loop-operand
decreases-loop-operand g l = length l.rest
