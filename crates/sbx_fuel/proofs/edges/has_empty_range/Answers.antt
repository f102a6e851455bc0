use Rattle.sbx_rules.specs.Known.{known}
use Rattle.sbx_fuel.proofs.KeptBlocks.{none_empty, one_empty}
use Rattle.sbx_fuel.proofs.edges.has_empty_range.Goals as goal

pub returns-clause-empty : goal.returns-clause-empty
returns-clause-empty c = λ e some.
    (let l = c.has_empty_range.ensures.some e in
    one_empty (known c.args.now.now) l.0 l.1 some)

pub returns-clause-full : goal.returns-clause-full
returns-clause-full c = λ e. none_empty (known c.args.now.now) c.requires (λ k low high. c.has_empty_range.ensures.none e k)
