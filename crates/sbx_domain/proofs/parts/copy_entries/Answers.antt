use Rattle.std.proofs.Common.{arith, ◌∙◌}
use Rattle.sbx_domain.proofs.Moves.{all_copied, none_from}
use Rattle.sbx_domain.proofs.parts.copy_entries.Goals as goal

pub returns : goal.returns
returns g c =
    let A = g.row.T.Denot in
    let n = c.loop-location.location in
    all_copied A n c.args.from.now c.loop-location.to c.args.to.now c.requires.from_size (c.loop-location.invariant.0 ∙ c.requires.to_size)
    (none_from A n c.args.from.now c.requires.from_size (λ k past below. c.end_below.ensures.none k (omega (arith, past)) below))
    (none_from A n c.args.to.now c.requires.to_size (λ k past below. c.end_below-2.ensures.none k (omega (arith, past)) below))
    c.loop-location.invariant.1
