use Rattle.std.proofs.Common.{arith, sym, rules, ◌∙◌}
use Rattle.sbx_domain.proofs.Marked.{cleared_past, part_cleared}
use Rattle.sbx_domain.proofs.Moves.{after_clear, after_clear_below, all_filled, filled_from}
use Rattle.sbx_domain.proofs.parts.clear_entries.Goals as goal

pub loop-location-init : goal.loop-location-init
loop-location-init g c =
    let A = g.row.T.Denot in
    let xs = c.args.entries.now in (
      search rules,
      omega arith,
      filled_from A c.args.from (after_clear A c.args.from c.args.to xs) xs (λ k below. after_clear_below A c.args.from c.args.to xs k below),
    )

-- a part without a mark
pub loop-location-preserved : goal.loop-location-preserved
loop-location-preserved g c = (
  c.loop-location.invariant.0,
  omega (arith, c.loop-location.invariant.1, c.next_part-location.ensures.after),
  part_cleared g.row.T.Denot c.args.from c.args.to c.loop-location.location c.next_part-location.result c.args.marks.now c.args.entries.now c.loop-location.entries
      c.loop-location.invariant.1 c.next_part-location.ensures.after c.next_part-location.ensures.part (sym c.is_marked.ensures ∙ c.if-is_marked.false) c.requires.marked c.loop-location.invariant.2,
)

pub returns-clause-cleared : goal.returns-clause-cleared
returns-clause-cleared g c =
    let A = g.row.T.Denot in
    let xs = c.args.entries.now in
    λ k. all_filled A c.loop-location.location (after_clear A c.args.from c.args.to xs) xs c.loop-location.entries
    (cleared_past A c.args.from c.args.to c.loop-location.location xs c.loop-location.invariant.1
    (λ j past below. c.end_below-end.ensures.none j (omega (arith, past, c.loop-location-test.false)) below)) c.loop-location.invariant.2 k

pub returns-clause-size : goal.returns-clause-size
returns-clause-size g c = c.loop-location.invariant.0
