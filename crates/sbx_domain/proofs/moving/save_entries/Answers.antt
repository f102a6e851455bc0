use Rattle.std.proofs.Common.{◌≡◌, ◌+◌, List, Option, length, ap, sym, subst, ◌∙◌, arith, length-set, rules}
use Rattle.sbx_domain.proofs.Moves.{FilledTo, after_clear_past, all_saved, next_in, no_in_yet, not_filled, one_more_filled, with_ins}
use Rattle.sbx_domain.proofs.moving.save_entries.Goals as goal

pub loop-location-init : goal.loop-location-init
loop-location-init g c = (search rules, no_in_yet g.row.T.Denot c.args.entries.now)

pub loop-location-preserved : goal.loop-location-preserved
loop-location-preserved g c =
    let A = g.row.T.Denot in
    let xs = c.args.entries.now in
    let ys = c.loop-location.entries in
    let n = c.loop-location.location in
    let e = c.get-entry.result in
    let size : length ys ≡ length xs = c.loop-location.invariant.0 in (
      ap (λ (zs : List (Option A)). length zs) c.set.ensures ∙ (length-set ys n e ∙ size),
      subst (λ (zs : List (Option A)). FilledTo A (n + 1) (with_ins A xs) xs zs) (sym c.set.ensures)
          (one_more_filled A n (with_ins A xs) xs ys e (omega (arith, size, c.requires.size, c.loop-location-test.true))
          (c.get-entry.ensures ∙ next_in A n xs ys c.loop-location.auto.location c.loop-location-test.true c.loop-location.invariant.1) c.loop-location.invariant.1),
    )

pub returns-clause-moved : goal.returns-clause-moved
returns-clause-moved g c =
    all_saved g.row.T.Denot c.loop-location.location c.args.entries.now c.loop-location.entries c.clear_entries.new.entries c.clear_entries-2.new.entries
    c.requires.size (omega arith) c.loop-location.invariant.1 c.clear_entries.ensures.cleared c.clear_entries-2.ensures.cleared

pub clear_entries-requires-2-clause-marked : goal.clear_entries-requires-2-clause-marked
clear_entries-requires-2-clause-marked g c = λ k low high unmarked.
    (c.clear_entries.ensures.cleared k
    ∙ (after_clear_past g.row.T.Denot 0 24 c.loop-location.entries k (omega (arith, low))
    ∙ (not_filled g.row.T.Denot c.loop-location.location k (with_ins g.row.T.Denot c.args.entries.now) c.args.entries.now c.loop-location.entries
    (let end : c.loop-location.location ≡ 32 = omega arith in omega (arith, low, end)) c.loop-location.invariant.1
    ∙ c.requires.marked k (omega arith) high unmarked)))
