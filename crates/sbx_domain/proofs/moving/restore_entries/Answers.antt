use Rattle.std.proofs.Common.{◌≡◌, ◌+◌, List, Option, length, ap, sym, subst, ◌∙◌, arith, length-set, rules}
use Rattle.sbx_domain.proofs.Moves.{FilledTo, after_restore, all_restored, next_out, no_out_yet, not_filled, one_more_filled}
use Rattle.sbx_domain.proofs.moving.restore_entries.Goals as goal

pub loop-location-init : goal.loop-location-init
loop-location-init g c = (search rules, no_out_yet g.row.T.Denot c.args.entries.now)

pub loop-location-preserved : goal.loop-location-preserved
loop-location-preserved g c =
    let A = g.row.T.Denot in
    let xs = c.args.entries.now in
    let ys = c.loop-location.entries in
    let n = c.loop-location.location in
    let e = c.get-entry.result in
    let size : length ys ≡ length xs = c.loop-location.invariant.0 in (
      ap (λ (zs : List (Option A)). length zs) c.set.ensures ∙ (length-set ys n e ∙ size),
      subst (λ (zs : List (Option A)). FilledTo A (n + 1) (after_restore A xs) xs zs) (sym c.set.ensures)
          (one_more_filled A n (after_restore A xs) xs ys e (omega (arith, size, c.requires.size, c.loop-location-test.true))
          (c.get-entry.ensures ∙ next_out A n xs ys c.loop-location.auto.location c.loop-location-test.true c.loop-location.invariant.1) c.loop-location.invariant.1),
    )

pub returns-clause-moved : goal.returns-clause-moved
returns-clause-moved g c =
    all_restored g.row.T.Denot c.loop-location.location c.args.entries.now c.loop-location.entries c.clear_entries.new.entries c.requires.size
    (omega arith) c.loop-location.invariant.1 c.clear_entries.ensures.cleared

pub clear_entries-requires-clause-marked : goal.clear_entries-requires-clause-marked
clear_entries-requires-clause-marked g c = λ k low high unmarked.
    (not_filled g.row.T.Denot c.loop-location.location k (after_restore g.row.T.Denot c.args.entries.now) c.args.entries.now c.loop-location.entries
    (let end : c.loop-location.location ≡ 16 = omega arith in omega (arith, low, end)) c.loop-location.invariant.1
    ∙ c.requires.marked k (omega arith) high unmarked)
