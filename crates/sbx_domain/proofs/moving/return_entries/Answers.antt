use Rattle.std.proofs.Common.{◌≡◌, ◌+◌, List, Option, length, ap, sym, ◌∙◌, arith, length-set, rules, subst}
use Rattle.sbx_domain.specs.declared.entry.Entry.{Entry}
use Rattle.sbx_domain.specs.Transfer.{result_entry}
use Rattle.sbx_domain.proofs.Moves.{FilledTo, called_entries, nothing_filled, one_more_filled}
use Rattle.sbx_domain.proofs.moving.return_entries.Goals as goal

pub loop-location-init : goal.loop-location-init
loop-location-init c = (search rules, nothing_filled Entry (result_entry c.args.results.now) c.args.entries.now)

pub loop-location-preserved : goal.loop-location-preserved
loop-location-preserved c =
    let ys = c.loop-location.entries in
    let n = c.loop-location.location in
    let e = c.returned_entry.result in
    let size : length ys ≡ length c.args.entries.now = c.loop-location.invariant.0 in (
      ap (λ (zs : List (Option Entry)). length zs) c.set.ensures ∙ (length-set ys n e ∙ size),
      subst (λ (zs : List (Option Entry)). FilledTo Entry (n + 1) (result_entry c.args.results.now) c.args.entries.now zs) (sym c.set.ensures)
          (one_more_filled Entry n (result_entry c.args.results.now) c.args.entries.now ys e
          (omega (arith, size, c.requires, c.loop-location-test.true)) c.returned_entry.ensures c.loop-location.invariant.1),
    )

pub returns-clause-moved : goal.returns-clause-moved
returns-clause-moved c =
    let end : c.loop-location.location ≡ 16 = omega arith in
    called_entries Entry (result_entry c.args.results.now) c.args.entries.now c.loop-location.entries
    (subst (λ n. FilledTo Entry n (result_entry c.args.results.now) c.args.entries.now c.loop-location.entries) end c.loop-location.invariant.1)
