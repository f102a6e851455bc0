use Rattle.std.proofs.lemmas.Grind.{common_steps}
use Rattle.std.proofs.Common.{◌≡◌, ◌-◌, length, drop, arith, ap, ◌∙◌}
use Rattle.sbx_domain.specs.Known.{started}
use Rattle.sbx_domain.proofs.Tables.{cell_more, nothing_started}
use Rattle.sbx_domain.proofs.state.State.start.Goals as goal

pub loop-left-init : goal.loop-left-init
loop-left-init c = (omega arith, c.clear.ensures ∙ nothing_started c.args.cells.now (length c.args.cells.now) (omega arith))

pub loop-left-preserved : goal.loop-left-preserved
loop-left-preserved c =
    let within = c.loop-left.invariant.0 in (
      omega arith,
      c.begin.ensures ∙ cell_more c.args.cells.now (c.loop-left.left - 1) c.loop-left.left _ _ (omega arith) (omega arith) c.loop-left.invariant.1,
    )

pub returns : goal.returns
returns c =
    let end : c.loop-left.left ≡ 0 = omega arith in
    c.loop-left.invariant.1 ∙ ap (λ n. started (drop n c.args.cells.now)) end

pub bounds-cells-left : goal.bounds-cells-left
bounds-cells-left c = grind (arith, common_steps)
