use Rattle.std.proofs.Common.{ap, ◌∙◌}
use Rattle.v8_windows.specs.Windows.{with_reg, moved}
use Rattle.v8_windows.proofs.file.RegFile.enter_trap.Goals as goal

pub returns : goal.returns
unfolding with_reg
returns g c =
    c.set-2.ensures
    ∙ ap (λ v. with_reg g.row.N v 18 c.args.npc) (c.set.ensures
    ∙ ap (λ v. with_reg g.row.N v 17 c.args.pc) (c.enter.ensures
    ∙ ap (λ w. moved c.args.self.now w) c.window_below-entered.ensures.value))
