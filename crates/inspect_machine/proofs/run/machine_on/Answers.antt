use Rattle.std.proofs.Common.{ℕ, sym, subst}
use Rattle.inspect_machine.specs.Told.{Told}
use Rattle.inspect_machine.proofs.run.machine_on.Goals as goal

pub returns : goal.returns
returns g c =
    subst (λ (n : ℕ). Told n c.args.start.now c.args.limit (g.W.Write.contents c.args.out.now) (g.W.Write.contents c.own_run.new.out) c.own_run.result)
    (sym c.requires.same) c.own_run.ensures
