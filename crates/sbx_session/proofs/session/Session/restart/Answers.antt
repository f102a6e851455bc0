use Rattle.std.proofs.Common.{◌∙◌, ap, refl, subst}
use Rattle.v8_board.specs.Contains.{Contains}
use Rattle.v8_board.specs.Seen.{State}
use Rattle.v8_board.specs.Start.{IsStart}
use Rattle.sbx_image.specs.Parts.{Parts}
use Rattle.sbx_flat.specs.Runs.{budget}
use Rattle.sbx_run.specs.WholeRuns.{IsImage}
use Rattle.sbx_session.proofs.UnderWay.{begun}
use Rattle.sbx_session.proofs.session.Session.restart.Goals as goal

pub returns : goal.returns
returns g c =
    let n = g.row.N in
    let same = c.image-image.ensures.image in
    let made = c.set_back.new.board.state in
    let start = c.load.new.self.state in (
      begun n c.args.accepted.now made start c.budget-self.result
          (subst (λ (p : Parts). IsStart n p made start) same c.load.ensures.start)
          c.load.ensures.state
          (ap (λ (s : State n). s.world.memory.device.input) c.set_back.ensures.told)
          (ap (λ (s : State n). s.world.memory.device.output) c.set_back.ensures.told)
          (c.budget-self.ensures ∙ ap budget same)
          (subst IsImage same c.tells_limits.ensures)
          c.image-image.ensures.safe
          (subst (λ (p : Parts). Contains n p start) same c.load.ensures.contained),
      refl,
    )
