use Rattle.std.proofs.Common.{◌∙◌, ap, refl, subst}
use Rattle.v8_board.specs.Contains.{Contains}
use Rattle.v8_board.specs.Start.{IsStart}
use Rattle.sbx_image.specs.Parts.{Parts}
use Rattle.sbx_flat.specs.Runs.{budget}
use Rattle.v8_loaded.specs.Board.{Device}
use Rattle.sbx_run.specs.WholeRuns.{IsImage}
use Rattle.sbx_session.proofs.UnderWay.{begun}
use Rattle.sbx_session.proofs.session.Session.new.Goals as goal

pub returns : goal.returns
returns g c =
    let n = g.row.N in
    let same = c.image-image.ensures.image in
    let made = c.in_ok-board.board.state in
    let start = c.load.new.self.state in
    let device = c.in_ok-board.ensures.made.device in (
      begun n c.args.accepted.now made start c.budget.result
          (subst (λ (p : Parts). IsStart n p made start) same c.load.ensures.start)
          c.load.ensures.state
          (ap (λ (d : Device). d.input) device ∙ c.new.ensures.input)
          (ap (λ (d : Device). d.output) device ∙ c.new.ensures.output)
          (c.budget.ensures ∙ ap budget same)
          (subst IsImage same c.tells_limits.ensures)
          c.image-image.ensures.safe
          (subst (λ (p : Parts). Contains n p start) same c.load.ensures.contained),
      refl,
    )
