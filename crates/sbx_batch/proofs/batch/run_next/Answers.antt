use Rattle.std.proofs.Common.{◌≡◌, rules, subst}
use Rattle.v8_board.specs.Seen.{State}
use Rattle.sbx_flat.specs.Runs.{AreBytes}
use Rattle.sbx_sound.specs.Law.{IsFormed}
use Rattle.sbx_shows.specs.WholeRuns.{IsImage}
use Rattle.sbx_run.specs.Answer.{EndsOn}
use Rattle.sbx_batch.proofs.Alike.{next}
use Rattle.sbx_batch.proofs.Following.{silent_state}
use Rattle.sbx_batch.proofs.batch.run_next.Goals as goal

pub returns-clause-next : goal.returns-clause-next
returns-clause-next g c =
    let parts = c.args.accepted.now in
    let end = c.run_board.new.board.state in
    let bytes : AreBytes c.args.input.now = λ i. search rules in
    let limits : IsImage parts = subst IsImage c.image-image.ensures.image c.tells_limits.ensures in
    let formed : IsFormed parts = subst IsFormed c.image-image.ensures.image c.tells_form.ensures in (
      end,
      next g.row.N parts c.args.input.now c.args.board.now.state end limits formed c.image-image.ensures.checked c.image-image.ensures.safe bytes c.requires _
          (subst (λ (s : State g.row.N). EndsOn g.row.N parts s end c.in-Ok.ended) c.set_back.ensures c.in-Ok.ensures.ended) c.take_output.ensures.taken
          c.in-Ok.ensures.depth c.run_board.ensures.contained,
      c.take_output.ensures.left,
    )

pub returns-clause-state : goal.returns-clause-state
returns-clause-state g c = silent_state g.row.N c.run_board.new.board.state c.take_output.new.board.state c.take_output.ensures.left c.run_board.ensures.state

pub set_back-requires : goal.set_back-requires
set_back-requires g c = assumption

pub run_board-requires : goal.run_board-requires
run_board-requires g c = assumption

pub take_output-requires : goal.take_output-requires
take_output-requires g c = assumption

pub returns-in-Err-clause-fault : goal.returns-in-Err-clause-fault
returns-in-Err-clause-fault g c = assumption
