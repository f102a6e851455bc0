use Rattle.std.proofs.Common.{◌∙◌, ap, inl, inr, subst, sym, rules}
use Rattle.std.proofs.lemmas.Result.{err_from_is_err_and}
use Rattle.v8_memory.specs.Board.{Device}
use Rattle.v8_board.specs.Contains.{Contains}
use Rattle.v8_board.specs.Runs.{IsCutShort, IsRun}
use Rattle.v8_board.specs.Start.{IsStart}
use Rattle.v8_board.specs.declared.outcome.Ending.{Ending}
use Rattle.v8_board.specs.declared.outcome.Ending.TheVariants.{ErrorMode, Limit, Trapped}
use Rattle.sbx_image.specs.Parts.{Parts}
use Rattle.sbx_flat.specs.Runs.{AreBytes, budget}
use Rattle.sbx_shows.specs.WholeRuns.{IsImage}
use Rattle.sbx_run.proofs.Answered.{board_ends, board_exits, board_quiet, cut_asks, run_asks, stands_on, turns_stay}
use Rattle.sbx_run.proofs.boards.run_board.Goals as goal

pub returns-in_err-outcome-clause-stands : goal.returns-in_err-outcome-clause-stands
returns-in_err-outcome-clause-stands g c =
    let same = c.image-image.ensures.image in
    let p = err_from_is_err_and c.from_residual.result c.from_residual.ensures.1 in
    rw p.1 (stands_on g.row.N c.image-image.result.now c.args.accepted.now c.budget.result c.args.board.now.state c.load.new.self.state c.run.new.self.state
    same (c.budget.ensures ∙ ap budget same) c.load.ensures.start c.load.ensures.state c.in_err-outcome.ensures.stands c.in_err-outcome.ensures.goes_on)

pub returns-in_err-outcome-clause-calls : goal.returns-in_err-outcome-clause-calls
returns-in_err-outcome-clause-calls g c =
    let same = c.image-image.ensures.image in
    let p = err_from_is_err_and c.from_residual.result c.from_residual.ensures.1 in
    rw p.1 (cut_asks g.row.N c.image-image.result.now c.args.accepted.now c.budget.result c.args.board.now c.load.new.self c.run.new.self same
    (c.budget.ensures ∙ ap budget same) c.load.ensures.start c.load.ensures.calls c.in_err-outcome.ensures.calls)

pub returns-in_err-outcome-clause-state : goal.returns-in_err-outcome-clause-state
returns-in_err-outcome-clause-state g c =
    let given : AreBytes c.args.board.now.state.world.memory.device.input = subst AreBytes c.port.ensures.input c.tells_bytes.ensures in
    let bytes : AreBytes c.load.new.self.state.world.memory.device.input = subst (λ (d : Device). AreBytes d.input) (sym c.load.ensures.start.device) given in
    let cut : IsCutShort g.row.N c.budget.result c.load.new.self.state c.run.new.self.state = c.in_err-outcome.ensures.stands in
    (turns_stay g.row.N c.load.new.self.state c.run.new.self.state cut.turns (c.load.ensures.state, bytes)).0

pub returns-in_err-outcome-clause-contained : goal.returns-in_err-outcome-clause-contained
returns-in_err-outcome-clause-contained g c =
    c.in_err-outcome.ensures.contained c.args.accepted.now (subst (λ (p : Parts). Contains g.row.N p c.load.new.self.state) c.image-image.ensures.image c.load.ensures.contained)

pub unreachable-requires : goal.unreachable-requires
unreachable-requires g c =
    let given : AreBytes c.args.board.now.state.world.memory.device.input = subst AreBytes c.port.ensures.input c.tells_bytes.ensures in
    let parts = c.args.accepted.now in
    let same = c.image-image.ensures.image in
    let start = c.load.new.self.state in
    let end = c.run.new.self.state in
    let loaded : IsStart g.row.N parts c.args.board.now.state start = subst (λ (p : Parts). IsStart g.row.N p c.args.board.now.state start) same c.load.ensures.start in
    let limits : IsImage parts = subst IsImage same c.tells_limits.ensures in
    let run : IsRun g.row.N (budget parts) start end = subst (λ k. IsRun g.row.N k start end) (c.budget.ensures ∙ ap budget same) c.in_ok-outcome.ensures.run in
    let no = board_exits g.row.N parts c.args.board.now.state start end limits c.image-image.ensures.safe given loaded c.load.ensures.state run c.in_ok-outcome.outcome in
    elim c.in-Trapped.is [
      | inl trapped ↦ no (Trapped trapped.0) c.in_ok-outcome.ensures.told trapped.1 (λ status e. cc)
      | inr rest ↦ elim rest [ inl error ↦ no (ErrorMode error.0) c.in_ok-outcome.ensures.told error.1 (λ status e. cc) | inr limit ↦ no Limit c.in_ok-outcome.ensures.told limit (λ status e. cc) ]
    ]

pub returns-clause-ended : goal.returns-clause-ended
returns-clause-ended g c =
    let given : AreBytes c.args.board.now.state.world.memory.device.input = subst AreBytes c.port.ensures.input c.tells_bytes.ensures in
    let parts = c.args.accepted.now in
    let same = c.image-image.ensures.image in
    let start = c.load.new.self.state in
    let end = c.run.new.self.state in
    let loaded : IsStart g.row.N parts c.args.board.now.state start = subst (λ (p : Parts). IsStart g.row.N p c.args.board.now.state start) same c.load.ensures.start in
    let limits : IsImage parts = subst IsImage same c.tells_limits.ensures in
    let run : IsRun g.row.N (budget parts) start end = subst (λ k. IsRun g.row.N k start end) (c.budget.ensures ∙ ap budget same) c.in_ok-outcome.ensures.run in
    board_ends g.row.N parts c.args.board.now.state start end limits c.image-image.ensures.safe given loaded c.load.ensures.state run _
    (ap (λ (e : Ending). record c.in_ok-outcome.outcome { ending = e }) (sym c.in-Exit.is) ∙ c.in_ok-outcome.ensures.told) (search rules)

pub returns-clause-depth : goal.returns-clause-depth
returns-clause-depth g c =
    let given : AreBytes c.args.board.now.state.world.memory.device.input = subst AreBytes c.port.ensures.input c.tells_bytes.ensures in
    let parts = c.args.accepted.now in
    let same = c.image-image.ensures.image in
    let start = c.load.new.self.state in
    let end = c.run.new.self.state in
    let loaded : IsStart g.row.N parts c.args.board.now.state start = subst (λ (p : Parts). IsStart g.row.N p c.args.board.now.state start) same c.load.ensures.start in
    let limits : IsImage parts = subst IsImage same c.tells_limits.ensures in
    let run : IsRun g.row.N (budget parts) start end = subst (λ k. IsRun g.row.N k start end) (c.budget.ensures ∙ ap budget same) c.in_ok-outcome.ensures.run in
    board_quiet g.row.N parts c.args.board.now.state start end limits c.image-image.ensures.safe given loaded c.load.ensures.state run c.in_ok-outcome.outcome
    c.in_ok-outcome.ensures.told c.image-image.ensures.depth

pub returns-clause-calls : goal.returns-clause-calls
returns-clause-calls g c =
    let same = c.image-image.ensures.image in
    run_asks g.row.N c.image-image.result.now c.args.accepted.now c.budget.result c.args.board.now c.load.new.self c.run.new.self same
    (c.budget.ensures ∙ ap budget same) c.load.ensures.start c.load.ensures.calls c.in_ok-outcome.ensures.calls

pub returns-clause-state : goal.returns-clause-state
returns-clause-state g c =
    let given : AreBytes c.args.board.now.state.world.memory.device.input = subst AreBytes c.port.ensures.input c.tells_bytes.ensures in
    let bytes : AreBytes c.load.new.self.state.world.memory.device.input = subst (λ (d : Device). AreBytes d.input) (sym c.load.ensures.start.device) given in
    let run : IsRun g.row.N c.budget.result c.load.new.self.state c.run.new.self.state = c.in_ok-outcome.ensures.run in
    (turns_stay g.row.N c.load.new.self.state c.run.new.self.state run.turns (c.load.ensures.state, bytes)).0

pub returns-clause-contained : goal.returns-clause-contained
returns-clause-contained g c =
    c.in_ok-outcome.ensures.contained c.args.accepted.now (subst (λ (p : Parts). Contains g.row.N p c.load.new.self.state) c.image-image.ensures.image c.load.ensures.contained)

pub port-requires : goal.port-requires
port-requires g c = assumption

pub tells_bytes-requires : goal.tells_bytes-requires
tells_bytes-requires g c κs = assumption

pub load-requires : goal.load-requires
load-requires g c = assumption

pub run-requires : goal.run-requires
run-requires g c = assumption

pub page_use-requires : goal.page_use-requires
page_use-requires g c = assumption

pub unreachable-unreachable : goal.unreachable-unreachable
unreachable-unreachable g c = assumption
