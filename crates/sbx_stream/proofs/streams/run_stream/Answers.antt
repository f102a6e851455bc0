use Rattle.std.proofs.Common.{◌≡◌, ℕ, ◌∙◌, ap, arith, subst}
use Rattle.std.proofs.lemmas.Result.{err_from_is_err_and}
use Rattle.v8_board.specs.declared.outcome.Outcome.{Outcome}
use Rattle.sbx_flat.specs.Runs.{budget}
use Rattle.sbx_image.specs.Parts.{Parts}
use Rattle.sbx_port.specs.Streams.{RunsAs, RunsOn, Streamed}
use Rattle.sbx_run.specs.WholeRuns.{IsImage}
use Rattle.sbx_stream.specs.Streams.{IsReady}
use Rattle.sbx_stream.proofs.Streamed.{contained, front, has_exited, no_memory, no_run, quiet, streamed}
use Rattle.sbx_stream.proofs.streams.run_stream.Goals as goal

pub returns-in_err-board-clause-part : goal.returns-in_err-board-clause-part
returns-in_err-board-clause-part g c =
    let p = err_from_is_err_and c.from_residual.result c.from_residual.ensures.1 in
    rw (p.1, p.2)
    (no_memory c.args.accepted.now c.image-image.ensures.safe c.in_err-board.field-0.0 (g.R.Read.remaining c.args.reader.now)
    (g.W.Write.contents c.args.writer.now) c.in_err-board.ensures.fault)

pub returns-in_err-board-clause-contained : goal.returns-in_err-board-clause-contained
returns-in_err-board-clause-contained g c =
    let p = err_from_is_err_and c.from_residual.result c.from_residual.ensures.1 in
    rw (p.1, p.2) (no_run c.args.accepted.now g.row.N c.in_err-board.field-0.0 (g.R.Read.remaining c.args.reader.now) (g.W.Write.contents c.args.writer.now) c.in_err-board.ensures.fault)

pub finish-requires : goal.finish-requires
finish-requires g c =
    let parts = c.args.accepted.now in
    let board = c.in_ok-board.board in
    let same = c.image-image.ensures.image in
    let reader = g.R.Read.remaining c.args.reader.now in
    let reader_now = g.R.Read.remaining c.carry.new.reader in
    let writer = g.W.Write.contents c.args.writer.now in
    let writer_now = g.W.Write.contents c.carry.new.writer in
    let now = c.carry.new.board.state in
    let limits : IsImage parts = subst IsImage same c.tells_limits.ensures in
    let ready = subst (λ (p : Parts). IsReady g.row.N p board) same c.in_ok-board.ensures.ready in
    let most : c.budget.result ≡ budget parts = c.budget.ensures ∙ ap budget same in
    let runs = subst (λ (k : ℕ). Streamed reader reader_now writer writer_now (RunsAs g.row.N board.state k now)) most c.in-Ok.ensures.whole in
    let exited = has_exited g.row.N parts board ready limits c.image-image.ensures.safe reader reader_now writer writer_now now runs in
    (exited.0, ap (λ (o : Outcome). o.ending) c.outcome.ensures ∙ exited.1)

pub returns-in-Ok-clause-whole : goal.returns-in-Ok-clause-whole
returns-in-Ok-clause-whole g c =
    let parts = c.args.accepted.now in
    let board = c.in_ok-board.board in
    let same = c.image-image.ensures.image in
    let reader = g.R.Read.remaining c.args.reader.now in
    let reader_now = g.R.Read.remaining c.carry.new.reader in
    let writer = g.W.Write.contents c.args.writer.now in
    let writer_now = g.W.Write.contents c.carry.new.writer in
    let now = c.carry.new.board.state in
    let limits : IsImage parts = subst IsImage same c.tells_limits.ensures in
    let ready = subst (λ (p : Parts). IsReady g.row.N p board) same c.in_ok-board.ensures.ready in
    let most : c.budget.result ≡ budget parts = c.budget.ensures ∙ ap budget same in
    let runs = subst (λ (k : ℕ). Streamed reader reader_now writer writer_now (RunsAs g.row.N board.state k now)) most c.in-Ok.ensures.whole in
    streamed g.row.N parts board ready limits c.image-image.ensures.safe reader reader_now writer writer_now now c.finish.result
    (c.finish.ensures.told ∙ c.outcome.ensures) (c.finish.ensures.pages ∙ c.page_use.ensures) runs

pub returns-in-Ok-clause-depth : goal.returns-in-Ok-clause-depth
returns-in-Ok-clause-depth g c =
    let parts = c.args.accepted.now in
    let board = c.in_ok-board.board in
    let same = c.image-image.ensures.image in
    let reader = g.R.Read.remaining c.args.reader.now in
    let reader_now = g.R.Read.remaining c.carry.new.reader in
    let writer = g.W.Write.contents c.args.writer.now in
    let writer_now = g.W.Write.contents c.carry.new.writer in
    let now = c.carry.new.board.state in
    let limits : IsImage parts = subst IsImage same c.tells_limits.ensures in
    let ready = subst (λ (p : Parts). IsReady g.row.N p board) same c.in_ok-board.ensures.ready in
    let most : c.budget.result ≡ budget parts = c.budget.ensures ∙ ap budget same in
    let runs = subst (λ (k : ℕ). Streamed reader reader_now writer writer_now (RunsAs g.row.N board.state k now)) most c.in-Ok.ensures.whole in
    quiet g.row.N parts board ready limits c.image-image.ensures.safe reader reader_now writer writer_now now c.finish.result
    (c.finish.ensures.told ∙ c.outcome.ensures) c.image-image.ensures.depth runs

pub returns-clause-contained : goal.returns-clause-contained
returns-clause-contained g c =
    let parts = c.args.accepted.now in
    let board = c.in_ok-board.board in
    let same = c.image-image.ensures.image in
    let reader = g.R.Read.remaining c.args.reader.now in
    let reader_now = g.R.Read.remaining c.carry.new.reader in
    let writer = g.W.Write.contents c.args.writer.now in
    let writer_now = g.W.Write.contents c.carry.new.writer in
    let limits : IsImage parts = subst IsImage same c.tells_limits.ensures in
    let ready = subst (λ (p : Parts). IsReady g.row.N p board) same c.in_ok-board.ensures.ready in
    let most : c.budget.result ≡ budget parts = c.budget.ensures ∙ ap budget same in
    let runs = subst (λ (k : ℕ). Streamed reader reader_now writer writer_now (RunsOn g.row.N board.state k c.in-Err.fault)) most c.in-Err.ensures.part in
    contained g.row.N parts board ready limits c.image-image.ensures.safe reader reader_now writer writer_now c.in-Err.fault c.fault_of.result c.fault_of.ensures runs

pub returns-clause-part : goal.returns-clause-part
returns-clause-part g c =
    let parts = c.args.accepted.now in
    let board = c.in_ok-board.board in
    let same = c.image-image.ensures.image in
    let reader = g.R.Read.remaining c.args.reader.now in
    let reader_now = g.R.Read.remaining c.carry.new.reader in
    let writer = g.W.Write.contents c.args.writer.now in
    let writer_now = g.W.Write.contents c.carry.new.writer in
    let limits : IsImage parts = subst IsImage same c.tells_limits.ensures in
    let ready = subst (λ (p : Parts). IsReady g.row.N p board) same c.in_ok-board.ensures.ready in
    let most : c.budget.result ≡ budget parts = c.budget.ensures ∙ ap budget same in
    let runs = subst (λ (k : ℕ). Streamed reader reader_now writer writer_now (RunsOn g.row.N board.state k c.in-Err.fault)) most c.in-Err.ensures.part in
    front g.row.N parts board ready limits c.image-image.ensures.safe reader reader_now writer writer_now c.in-Err.fault c.fault_of.result c.fault_of.ensures runs

pub returns-in-Ok-clause-output : goal.returns-in-Ok-clause-output
returns-in-Ok-clause-output g c = assumption

pub ready-requires : goal.ready-requires
ready-requires g c = grind arith

pub outcome-requires : goal.outcome-requires
outcome-requires g c = grind arith

pub page_use-requires : goal.page_use-requires
page_use-requires g c = grind arith
