use Rattle.std.proofs.Common.{ℕ, sym, subst}
use Rattle.std.proofs.lemmas.Result.{err_from_is_err_and}
use Rattle.inspect_states.specs.Told.{Stated}
use Rattle.inspect_states.proofs.OfImages.{not_begun}
use Rattle.inspect_states.proofs.run.states_on.Goals as goal

pub returns-in_err-board : goal.returns-in_err-board
returns-in_err-board g c =
    let p = err_from_is_err_and c.from_residual.result c.from_residual.ensures.1 in
    rw (p.1, p.2) (not_begun c.args.windows c.args.image.now c.args.input.now c.args.limit (g.W.Write.contents c.args.out.now) c.in_err-board.field-0.0 c.in_err-board.ensures.fault)

pub returns : goal.returns
returns g c =
    subst (λ (n : ℕ). Stated n c.args.image.now c.args.input.now c.args.limit (g.W.Write.contents c.args.out.now) (g.W.Write.contents c.states_of.new.out) c.states_of.result)
    (sym c.requires.same) (c.states_of.ensures c.args.image.now c.in_ok-board.ensures.begun)
