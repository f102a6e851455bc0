use Rattle.std.proofs.Common.{ℕ, List, ◌++◌, take, subst, get_or, rules}
use Rattle.sbx_session.proofs.Stepping.{one_more_read}
use Rattle.sbx_session.proofs.UnderWay.{ended_input, fed}
use Rattle.sbx_session.specs.Going.{IsUnderWay}
use Rattle.sbx_session.proofs.session.Session.feed.Goals as goal

pub returns-then-read-input-clause-goes : goal.returns-then-read-input-clause-goes
returns-then-read-input-clause-goes g c = λ parts all written goes.
    let s = c.args.self.now.board.state in
    let t = c.give.new.board.state in
    let b = get_or c.args.input.now c.args.read 0 in
    let next = fed g.row.N parts (all ++ take c.args.read c.args.input.now) written c.args.self.now.left c.args.self.now.met s goes
    ((c.requires.asks (search rules)).1) b t c.give.ensures.small c.give.ensures.told in
    subst (λ (r : List ℕ). IsUnderWay g.row.N parts r written c.args.self.now.left c.args.self.now.met t) (one_more_read all c.args.input.now c.args.read c.if-read-input.true) next

pub returns-then-last-clause-goes : goal.returns-then-last-clause-goes
returns-then-last-clause-goes g c = λ parts all written goes.
    ended_input g.row.N parts (all ++ take c.args.read c.args.input.now) written c.args.self.now.left c.args.self.now.met c.args.self.now.board.state goes
    ((c.requires.asks (search rules)).1) c.end.new.board.state c.end.ensures.told
