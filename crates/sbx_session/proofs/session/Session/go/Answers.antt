use Rattle.std.proofs.Common.{[], ◌∙◌, arith, rules}
use Rattle.sbx_port.specs.Following.{Fine}
use Rattle.sbx_session.proofs.Counts.{slice_counts}
use Rattle.sbx_session.proofs.Stepping.{fine_unknown, fine_known}
use Rattle.sbx_session.proofs.UnderWay.{sliced}
use Rattle.sbx_session.proofs.session.Session.go.Goals as goal
use Rattle.sbx_session.proofs.session.Session.go.Goals.{else-not-self-via-then-not-self+else-has_ended, else-not-self-via-else-not-self}

pub returns-clause-goes : goal.returns-clause-goes
returns-clause-goes g c =
    let t = c.advance-slice.new.board.state in
    let fine : Fine c.args.self.now.met [] t.world.memory.device =
    elim c.else-not-self.branch [
      | else-not-self-via-then-not-self+else-has_ended w ↦
          fine_unknown c.args.self.now.met t.world.memory.device (λ none. w.has_ended.ensures.goes_on w.if-has_ended.false (w.port.ensures.input ∙ none))
      | else-not-self-via-else-not-self w ↦ fine_known c.args.self.now.met t.world.memory.device (search rules)
    ] in
    λ parts read written goes.
    sliced g.row.N parts read written c.args.self.now.left c.args.self.now.met c.args.self.now.board.state goes c.args.most c.advance-slice.result.turns t
    c.requires.going c.advance-slice.ensures.made c.requires.within fine c.advance-slice.ensures.contained

pub returns-clause-counted : goal.returns-clause-counted
returns-clause-counted g c =
    slice_counts g.row.N c.args.most c.args.self.now.board.state c.advance-slice.result.turns c.advance-slice.new.board.state c.advance-slice.ensures.made

pub returns-clause-turns : goal.returns-clause-turns
returns-clause-turns g c =
    let most = slice_counts g.row.N c.args.most c.args.self.now.board.state c.advance-slice.result.turns c.advance-slice.new.board.state c.advance-slice.ensures.made in
    let few = c.advance-slice.ensures.made.within in
    omega (arith, most, few)

pub returns-then-has_ended-clause-turns : goal.returns-then-has_ended-clause-turns
returns-then-has_ended-clause-turns g c =
    let most = slice_counts g.row.N c.args.most c.args.self.now.board.state c.advance-slice.result.turns c.advance-slice.new.board.state c.advance-slice.ensures.made in
    let few = c.advance-slice.ensures.made.within in
    omega (arith, most, few)
