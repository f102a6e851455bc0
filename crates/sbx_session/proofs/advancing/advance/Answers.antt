use Rattle.std.proofs.lemmas.Bool.{false≢true}
use Rattle.sbx_port.proofs.Told.{counts_on, failed_some, slice_cut, slice_goes, slice_whole}
use Rattle.sbx_session.proofs.Counts.{none_asked}
use Rattle.sbx_session.proofs.advancing.advance.Goals as goal

pub overflow_sub-result : goal.overflow_sub-result
overflow_sub-result g c =
    counts_on g.row.N c.most-most.result c.count-counted.result c.count.result c.args.board.now.state c.run.new.self.state c.in-Err.ensures.stands
    c.most-most.ensures.told c.count-counted.ensures c.count.ensures

pub waits-requires : goal.waits-requires
waits-requires g c = (assumption, failed_some c.args.board.now.failed c.requires.served c.in-Err.ensures.count)

pub returns-in-Ok-clause-made : goal.returns-in-Ok-clause-made
returns-in-Ok-clause-made g c = slice_whole g.row.N c.args.left c.most-most.result c.args.board.now.state c.run.new.self.state c.in-Ok.ensures.run c.most-most.ensures.within

pub returns-in-Err-clause-made : goal.returns-in-Err-clause-made
returns-in-Err-clause-made g c =
    slice_cut g.row.N c.args.left c.most-most.result c.count-counted.result c.count.result c.args.board.now.state c.run.new.self.state c.in-Err.ensures.stands
    c.most-most.ensures.told c.count-counted.ensures c.count.ensures c.most-most.ensures.within

pub returns-in-Err-clause-goes : goal.returns-in-Err-clause-goes
returns-in-Err-clause-goes g c = λ full.
    slice_goes g.row.N c.most-most.result c.count-counted.result c.count.result c.args.board.now.state c.run.new.self.state c.in-Err.ensures.stands
    c.most-most.ensures.told c.count-counted.ensures c.count.ensures c.requires.empty (c.waits.ensures.holds full)

pub returns-in-Ok-clause-lacks : goal.returns-in-Ok-clause-lacks
returns-in-Ok-clause-lacks g c = λ yes. absurd (false≢true yes)

pub returns-in-Ok-clause-goes : goal.returns-in-Ok-clause-goes
returns-in-Ok-clause-goes g c = λ no. c.most-most.ensures.some c.requires.some

pub returns-in-Err-clause-lacks : goal.returns-in-Err-clause-lacks
returns-in-Err-clause-lacks g c = c.waits.ensures.asks

pub returns-in-Err-clause-known : goal.returns-in-Err-clause-known
returns-in-Err-clause-known g c = λ none. none_asked g.row.N c.args.board.now.state c.run.new.self c.waits.result c.in-Err.ensures.stands.turns none c.waits.ensures.asks

pub count-counted-requires : goal.count-counted-requires
count-counted-requires g c = assumption

pub run-requires : goal.run-requires
run-requires g c = assumption

pub count-requires : goal.count-requires
count-requires g c = assumption
