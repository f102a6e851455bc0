use Rattle.std.proofs.Common.{sym, ◌∙◌}
use Rattle.std.proofs.lemmas.Bool.{false≢true}
use Rattle.sbx_port.proofs.Told.{counts_on, failed_some, slice_cut, slice_goes, slice_whole}
use Rattle.sbx_port.proofs.carrying.advance.Goals as goal

pub overflow_sub-result : goal.overflow_sub-result
overflow_sub-result g c =
    counts_on g.row.N c.most-most.result c.count-counted.result c.count.result c.args.board.now.state c.run.new.self.state c.in-Err.ensures.stands
    c.most-most.ensures.told c.count-counted.ensures c.count.ensures

pub returns-in-Ok-clause-made : goal.returns-in-Ok-clause-made
returns-in-Ok-clause-made g c = slice_whole g.row.N c.args.left c.most-most.result c.args.board.now.state c.run.new.self.state c.in-Ok.ensures.run c.most-most.ensures.within

pub returns-in-Err-clause-made : goal.returns-in-Err-clause-made
returns-in-Err-clause-made g c =
    slice_cut g.row.N c.args.left c.most-most.result c.count-counted.result c.count.result c.args.board.now.state c.run.new.self.state c.in-Err.ensures.stands
    c.most-most.ensures.told c.count-counted.ensures c.count.ensures c.most-most.ensures.within

pub returns-in-Err-clause-goes : goal.returns-in-Err-clause-goes
returns-in-Err-clause-goes g c = λ full.
    slice_goes g.row.N c.most-most.result c.count-counted.result c.count.result c.args.board.now.state c.run.new.self.state c.in-Err.ensures.stands
    c.most-most.ensures.told c.count-counted.ensures c.count.ensures c.requires.empty
    (λ none. c.lacks.ensures.holds (failed_some c.args.board.now.failed c.requires.served (c.port.ensures.failed ∙ c.in-Err.ensures.count)) full (c.port.ensures.output ∙ none))

pub returns-in-Ok-clause-lacks : goal.returns-in-Ok-clause-lacks
returns-in-Ok-clause-lacks g c = λ yes. absurd (false≢true yes)

pub returns-in-Ok-clause-goes : goal.returns-in-Ok-clause-goes
returns-in-Ok-clause-goes g c = λ no. c.most-most.ensures.some c.requires.some

pub returns-in-Ok-clause-served : goal.returns-in-Ok-clause-served
returns-in-Ok-clause-served g c = λ no none. c.in-Ok.ensures.count ∙ c.requires.served

pub returns-in-Err-clause-lacks : goal.returns-in-Err-clause-lacks
returns-in-Err-clause-lacks g c = λ yes.
    sym c.port.ensures.input ∙ c.lacks.ensures.lacks (failed_some c.args.board.now.failed c.requires.served (c.port.ensures.failed ∙ c.in-Err.ensures.count)) yes

pub returns-in-Err-clause-served : goal.returns-in-Err-clause-served
returns-in-Err-clause-served g c = λ full none.
    absurd (c.lacks.ensures.holds (failed_some c.args.board.now.failed c.requires.served (c.port.ensures.failed ∙ c.in-Err.ensures.count)) full (c.port.ensures.output ∙ none))

pub count-counted-requires : goal.count-counted-requires
count-counted-requires g c = assumption

pub run-requires : goal.run-requires
run-requires g c = assumption

pub count-requires : goal.count-requires
count-requires g c = assumption

pub port-requires : goal.port-requires
port-requires g c = assumption
