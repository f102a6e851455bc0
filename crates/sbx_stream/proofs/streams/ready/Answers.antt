use Rattle.std.proofs.Common.{ℕ, List, [], ◌∙◌, subst}
use Rattle.v8_board.specs.Start.{IsNew}
use Rattle.sbx_port.specs.Ports.{unknown}
use Rattle.sbx_stream.proofs.streams.ready.Goals as goal

pub returns-in-Ok-clause-ready : goal.returns-in-Ok-clause-ready
returns-in-Ok-clause-ready g c =
    let made = c.in-Ok.board.state in
    let silent = subst (λ (o : List ℕ). IsNew g.row.N c.new.result.input o made) c.new.ensures.output c.in-Ok.ensures.made in
    record {
      made = made;
      new = subst (λ (i : List ℕ). IsNew g.row.N i [] made) c.new.ensures.input silent;
      loaded = c.load.ensures.start;
      state = c.load.ensures.state;
      contained = c.load.ensures.contained;
      served = c.load.ensures.failed ∙ c.in-Ok.ensures.failed ∙ c.new.ensures.failed;
    }

pub new-requires-2 : goal.new-requires-2
new-requires-2 g c = assumption

pub load-requires : goal.load-requires
load-requires g c = assumption

pub returns-in-Err-clause-fault : goal.returns-in-Err-clause-fault
returns-in-Err-clause-fault g c = assumption
