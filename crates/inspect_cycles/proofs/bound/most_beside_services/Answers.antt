use Rattle.std.proofs.Common.{subst}
use Rattle.inspect_cycles.specs.Cycles.{AreMost}
use Rattle.inspect_cycles.specs.declared.table.CycleTable.{CycleTable}
use Rattle.inspect_cycles.proofs.Beside.{beside}
use Rattle.inspect_cycles.proofs.bound.most_beside_services.Goals as goal

pub returns-clause-most : goal.returns-clause-most
returns-clause-most c =
    let parts = c.args.accepted.now in
    let most = c.most_cycles.result.most in
    beside c.args.table.now parts most (subst (λ (t : CycleTable). AreMost t parts most) c.without_services.ensures c.most_cycles.ensures.most)
