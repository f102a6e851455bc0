use Rattle.std.proofs.Common.{◌≡◌, ◌++◌, subst}
use Rattle.native_results.specs.Bench.{Turns}
use Rattle.native_results.specs.Quotients.{with_quotient_codes}
use Rattle.native_results.proofs.Divisions.{adds_division, parting}
use Rattle.native_results.proofs.Making.{on_ok}
use Rattle.native_results.proofs.statements.Statements.divide.Goals as goal

pub returns : goal.returns
returns c =
    let op = c.args.op in
    let a = c.operands.new.self.list.items in
    let b = c.quotient.new.self.list.items in
    let d = c.quotient_codes.new.self.list.items in
    let parted = subst (λ s. b ≡ a ++ parting s) c.has_signs.ensures c.in_ok-quotient.ensures in
    let codes = subst (λ s. Turns (with_quotient_codes s) b d) c.sets_codes.ensures c.in_ok-quotient_codes.ensures in
    on_ok c.assign_result.result (λ _ at. adds_division op c.args.f.now c.args.self.now.list.items a b d c.assign_result.new.self.list.items c.assign_result.ensures.low c.operands.ensures.low
    c.operands.ensures.is c.in_ok-operands.ensures.made parted codes at) c.assign_result.ensures.list
