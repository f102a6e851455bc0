use Rattle.std.proofs.lemmas.Grind.{common_steps}
use Rattle.std.proofs.Common.{◌≡◌, take, rules, to_z, of_z, w64, arith}
use Rattle.std.proofs.lemmas.Int.{to_z-of_z}
use mir.Val.{SFits}
use Rattle.sbx_domain.specs.Forms.{Form}
use Rattle.sbx_domain.proofs.Packing.{kept_says}
use Rattle.sbx_domain.proofs.lin.Lin.constant.Goals as goal

pub returns-clause-small : goal.returns-clause-small
returns-clause-small c =
    let f : Form = record { constant = c.self.inside.constant; terms = take c.self.inside.count c.self.inside.terms } in
    let fits : SFits w64 c.self.inside.constant = search rules in
    let e : to_z w64 (of_z w64 c.self.inside.constant) ≡ c.self.inside.constant = to_z-of_z w64 c.self.inside.constant fits in
    rw e (kept_says f c.self.invariant.3).constant

pub returns-clause-value : goal.returns-clause-value
returns-clause-value c = grind (arith, common_steps)
