use Rattle.std.proofs.lemmas.Grind.{common_steps}
use Rattle.std.proofs.Common.{◌≡◌, ◌≤◌, ◌^◌, length, take, sym, subst, rules, List, arith}
use Rattle.sbx_form.specs.declared.terms.FormTerm.{FormTerm}
use Rattle.sbx_form.specs.Forms.{AreWithin, AscendFrom}
use Rattle.sbx_domain.specs.Forms.{Form}
use Rattle.sbx_domain.proofs.Packing.{kept_says}
use Rattle.sbx_domain.proofs.Ordered.{test_says}
use Rattle.sbx_domain.proofs.lin.Lin.terms.Goals as goal

pub returns-clause-few : goal.returns-clause-few
returns-clause-few g c =
    let f : Form = record { constant = c.self.inside.constant; terms = take c.self.inside.count c.self.inside.terms } in
    let v : c.unpacked.result.items ≡ f.terms = search rules in
    subst (λ (ts : List FormTerm). length ts ≤ 8) (sym v) (kept_says f c.self.invariant.3).few

pub returns-clause-small : goal.returns-clause-small
returns-clause-small g c =
    let f : Form = record { constant = c.self.inside.constant; terms = take c.self.inside.count c.self.inside.terms } in
    let v : c.unpacked.result.items ≡ f.terms = search rules in
    subst (λ (ts : List FormTerm). AreWithin (2 ^ 32) ts) (sym v) (kept_says f c.self.invariant.3).terms

pub returns-clause-value : goal.returns-clause-value
returns-clause-value g c = grind (arith, common_steps)

pub unpacked-requires : goal.unpacked-requires
unpacked-requires g c = grind (arith, common_steps)

pub returns-clause-ascending : goal.returns-clause-ascending
returns-clause-ascending g c =
    let f : Form = record { constant = c.self.inside.constant; terms = take c.self.inside.count c.self.inside.terms } in
    let v : c.unpacked.result.items ≡ f.terms = search rules in
    subst (λ (ts : List FormTerm). AscendFrom 0 ts) (sym v) (test_says 0 f.terms c.self.invariant.4)
