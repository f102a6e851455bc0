use Rattle.std.proofs.Common.{◌≡◌, ℤ, List, sym, subst, arith, rules}
use Rattle.std.proofs.lemmas.Grind.{common_steps}
use Rattle.std.specs.Int.{w128}
use Rattle.std.proofs.lemmas.Int.{to_z-of_z}
use mir.Val.{SFits}
use Rattle.sbx_form.specs.declared.terms.FormTerm.{FormTerm}
use Rattle.sbx_form.specs.Forms.{AscendFrom, Ends}
use Rattle.sbx_domain.specs.Known.{known}
use Rattle.sbx_domain.specs.Least.{IsLeast, ends_known, least_value}
use Rattle.sbx_domain.proofs.Ordered.{value_is_least}
use Rattle.sbx_domain.proofs.lowest.least.Goals as goal

pub least_of-requires-clause-small : goal.least_of-requires-clause-small
unfolding least_value
least_of-requires-clause-small c = grind (arith, common_steps)

pub with_constant-requires : goal.with_constant-requires
unfolding least_value
with_constant-requires c = grind (arith, common_steps)

pub returns-clause-least : goal.returns-clause-least
unfolding least_value
returns-clause-least c =
    let ends : Ends = ends_known (known c.args.start.now) in
    let worked : c.with_constant.result ≡ least_value ends c.args.form.now = search rules in
    let fits : SFits w128 c.with_constant.result = search rules in
    let e = to_z-of_z w128 c.with_constant.result fits in
    rw e (subst (λ (z : ℤ). IsLeast ends c.args.form.now z) (sym worked)
    (value_is_least ends c.args.form.now (subst (λ (ts : List FormTerm). AscendFrom 0 ts) c.terms-terms.ensures.value c.terms-terms.ensures.ascending)))
