use Rattle.std.proofs.lemmas.Grind.{common_steps}
use Rattle.std.proofs.Common.{◌∙◌, List, ap, arith}
use Rattle.sbx_form.specs.declared.terms.FormTerm.{FormTerm}
use Rattle.sbx_rules.specs.Known.{known, range_at}
use Rattle.sbx_fuel.specs.Blocks.{first_of}
use Rattle.sbx_fuel.specs.Least.{least_over}
use Rattle.sbx_fuel.specs.Margins.{start_terms}
use Rattle.sbx_fuel.proofs.edges.least_of_both.Goals as goal

pub returns-clause-value : goal.returns-clause-value
returns-clause-value g c =
    c.least_at_start.ensures.value
    ∙ ap (λ (ts : List FormTerm). least_over (range_at (first_of c.args.function.now c.args.number c.args.block.now)) ts)
    (c.as_slice.ensures.value
    ∙ (c.less_forms.ensures.value ∙ ap (λ (ts : List FormTerm). start_terms (known c.args.now.now) c.args.next.now ts) c.fuel_terms-terms.ensures.value))

pub returns-clause-bound : goal.returns-clause-bound
returns-clause-bound g c = grind (arith, common_steps)

pub least_at_start-requires-clause-small : goal.least_at_start-requires-clause-small
least_at_start-requires-clause-small g c = grind (arith, common_steps)
