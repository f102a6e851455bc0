use Rattle.std.proofs.lemmas.Grind.{common_steps}
use Rattle.std.proofs.Common.{◌∙◌, ◌^◌, List, ap, sym, subst, arith}
use Rattle.sbx_form.specs.declared.terms.FormTerm.{FormTerm}
use Rattle.sbx_form.specs.Forms.{AreWithin}
use Rattle.sbx_form.proofs.Bounds.{wider_bound}
use Rattle.sbx_rules.specs.Known.{range_at}
use Rattle.sbx_fuel.specs.Blocks.{first_of}
use Rattle.sbx_fuel.specs.Least.{least_over}
use Rattle.sbx_fuel.proofs.edges.least_of_own.Goals as goal

pub least_at_start-requires-clause-small : goal.least_at_start-requires-clause-small
least_at_start-requires-clause-small c =
    subst (AreWithin (2 ^ 70)) (sym c.as_slice.ensures.value) (wider_bound (2 ^ 31) (2 ^ 70) c.fuel_terms-terms.result.items (omega arith) c.fuel_terms-terms.ensures.small)

pub returns-clause-value : goal.returns-clause-value
returns-clause-value c =
    c.least_at_start.ensures.value
    ∙ ap (λ (ts : List FormTerm). least_over (range_at (first_of c.args.function.now c.args.number c.args.block.now)) ts)
    (c.as_slice.ensures.value ∙ c.fuel_terms-terms.ensures.value)

pub returns-clause-bound : goal.returns-clause-bound
returns-clause-bound c = grind (arith, common_steps)
