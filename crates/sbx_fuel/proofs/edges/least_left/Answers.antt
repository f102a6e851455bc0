use Rattle.std.proofs.Common.{◌≡◌, ◌∙◌, List, [], ◌∷◌, length, ap, refl, tests, arith}
use Rattle.sbx_form.specs.declared.terms.FormTerm.{FormTerm}
use Rattle.sbx_rules.specs.Known.{Known, known, range_at}
use Rattle.sbx_fuel.specs.Blocks.{first_of, fuel_of}
use Rattle.sbx_fuel.specs.Least.{least_over}
use Rattle.sbx_fuel.specs.Margins.{start_terms}
use Rattle.sbx_fuel.proofs.edges.least_left.Goals as goal

-- where no terms are taken away, those that are there stay
all_left : (now : Known) (next terms : List FormTerm) → length next ≡ 0 → terms ≡ start_terms now next terms
unfolding start_terms
all_left now [] terms none = refl
all_left now (t ∷ ts) terms none = absurd (omega (arith, none))

pub returns-then-is_empty-clause-value : goal.returns-then-is_empty-clause-value
returns-then-is_empty-clause-value c =
    let none : length c.args.next.now ≡ 0 = grind (arith, tests, c.is_empty.ensures, c.if-is_empty.true) in
    c.least_of_own.ensures.value
    ∙ ap (λ (ts : List FormTerm). least_over (range_at (first_of c.args.function.now c.args.number c.args.block.now)) ts)
    (all_left (known c.args.now.now) c.args.next.now (fuel_of c.args.function.now c.args.number c.args.block.now).terms none)
