use Rattle.std.proofs.lemmas.Grind.{common_steps}
use Rattle.std.proofs.Common.{ℤ, to_z, of_z, w32, ◌^◌, length, rules, arith, ap, sym, subst, ◌∙◌, List}
use Rattle.sbx_form.specs.declared.terms.FormTerm.{FormTerm}
use Rattle.sbx_form.specs.Forms.{AreWithin, AscendFrom}
use Rattle.sbx_form.proofs.Bounds.{wider_bound}
use Rattle.sbx_domain.proofs.Ordered.{sum_ascends, test_tells}
use Rattle.sbx_domain.proofs.lin.with_multiple.Goals as goal

pub add_terms-requires : goal.add_terms-requires
add_terms-requires c =
    let n = ap (λ (ts : List FormTerm). length ts) c.as_slice.ensures.value in (
      search rules,
      (
        omega (arith, n, c.terms-terms.ensures.few, c.terms-more.ensures.few),
        (
          omega (arith, n, c.terms-more.ensures.few),
          (
            wider_bound (2 ^ 32) (2 ^ 80) c.terms-terms.result.items (omega arith) c.terms-terms.ensures.small,
            subst (λ (ts : List FormTerm). AreWithin (2 ^ 32) ts) (sym c.as_slice.ensures.value) c.terms-more.ensures.small,
          ),
        ),
      ),
    )

pub with_constant-constant-requires : goal.with_constant-constant-requires
with_constant-constant-requires c = grind (arith, common_steps)

pub scaled-requires : goal.scaled-requires
scaled-requires c = grind (arith, common_steps)

-- those of the sum ascend, since those of the other form do
pub kept-requires : goal.kept-requires
kept-requires c =
    let k : ℤ = to_z w32 (of_z w32 c.args.times) in
    let same = c.as_slice-2.ensures.value ∙ c.add_terms.ensures in
    test_tells 0 c.as_slice-2.result.now (subst (λ (ts : List FormTerm). AscendFrom 0 ts) (sym same) (sum_ascends k c.as_slice.result.now c.terms-terms.result.items c.terms-terms.ensures.ascending))
