use Rattle.std.proofs.Common.{◌≡◌, ℤ, List, rules, sym, ap, ◌∙◌, to_z, of_z, w64, arith}
use Rattle.std.proofs.lemmas.Int.{to_z-of_z}
use mir.Val.{SFits}
use Rattle.sbx_form.specs.declared.terms.FormTerm.{FormTerm}
use Rattle.sbx_domain.specs.Forms.{Form}
use Rattle.sbx_fuel.proofs.KeptBlocks.{Stands, fuel_is, stands_kept}
use Rattle.inspect_known.proofs.sides.fuel_of.Goals as goal

pub fuel_terms-requires : goal.fuel_terms-requires
fuel_terms-requires c =
    let stands : Stands c.args.image.now c.args.function c.args.block c.function_at.result.now c.block_at-declared.result.now =
    record { function_is = sym c.function_at.ensures.value; block_is = sym c.block_at-declared.ensures } in
    let kept = stands_kept c.args.image.now c.requires.keeps c.args.function c.args.block c.function_at.result.now c.block_at-declared.result.now stands c.requires.block.0 c.requires.block.1 in
    (omega arith, kept.few)

pub returns : goal.returns
returns c =
    let stands : Stands c.args.image.now c.args.function c.args.block c.function_at.result.now c.block_at-declared.result.now =
    record { function_is = sym c.function_at.ensures.value; block_is = sym c.block_at-declared.ensures } in
    let made : ℤ → List FormTerm → Form = λ z ts. record { constant = z; terms = ts } in
    let fits : SFits w64 c.block_at-declared.result.now.fuel = search rules in
    let same : to_z w64 (of_z w64 c.block_at-declared.result.now.fuel) ≡ c.block_at-declared.result.now.fuel = to_z-of_z w64 c.block_at-declared.result.now.fuel fits in
    ap (λ z. made z c.fuel_terms.result.items) same ∙ ap (made c.block_at-declared.result.now.fuel) c.fuel_terms.ensures.value
    ∙ sym (fuel_is c.args.image.now c.args.function c.args.block c.function_at.result.now c.block_at-declared.result.now stands)
