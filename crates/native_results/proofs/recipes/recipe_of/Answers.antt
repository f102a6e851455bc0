-- Each arm's recipe is the one that gives what the operation gives.
use Rattle.std.proofs.Common.{◌≡◌, sym, subst, ap, ◌∙◌}
use Rattle.v8_alu.specs.declared.Op.{Op}
use Rattle.native_results.specs.Recipes.{IsRecipe}
use Rattle.native_results.specs.declared.codes.CodesBy.TheVariants as by
use Rattle.native_results.specs.declared.recipes.Recipe.{Recipe}
use Rattle.native_results.proofs.Outcomes.{adds, adds_both, adds_carried, adds_coded, adds_tagged, ands, ands_both, ands_coded, ands_turned, carried, coded, multiplies, multiplies_both, multiplies_coded, multiplies_signed, ors, ors_both, ors_coded, ors_turned, shifts_left, shifts_right, shifts_signed, stepping, steps, subtracts, subtracts_both, subtracts_carried, subtracts_coded, subtracts_tagged, tagged, turning, xors, xors_both, xors_coded, xors_turned}
use Rattle.native_results.proofs.recipes.recipe_of.Goals as goal

of : {op is : Op} {r made : Recipe} → op ≡ is → r ≡ made → IsRecipe is made → IsRecipe op r
of {op} {is} {r} {made} e f h = subst (λ o. IsRecipe o r) (sym e) (subst (IsRecipe is) (sym f) h)

pub returns-in-Add : goal.returns-in-Add
returns-in-Add c = of c.in-Add.is (c.plain.ensures) adds

pub returns-in-AddCc : goal.returns-in-AddCc
returns-in-AddCc c = of c.in-AddCc.is (c.coded.ensures ∙ ap (coded by.Sum) (c.plain-in-AddCc.ensures)) adds_coded

pub returns-in-Addx : goal.returns-in-Addx
returns-in-Addx c = of c.in-Addx.is (c.carried.ensures ∙ ap (carried) (c.plain-in-Addx.ensures)) adds_carried

pub returns-in-AddxCc : goal.returns-in-AddxCc
returns-in-AddxCc c = of c.in-AddxCc.is (c.coded-in-AddxCc.ensures ∙ ap (coded by.SumWithCarry) (c.carried-in-AddxCc.ensures ∙ ap (carried) (c.plain-in-AddxCc.ensures))) adds_both

pub returns-in-Sub : goal.returns-in-Sub
returns-in-Sub c = of c.in-Sub.is (c.plain-in-Sub.ensures) subtracts

pub returns-in-SubCc : goal.returns-in-SubCc
returns-in-SubCc c = of c.in-SubCc.is (c.coded-in-SubCc.ensures ∙ ap (coded by.Difference) (c.plain-in-SubCc.ensures)) subtracts_coded

pub returns-in-Subx : goal.returns-in-Subx
returns-in-Subx c = of c.in-Subx.is (c.carried-in-Subx.ensures ∙ ap (carried) (c.plain-in-Subx.ensures)) subtracts_carried

pub returns-in-SubxCc : goal.returns-in-SubxCc
returns-in-SubxCc c = of c.in-SubxCc.is (c.coded-in-SubxCc.ensures ∙ ap (coded by.DifferenceWithBorrow) (c.carried-in-SubxCc.ensures ∙ ap (carried) (c.plain-in-SubxCc.ensures))) subtracts_both

pub returns-in-And : goal.returns-in-And
returns-in-And c = of c.in-And.is (c.plain-in-And.ensures) ands

pub returns-in-AndCc : goal.returns-in-AndCc
returns-in-AndCc c = of c.in-AndCc.is (c.coded-in-AndCc.ensures ∙ ap (coded by.Logic) (c.plain-in-AndCc.ensures)) ands_coded

pub returns-in-Andn : goal.returns-in-Andn
returns-in-Andn c = of c.in-Andn.is (c.turned.ensures ∙ ap (turning) (c.plain-in-Andn.ensures)) ands_turned

pub returns-in-AndnCc : goal.returns-in-AndnCc
returns-in-AndnCc c = of c.in-AndnCc.is (c.coded-in-AndnCc.ensures ∙ ap (coded by.Logic) (c.turned-in-AndnCc.ensures ∙ ap (turning) (c.plain-in-AndnCc.ensures))) ands_both

pub returns-in-Or : goal.returns-in-Or
returns-in-Or c = of c.in-Or.is (c.plain-in-Or.ensures) ors

pub returns-in-OrCc : goal.returns-in-OrCc
returns-in-OrCc c = of c.in-OrCc.is (c.coded-in-OrCc.ensures ∙ ap (coded by.Logic) (c.plain-in-OrCc.ensures)) ors_coded

pub returns-in-Orn : goal.returns-in-Orn
returns-in-Orn c = of c.in-Orn.is (c.turned-in-Orn.ensures ∙ ap (turning) (c.plain-in-Orn.ensures)) ors_turned

pub returns-in-OrnCc : goal.returns-in-OrnCc
returns-in-OrnCc c = of c.in-OrnCc.is (c.coded-in-OrnCc.ensures ∙ ap (coded by.Logic) (c.turned-in-OrnCc.ensures ∙ ap (turning) (c.plain-in-OrnCc.ensures))) ors_both

pub returns-in-Xor : goal.returns-in-Xor
returns-in-Xor c = of c.in-Xor.is (c.plain-in-Xor.ensures) xors

pub returns-in-XorCc : goal.returns-in-XorCc
returns-in-XorCc c = of c.in-XorCc.is (c.coded-in-XorCc.ensures ∙ ap (coded by.Logic) (c.plain-in-XorCc.ensures)) xors_coded

pub returns-in-Xnor : goal.returns-in-Xnor
returns-in-Xnor c = of c.in-Xnor.is (c.turned-in-Xnor.ensures ∙ ap (turning) (c.plain-in-Xnor.ensures)) xors_turned

pub returns-in-XnorCc : goal.returns-in-XnorCc
returns-in-XnorCc c = of c.in-XnorCc.is (c.coded-in-XnorCc.ensures ∙ ap (coded by.Logic) (c.turned-in-XnorCc.ensures ∙ ap (turning) (c.plain-in-XnorCc.ensures))) xors_both

pub returns-in-Sll : goal.returns-in-Sll
returns-in-Sll c = of c.in-Sll.is (c.plain-in-Sll.ensures) shifts_left

pub returns-in-Srl : goal.returns-in-Srl
returns-in-Srl c = of c.in-Srl.is (c.plain-in-Srl.ensures) shifts_right

pub returns-in-Sra : goal.returns-in-Sra
returns-in-Sra c = of c.in-Sra.is (c.plain-in-Sra.ensures) shifts_signed

pub returns-in-Umul : goal.returns-in-Umul
returns-in-Umul c = of c.in-Umul.is (c.product.ensures) multiplies

pub returns-in-UmulCc : goal.returns-in-UmulCc
returns-in-UmulCc c = of c.in-UmulCc.is (c.coded-in-UmulCc.ensures ∙ ap (coded by.Logic) (c.product-in-UmulCc.ensures)) multiplies_coded

pub returns-in-Smul : goal.returns-in-Smul
returns-in-Smul c = of c.in-Smul.is (c.product-in-Smul.ensures) multiplies_signed

pub returns-in-SmulCc : goal.returns-in-SmulCc
returns-in-SmulCc c = of c.in-SmulCc.is (c.coded-in-SmulCc.ensures ∙ ap (coded by.Logic) (c.product-in-SmulCc.ensures)) multiplies_both

pub returns-in-TaddCc : goal.returns-in-TaddCc
returns-in-TaddCc c = of c.in-TaddCc.is (c.tagged.ensures ∙ ap (tagged) (c.coded-in-TaddCc.ensures ∙ ap (coded by.Sum) (c.plain-in-TaddCc.ensures))) adds_tagged

pub returns-in-TsubCc : goal.returns-in-TsubCc
returns-in-TsubCc c = of c.in-TsubCc.is (c.tagged-in-TsubCc.ensures ∙ ap (tagged) (c.coded-in-TsubCc.ensures ∙ ap (coded by.Difference) (c.plain-in-TsubCc.ensures))) subtracts_tagged

pub returns-in-MulsCc : goal.returns-in-MulsCc
returns-in-MulsCc c = of c.in-MulsCc.is (c.coded-in-MulsCc.ensures ∙ ap (coded by.Sum) (c.stepped.ensures ∙ ap (stepping) (c.plain-in-MulsCc.ensures))) steps
