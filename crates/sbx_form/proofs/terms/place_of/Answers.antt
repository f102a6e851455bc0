use Rattle.std.proofs.lemmas.Grind.{common_steps}
use Rattle.std.proofs.Common.{arith, get_or, pos}
use Rattle.std.proofs.lemmas.List.{get_or_default}
use Rattle.sbx_form.specs.declared.terms.FormTerm.{FormTerm}
use Rattle.sbx_form.proofs.Places.{skips_more}
use Rattle.sbx_form.proofs.terms.place_of.Goals as goal

pub loop-i-preserved : goal.loop-i-preserved
loop-i-preserved c =
    let b = c.if-term-location.false in
    let t : FormTerm = get_or c.args.terms.now c.loop-i.i (record { location = 0; coefficient = pos 0 }) in
    λ d. skips_more c.args.location d c.args.terms.now c.loop-i.i t (omega arith)
    (get_or_default c.args.terms.now c.loop-i.i (record { location = 0; coefficient = pos 0 }) t (omega arith)) c.if-term-location.false
    (c.loop-i.invariant d)

pub returns-then-term-location-clause-stops : goal.returns-then-term-location-clause-stops
returns-then-term-location-clause-stops c = grind (arith, common_steps)
