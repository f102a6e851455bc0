use Rattle.std.proofs.lemmas.Grind.{common_steps}
use Rattle.std.proofs.Common.{◌^◌, sym, subst, pos, take, arith}
use Rattle.sbx_form.specs.declared.terms.FormTerm.{FormTerm}
use Rattle.sbx_form.specs.Forms.{AreWithin}
use Rattle.sbx_form.proofs.Bounds.{within_at}
use Rattle.sbx_fuel.proofs.Counting.{negated_within, within_front}
use Rattle.sbx_fuel.proofs.starts.all_negated.Goals as goal

none : FormTerm
none = record { location = 0; coefficient = pos 0 }

pub negated-requires : goal.negated-requires
unfolding none
negated-requires c = within_at (2 ^ 31) c.args.terms.now c.loop-term.term-index none c.requires.small c.loop-term-test.true

pub returns-clause-small : goal.returns-clause-small
returns-clause-small c =
    subst (AreWithin (2 ^ 31)) (sym c.loop-term.invariant.value)
    (negated_within (2 ^ 31) (take c.loop-term.term-index c.args.terms.now) (within_front (2 ^ 31) c.loop-term.term-index c.args.terms.now c.requires.small))

pub loop-term-preserved : goal.loop-term-preserved
loop-term-preserved c = grind (arith, common_steps)

pub returns-clause-value : goal.returns-clause-value
returns-clause-value c = grind (arith, common_steps)
