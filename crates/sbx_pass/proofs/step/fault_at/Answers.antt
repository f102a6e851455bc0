use Rattle.std.proofs.lemmas.Grind.{common_steps}
use Rattle.std.proofs.Common.{◌≡◌, suc, Bool, true, false, refl, sym, ap, ◌∙◌, subst, arith}
use Rattle.v8_meaning.specs.declared.operation.Operation.{Operation}
use Rattle.sbx_rules.specs.Known.{known}
use Rattle.sbx_rules.specs.Rules.{Holds}
use Rattle.sbx_rules.specs.Ways.{after_word, state_at}
use Rattle.sbx_known.specs.Courses.{is_branch}
use Rattle.sbx_pass.specs.Firsts.{AreKept, Tells}
use Rattle.sbx_known.specs.Spots.{visits_from}
use Rattle.sbx_pass.proofs.Blocks.{shape_kept}
use Rattle.sbx_known.proofs.Stepping.{ends_block, next_known, visits_are}
use Rattle.sbx_pass.proofs.step.fault_at.Goals as goal

pub fault_before-requires-clause-visits : goal.fault_before-requires-clause-visits
fault_before-requires-clause-visits c =
    let parts = c.args.image.now in
    let f = c.args.spot.now.function in
    let b = c.args.spot.now.block in
    let i = c.args.spot.now.number in
    visits_are parts f b i c.requires.shape
    ∙ ap (λ (o : Operation). visits_from parts f b i o (state_at parts f b i)) (sym c.requires.spot.before)
    ∙ ap (visits_from parts f b i c.args.spot.now.before) (sym c.requires.known) ∙ c.courses_of-courses.ensures.visits

pub fault_once_run-requires-clause-visits : goal.fault_once_run-requires-clause-visits
fault_once_run-requires-clause-visits c =
    let parts = c.args.image.now in
    let f = c.args.spot.now.function in
    let b = c.args.spot.now.block in
    let i = c.args.spot.now.number in
    visits_are parts f b i c.requires.shape
    ∙ ap (λ (o : Operation). visits_from parts f b i o (state_at parts f b i)) (sym c.requires.spot.before)
    ∙ ap (visits_from parts f b i c.args.spot.now.before) (sym c.requires.known) ∙ c.courses_of-courses.ensures.visits

pub returns-in-None-clause-next : goal.returns-in-None-clause-next
returns-in-None-clause-next c none less = by_test (is_branch c.args.spot.now.before) refl
  where
    by_test : (t : Bool) → is_branch c.args.spot.now.before ≡ t →
        known c.fault_once_run.new.here ≡ state_at c.args.image.now c.args.spot.now.function c.args.spot.now.block (suc c.args.spot.now.number)
    by_test true is =
        let parts = c.args.image.now in
        let f = c.args.spot.now.function in
        let b = c.args.spot.now.block in
        let i = c.args.spot.now.number in
        let kept : AreKept (Holds parts f b i) 1 13 = subst (Tells (Holds parts f b i) 1 13) c.in-None.is c.fault_before.ensures in
        absurd (ends_block parts f b i (shape_kept parts f b i kept) (ap is_branch (sym c.requires.spot.before) ∙ is) less)
    by_test false is =
        let parts = c.args.image.now in
        let f = c.args.spot.now.function in
        let b = c.args.spot.now.block in
        let i = c.args.spot.now.number in
        next_known parts f b i (known c.fault_once_run.new.here)
        (c.fault_once_run.ensures.next none is ∙ ap (after_word parts f b i) (ap known (c.courses_of-courses.ensures.same is) ∙ c.requires.known))

pub returns-in-Some-clause-told : goal.returns-in-Some-clause-told
returns-in-Some-clause-told c = grind (arith, common_steps)
