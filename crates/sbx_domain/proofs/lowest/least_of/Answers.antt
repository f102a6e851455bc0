use Rattle.std.proofs.lemmas.Grind.{common_steps}
use Rattle.std.proofs.Common.{◌≡◌, ◌≤◌, ◌^◌, ℤ, ◌+ℤ◌, ◌*ℤ◌, arith, rules, pos, ap, ◌∙◌, to_z, of_z, drop, ◌+◌, get_or}
use Rattle.std.specs.Int.{int_min, w128}
use Rattle.std.specs.Prelude.{unsigned_abs}
use Rattle.std.proofs.lemmas.Int.{to_z-of_z}
use mir.Val.{SFits}
use Rattle.sbx_range.specs.Range.{Range}
use Rattle.sbx_form.specs.declared.terms.FormTerm.{FormTerm}
use Rattle.sbx_form.specs.Forms.{least_term, least_terms}
use Rattle.sbx_form.proofs.Bounds.{within_at}
use Rattle.sbx_form.proofs.Places.{least_all, least_more}
use Rattle.sbx_domain.specs.Known.{known}
use Rattle.sbx_domain.specs.Least.{ends_known, range_or_zero}
use Rattle.sbx_domain.proofs.lowest.least_of.Goals as goal

pub least_term-requires : goal.least_term-requires
least_term-requires c =
    let none : FormTerm = record { location = 0; coefficient = pos 0 } in
    let b : unsigned_abs (get_or c.args.terms.now c.loop-term.term-index none).coefficient ≤ 2 ^ 32 =
    within_at (2 ^ 32) c.args.terms.now c.loop-term.term-index none c.requires.small c.loop-term-test.true in
    omega (arith, b)

pub loop-term-preserved : goal.loop-term-preserved
loop-term-preserved c =
    let f : SFits w128 c.plus-least.result = search rules in
    let e : to_z w128 (of_z w128 c.plus-least.result) ≡ c.plus-least.result = to_z-of_z w128 c.plus-least.result f in
    let g : SFits w128 c.least_term.result = search rules in
    let h = to_z-of_z w128 c.least_term.result g in
    let b = to_z w128 c.loop-term.least-bits in
    let v : c.plus-least.result ≡ b +ℤ c.least_term.result = c.plus-least.ensures.value ∙ ap (λ (z : ℤ). b +ℤ z) h in
    let ends = ends_known (known c.args.start.now) in
    let none : FormTerm = record { location = 0; coefficient = pos 0 } in
    let k : ℤ = (get_or c.args.terms.now c.loop-term.term-index none).coefficient in
    let here : c.least_term.result ≡ least_term ends (get_or c.args.terms.now c.loop-term.term-index none) =
    c.least_term.ensures.value ∙ ap (λ (r : Range). int_min (r.lo *ℤ k) (r.hi *ℤ k)) (c.range_or_zero-range.ensures ∙ ap range_or_zero c.range.ensures) in
    let n = ap unsigned_abs h in
    record {
      value = ap (λ (z : ℤ). z +ℤ least_terms ends (drop (c.loop-term.term-index + 1) c.args.terms.now)) (e ∙ v)
          ∙ least_more ends c.args.terms.now c.loop-term.term-index none b c.least_term.result (least_terms ends c.args.terms.now) c.loop-term-test.true here c.loop-term.invariant.value;
      bound = rw e (omega (arith, c.plus-least.ensures.bound, c.least_term.ensures.bound, c.loop-term.invariant.bound));
    }

pub returns-clause-value : goal.returns-clause-value
returns-clause-value c = least_all (ends_known (known c.args.start.now)) c.args.terms.now c.loop-term.term-index _ _ c.loop-term-test.false c.loop-term.invariant.value

pub plus-least-requires-clause-one : goal.plus-least-requires-clause-one
plus-least-requires-clause-one c = grind (arith, common_steps)

pub plus-least-requires-clause-few : goal.plus-least-requires-clause-few
plus-least-requires-clause-few c = grind (arith, common_steps)
