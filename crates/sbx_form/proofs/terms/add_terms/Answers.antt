use Rattle.std.proofs.lemmas.Grind.{common_steps}
use Rattle.std.proofs.Common.{◌≡◌, ℕ, ℤ, ◌+◌, ◌*◌, ◌*ℤ◌, ◌^◌, ◌≤◌, pos, rules, arith, List, drop, get_or, length, sym, ap, ◌∙◌, subst, to_z, of_z, w32}
use Rattle.std.proofs.lemmas.Int.{to_z-of_z}
use mir.Val.{SFits}
use Rattle.sbx_form.specs.declared.terms.FormTerm.{FormTerm}
use Rattle.sbx_form.specs.Forms.{AreWithin, add_term, add_terms}
use Rattle.sbx_form.proofs.Bounds.{all_added, more_added, wider_bound, within_at}
use Rattle.sbx_form.proofs.Ordered.{sums_stay_in_order}
use Rattle.sbx_form.proofs.terms.add_terms.Goals as goal

none : FormTerm
none = record { location = 0; coefficient = pos 0 }

pub add_scaled-requires : goal.add_scaled-requires
unfolding none
add_scaled-requires g c = (
  search rules,
  (
    omega (arith, c.loop-term.invariant.room, c.requires.room, c.loop-term-test.true),
    (
      wider_bound (2 ^ 80 + c.loop-term.term-index * 2 ^ 64) (2 ^ 90) c.loop-term.terms.items (omega (arith, c.requires.few, c.loop-term-test.true)) c.loop-term.invariant.small,
      within_at (2 ^ 32) c.args.more.now c.loop-term.term-index none c.requires.small_more c.loop-term-test.true,
    ),
  ),
)

pub loop-term-preserved : goal.loop-term-preserved
unfolding none
loop-term-preserved g c =
    let k : ℤ = to_z w32 (of_z w32 c.args.times) in
    let i = c.loop-term.term-index in
    let is = c.add_scaled.ensures.value in
    let few = sums_stay_in_order.few in
    record {
      value = ap (λ (ts : List FormTerm). add_terms k (drop (i + 1) c.args.more.now) ts) is
          ∙ more_added k c.args.more.now c.loop-term.terms.items i none (add_terms k c.args.more.now c.args.terms.now.items) c.loop-term-test.true c.loop-term.invariant.value;
      room = (let n = ap (λ (ts : List FormTerm). length ts) is in
          let m = few (get_or c.args.more.now i none).location (k *ℤ (get_or c.args.more.now i none).coefficient) c.loop-term.terms.items in
          omega (arith, n, m, c.loop-term.invariant.room));
      small = wider_bound ((2 ^ 80 + i * 2 ^ 64) + 2 ^ 64) (2 ^ 80 + (i + 1) * 2 ^ 64) c.add_scaled.new.terms.items (omega arith)
          (c.add_scaled.ensures.within (2 ^ 80 + i * 2 ^ 64) c.loop-term.invariant.small);
    }

pub returns : goal.returns
returns g c =
    let f : SFits w32 c.args.times = search rules in
    all_added (to_z w32
    (of_z w32 c.args.times)) c.args.times c.args.more.now c.loop-term.terms.items c.loop-term.term-index c.args.terms.now.items c.loop-term-test.false
    (to_z-of_z w32 c.args.times f) c.loop-term.invariant.value

pub loop-term-init : goal.loop-term-init
loop-term-init g c = grind (arith, common_steps)
