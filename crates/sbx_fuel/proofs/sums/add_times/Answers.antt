use Rattle.std.proofs.lemmas.Grind.{common_steps}
use Rattle.std.proofs.Common.{◌≡◌, ℤ, ◌+◌, ◌*◌, ◌*ℤ◌, ◌^◌, ◌≤◌, pos, arith, rules, List, drop, get_or, length, sym, ap, ◌∙◌, subst, to_z, of_z}
use Rattle.std.specs.Prelude.{unsigned_abs}
use Rattle.std.specs.Int.{w128}
use Rattle.std.proofs.lemmas.Int.{to_z-of_z}
use Rattle.sbx_form.specs.declared.terms.FormTerm.{FormTerm}
use Rattle.sbx_form.specs.Forms.{AreWithin, add_terms}
use Rattle.sbx_form.proofs.Bounds.{added_within, all_added, more_added, wider_bound, within_at}
use Rattle.sbx_form.proofs.Ordered.{sums_stay_in_order}
use Rattle.sbx_fuel.proofs.Counting.{product_within}
use Rattle.sbx_fuel.proofs.sums.add_times.Goals as goal

none : FormTerm
none = record { location = 0; coefficient = pos 0 }

pub add_times_term-requires : goal.add_times_term-requires
unfolding none
add_times_term-requires g c = (
  search rules,
  (
    omega (arith, c.loop-term.invariant.room, c.requires.room, c.loop-term-test.true),
    (
      wider_bound (2 ^ 80 + c.loop-term.term-index * 2 ^ 63) (2 ^ 90) c.loop-term.terms.items (omega (arith, c.requires.few, c.loop-term-test.true)) c.loop-term.invariant.small,
      (grind (arith, common_steps), within_at (2 ^ 32) c.args.form.now c.loop-term.term-index none c.requires.small_form c.loop-term-test.true),
    ),
  ),
)

pub loop-term-preserved : goal.loop-term-preserved
unfolding none
loop-term-preserved g c =
    let k : ℤ = to_z w128 (of_z w128 c.args.times) in
    let e : k ≡ c.args.times = to_z-of_z w128 c.args.times c.ranges.times in
    let i = c.loop-term.term-index in
    let is = c.add_times_term.ensures in
    let term = get_or c.args.form.now i none in
    let small : unsigned_abs k ≤ 2 ^ 31 = subst (λ (z : ℤ). unsigned_abs z ≤ 2 ^ 31) (sym e) c.requires.small_times in
    let small_term : unsigned_abs term.coefficient ≤ 2 ^ 32 = within_at (2 ^ 32) c.args.form.now i none c.requires.small_form c.loop-term-test.true in
    let few = sums_stay_in_order.few in
    record {
      value = ap (λ (ts : List FormTerm). add_terms k (drop (i + 1) c.args.form.now) ts) is
          ∙ more_added k c.args.form.now c.loop-term.terms.items i none (add_terms k c.args.form.now c.args.terms.now.items) c.loop-term-test.true c.loop-term.invariant.value;
      room = (let n = ap (λ (ts : List FormTerm). length ts) is in let m = few term.location (k *ℤ term.coefficient) c.loop-term.terms.items in omega (arith, n, m, c.loop-term.invariant.room));
      small = wider_bound ((2 ^ 80 + i * 2 ^ 63) + 2 ^ 63) (2 ^ 80 + (i + 1) * 2 ^ 63) c.add_times_term.new.terms.items (omega arith)
          (subst (AreWithin ((2 ^ 80 + i * 2 ^ 63) + 2 ^ 63)) (sym is)
          (added_within (2 ^ 80 + i * 2 ^ 63) (2 ^ 63) term.location (k *ℤ term.coefficient) c.loop-term.terms.items (product_within k term.coefficient small small_term) c.loop-term.invariant.small));
    }

pub returns : goal.returns
returns g c =
    all_added (to_z w128
    (of_z w128 c.args.times)) c.args.times c.args.form.now c.loop-term.terms.items c.loop-term.term-index c.args.terms.now.items c.loop-term-test.false
    (to_z-of_z w128 c.args.times c.ranges.times) c.loop-term.invariant.value

pub loop-term-init : goal.loop-term-init
loop-term-init g c = grind (arith, common_steps)
