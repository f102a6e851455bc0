use Rattle.std.proofs.Common.{◌+◌, ◌*◌, ◌^◌, List, drop, arith, rules, ap, ◌∙◌, pos}
use Rattle.sbx_form.specs.declared.terms.FormTerm.{FormTerm}
use Rattle.sbx_form.proofs.Bounds.{wider_bound, within_at}
use Rattle.sbx_rules.specs.Known.{known}
use Rattle.sbx_fuel.specs.Margins.{start_terms}
use Rattle.sbx_fuel.proofs.Counting.{start_all, start_more}
use Rattle.sbx_fuel.proofs.sums.less_forms.Goals as goal

none : FormTerm
none = record { location = 0; coefficient = pos 0 }

pub less_form-requires : goal.less_form-requires
unfolding none
less_form-requires g c = (
  search rules,
  (
    omega (arith, c.loop-term.invariant.room, c.requires.room, c.loop-term-test.true),
    (
      wider_bound (2 ^ 31 + c.loop-term.term-index * 2 ^ 66) (2 ^ 80) c.loop-term.terms.items (omega (arith, c.requires.few, c.loop-term-test.true)) c.loop-term.invariant.small,
      within_at (2 ^ 31) c.args.next.now c.loop-term.term-index none c.requires.small_next c.loop-term-test.true,
    ),
  ),
)

pub loop-term-preserved : goal.loop-term-preserved
unfolding none
loop-term-preserved g c =
    let i = c.loop-term.term-index in
    record {
      value = ap (λ (ts : List FormTerm). start_terms (known c.args.now.now) (drop (i + 1) c.args.next.now) ts) c.less_form.ensures.value
          ∙ start_more (known c.args.now.now) c.args.next.now c.loop-term.terms.items i none _ c.loop-term-test.true c.loop-term.invariant.value;
      room = omega (arith, c.less_form.ensures.few, c.loop-term.invariant.room);
      small = wider_bound ((2 ^ 31 + i * 2 ^ 66) + 2 ^ 66) (2 ^ 31 + (i + 1) * 2 ^ 66) c.less_form.new.terms.items (omega arith)
          (c.less_form.ensures.within (2 ^ 31 + i * 2 ^ 66) c.loop-term.invariant.small);
    }

pub returns-clause-value : goal.returns-clause-value
returns-clause-value g c = start_all (known c.args.now.now) c.args.next.now c.loop-term.terms.items c.loop-term.term-index _ c.loop-term-test.false c.loop-term.invariant.value

pub returns-clause-small : goal.returns-clause-small
returns-clause-small g c =
    wider_bound (2 ^ 31 + c.loop-term.term-index * 2 ^ 66) (2 ^ 70) c.loop-term.terms.items
    (omega (arith, c.requires.few, c.loop-term.auto.term-index-end)) c.loop-term.invariant.small
