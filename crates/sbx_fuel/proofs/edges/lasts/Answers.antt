use Rattle.std.proofs.lemmas.Grind.{common_steps}
use Rattle.std.proofs.Common.{sym, subst, arith}
use Rattle.sbx_rules.specs.Forms.{Form}
use Rattle.sbx_rules.specs.Known.{Known, known}
use Rattle.sbx_rules.specs.Fuel.{IsPaid}
use Rattle.sbx_rules.specs.Ways.{fuel_at, state_at}
use Rattle.sbx_fuel.specs.Blocks.{first_of, fuel_of}
use Rattle.sbx_fuel.proofs.KeptBlocks.{among, fuel_is, of_block, of_image, paid_by_none, stands, stands_kept}
use Rattle.sbx_fuel.proofs.edges.lasts.Goals as goal

pub lasts_for-requires-clause-kept : goal.lasts_for-requires-clause-kept
lasts_for-requires-clause-kept c =
    let s = stands c.args.image.now c.functions.result.now c.args.f c.args.b c.index-functions-f.result c.as_slice.result.now c.index-as_slice-b.result
    c.functions.ensures.value c.requires.function c.index-functions-f.is c.as_slice.ensures c.requires.block c.index-as_slice-b.is in
    stands_kept c.args.image.now c.requires.kept c.args.f c.args.b c.index-functions-f.result c.index-as_slice-b.result s c.requires.function c.requires.block

pub lasts_for-requires-clause-next_kept : goal.lasts_for-requires-clause-next_kept
lasts_for-requires-clause-next_kept c =
    let s = stands c.args.image.now c.functions.result.now c.args.f c.args.target c.index-functions-f.result c.as_slice-2.result.now
    c.index-as_slice-target.result c.functions.ensures.value c.requires.function c.index-functions-f.is c.as_slice-2.ensures c.requires.target
    c.index-as_slice-target.is in
    stands_kept c.args.image.now c.requires.kept c.args.f c.args.target c.index-functions-f.result c.index-as_slice-target.result s c.requires.function c.requires.target

pub returns-then-has_empty_range-clause-paid : goal.returns-then-has_empty_range-clause-paid
returns-then-has_empty_range-clause-paid c = λ _.
    paid_by_none (state_at c.args.image.now c.args.f c.args.b 0) (fuel_at c.args.image.now c.args.f c.args.b) c.args.weight (known c.args.now.now)
    (fuel_at c.args.image.now c.args.f c.args.target) (c.has_empty_range.ensures.empty c.if-has_empty_range.true)

pub returns-else-has_empty_range-clause-paid : goal.returns-else-has_empty_range-clause-paid
returns-else-has_empty_range-clause-paid c = λ e.
    (let s = stands c.args.image.now c.functions.result.now c.args.f c.args.b c.index-functions-f.result c.as_slice.result.now c.index-as_slice-b.result
    c.functions.ensures.value c.requires.function c.index-functions-f.is c.as_slice.ensures c.requires.block c.index-as_slice-b.is in
    let t = stands c.args.image.now c.functions.result.now c.args.f c.args.target c.index-functions-f.result c.as_slice-2.result.now
    c.index-as_slice-target.result c.functions.ensures.value c.requires.function c.index-functions-f.is c.as_slice-2.ensures c.requires.target
    c.index-as_slice-target.is in
    let p = c.lasts_for.ensures.paid e in
    of_image (λ (d : Known) (g : Form). IsPaid d g c.args.weight (known c.args.now.now)
    (fuel_at c.args.image.now c.args.f c.args.target)) c.args.image.now c.args.f c.args.b c.index-functions-f.result c.index-as_slice-b.result s
    (subst (λ g. IsPaid (first_of c.index-functions-f.result c.args.b c.index-as_slice-b.result)
    (fuel_of c.index-functions-f.result c.args.b c.index-as_slice-b.result) c.args.weight (known c.args.now.now) g)
    (sym (fuel_is c.args.image.now c.args.f c.args.target c.index-functions-f.result c.index-as_slice-target.result t)) p))

pub returns-else-has_empty_range-clause-unpaid : goal.returns-else-has_empty_range-clause-unpaid
returns-else-has_empty_range-clause-unpaid c = λ e h.
    (let s = stands c.args.image.now c.functions.result.now c.args.f c.args.b c.index-functions-f.result c.as_slice.result.now c.index-as_slice-b.result
    c.functions.ensures.value c.requires.function c.index-functions-f.is c.as_slice.ensures c.requires.block c.index-as_slice-b.is in
    let t = stands c.args.image.now c.functions.result.now c.args.f c.args.target c.index-functions-f.result c.as_slice-2.result.now
    c.index-as_slice-target.result c.functions.ensures.value c.requires.function c.index-functions-f.is c.as_slice-2.ensures c.requires.target
    c.index-as_slice-target.is in
    c.lasts_for.ensures.unpaid e
    (subst (λ g. IsPaid (first_of c.index-functions-f.result c.args.b c.index-as_slice-b.result)
    (fuel_of c.index-functions-f.result c.args.b c.index-as_slice-b.result) c.args.weight (known c.args.now.now) g)
    (fuel_is c.args.image.now c.args.f c.args.target c.index-functions-f.result c.index-as_slice-target.result t)
    (of_block (λ (d : Known) (g : Form). IsPaid d g c.args.weight (known c.args.now.now)
    (fuel_at c.args.image.now c.args.f c.args.target)) c.args.image.now c.args.f c.args.b c.index-functions-f.result c.index-as_slice-b.result s h)))

pub lasts_for-requires-clause-some : goal.lasts_for-requires-clause-some
lasts_for-requires-clause-some c = grind (arith, common_steps)

pub has_empty_range-requires : goal.has_empty_range-requires
has_empty_range-requires c = assumption

pub bounds-functions-f : goal.bounds-functions-f
bounds-functions-f c = grind (arith, common_steps)

pub offset_bounds-functions-f : goal.offset_bounds-functions-f
offset_bounds-functions-f c = grind (arith, common_steps)

pub returns-then-has_empty_range-clause-unpaid : goal.returns-then-has_empty_range-clause-unpaid
returns-then-has_empty_range-clause-unpaid c = grind (arith, common_steps)

pub bounds-as_slice-b : goal.bounds-as_slice-b
bounds-as_slice-b c =
    among c.args.image.now c.functions.result.now c.args.f c.args.b c.index-functions-f.result c.as_slice.result.now c.functions.ensures.value
    c.requires.function c.index-functions-f.is c.as_slice.ensures c.requires.block

pub offset_bounds-as_slice-b : goal.offset_bounds-as_slice-b
offset_bounds-as_slice-b c =
    grind (
      arith,
      common_steps,
      among c.args.image.now c.functions.result.now c.args.f c.args.b c.index-functions-f.result c.as_slice.result.now c.functions.ensures.value
          c.requires.function c.index-functions-f.is c.as_slice.ensures c.requires.block,
    )

pub bounds-as_slice-target : goal.bounds-as_slice-target
bounds-as_slice-target c =
    among c.args.image.now c.functions.result.now c.args.f c.args.target c.index-functions-f.result c.as_slice-2.result.now c.functions.ensures.value
    c.requires.function c.index-functions-f.is c.as_slice-2.ensures c.requires.target

pub offset_bounds-as_slice-target : goal.offset_bounds-as_slice-target
offset_bounds-as_slice-target c =
    grind (
      arith,
      common_steps,
      among c.args.image.now c.functions.result.now c.args.f c.args.target c.index-functions-f.result c.as_slice-2.result.now c.functions.ensures.value
          c.requires.function c.index-functions-f.is c.as_slice-2.ensures c.requires.target,
    )
