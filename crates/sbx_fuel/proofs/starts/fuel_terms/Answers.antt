use Rattle.std.proofs.lemmas.Grind.{common_steps}
use Rattle.std.proofs.Common.{◌≡◌, ◌∙◌, ◌+◌, ◌<◌, ◌^◌, ◌++◌, List, [], ◌∷◌, length, drop, ap, sym, subst, pos, arith, true, false, get_or}
use Rattle.arrayvec.specs.ArrayVec.{array_vec_len}
use Rattle.sbx_image.specs.Term.{Term}
use Rattle.sbx_form.specs.declared.terms.FormTerm.{FormTerm}
use Rattle.sbx_form.specs.Forms.{AreWithin}
use Rattle.sbx_rules.specs.Ways.{cells_of, counted, form_term, names_cell}
use Rattle.sbx_fuel.proofs.Counting.{none_counted, one_counted, within_push}
use Rattle.sbx_fuel.proofs.starts.fuel_terms.Goals as goal
use Rattle.sbx_fuel.proofs.starts.fuel_terms.Goals.{then-names, else-names}

none : Term
none = record { location = 0; coefficient = pos 0 }

pub loop-term-preserved : goal.loop-term-preserved
unfolding none
loop-term-preserved g c =
    let i = c.loop-term.term-index in
    let ts = c.args.block.now.terms in
    let cells = cells_of c.args.function.now c.args.number c.args.block.now in
    let same = c.as_slice-term-items.ensures in
    let e : get_or c.as_slice-term-items.result.now i none ≡ get_or ts i none = ap (λ (xs : List Term). get_or xs i none) same in
    let room : i < length ts = subst (λ (xs : List Term). i < length xs) same c.loop-term-test.true in
    elim c.if-names.branch [
      | then-names w ↦
          let named : names_cell cells (get_or ts i none).location ≡ true = ap (λ (t : Term). names_cell cells t.location) (sym e) ∙ sym (w.if-names.ensures {u = tt}) in
          let term : w.form_term.result ≡ form_term (get_or ts i none) = w.form_term.ensures.value ∙ ap form_term e in
          let pushed : c.if-names.terms.items ≡ c.loop-term.terms.items ++ w.form_term.result ∷ [] = ap (λ v. v.items) w.terms-is ∙ w.push.ensures.items in
          let items : c.if-names.terms.items ≡ c.loop-term.terms.items ++ form_term (get_or ts i none) ∷ [] = pushed ∙ ap (λ (t : FormTerm). c.loop-term.terms.items ++ t ∷ []) term in
          record {
            value = subst (λ (xs : List FormTerm). xs ++ counted cells (drop (i + 1) ts) ≡ counted cells ts) (sym items)
                (one_counted cells ts i none c.loop-term.terms.items (counted cells ts) room named c.loop-term.invariant.value);
            few = (let n = ap array_vec_len w.terms-is in let m = w.push.ensures.len in let k = c.loop-term.invariant.few in omega arith);
            small = subst (AreWithin (2 ^ 31)) (sym pushed) (within_push (2 ^ 31) c.loop-term.terms.items w.form_term.result c.loop-term.invariant.small w.form_term.ensures.small);
          }
      | else-names w ↦
          let strange : names_cell cells (get_or ts i none).location ≡ false = ap (λ (t : Term). names_cell cells t.location) (sym e) ∙ sym (w.if-names.ensures {u = tt}) in
          let items : c.if-names.terms.items ≡ c.loop-term.terms.items = ap (λ v. v.items) w.terms-is in
          record {
            value = subst (λ (xs : List FormTerm). xs ++ counted cells (drop (i + 1) ts) ≡ counted cells ts) (sym items)
                (none_counted cells ts i none c.loop-term.terms.items (counted cells ts) room strange c.loop-term.invariant.value);
            few = (let n = ap array_vec_len w.terms-is in let k = c.loop-term.invariant.few in omega arith);
            small = subst (AreWithin (2 ^ 31)) (sym items) c.loop-term.invariant.small;
          }
    ]

pub returns-clause-value : goal.returns-clause-value
returns-clause-value g c = grind (arith, common_steps)

pub push-requires : goal.push-requires
push-requires g c = grind (arith, common_steps)

pub new-terms-requires : goal.new-terms-requires
new-terms-requires g c = assumption

pub offset_bounds-term-items-term-index : goal.offset_bounds-term-items-term-index
offset_bounds-term-items-term-index g c = grind (arith, common_steps)

pub loop-term-init : goal.loop-term-init
loop-term-init g c = grind (arith, common_steps)

pub returns-clause-few : goal.returns-clause-few
returns-clause-few g c = grind (arith, common_steps)
