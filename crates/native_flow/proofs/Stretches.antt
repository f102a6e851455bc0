-- The words of one block of the program.
use Rattle.std.proofs.Common.{◌≡◌, ℕ, zero, suc, ◌+◌, ◌-◌, ◌/◌, ◌<◌, ◌≤◌, ◌⊎◌, inl, inr}
use Rattle.std.proofs.Common.{List, [], ◌∷◌, length, Option, Some, None, Ok, slice_index, refl, sym, ap, ◌∙◌, subst, arith}
use Rattle.std.specs.Prelude.{slice_get}
use Rattle.std.proofs.lemmas.Option.{slice_get_within}
use Rattle.v8_meaning.specs.Operands.{following}
use Rattle.v8_meaning.specs.declared.operation.Operation.{Operation}
use Rattle.sbx_parts.specs.declared.parts.Function.{Function}
use Rattle.sbx_image.specs.Order.{AreInOrder, code_end, entry_or_end, function_at, or_function}
use Rattle.sbx_image.specs.Parts.{Parts}
use Rattle.sbx_image.specs.Rules.{code_start, parts_keep}
use Rattle.sbx_parts.proofs.Limits.{functions_within}
use Rattle.sbx_parts.proofs.Ordered.{in_order}
use Rattle.sbx_flat.specs.Turns.{asked}
use Rattle.native_ends.specs.Translations.{AsksFor, Begins, HasSlot}
use Rattle.native_flow.specs.Labelling.{AreStarts, word_address}
use Rattle.native_flow.specs.Translating.{IsStretch}
use Rattle.native_flow.proofs.Rows.{begins_word, got_word, word_by, word_there}

got_index : (l : List ℕ) (k x : ℕ) → slice_get l k ≡ Some x → slice_index l k ≡ x
got_index [] k x e = absurd cc
got_index (y ∷ l) zero x e = cc
got_index (y ∷ l) (suc k) x e = got_index l k x e

module _ (parts : Parts) (kept : parts_keep parts ≡ Ok tt) (starts owners : List ℕ) (are : AreStarts parts (code_end parts) starts owners) (number : ℕ) (less : number < length starts) where
  order : AreInOrder parts
  order = in_order parts kept

  -- a function that begins behind a start begins at a later one
  later : (f : ℕ) (g : Function) → slice_get parts.functions f ≡ Some g → slice_index starts number < g.entry →
      (i : ℕ) × (number < i) × (i < length starts) × (slice_index starts i ≡ g.entry)
  later f g e behind =
      let is : f < length parts.functions = slice_get_within parts.functions f g e in
      let block = (order.entries f is) in
      let same : (function_at parts f).entry ≡ g.entry = ap (λ o. (or_function o).entry) e in
      let begins : Begins parts g.entry = inl (record { function = f; block = 0; is = block.0; there = sym block.1 ∙ same }) in
      let w = begins_word parts order g.entry begins in
      let low = w.1 in
      let at = w.2 in
      let found = are.all g.entry begins (omega (arith, low, at)) in
      let there = found.2 in
      (found.0, rises found.0 found.1 there (search arith), found.1, found.2)
    where
      rises : (i : ℕ) → i < length starts → slice_index starts i ≡ g.entry → (number < i) ⊎ (i ≤ number) → number < i
      rises i within there (inl after) = after
      rises i within there (inr before) = up i within there before (search arith)
        where
          up : (i : ℕ) → i < length starts → slice_index starts i ≡ g.entry → i ≤ number → (i < number) ⊎ (number ≤ i) → number < i
          up i within there before (inl low) = let h = are.ascending i number low less in absurd (omega (arith, h, there, behind))
          up i within there before (inr high) =
              let same : i ≡ number = omega (arith, before, high) in
              let e : slice_index starts i ≡ slice_index starts number = ap (slice_index starts) same in
              absurd (omega (arith, e, there, behind))

  start_word : (k : ℕ) × (k < length parts.words) × (slice_index starts number ≡ word_address k)
  start_word = begins_word parts order (slice_index starts number) (are.begin number less)

  -- the stretch up to the next start
  up_to_next : (n : ℕ) → slice_get starts (number + 1) ≡ Some n → IsStretch parts starts owners number ((slice_index starts number - code_start) / 4) ((n - code_start) / 4)
  up_to_next n e =
      let within = slice_get_within starts (number + 1) n e in
      let is = got_index starts (number + 1) n e in
      let up = are.ascending number (number + 1) (omega arith) within in
      let begins = are.begin (number + 1) within in
      let next = begins_word parts order (slice_index starts (number + 1)) begins in
      let at = next.2 in
      let low = next.1 in
      let here = start_word.2 in
      let place : word_address ((n - code_start) / 4) ≡ slice_index starts (number + 1) = omega (arith, is, at) in
      record {
        begins = omega (arith, here);
        more = omega (arith, here, at, is, up);
        within = omega (arith, low, at, is);
        lies = λ k from to.
            let owned = are.owned number less in
            let entry = owned.from in
            let end = owned.to in
            record {
              function = owned.function;
              from = omega (arith, entry, here, from);
              to = before_end k n is within (omega (arith, to, at, is)) (slice_get parts.functions (slice_index owners number + 1)) refl end;
            };
        ends = inl (subst (Begins parts) (sym place) begins);
      }
    where
      before_end : (k n : ℕ) → slice_index starts (number + 1) ≡ n → number + 1 < length starts → word_address k < n → (o : Option Function) →
          slice_get parts.functions (slice_index owners number + 1) ≡ o → slice_index starts number < entry_or_end (code_end parts) o → word_address k < entry_or_end (code_end parts) o
      before_end k n is within below None e end = let h = are.below (number + 1) within in omega (arith, h, is, below)
      before_end k n is within below (Some g) e end =
          let l = later (slice_index owners number + 1) g e end in
          let after = l.1 in
          let there = l.3 in
          up_by l.0 after l.2 there
        where
          up_by : (i : ℕ) → number < i → i < length starts → slice_index starts i ≡ g.entry → word_address k < g.entry
          up_by i after inside there = by (search arith)
            where
              by : (number + 1 < i) ⊎ (i ≤ number + 1) → word_address k < g.entry
              by (inl more) = let h = are.ascending (number + 1) i more inside in omega (arith, h, is, below, there)
              by (inr last) =
                  let same : i ≡ number + 1 = omega (arith, after, last) in
                  let e : slice_index starts i ≡ slice_index starts (number + 1) = ap (slice_index starts) same in
                  omega (arith, e, is, below, there)

  -- the last stretch goes up to the end
  up_to_end : (last : ℕ) → slice_get starts (number + 1) ≡ None → last ≡ length parts.words → IsStretch parts starts owners number ((slice_index starts number - code_start) / 4) last
  up_to_end last none is =
      let here = start_word.2 in
      let low = start_word.1 in
      record {
        begins = omega (arith, here);
        more = omega (arith, here, low, is);
        within = omega (arith, is);
        lies = λ k from to.
            let owned = are.owned number less in
            let entry = owned.from in
            let end = owned.to in
            record {
              function = owned.function;
              from = omega (arith, entry, here, from);
              to = before_end k (omega (arith, to, is)) (slice_get parts.functions (slice_index owners number + 1)) refl end;
            };
        ends = inr (omega (arith, is));
      }
    where
      past : (o : Option ℕ) → slice_get starts (number + 1) ≡ o → o ≡ None → length starts ≤ number + 1
      past o e n = by (search arith)
        where
          by : (number + 1 < length starts) ⊎ (length starts ≤ number + 1) → length starts ≤ number + 1
          by (inl more) = let h = got_word starts (number + 1) more in absurd (same_absurd (sym h ∙ e ∙ n))
            where
              same_absurd : {x : ℕ} → Some x ≡ None → ⊥
              same_absurd e = absurd cc
          by (inr enough) = enough

      before_end : (k : ℕ) → k < length parts.words → (o : Option Function) → slice_get parts.functions (slice_index owners number + 1) ≡ o →
          slice_index starts number < entry_or_end (code_end parts) o → word_address k < entry_or_end (code_end parts) o
      before_end k low None e end = omega (arith, low)
      before_end k low (Some g) e end =
          let l = later (slice_index owners number + 1) g e end in
          let after = l.1 in
          let inside = l.2 in
          let all = past (slice_get starts (number + 1)) refl none in
          absurd (omega (arith, after, inside, all))

  pub stretch_to_next : (first last n : ℕ) → slice_get starts (number + 1) ≡ Some n → first ≡ (slice_index starts number - code_start) / 4 → last ≡ (n - code_start) / 4 →
      IsStretch parts starts owners number first last
  stretch_to_next first last n e a z =
      subst (λ x. IsStretch parts starts owners number x last) (sym a) (subst (λ x. IsStretch parts starts owners number ((slice_index starts number - code_start) / 4) x) (sym z) (up_to_next n e))

  pub stretch_to_end : (first last : ℕ) → slice_get starts (number + 1) ≡ None → first ≡ (slice_index starts number - code_start) / 4 → last ≡ length parts.words →
      IsStretch parts starts owners number first last
  stretch_to_end first last e a z = subst (λ x. IsStretch parts starts owners number x last) (sym a) (up_to_end last e z)

  pub start_low : code_start ≤ slice_index starts number
  start_low = let here = start_word.2 in omega (arith, here)

  pub next_low : (n : ℕ) → slice_get starts (number + 1) ≡ Some n → code_start ≤ n
  next_low n e =
      let within = slice_get_within starts (number + 1) n e in
      let is = got_index starts (number + 1) n e in
      let up = are.ascending number (number + 1) (omega arith) within in
      let low = start_low in
      omega (arith, is, up, low)

  -- few functions
  pub few_functions : slice_index owners number < 65536
  few_functions = let owned = (are.owned number less).function in let few = (functions_within parts kept).1 in omega (arith, owned, few)

-- ---- the word behind one

pub slot_there : (parts : Parts) (words : List ℕ) (k : ℕ) (op : Operation) → words ≡ parts.words → parts_keep parts ≡ Ok tt → k < length parts.words →
    ((word : ℕ) → slice_get words (k + 1) ≡ Some word → asked word ≡ op) → HasSlot parts (word_address k) op
slot_there parts words k op same kept less is word e =
    let small = (in_order parts kept).small in
    let w = word_by parts.words (following (word_address k)) word e in
    let at = w.at in
    let low = w.less in
    let number : w.number ≡ k + 1 = omega (arith, at, small, less) in
    is word (ap (λ l. slice_get l (k + 1)) same ∙ ap (slice_get parts.words) (sym number) ∙ got_word parts.words w.number w.less ∙ ap Some w.is)

pub asks_there : (parts : Parts) (words : List ℕ) (k : ℕ) (op : Operation) → words ≡ parts.words → k < length parts.words → op ≡ asked (slice_index words k) → AsksFor parts (word_address k) op
asks_there parts words k op same less is =
    (slice_index parts.words k, word_there parts.words k less, ap (λ l. asked (slice_index l k)) (sym same) ∙ sym is)

pub next_word : (parts : Parts) (k : ℕ) → parts_keep parts ≡ Ok tt → k < length parts.words → following (word_address k) ≡ word_address (k + 1)
next_word parts k kept less = let small = (in_order parts kept).small in omega (arith, small, less)
