-- Where the words of a block stand, and whether a block of the program begins at one.
use Rattle.std.proofs.Common.{◌≡◌, ◌≢◌, ℕ, zero, suc, ◌+◌, ◌-◌, ◌/◌, ◌%◌, ◌<◌, ◌≤◌, ◌⊎◌, inl, inr, Bool, true, false}
use Rattle.std.proofs.Common.{List, [], ◌∷◌, length, Option, Some, None, Ok, slice_index, refl, sym, ap, ◌∙◌, subst, arith}
use Rattle.std.specs.Prelude.{◌==◌, ◌&&◌, ◌||◌, nat_le, slice_get, if◌then◌else◌}
use Rattle.std.proofs.lemmas.Bool.Decides.{nat_tests}
use Rattle.std.proofs.lemmas.Option.{slice_get_within}
use Rattle.v8_meaning.specs.declared.operation.Operation.{Operation}
use Rattle.v8_meaning.specs.declared.operation.Operation.TheVariants.{Call}
use Rattle.sbx_parts.specs.declared.parts.Function.{Function}
use Rattle.sbx_image.specs.Order.{AreInOrder, IsBlock, StandsAt, address_of, block_at, block_end}
use Rattle.sbx_image.specs.Order.{code_end, entry_or_end, function_at, function_end, or_function, words_in}
use Rattle.sbx_image.specs.Parts.{Parts}
use Rattle.sbx_image.specs.Rules.{code_start, parts_keep}
use Rattle.sbx_parts.proofs.Ordered.{have_places}
use Rattle.sbx_flat.specs.Turns.{asked, word_at}
use Rattle.native_ends.specs.Translations.{Begins, LiesIn}
use Rattle.native_flow.specs.Labelling.{IsRow, begins_at, is_call, word_address}

-- ---- words

pub there_is : {A : Type 0} (l : List A) (k : ℕ) → k < length l → (x : A) × (slice_get l k ≡ Some x)
there_is [] k less = absurd (omega arith)
there_is (x ∷ l) zero less = (x, refl)
there_is (x ∷ l) (suc k) less = there_is l k (omega arith)

pub got_word : (words : List ℕ) (k : ℕ) → k < length words → slice_get words k ≡ Some (slice_index words k)
got_word [] k less = absurd (omega arith)
got_word (x ∷ words) zero less = refl
got_word (x ∷ words) (suc k) less = got_word words k (omega arith)

pub word_there : (words : List ℕ) (k : ℕ) → k < length words → word_at words (word_address k) ≡ Some (slice_index words k)
unfolding word_at
word_there words k less =
    let test : (nat_le code_start (word_address k) && (word_address k % 4 == 0)) ≡ true = grind (arith, nat_tests) in
    let place : (word_address k - code_start) / 4 ≡ k = omega arith in
    ap (λ (b : Bool). if b then slice_get words ((word_address k - code_start) / 4) else None) test ∙ ap (slice_get words) place ∙ got_word words k less

-- The word that is at an address.
pub record IsWord (words : List ℕ) (a word : ℕ) : Type 0 where
  pub number : ℕ
  pub less : number < length words
  pub at : a ≡ word_address number
  pub is : slice_index words number ≡ word

pub word_by : (words : List ℕ) (a word : ℕ) → word_at words a ≡ Some word → IsWord words a word
unfolding word_at
word_by words a word e = by (nat_le code_start a) (a % 4 == 0) refl refl e
  where
    by : (x y : Bool) → nat_le code_start a ≡ x → (a % 4 == 0) ≡ y → (if x && y then slice_get words ((a - code_start) / 4) else None) ≡ Some word → IsWord words a word
    by true true low whole f =
        let from : code_start ≤ a = grind (arith, nat_tests) in
        let four : a % 4 ≡ 0 = grind (arith, nat_tests) in
        let less = slice_get_within words ((a - code_start) / 4) word f in
        let got = got_word words ((a - code_start) / 4) less in
        record { number = (a - code_start) / 4; less = less; at = omega (arith, from, four); is = cc }
    by true false low whole f = absurd cc
    by false y low whole f = absurd cc

-- ---- rows

module _ (parts : Parts) (order : AreInOrder parts) where
  pub row_of : (f b : ℕ) → IsBlock parts f b → IsRow parts f b (((block_at parts f b).address - code_start) / 4) ((block_end parts f b - code_start) / 4)
  unfolding address_of
  row_of f b is =
      let h = order.blocks f b is in
      let some = h.some in
      let ends = h.ends in
      let first = h.each 0 (omega (arith, some)) in
      let last = h.each (words_in parts f b - 1) (omega (arith, some)) in
      let x = first.2 in
      let y = last.2 in
      let z = last.1 in
      record { begins = omega (arith, x); ends = omega (arith, x, y, ends, some); more = omega (arith, x, ends, some); within = omega (arith, x, y, z, ends, some) }

  pub stands : (f b first last k : ℕ) → IsBlock parts f b → IsRow parts f b first last → first ≤ k → k < last → StandsAt parts (word_address k) f b (k - first)
  unfolding address_of words_in
  stands f b first last k is row from to =
      let begins = row.begins in
      let ends = row.ends in
      record { block = is; word = omega (arith, begins, ends, from, to); there = omega (arith, begins, from) }

  pub a_word : (a f b i : ℕ) → StandsAt parts a f b i → (k : ℕ) × (k < length parts.words) × (a ≡ word_address k)
  a_word a f b i at =
      let h = (order.blocks f b at.block).each i at.word in
      (h.0, h.1, sym at.there ∙ h.2)

  first_stands : (f b : ℕ) → IsBlock parts f b → StandsAt parts (address_of parts f b 0) f b 0
  first_stands f b is = let some = (order.blocks f b is).some in record { block = is; word = omega (arith, some); there = refl }

  -- a block of the program begins at a word of the code
  pub begins_word : (a : ℕ) → Begins parts a → (k : ℕ) × (k < length parts.words) × (a ≡ word_address k)
  begins_word a (inl first) = a_word a first.function first.block 0 (subst (λ x. StandsAt parts x first.function first.block 0) first.there (first_stands first.function first.block first.is))
  begins_word a (inr call) = a_word a call.function call.block (call.word + 2) call.there

  -- ---- where a block of the program begins

  module _ (kept : parts_keep parts ≡ Ok tt) (f b first last k : ℕ) (is : IsBlock parts f b) (row : IsRow parts f b first last) (from : first ≤ k) (to : k < last) where
    here : StandsAt parts (word_address k) f b (k - first)
    here = stands f b first last k is row from to

    below : k < length parts.words
    below = let w = row.within in omega (arith, to, w)

    called : (op : Operation) → is_call op ≡ true → (d : ℕ) × (op ≡ Call d)
    called (Call d) e = (d, refl)
    called _ e = absurd cc

    begun_by : (x y z : Bool) → (k == first) ≡ x → nat_le (first + 2) k ≡ y → is_call (asked (slice_index parts.words (k - 2))) ≡ z → (x || (y && z)) ≡ true → Begins parts (word_address k)
    unfolding address_of
    begun_by true y z e g h t =
        let same : k ≡ first = grind (arith, nat_tests) in
        let begins = row.begins in
        inl (record { function = f; block = b; is = is; there = omega (arith, same, begins) })
    begun_by false true true e g h t =
        let more : first + 2 ≤ k = grind (arith, nat_tests) in
        let begins = row.begins in
        let call = called (asked (slice_index parts.words (k - 2))) h in
        let at : word_address (k - 2) ≡ address_of parts f b (k - 2 - first) = omega (arith, begins, more) in
        let place : k - first ≡ k - 2 - first + 2 = omega (arith, more) in
        inr (record {
          function = f;
          block = b;
          word = k - 2 - first;
          displacement = call.0;
          calls = (slice_index parts.words (k - 2), ap (word_at parts.words) (sym at) ∙ word_there parts.words (k - 2) (let l = below in omega (arith, l)), call.1);
          there = subst (λ i. StandsAt parts (word_address k) f b i) place here;
        })
    begun_by false true false e g h t = absurd cc
    begun_by false false z e g h t = absurd cc

    pub begun : begins_at parts.words first k ≡ true → Begins parts (word_address k)
    begun t = begun_by (k == first) (nat_le (first + 2) k) (is_call (asked (slice_index parts.words (k - 2)))) refl refl refl t

    -- whatever stands there is this word
    only : (g c i : ℕ) → StandsAt parts (word_address k) g c i → (g ≡ f) × (c ≡ b) × (i ≡ k - first)
    only g c i at =
        let place = have_places parts kept k below in
        let one = place.only g c i at in
        let other = place.only f b (k - first) here in
        (one.0 ∙ sym other.0, one.1 ∙ sym other.1, one.2 ∙ sym other.2)

    first_by : (x : Bool) → (k == first) ≡ x → (x || (nat_le (first + 2) k && is_call (asked (slice_index parts.words (k - 2))))) ≡ false → k ≢ first
    first_by true e t = absurd cc
    first_by false e t = grind (arith, nat_tests)

    call_by : (x y z : Bool) → nat_le (first + 2) k ≡ y → is_call (asked (slice_index parts.words (k - 2))) ≡ z → (x || (y && z)) ≡ false →
        first + 2 ≤ k → (d : ℕ) → asked (slice_index parts.words (k - 2)) ≡ Call d → ⊥
    call_by true y z g h t more d is = absurd cc
    call_by false true true g h t more d is = absurd cc
    call_by false true false g h t more d is = let yes : is_call (asked (slice_index parts.words (k - 2))) ≡ true = ap is_call is in absurd cc
    call_by false false z g h t more d is = absurd (grind (arith, nat_tests))

    pub not_begun : begins_at parts.words first k ≡ false → Begins parts (word_address k) → ⊥
    unfolding address_of
    not_begun t (inl x) =
        let o = only x.function x.block 0 (subst (λ a. StandsAt parts a x.function x.block 0) x.there (first_stands x.function x.block x.is)) in
        let zeroth = o.2 in
        first_by (k == first) refl t (omega (arith, zeroth, from))
    not_begun t (inr x) =
        let o = only x.function x.block (x.word + 2) x.there in
        let second = o.2 in
        let begins = row.begins in
        let same : address_of parts x.function x.block x.word ≡ word_address (k - 2) =
        ap (λ g. address_of parts g x.block x.word) o.0 ∙ ap (λ c. address_of parts f c x.word) o.1 ∙ omega (arith, second, begins, from) in
        let there : word_at parts.words (word_address (k - 2)) ≡ Some x.calls.0 = ap (word_at parts.words) (sym same) ∙ x.calls.1 in
        let is_word : slice_index parts.words (k - 2) ≡ x.calls.0 = same_word (word_there parts.words (k - 2) (let l = below in omega (arith, l))) there in
        call_by (k == first) (nat_le (first + 2) k) (is_call (asked (slice_index parts.words (k - 2)))) refl refl t (omega (arith, second, from)) x.displacement
        (ap asked is_word ∙ x.calls.2)
      where
        same_word : {o : Option ℕ} {v w : ℕ} → o ≡ Some v → o ≡ Some w → v ≡ w
        same_word e g = cc

    -- ---- the function that it lies in

    entry_below : (function_at parts f).entry ≤ word_address k
    unfolding address_of
    entry_below =
        let e = (order.entries f is.0).1 in
        let begins = row.begins in
        by (search arith) e begins
      where
        by : (b ≡ 0) ⊎ (0 < b) → (function_at parts f).entry ≡ address_of parts f 0 0 → (block_at parts f b).address ≡ word_address first → (function_at parts f).entry ≤ word_address k
        by (inl none) e begins = let same : (block_at parts f b).address ≡ (block_at parts f 0).address = ap (λ c. (block_at parts f c).address) none in omega (arith, e, begins, same, from)
        by (inr some) e begins =
            let up = order.ascending f 0 b some is in
            let zeroth = row_of f 0 (order.entries f is.0).0 in
            let x = zeroth.begins in
            let y = zeroth.ends in
            let z = zeroth.more in
            omega (arith, e, begins, up, x, y, z, from)

    end_above : word_address k < function_end parts f
    unfolding address_of
    end_above = by (slice_get parts.functions (f + 1)) refl
      where
        by : (o : Option Function) → slice_get parts.functions (f + 1) ≡ o → word_address k < entry_or_end (code_end parts) o
        by None e = let l = below in omega (arith, l)
        by (Some g) e =
            let less : f + 1 < length parts.functions = slice_get_within parts.functions (f + 1) g e in
            let next = order.entries (f + 1) less in
            let up = order.functions f (f + 1) b 0 (omega arith) is next.0 in
            let entry = next.1 in
            let same : (function_at parts (f + 1)).entry ≡ g.entry = ap (λ o. (or_function o).entry) e in
            let ends = row.ends in
            omega (arith, up, entry, same, ends, to)

    pub lies : LiesIn parts f (word_address k)
    lies = record { function = is.0; from = entry_below; to = end_above }
