-- The block that holds an address is the last one that begins there or below.
use Rattle.std.proofs.Common.{◌≡◌, ℕ, suc, ◌+◌, ◌-◌, ◌*◌, ◌/◌, ◌%◌, ◌<◌, ◌≤◌, true, false, List, length, Ok, refl, sym, ap, ◌∙◌, subst, inl, inr, arith}
use Rattle.std.specs.Prelude.{◌⊎◌, nat_le, slice_index_or}
use Rattle.std.specs.List.Sorted.{IsPartitionPoint}
use Rattle.std.proofs.lemmas.Bool.{cases_lt}
use Rattle.std.proofs.lemmas.Bool.Decides.{nat_tests}
use Rattle.std.proofs.lemmas.Option.{slice_get-get_or}
use Rattle.sbx_image.specs.Block.{Block}
use Rattle.sbx_image.specs.Parts.{Parts}
use Rattle.sbx_image.specs.Rules.{parts_keep}
use Rattle.sbx_image.proofs.Ordered.{in_order}
use Rattle.sbx_image.specs.Order.{address_of, block_at, function_at, no_block, or_block, words_in}
use Rattle.sbx_rules.specs.Places.{IsPlace}
use Rattle.inspect_known.specs.Places.{HasNone, IsAt}

pub point_of : (xs : List Block) (a k : ℕ) → IsPartitionPoint (λ y. nat_le y.address a ≡ true) (λ y. nat_le y.address a ≡ false) xs k → IsPartitionPoint (λ b. b.address ≤ a) (λ b. a < b.address) xs k
point_of xs a k p = (λ j d low high. (let h = p.0 j d low high in grind (arith, nat_tests, h)), λ j d low high. (let h = p.1 j d low high in grind (arith, nat_tests, h)))

at_word : (parts : Parts) (f b i : ℕ) → address_of parts f b i ≡ (block_at parts f b).address + 4 * i
unfolding address_of
at_word parts f b i = refl

module _ (parts : Parts) (keeps : parts_keep parts ≡ Ok tt) (f : ℕ) (is_function : f < length parts.functions) where
  later : (b c i : ℕ) → b < c → IsPlace parts f b i → c < length (function_at parts f).blocks → address_of parts f b i < (block_at parts f c).address
  later b c i less place there =
      let o = (in_order parts keeps).ascending f b c less (is_function, there) in
      let e = ((in_order parts keeps).blocks f b (is_function, place.block)).ends in
      let p = at_word parts f b i in
      let q = at_word parts f b (words_in parts f b) in
      let y = at_word parts f c 0 in
      let within = place.word in
      omega arith

  module _ (address k : ℕ) (few : k ≤ length (function_at parts f).blocks)
      (point : IsPartitionPoint (λ (b : Block). b.address ≤ address) (λ b. address < b.address) (function_at parts f).blocks k) where
    begins : (j : ℕ) → j < length (function_at parts f).blocks → (block_at parts f j).address ≡ (slice_index_or (function_at parts f).blocks j no_block).address
    begins j less = ap (λ o. (or_block o).address) (slice_get-get_or (function_at parts f).blocks j no_block less)

    pub low : (j : ℕ) → j < k → (block_at parts f j).address ≤ address
    low j less = let h = point.0 j no_block (omega arith) less in let e = begins j (omega arith) in omega arith

    high : (j : ℕ) → k ≤ j → j < length (function_at parts f).blocks → address < (block_at parts f j).address
    high j from less = let h = point.1 j no_block from less in let e = begins j less in omega arith

    pub last : (b i : ℕ) → IsAt parts f address b i → k ≡ suc b
    last b i at = by_order (cases_lt b k) (cases_lt (suc b) k)
      where
        by_order : (b < k) ⊎ (k ≤ b) → (suc b < k) ⊎ (k ≤ suc b) → k ≡ suc b
        by_order (inr from) _ =
            let h = high b from at.place.block in
            let p = at_word parts f b i in
            let l = at.lies in
            absurd (omega arith)
        by_order (inl less) (inl more) =
            let n = low (k - 1) (omega arith) in
            let h = later b (k - 1) i (omega arith) at.place (omega arith) in
            let l = at.lies in
            absurd (omega arith)
        by_order (inl less) (inr most) = omega arith

    -- none begins there or below
    pub none_begun : k ≡ 0 → HasNone parts f address
    none_begun is b i at = let e = last b i at in omega arith

    pub found : (b i : ℕ) → k ≡ suc b → i < words_in parts f b → address ≡ (block_at parts f b).address + 4 * i → IsAt parts f address b i
    found b i is less lies = record {
      place = record { function = is_function; block = omega arith; word = less };
      lies = lies ∙ sym (at_word parts f b i);
    }

    -- what lies there would be a word of that block
    pub none_found : (b a : ℕ) → k ≡ suc b → a ≡ (block_at parts f b).address → ((address - a) % 4 ≡ 0 → (address - a) / 4 < words_in parts f b → ⊥) → HasNone parts f address
    none_found b a is same no_word c i at =
        let e = last c i at in
        let d : c ≡ b = omega arith in
        let less = subst (λ n. i < words_in parts f n) d at.place.word in
        let lies = subst (λ n. address ≡ address_of parts f n i) d at.lies in
        let p = at_word parts f b i in
        let bytes : address - a ≡ 4 * i = omega arith in
        no_word (let r : (address - a) % 4 ≡ 0 = omega arith in r) (let q : (address - a) / 4 ≡ i = omega arith in subst (λ n. n < words_in parts f b) (sym q) less)
