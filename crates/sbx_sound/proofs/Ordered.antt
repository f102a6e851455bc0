-- What the order of functions and blocks gives at a word: the code's word, and the word after it.
use Rattle.std.proofs.Common.{◌≡◌, ℕ, suc, ◌+◌, ◌-◌, ◌*◌, ◌/◌, ◌%◌, ◌^◌, ◌<◌, Bool, true, false, List, length, Some, refl, sym, ap, ◌∙◌, arith}
use Rattle.std.specs.Prelude.{nat_lt, if◌then◌else◌, slice_get, slice_index}
use Rattle.std.proofs.lemmas.Bool.Decides.{nat_tests}
use Rattle.std.proofs.lemmas.Option.{slice_get-get_or}
use Rattle.v8_meaning.specs.Operands.{following}
use Rattle.sbx_image.specs.Rules.{code_start}
use Rattle.sbx_image.specs.Block.{Block}
use Rattle.sbx_image.specs.Parts.{Parts}
use Rattle.sbx_flat.specs.Turns.{word_at}
use Rattle.sbx_flat.proofs.Turns.{word_at_place}
use Rattle.sbx_image.specs.Order.{address_of, address_or_end, block_at, function_at, function_end, no_block, or_block, words_in}
use Rattle.sbx_rules.specs.Places.{IsPlace, ends_run, op_at, word_of_place}
use Rattle.sbx_rules.specs.Ways.{Next, Past, To, falls, falls_to}
use Rattle.sbx_image.specs.Order.{HasWords}
use Rattle.sbx_sound.proofs.Order.{IsOrdered}
use Rattle.sbx_sound.proofs.Running.{Follows}
use Rattle.sbx_sound.proofs.Tests.{less_of}

same_quarter : (a k : ℕ) → a ≡ code_start + 4 * k → (a - code_start) / 4 ≡ k
same_quarter a k e = omega (arith, e)

first_word : (parts : Parts) (f b : ℕ) → (block_at parts f b).address ≡ address_of parts f b 0
unfolding address_of
first_word parts f b = omega arith

last_one : (n i : ℕ) → i < n → nat_lt (i + 1) n ≡ false → suc i ≡ n
last_one n i less e = grind (arith, nat_tests)

module _ (parts : Parts) (ordered : IsOrdered parts) (f b i : ℕ) (place : IsPlace parts f b i) where
  has_words : HasWords parts f b
  has_words = ordered.blocks f b place.function place.block

  -- a word of a block is a word of the code
  pub code_word : word_at parts.words (address_of parts f b i) ≡ Some (word_of_place parts f b i)
  unfolding word_of_place
  code_word =
      let w = has_words.each i place.word in
      ap (word_at parts.words) w.2 ∙ word_at_place parts.words w.0 w.1 ∙ ap (λ k. Some (slice_index parts.words k)) (sym (same_quarter (address_of parts f b i) w.0 w.2))

  -- the code lies low
  pub lies_low : address_of parts f b i < 2 ^ 32 - 8
  lies_low =
      let w = has_words.each i place.word in
      let at = w.2 in let within = w.1 in let small = ordered.small in
      omega (arith, at, within, small)

  pub lies_at_four : address_of parts f b i % 4 ≡ 0
  lies_at_four = let at = (has_words.each i place.word).2 in omega (arith, at)

  pub next_address : following (address_of parts f b i) ≡ address_of parts f b (suc i)
  unfolding address_of
  next_address = let low = lies_low in omega (arith, low)

  next_block : (blocks : List Block) (n e : ℕ) → n < length blocks → address_or_end e (slice_get blocks n) ≡ (or_block (slice_get blocks n)).address
  next_block blocks n e within =
      let there = slice_get-get_or blocks n no_block within in
      ap (address_or_end e) there ∙ sym (ap (λ o. (or_block o).address) there)

  -- where a block ends, the next one of its function begins
  last_address : suc i ≡ words_in parts f b → b + 1 < length (function_at parts f).blocks → address_of parts f b (suc i) ≡ address_of parts f (b + 1) 0
  last_address last more =
      ap (address_of parts f b) last ∙ has_words.ends ∙ next_block (function_at parts f).blocks (b + 1) (function_end parts f) more ∙ first_word parts f (b + 1)

  -- a word's way on leads to the address after it
  pub follows : Follows parts f b i (falls parts f b i) (following (address_of parts f b i))
  unfolding falls
  follows = by_end (ends_run (op_at parts f b i))
    where
      by_blocks : (t : Bool) → nat_lt (b + 1) (length (function_at parts f).blocks) ≡ t → nat_lt (i + 1) (words_in parts f b) ≡ false
          → Follows parts f b i (if t then To (b + 1) else Past) (following (address_of parts f b i))
      by_blocks true more e = next_address ∙ last_address (last_one (words_in parts f b) i place.word e) (less_of (b + 1) (length (function_at parts f).blocks) more)
      by_blocks false more e = tt

      by_words : (t : Bool) → nat_lt (i + 1) (words_in parts f b) ≡ t
          → Follows parts f b i (if t then Next else (if nat_lt (b + 1) (length (function_at parts f).blocks) then To (b + 1) else Past)) (following (address_of parts f b i))
      by_words true e = next_address
      by_words false e = by_blocks (nat_lt (b + 1) (length (function_at parts f).blocks)) refl e

      by_end : (t : Bool) → Follows parts f b i (falls_to t (words_in parts f b) (length (function_at parts f).blocks) b i) (following (address_of parts f b i))
      by_end true = tt
      by_end false = by_words (nat_lt (i + 1) (words_in parts f b)) refl
