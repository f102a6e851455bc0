-- What the order of functions and blocks gives: where words lie, and that numbers and addresses rise together.
use Rattle.std.proofs.Common.{◌≡◌, ℕ, ◌+◌, ◌-◌, ◌*◌, ◌/◌, ◌<◌, ◌≤◌, length, Ok, refl, sym, ap, ◌∙◌, subst, arith}
use Rattle.std.specs.Prelude.{slice_index_or}
use Rattle.std.proofs.lemmas.Option.{slice_get-get_or}
use Rattle.sbx_image.specs.Block.{Block}
use Rattle.sbx_image.specs.Function.{Function}
use Rattle.sbx_image.specs.Parts.{Parts}
use Rattle.sbx_image.specs.Rules.{code_start, parts_keep}
use Rattle.sbx_image.proofs.Ordered.{in_order}
use Rattle.sbx_image.specs.Order.{AreInOrder, address_of, block_at, block_end, function_at, or_block, or_function, words_in}
use Rattle.sbx_rules.specs.Places.{IsPlace}
use Rattle.sbx_known.specs.Sorted.{Ascend}

-- a word of the code
pub record IsCodeWord (parts : Parts) (address : ℕ) : Type 0 where
  pub number : ℕ
  pub within : number < length parts.words
  pub lies : address ≡ code_start + 4 * number

module _ (parts : Parts) (keeps : parts_keep parts ≡ Ok tt) where
  order : AreInOrder parts
  order = in_order parts keeps

  pub code_word : (f b i : ℕ) → IsPlace parts f b i → IsCodeWord parts (address_of parts f b i)
  code_word f b i place =
      let w = (order.blocks f b (place.function, place.block)).each i place.word in
      record { number = w.0; within = w.1; lies = w.2 }

  -- the code lies below the data
  pub lies_low : (f b i : ℕ) → IsPlace parts f b i → (code_start ≤ address_of parts f b i) × (address_of parts f b i + 4 ≤ 0x80000)
  lies_low f b i place =
      let w = code_word f b i place in
      let small = order.small in
      let lies = w.lies in
      let within = w.within in
      (omega arith, omega arith)

  block_begins : (f b : ℕ) → (block_at parts f b).address ≡ address_of parts f b 0
  unfolding address_of
  block_begins f b = omega arith

  four_on : (f b n : ℕ) → 1 ≤ n → address_of parts f b 0 + 4 ≤ address_of parts f b n
  unfolding address_of
  four_on f b n some = omega arith

  -- a block is four bytes long or more
  is_long : (f b : ℕ) → f < length parts.functions → b < length (function_at parts f).blocks → address_of parts f b 0 + 4 ≤ block_end parts f b
  is_long f b is_function is_block =
      let has = order.blocks f b (is_function, is_block) in
      subst (λ n. address_of parts f b 0 + 4 ≤ n) has.ends (four_on f b (words_in parts f b) has.some)

  pub blocks_ascend : (f : ℕ) → f < length parts.functions → Ascend (λ (b : Block). b.address) (function_at parts f).blocks
  blocks_ascend f is_function i j d less within =
      let blocks = (function_at parts f).blocks in
      let long = is_long f i is_function (omega arith) in
      let next = order.ascending f i j less (is_function, within) in
      let first : (block_at parts f i).address ≡ (slice_index_or blocks i d).address = ap (λ o. (or_block o).address) (slice_get-get_or blocks i d (omega arith)) in
      let second : (block_at parts f j).address ≡ (slice_index_or blocks j d).address = ap (λ o. (or_block o).address) (slice_get-get_or blocks j d within) in
      let from = block_begins f i in
      let to = block_begins f j in
      omega arith

  pub functions_ascend : Ascend (λ (f : Function). f.entry) parts.functions
  functions_ascend i j d less within =
      let here = order.entries i (omega arith) in
      let there = order.entries j within in
      let long = is_long i 0 (omega arith) here.0.1 in
      let next = order.functions i j 0 0 less here.0 there.0 in
      let first : (function_at parts i).entry ≡ (slice_index_or parts.functions i d).entry = ap (λ o. (or_function o).entry) (slice_get-get_or parts.functions i d (omega arith)) in
      let second : (function_at parts j).entry ≡ (slice_index_or parts.functions j d).entry = ap (λ o. (or_function o).entry) (slice_get-get_or parts.functions j d within) in
      let from = here.1 in
      let to = there.1 in
      omega arith

  -- where a word lies, from where its block begins
  pub fits_low : (f b i a : ℕ) → IsPlace parts f b i → a ≡ (block_at parts f b).address → a + 4 * i < 0x80000
  unfolding address_of
  fits_low f b i a place is = let low = (lies_low f b i place).1 in omega (arith, is, low)

  pub in_code : (f b i a : ℕ) → IsPlace parts f b i → a ≡ address_of parts f b i → (a - code_start) / 4 < length parts.words
  in_code f b i a place is =
      let w = code_word f b i place in
      let lies = w.lies in
      let within = w.within in
      omega (arith, is)

  -- each function has a first block
  pub first_block : (f : ℕ) → f < length parts.functions → 0 < length (function_at parts f).blocks
  first_block f is_function = (order.entries f is_function).0.1
