-- Bytes of the data: what a load finds there, and what a store leaves, for each size.
use Rattle.std.proofs.Common.{◌≡◌, ℕ, zero, suc, ◌+◌, ◌-◌, ◌*◌, ◌/◌, ◌%◌, ◌^◌, ◌<◌, ◌≤◌, ◌⊎◌, inl, inr, Bool, true, false, List, [], ◌∷◌, length, get_or, take}
use Rattle.std.proofs.Common.{drop, Option, Some, None, refl, sym, ap, ◌∙◌, subst, arith}
use Rattle.std.specs.Prelude.{slice_index, ◌&&◌, nat_le, nat_lt, if◌then◌else◌}
use Rattle.std.specs.Int.{w16, w32, from_be_bytes, to_be_bytes}
use Rattle.std.proofs.lemmas.Bool.Decides.{nat_tests}
use Rattle.std.proofs.lemmas.List.{get_or-take, get_or-drop}
use Rattle.v8_loaded.specs.Areas.{area_of}
use Rattle.v8_map.specs.declared.TheConstants.{CODE_TABLE, DATA_START, DATA_END, DATA_PLACE, STACK_PLACE, RAM}
use Rattle.v8_core.specs.Size.{Size}
use Rattle.v8_core.specs.Size.TheVariants.{Byte, Half, Word, Double}
use Rattle.v8_core.specs.Transfers.{bytes_in}
use Rattle.v8_core.specs.Meaning.{limit_of}
use Rattle.v8_core.specs.Ram.{with_double, entry_of, number_at as board_number, with_byte, with_half, with_entry, with_number as board_with}
use Rattle.v8_mmu.proofs.RamMore.{byte_among, byte_beside_entry}
use Rattle.v8_mmu.proofs.RamLemmas.{length-with_entry}
use Rattle.v8_mmu.proofs.RamNumbers.{byte_beside_byte, byte_beside_double, byte_beside_half, has_byte, has_double, length-with_double, has_half, length-with_byte, length-with_half}
use Rattle.v8_loaded.specs.Layout.{IsLoaded}
use Rattle.v8_layout.proofs.Marks.{loaded_by}
use Rattle.v8_loaded.proofs.Stack.{word_there}
use Rattle.v8_board.specs.Marks.{bit_of}
use Rattle.v8_board.specs.Start.{pages_of}
use Rattle.v8_board.proofs.Placed.{pages_few}
use Rattle.v8_board.proofs.Stays.{word_kept}
use Rattle.sbx_flat.specs.Parts.{Parts}
use Rattle.sbx_flat.specs.Regions.{page_rights}
use Rattle.sbx_flat.specs.Memory.{Bytes, byte_of, followed_by, number_at, with_number}
use Rattle.sbx_flat.specs.Registers.{Registers}
use Rattle.sbx_shows.specs.Marks.{OwnMarks}
use Rattle.sbx_flat.specs.Calls.{base}
use Rattle.sbx_flat.specs.WellFormed.{IsStacked}
use Rattle.sbx_shows.specs.Shows.{Fits, ShowsSaved, ShowsSlots, ShowsData, ShowsByte, HasStack, data_area}

-- ---- numbers of bytes

-- a number's bytes are all there
pub byte_there : (bytes : Bytes) (a count n : ℕ) → number_at bytes a count ≡ Some n → (k : ℕ) → k < count → (b : ℕ) × (bytes (a + k) ≡ Some b)
byte_there bytes a zero n is k less = absurd (omega arith)
byte_there bytes a (suc count) n is k less = by_parts (number_at bytes a count) (bytes (a + count)) refl refl is (λ m e small. byte_there bytes a count m e k small)
  where
    by_parts : (o p : Option ℕ) → number_at bytes a count ≡ o → bytes (a + count) ≡ p → followed_by o p ≡ Some n →
        ((m : ℕ) → number_at bytes a count ≡ Some m → k < count → (b : ℕ) × (bytes (a + k) ≡ Some b)) → (b : ℕ) × (bytes (a + k) ≡ Some b)
    by_parts None p e f g before = absurd (cc)
    by_parts (Some m) None e f g before = absurd (cc)
    by_parts (Some m) (Some b) e f g before =
        let split : (k < count) ⊎ (k ≡ count) = search arith in
        elim split [ inl early ↦ before m e early | inr last ↦ (b, ap (λ q. bytes (a + q)) last ∙ f) ]

two_bytes : (v k : ℕ) → k < 2 → slice_index (to_be_bytes w16 v) k ≡ byte_of 2 v k
two_bytes v zero less = omega arith
two_bytes v (suc zero) less = omega arith
two_bytes v (suc (suc k)) less = absurd (omega arith)

four_bytes : (v k : ℕ) → k < 4 → slice_index (to_be_bytes w32 v) k ≡ byte_of 4 v k
four_bytes v zero less = omega arith
four_bytes v (suc zero) less = omega arith
four_bytes v (suc (suc zero)) less = omega arith
four_bytes v (suc (suc (suc zero))) less = omega arith
four_bytes v (suc (suc (suc (suc k)))) less = absurd (omega arith)

word_byte : (ram : List ℕ) (p w k : ℕ) → p + 4 ≤ length ram → k < 4 → slice_index (with_entry ram p w) (p + k) ≡ byte_of 4 w k
unfolding with_entry
word_byte ram p w k fits less =
    let place : p + k - p ≡ k = omega arith in
    byte_among ram (to_be_bytes w32 w) p 4 (p + k) refl fits (omega arith) (omega arith) ∙ ap (slice_index (to_be_bytes w32 w)) place ∙ four_bytes w k less

-- the bytes of a double word are those of its two words
high_byte : (v k : ℕ) → k < 4 → byte_of 4 (v / 2 ^ 32) k ≡ byte_of 8 v k
high_byte v zero less = omega arith
high_byte v (suc zero) less = omega arith
high_byte v (suc (suc zero)) less = omega arith
high_byte v (suc (suc (suc zero))) less = omega arith
high_byte v (suc (suc (suc (suc k)))) less = absurd (omega arith)

low_byte : (v k : ℕ) → k < 4 → byte_of 4 (v % 2 ^ 32) k ≡ byte_of 8 v (4 + k)
low_byte v zero less = omega arith
low_byte v (suc zero) less = omega arith
low_byte v (suc (suc zero)) less = omega arith
low_byte v (suc (suc (suc zero))) less = omega arith
low_byte v (suc (suc (suc (suc k)))) less = absurd (omega arith)

double_byte : (ram : List ℕ) (p v k : ℕ) → p + 8 ≤ length ram → k < 8 → slice_index (with_double ram p v) (p + k) ≡ byte_of 8 v k
unfolding with_double
double_byte ram p v k fits less =
    let mid = with_entry ram p (v / 2 ^ 32) in
    let long : length mid ≡ length ram = length-with_entry ram p (v / 2 ^ 32) (omega arith) in
    let split : (k < 4) ⊎ (4 ≤ k) = search arith in
    elim split [
      | inl first ↦ byte_beside_entry mid (p + 4) (v % 2 ^ 32) (p + k) (omega arith) (inl (omega arith)) ∙ word_byte ram p (v / 2 ^ 32) k (omega arith) first ∙ high_byte v k first
      | inr second ↦
          let place : p + k ≡ p + 4 + (k - 4) = omega arith in
          let back : 4 + (k - 4) ≡ k = omega arith in
          ap (slice_index (with_entry mid (p + 4) (v % 2 ^ 32))) place ∙ word_byte mid (p + 4) (v % 2 ^ 32) (k - 4) (omega arith) (omega arith)
          ∙ low_byte v (k - 4) (omega arith) ∙ ap (byte_of 8 v) back
    ]

-- a byte of a number that was stored
pub stored_byte : (ram : List ℕ) (p v k : ℕ) (size : Size) → (size ≡ Byte → v < 2 ^ 8) → p + bytes_in size ≤ length ram → k < bytes_in size →
    slice_index (board_with ram p size v) (p + k) ≡ byte_of (bytes_in size) v k
unfolding with_byte with_half
stored_byte ram p v k Byte small fits less =
    let low : v < 2 ^ 8 = small refl in
    let none : k ≡ 0 = omega arith in
    let place : p + k - p ≡ 0 = omega arith in
    let is : byte_of 1 v 0 ≡ v = omega arith in
    byte_among ram (v ∷ []) p 1 (p + k) refl fits (omega arith) (omega arith) ∙ ap (slice_index (v ∷ [])) place ∙ sym is ∙ ap (byte_of 1 v) (sym none)
stored_byte ram p v k Half small fits less =
    let place : p + k - p ≡ k = omega arith in
    byte_among ram (to_be_bytes w16 v) p 2 (p + k) refl fits (omega arith) (omega arith) ∙ ap (slice_index (to_be_bytes w16 v)) place ∙ two_bytes v k less
stored_byte ram p v k Word small fits less = word_byte ram p v k fits less
stored_byte ram p v k Double small fits less = double_byte ram p v k fits less

pub other_byte : (ram : List ℕ) (p v j : ℕ) (size : Size) → p + bytes_in size ≤ length ram → (j < p) ⊎ (p + bytes_in size ≤ j) → slice_index (board_with ram p size v) j ≡ slice_index ram j
other_byte ram p v j Byte fits apart = byte_beside_byte ram p v j (omega arith) apart
other_byte ram p v j Half fits apart = byte_beside_half ram p v j fits apart
other_byte ram p v j Word fits apart = byte_beside_entry ram p v j fits apart
other_byte ram p v j Double fits apart = byte_beside_double ram p v j fits apart

pub same_length : (ram : List ℕ) (p v : ℕ) (size : Size) → p + bytes_in size ≤ length ram → length (board_with ram p size v) ≡ length ram
same_length ram p v Byte fits = length-with_byte ram p v (omega arith)
same_length ram p v Half fits = length-with_half ram p v fits
same_length ram p v Word fits = length-with_entry ram p v fits
same_length ram p v Double fits = length-with_double ram p v fits

pub some_bytes : (size : Size) → 1 ≤ bytes_in size
some_bytes Byte = omega arith
some_bytes Half = omega arith
some_bytes Word = omega arith
some_bytes Double = omega arith

-- ---- a store

module _ (n : ℕ) (parts : Parts) (memory : Bytes) (ram : List ℕ) (a v old : ℕ) (size : Size) (small : size ≡ Byte →
    v < 2 ^ 8) (fits : Fits parts) (h : ShowsData parts memory ram) (is : number_at memory a (bytes_in size) ≡ Some old) (length_is : length ram ≡ RAM) where
  abbrev count : ℕ
  count = bytes_in size

  abbrev at : ℕ
  at = data_area a

  abbrev new : List ℕ
  new = board_with ram at size v

  -- the bytes are in the data's pages
  pub inside : (k : ℕ) → k < count → (DATA_START ≤ a + k) × (a + k < DATA_START + 4096 * length (page_rights parts.regions))
  inside k less =
      let b = byte_there memory a count old is k less in
      let o = h (a + k) b.0 b.1 in
      (o.low, o.high)

  pub low : DATA_START ≤ a
  low = let first = (inside 0 (some_bytes size)).0 in omega arith

  pub high : a + count ≤ DATA_END
  high =
      let some = some_bytes size in
      let most = fits.pages in
      let last = (inside (count - 1) (omega arith)).1 in
      omega arith

  room : at + count ≤ length ram
  room = let from = low in let to = high in omega arith

  pub beside : (j : ℕ) → (j < at) ⊎ (at + count ≤ j) → slice_index new j ≡ slice_index ram j
  beside j apart = other_byte ram at v j size room apart

  pub size_kept : length new ≡ length ram
  size_kept = same_length ram at v size room

  -- words below the data and above it
  pub words_below : (p : ℕ) → p + 4 ≤ DATA_PLACE → entry_of new p ≡ entry_of ram p
  words_below p less = let from = low in word_kept ram new p size_kept (λ j x y. beside j (inl (omega arith)))

  pub words_above : (p : ℕ) → STACK_PLACE ≤ p → entry_of new p ≡ entry_of ram p
  words_above p more = let to = high in let from = low in word_kept ram new p size_kept (λ j x y. beside j (inr (omega arith)))

  pub data_stored : ShowsData parts (with_number memory a count v) new
  data_stored b c there = by_place (nat_le a b && nat_lt b (a + count)) refl there
    where
      by_place : (t : Bool) → (nat_le a b && nat_lt b (a + count)) ≡ t → (if t then Some (byte_of count v (b - a)) else memory b) ≡ Some c → ShowsByte parts new b c
      by_place true e f =
          let first : a ≤ b = grind (arith, nat_tests) in
          let last : b < a + count = grind (arith, nat_tests) in
          let value : byte_of count v (b - a) ≡ c = cc in
          let sum : a + (b - a) ≡ b = omega arith in
          let place = inside (b - a) (omega arith) in
          let from = low in
          let spot : at + (b - a) ≡ data_area b = omega arith in
          record {
            low = omega arith;
            high = omega arith;
            small = subst (λ q. q < 2 ^ 8) value (omega arith);
            there = ap (slice_index new) (sym spot) ∙ stored_byte ram at v (b - a) size small room (omega arith) ∙ value;
          }
      by_place false e f =
          let o = h b c f in
          let from = low in
          let low_b = o.low in
          let apart : (data_area b < at) ⊎ (at + count ≤ data_area b) = grind (arith, nat_tests) in
          record { low = o.low; high = o.high; small = o.small; there = beside (data_area b) apart ∙ o.there }

  pub loaded_stored : IsLoaded n (pages_of parts) parts.words ram → IsLoaded n (pages_of parts) parts.words new
  loaded_stored l = loaded_by n (pages_of parts) parts.words ram new (pages_few parts) size_kept words_below l

  pub marks_stored : OwnMarks parts ram → OwnMarks parts new
  marks_stored own =
      record {
        referenced = λ k less set. own.referenced k less (ap (λ o. bit_of o 5) (sym (words_below (CODE_TABLE + 4 * k) (omega arith))) ∙ set);
        modified = λ k less set. own.modified k less (ap (λ o. bit_of o 6) (sym (words_below (CODE_TABLE + 4 * k) (omega arith))) ∙ set);
      }

  -- the stack is above the data
  pub saved_beside : (pages r : ℕ) (file : Registers) → pages ≤ 16 → IsStacked pages file → ShowsSaved file r ram → ShowsSaved file r new
  saved_beside pages r file few st s = record {
    locals = λ k j x y z. let floor = st.low k y in words_above (area_of (base file k) + 4 * j) (omega arith) ∙ s.locals k j x y z;
    ins = λ k j x y z. let floor = st.low k y in words_above (area_of (base file k) + 32 + 4 * j) (omega arith) ∙ s.ins k j x y z;
  }

  pub slots_beside : (pages : ℕ) (file : Registers) → pages ≤ 16 → IsStacked pages file → ShowsSlots file ram → ShowsSlots file new
  slots_beside pages file few st s k b w less there =
      let o = s k b w less there in
      let floor = st.low k less in
      let above = o.place.low in
      record { place = o.place; there = words_above (area_of b) (omega arith) ∙ o.there }

  pub stack_beside : HasStack ram → HasStack new
  stack_beside s p w above there = s p w above (sym (words_above p above) ∙ there)

-- ---- a load

read_byte : (ram : List ℕ) (p count k : ℕ) → k < count → get_or (take count (drop p ram)) k 0 ≡ slice_index ram (p + k)
read_byte ram p count k less = get_or-take count (drop p ram) k 0 less ∙ get_or-drop p ram k 0

pair_is : (bs : List ℕ) (x y n : ℕ) → get_or bs 0 0 ≡ x → get_or bs 1 0 ≡ y → n ≡ x * 2 ^ 8 + y → from_be_bytes w16 bs ≡ n
pair_is bs x y n a b e = omega arith

four_is : (bs : List ℕ) (x y z w n : ℕ) → get_or bs 0 0 ≡ x → get_or bs 1 0 ≡ y → get_or bs 2 0 ≡ z → get_or bs 3 0 ≡ w → n ≡ x * 2 ^ 24 + y * 2 ^ 16 + z * 2 ^ 8 + w → from_be_bytes w32 bs ≡ n
four_is bs x y z w n a b c d e = omega arith

-- the flat number by its bytes
pub number_is : (bytes : Bytes) (a count n : ℕ) → number_at bytes a (suc count) ≡ Some n → (m : ℕ) × (b : ℕ) × (number_at bytes a count ≡ Some m) × (bytes (a + count) ≡ Some b) × (n ≡ m * 2 ^ 8 + b)
number_is bytes a count n is = by_parts (number_at bytes a count) (bytes (a + count)) refl refl is
  where
    by_parts : (o p : Option ℕ) → number_at bytes a count ≡ o → bytes (a + count) ≡ p → followed_by o p ≡ Some n →
        (m : ℕ) × (b : ℕ) × (number_at bytes a count ≡ Some m) × (bytes (a + count) ≡ Some b) × (n ≡ m * 2 ^ 8 + b)
    by_parts None p e f g = absurd (cc)
    by_parts (Some m) None e f g = absurd (cc)
    by_parts (Some m) (Some b) e f g = (m, b, e, f, cc)

pub nothing_is : (n : ℕ) → Some 0 ≡ Some n → n ≡ 0
nothing_is n e = cc

module _ (parts : Parts) (memory : Bytes) (ram : List ℕ) (a n : ℕ) (fits : Fits parts) (h : ShowsData parts memory ram) (length_is : length ram ≡ RAM) where
  abbrev place : ℕ
  place = data_area a

  shown : (k b count : ℕ) → k < count → memory (a + k) ≡ Some b → DATA_START ≤ a → get_or (take count (drop place ram)) k 0 ≡ b
  shown k b count less is low = let spot : place + k ≡ data_area (a + k) = omega arith in read_byte ram place count k less ∙ ap (slice_index ram) spot ∙ (h (a + k) b is).there

  pub byte_loads : number_at memory a 1 ≡ Some n → board_number ram place Byte ≡ Some n
  byte_loads is =
      let first = number_is memory a 0 n is in
      let none = nothing_is first.0 first.2 in
      let o = h (a + 0) first.1 first.3 in
      let low = o.low in
      let top = o.high in
      let most = fits.pages in
      let sum = first.4 in
      let spot : place ≡ data_area (a + 0) = omega arith in
      let value : first.1 ≡ n = omega arith in
      has_byte ram place (omega arith) ∙ ap (λ q. Some (slice_index ram q)) spot ∙ ap Some (o.there ∙ value)

  pub half_loads : a % 2 ≡ 0 → number_at memory a 2 ≡ Some n → board_number ram place Half ≡ Some n
  half_loads even is =
      let second = number_is memory a 1 n is in
      let first = number_is memory a 0 second.0 second.2 in
      let none = nothing_is first.0 first.2 in
      let o = h (a + 0) first.1 first.3 in
      let p = h (a + 1) second.1 second.3 in
      let low = o.low in
      let top = p.high in
      let most = fits.pages in
      let sum = first.4 in
      let sum2 = second.4 in
      has_half ram place (record { aligned = omega arith; fits = omega arith })
      ∙ ap Some (pair_is (take 2 (drop place ram)) first.1 second.1 n (shown 0 first.1 2 (omega arith) first.3 (omega arith)) (shown 1 second.1 2 (omega arith) second.3 (omega arith)) (omega arith))

  pub word_loads : a % 4 ≡ 0 → number_at memory a 4 ≡ Some n → board_number ram place Word ≡ Some n
  word_loads whole is =
      let fourth = number_is memory a 3 n is in
      let third = number_is memory a 2 fourth.0 fourth.2 in
      let second = number_is memory a 1 third.0 third.2 in
      let first = number_is memory a 0 second.0 second.2 in
      let none = nothing_is first.0 first.2 in
      let o = h (a + 0) first.1 first.3 in
      let p = h (a + 3) fourth.1 fourth.3 in
      let low = o.low in
      let top = p.high in
      let most = fits.pages in
      let sum = first.4 in
      let sum2 = second.4 in
      let sum3 = third.4 in
      let sum4 = fourth.4 in
      word_there ram place length_is (omega arith) (omega arith)
      ∙ ap Some (four_is (take 4 (drop place ram)) first.1 second.1 third.1 fourth.1 n
      (shown 0 first.1 4 (omega arith) first.3 (omega arith)) (shown 1 second.1 4 (omega arith) second.3 (omega arith))
      (shown 2 third.1 4 (omega arith) third.3 (omega arith)) (shown 3 fourth.1 4 (omega arith) fourth.3 (omega arith)) (omega arith))

-- four bytes one after another
two_words : (memory : Bytes) (a fifth sixth seventh eighth : ℕ) → memory (a + 4) ≡ Some fifth → memory (a + 5) ≡ Some sixth → memory (a + 6) ≡ Some seventh → memory (a + 7) ≡ Some eighth →
    number_at memory (a + 4) 4 ≡ Some (((fifth * 2 ^ 8 + sixth) * 2 ^ 8 + seventh) * 2 ^ 8 + eighth)
two_words memory a fifth sixth seventh eighth e f g h =
    let p : a + 4 + 0 ≡ a + 4 = omega arith in
    let q : a + 4 + 1 ≡ a + 5 = omega arith in
    let r : a + 4 + 2 ≡ a + 6 = omega arith in
    let t : a + 4 + 3 ≡ a + 7 = omega arith in
    let alone : 0 * 2 ^ 8 + fifth ≡ fifth = omega arith in
    ap (λ o. followed_by (followed_by (followed_by (followed_by (Some 0) o) (memory (a + 4 + 1))) (memory (a + 4 + 2))) (memory (a + 4 + 3))) (ap memory p ∙ e)
    ∙ ap (λ v. followed_by (followed_by (followed_by (Some v) (memory (a + 4 + 1))) (memory (a + 4 + 2))) (memory (a + 4 + 3))) alone
    ∙ ap (λ o. followed_by (followed_by (followed_by (Some fifth) o) (memory (a + 4 + 2))) (memory (a + 4 + 3))) (ap memory q ∙ f)
    ∙ ap (λ o. followed_by (followed_by (Some (fifth * 2 ^ 8 + sixth)) o) (memory (a + 4 + 3))) (ap memory r ∙ g)
    ∙ ap (λ o. followed_by (Some ((fifth * 2 ^ 8 + sixth) * 2 ^ 8 + seventh)) o) (ap memory t ∙ h)

-- a number of eight bytes is two of four
halves_of : (memory : Bytes) (a n : ℕ) → number_at memory a 8 ≡ Some n →
    (high : ℕ) × (low : ℕ) × (number_at memory a 4 ≡ Some high) × (number_at memory (a + 4) 4 ≡ Some low) × (n ≡ high * 2 ^ 32 + low)
halves_of memory a n is =
    let eighth = number_is memory a 7 n is in
    let seventh = number_is memory a 6 eighth.0 eighth.2 in
    let sixth = number_is memory a 5 seventh.0 seventh.2 in
    let fifth = number_is memory a 4 sixth.0 sixth.2 in
    let s8 = eighth.4 in
    let s7 = seventh.4 in
    let s6 = sixth.4 in
    let s5 = fifth.4 in
    (fifth.0, ((fifth.1 * 2 ^ 8 + sixth.1) * 2 ^ 8 + seventh.1) * 2 ^ 8 + eighth.1, fifth.2, two_words memory a fifth.1 sixth.1 seventh.1 eighth.1 fifth.3 sixth.3 seventh.3 eighth.3, omega arith)

-- the number that a load finds is there on the board too
pub number_there : (parts : Parts) (memory : Bytes) (ram : List ℕ) (a w : ℕ) (size : Size) → Fits parts → ShowsData parts memory ram → length ram ≡ RAM →
    a % bytes_in size ≡ 0 → number_at memory a (bytes_in size) ≡ Some w → board_number ram (data_area a) size ≡ Some w
number_there parts memory ram a w Byte fits h size whole is = byte_loads parts memory ram a w fits h size is
number_there parts memory ram a w Half fits h size whole is = half_loads parts memory ram a w fits h size whole is
number_there parts memory ram a w Word fits h size whole is = word_loads parts memory ram a w fits h size whole is
number_there parts memory ram a w Double fits h size whole is =
    let both = halves_of memory a w is in
    let sum = both.4 in
    let first = byte_there memory a 8 w is 0 (omega arith) in
    let low = (h (a + 0) first.0 first.1).low in
    let next : data_area (a + 4) ≡ data_area a + 4 = omega arith in
    has_double ram (data_area a) both.0 both.1 (omega arith) (word_loads parts memory ram a both.0 fits h size (omega arith) both.2)
    (ap (entry_of ram) (sym next) ∙ word_loads parts memory ram (a + 4) both.1 fits h size (omega arith) both.3)
    ∙ ap Some (sym sum)

-- and is as small as its bytes
bound_more : (parts : Parts) (memory : Bytes) (ram : List ℕ) (a limit count w : ℕ) → ShowsData parts memory ram →
    ((m : ℕ) → number_at memory a count ≡ Some m → m < limit) → number_at memory a (suc count) ≡ Some w → w < limit * 256
bound_more parts memory ram a limit count w h before is =
    let p = number_is memory a count w is in
    let under = before p.0 p.2 in
    let small = (h (a + count) p.1 p.3).small in
    let sum = p.4 in
    omega arith

pub number_fits : (parts : Parts) (memory : Bytes) (ram : List ℕ) (a w : ℕ) (size : Size) → ShowsData parts memory ram → number_at memory a (bytes_in size) ≡ Some w → w < limit_of size
number_fits parts memory ram a w size h is = by_size size is
  where
    none : (m : ℕ) → number_at memory a 0 ≡ Some m → m < 1
    none m e = let same = nothing_is m e in omega arith

    one : (m : ℕ) → number_at memory a 1 ≡ Some m → m < 2 ^ 8
    one m e = bound_more parts memory ram a 1 0 m h none e

    two : (m : ℕ) → number_at memory a 2 ≡ Some m → m < 2 ^ 16
    two m e = bound_more parts memory ram a (2 ^ 8) 1 m h one e

    three : (m : ℕ) → number_at memory a 3 ≡ Some m → m < 2 ^ 24
    three m e = bound_more parts memory ram a (2 ^ 16) 2 m h two e

    four : (m : ℕ) → number_at memory a 4 ≡ Some m → m < 2 ^ 32
    four m e = bound_more parts memory ram a (2 ^ 24) 3 m h three e

    five : (m : ℕ) → number_at memory a 5 ≡ Some m → m < 2 ^ 40
    five m e = bound_more parts memory ram a (2 ^ 32) 4 m h four e

    six : (m : ℕ) → number_at memory a 6 ≡ Some m → m < 2 ^ 48
    six m e = bound_more parts memory ram a (2 ^ 40) 5 m h five e

    seven : (m : ℕ) → number_at memory a 7 ≡ Some m → m < 2 ^ 56
    seven m e = bound_more parts memory ram a (2 ^ 48) 6 m h six e

    by_size : (size : Size) → number_at memory a (bytes_in size) ≡ Some w → w < limit_of size
    by_size Byte e = one w e
    by_size Half e = two w e
    by_size Word e = four w e
    by_size Double e = bound_more parts memory ram a (2 ^ 56) 7 w h seven e
