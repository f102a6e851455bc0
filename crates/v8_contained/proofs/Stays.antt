-- Marks, and a number stored in the stack or in data that may be written, keep what stays.
use Rattle.std.proofs.Common.{◌≡◌, ℕ, ◌+◌, ◌-◌, ◌*◌, ◌/◌, ◌%◌, ◌<◌, ◌≤◌, ◌⊎◌, inl, inr, Bool, true, false, List, length, take, drop, Option, Some, None, refl, sym, ap, ◌∙◌, arith}
use Rattle.std.specs.Prelude.{◌==◌, ◌&&◌, nat_le, slice_index, if◌then◌else◌}
use Rattle.std.specs.Int.{w32, from_be_bytes}
use Rattle.std.proofs.lemmas.List.{get_or-take, get_or-drop, length-take, length-drop}
use Rattle.std.proofs.lemmas.Grind.{same_number_lists}
use Rattle.v8_core.specs.Size.{Size}
use Rattle.v8_core.specs.Size.TheVariants.{Byte, Half, Word, Double}
use Rattle.v8_core.specs.Transfers.{bytes_in}
use Rattle.v8_core.specs.Ram.{entry_of, number_at, with_number}
use Rattle.v8_mmu.proofs.RamLemmas.{entry_is, length-with_entry}
use Rattle.v8_mmu.proofs.RamNumbers.{half_is, length-with_half, byte_beside_half, byte_is, length-with_byte, byte_beside_byte, double_is, length-with_double, byte_beside_double}
use Rattle.v8_mmu.proofs.RamMore.{byte_beside_entry}
use Rattle.v8_core.specs.Paths.{marked_ram}
use Rattle.v8_loaded.specs.Layout.{Pages, AreFew, data_count, is_writable}
use Rattle.v8_loaded.specs.Places.{device_marked, handlers_marked, table_marked}
use Rattle.v8_loaded.proofs.Marks.{Markable, loaded_by, mark_keeps}
use Rattle.v8_loaded.proofs.Fetches.{device_page, handlers_page, table_page}
use Rattle.v8_loaded.proofs.Turns.{marked_byte}
use Rattle.v8_contained.specs.Contained.{Contents, IsKept}

four_same : (old new : List ℕ) (p : ℕ) → length new ≡ length old → ((j : ℕ) → p ≤ j → j < p + 4 → slice_index new j ≡ slice_index old j) → take 4 (drop p new) ≡ take 4 (drop p old)
four_same old new p size same =
    same_number_lists (take 4 (drop p new)) (take 4 (drop p old))
    (omega (arith, length-take 4 (drop p new), length-take 4 (drop p old), length-drop p new, length-drop p old))
    (λ k less.
    let few : k < 4 = omega (arith, length-take 4 (drop p new)) in
    get_or-take 4 (drop p new) k 0 few ∙ get_or-drop p new k 0 ∙ same (p + k) (omega arith) (omega arith)
    ∙ sym (get_or-drop p old k 0) ∙ sym (get_or-take 4 (drop p old) k 0 few))

word_by : List ℕ → ℕ → ℕ → Option ℕ
word_by bytes len p = if p % 4 == 0 && nat_le (p + 4) len then Some (from_be_bytes w32 bytes) else None

entry_by : (ram : List ℕ) (p : ℕ) → entry_of ram p ≡ word_by (take 4 (drop p ram)) (length ram) p
unfolding entry_of word_by
entry_by ram p = refl

pub word_kept : (old new : List ℕ) (p : ℕ) → length new ≡ length old → ((j : ℕ) → p ≤ j → j < p + 4 → slice_index new j ≡ slice_index old j) → entry_of new p ≡ entry_of old p
word_kept old new p size same =
    entry_by new p ∙ ap (λ b. word_by b (length new) p) (four_same old new p size same) ∙ ap (λ l. word_by (take 4 (drop p old)) l p) size ∙ sym (entry_by old p)

-- what there is where a number is
pub record HasNumber (ram : List ℕ) (at : ℕ) (size : Size) : Type 0 where
  pub aligned : at % bytes_in size ≡ 0
  pub fits : at + bytes_in size ≤ length ram

pub number_is : (ram : List ℕ) (at : ℕ) (size : Size) (v : ℕ) → number_at ram at size ≡ Some v → HasNumber ram at size
number_is ram at Byte v e = let fits = byte_is ram at v e in record { aligned = omega arith; fits = omega arith }
number_is ram at Half v e = let h = half_is ram at v e in let fits = h.fits in record { aligned = h.aligned; fits = fits }
number_is ram at Word v e = let h = (entry_is ram at v e).0 in let fits = h.fits in record { aligned = h.aligned; fits = fits }
number_is ram at Double v e =
    let h = double_is ram at v e in
    let low = h.low.fits in
    record { aligned = h.aligned; fits = omega arith }

pub with_number_size : (ram : List ℕ) (at : ℕ) (size : Size) (v : ℕ) → at + bytes_in size ≤ length ram → length (with_number ram at size v) ≡ length ram
with_number_size ram at Byte v fits = length-with_byte ram at v (omega arith)
with_number_size ram at Half v fits = length-with_half ram at v fits
with_number_size ram at Word v fits = length-with_entry ram at v fits
with_number_size ram at Double v fits = length-with_double ram at v fits

-- the bytes beside a number that is stored
pub with_number_beside : (ram : List ℕ) (at : ℕ) (size : Size) (v : ℕ) → at + bytes_in size ≤ length ram →
    (p : ℕ) → (p < at) ⊎ (at + bytes_in size ≤ p) → slice_index (with_number ram at size v) p ≡ slice_index ram p
with_number_beside ram at Byte v fits p apart = byte_beside_byte ram at v p (omega arith) apart
with_number_beside ram at Half v fits p apart = byte_beside_half ram at v p fits apart
with_number_beside ram at Word v fits p apart = byte_beside_entry ram at v p fits apart
with_number_beside ram at Double v fits p apart = byte_beside_double ram at v p fits apart

-- ---- marks

pub marked_stays : (n : ℕ) (g : Pages) (held : Contents) (ram : List ℕ) (place t : ℕ) (store : Bool) → IsKept n g held ram → Markable ram place t → IsKept n g held (marked_ram ram place store)
marked_stays n g held ram place t store k h = record {
  loaded = mark_keeps n g held.words ram place t store k.loaded h;
  fixed = λ i less no. marked_byte ram place t store h (0x50000 + i) (omega arith) ∙ k.fixed i less no;
}

module _ (n : ℕ) (g : Pages) (held : Contents) (ram : List ℕ) (few : AreFew g) (k : IsKept n g held ram) where
  pub table_stays : IsKept n g held (table_marked ram)
  table_stays = marked_stays n g held ram 0x2D00 0x1A false k (table_page n g held.words ram few k.loaded)

  pub handlers_stay : IsKept n g held (handlers_marked ram)
  handlers_stay = marked_stays n g held ram 0x2D04 0x11A false k (handlers_page n g held.words ram few k.loaded)

  pub device_stays : (store : Bool) → IsKept n g held (device_marked store ram)
  device_stays store = marked_stays n g held ram 0x2D40 0x1000001E store k (device_page n g held.words ram few k.loaded)

-- ---- stores

-- a physical address at which nothing lies that stays: past the code, and in no page of data that may not be written
pub record IsFree (g : Pages) (at : ℕ) : Type 0 where
  pub low : 0x50000 ≤ at
  pub right : at < 0x90000 → is_writable g ((at - 0x50000) / 4096) ≡ true

-- a byte i of the data in a page that may not be written is none of so many from there on, which lie in one page
apart_by : (g : Pages) (at count i : ℕ) → IsFree g at → is_writable g (i / 4096) ≡ false →
    (at ≤ 0x50000 + i → 0x50000 + i < at + count → (at < 0x90000) × (i / 4096 ≡ (at - 0x50000) / 4096)) → (0x50000 + i < at) ⊎ (at + count ≤ 0x50000 + i)
apart_by g at count i free fixed same =
    let split : ((0x50000 + i < at) ⊎ (at + count ≤ 0x50000 + i)) ⊎ ((at ≤ 0x50000 + i) × (0x50000 + i < at + count)) = search arith in
    elim split [
      | inl apart ↦ apart
      | inr among ↦
          let is = same among.0 among.1 in
          let yes : is_writable g (i / 4096) ≡ true = ap (is_writable g) is.1 ∙ free.right is.0 in
          let both : true ≡ false = sym yes ∙ fixed in
          absurd (cc)
    ]

apart_fixed : (g : Pages) (at i : ℕ) (size : Size) → AreFew g → IsFree g at → at % bytes_in size ≡ 0 → i < 4096 * data_count g → is_writable g (i / 4096) ≡ false →
    (0x50000 + i < at) ⊎ (at + bytes_in size ≤ 0x50000 + i)
apart_fixed g at i Byte few free whole less fixed = let most = few.data_pages in let low = free.low in apart_by g at 1 i free fixed (λ from to. (omega arith, omega arith))
apart_fixed g at i Half few free whole less fixed = let most = few.data_pages in let low = free.low in apart_by g at 2 i free fixed (λ from to. (omega arith, omega arith))
apart_fixed g at i Word few free whole less fixed = let most = few.data_pages in let low = free.low in apart_by g at 4 i free fixed (λ from to. (omega arith, omega arith))
apart_fixed g at i Double few free whole less fixed = let most = few.data_pages in let low = free.low in apart_by g at 8 i free fixed (λ from to. (omega arith, omega arith))

pub number_stored : (n : ℕ) (g : Pages) (held : Contents) (ram : List ℕ) (at : ℕ) (size : Size) (old v : ℕ) → AreFew g → IsKept n g held ram →
    number_at ram at size ≡ Some old → IsFree g at → IsKept n g held (with_number ram at size v)
number_stored n g held ram at size old v few k there free =
    let h = number_is ram at size old there in
    let low = free.low in
    let new = with_number ram at size v in
    let same = with_number_size ram at size v h.fits in
    record {
      loaded = loaded_by n g held.words ram new few same (λ p under. word_kept ram new p same (λ j from to. with_number_beside ram at size v h.fits j (inl (omega arith)))) k.loaded;
      fixed = λ i less no. with_number_beside ram at size v h.fits (0x50000 + i) (apart_fixed g at i size few free h.aligned less no) ∙ k.fixed i less no;
    }
