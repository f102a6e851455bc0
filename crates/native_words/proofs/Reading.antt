-- What is read of the block where the flat machine reads a number: of the data, or of a slot.
use Rattle.std.proofs.Common.{◌≡◌, ℕ, zero, suc, ◌+◌, ◌-◌, ◌%◌, ◌<◌, ◌≤◌, ◌⊎◌, inl, inr, Bool, true, false}
use Rattle.std.proofs.Common.{List, Option, Some, None, slice_index, refl, sym, ap, ◌∙◌, arith}
use Rattle.std.specs.Prelude.{if◌then◌else◌}
use Rattle.std.proofs.lemmas.Bool.Decides.{nat_tests}
use Rattle.v8_meaning.specs.declared.operation.Transfer.{Transfer}
use Rattle.v8_meaning.specs.Transfers.{bytes_in, size_of, writes_memory}
use Rattle.sbx_image.specs.Parts.{Parts}
use Rattle.sbx_image.specs.Regions.{in_one_region}
use Rattle.sbx_flat.specs.Calls.{depth, slot}
use Rattle.sbx_flat.specs.Effects.{found}
use Rattle.sbx_flat.specs.Memory.{Bytes, followed_by, number_at}
use Rattle.sbx_flat.specs.Registers.{Registers}
use Rattle.sbx_flat.specs.WellFormed.{AreCalls}
use Rattle.native_lang.specs.Memory.{has_room, loaded, number_in}
use Rattle.native_results.specs.ShowsState.{ShowsBytes, ShowsFrameWords}
use Rattle.native_words.proofs.Numbers.{number_shown}

-- ---- the data

there_by : (memory : Bytes) (a count n : ℕ) (o p : Option ℕ) → number_at memory a count ≡ o → memory (a + count) ≡ p → followed_by o p ≡ Some n →
    ((m i : ℕ) → number_at memory a count ≡ Some m → i < count → (byte : ℕ) × (memory (a + i) ≡ Some byte)) → (i : ℕ) → i < suc count →
    (byte : ℕ) × (memory (a + i) ≡ Some byte)
there_by memory a count n None p e f h before i less = absurd cc
there_by memory a count n (Some m) None e f h before i less = absurd cc
there_by memory a count n (Some m) (Some last) e f h before i less = by (search arith)
  where
    by : (i < count) ⊎ (count ≤ i) → (byte : ℕ) × (memory (a + i) ≡ Some byte)
    by (inl low) = before m i e low
    by (inr high) = let same : a + i ≡ a + count = omega (arith, less, high) in (last, ap memory same ∙ f)

-- each byte of a number that the memory has
bytes_there : (memory : Bytes) (a count n : ℕ) → number_at memory a count ≡ Some n → (i : ℕ) → i < count → (byte : ℕ) × (memory (a + i) ≡ Some byte)
bytes_there memory a zero n e i less = absurd (omega arith)
bytes_there memory a (suc count) n e i less =
    there_by memory a count n (number_at memory a count) (memory (a + count)) refl refl e (λ m k f low. bytes_there memory a count m f k low) i less

-- A number of the data, in the block.
pub record IsRead (block : List ℕ) (a count n : ℕ) : Type 0 where
  pub from : 0x80000 ≤ a
  pub to : a + count ≤ 0xF0000
  pub is : number_in block (a - 0x80000) count ≡ n

pub data_read : (memory : Bytes) (block : List ℕ) (a count n : ℕ) → ShowsBytes block memory → 1 ≤ count → number_at memory a count ≡ Some n → IsRead block a count n
data_read memory block a count n shows some e =
    let first = bytes_there memory a count n e 0 (omega (arith, some)) in
    let last = bytes_there memory a count n e (count - 1) (omega (arith, some)) in
    let low = (shows (a + 0) first.0 first.1).from in
    let high = (shows (a + (count - 1)) last.0 last.1).to in
    record {
      from = omega (arith, low);
      to = omega (arith, high, some);
      is = same (number_shown memory block a (a - 0x80000) count (λ i less.
          let t = bytes_there memory a count n e i less in
          let b = shows (a + i) t.0 t.1 in
          let k : a + i - 0x80000 ≡ a - 0x80000 + i = omega (arith, low) in
          t.1 ∙ ap Some (sym b.is ∙ ap (slice_index block) k)));
    }
  where
    same : number_at memory a count ≡ Some (number_in block (a - 0x80000) count) → number_in block (a - 0x80000) count ≡ n
    same f = cc

found_by : (b : Bool) (o : Option ℕ) (n : ℕ) → (if b then o else None) ≡ Some n → o ≡ Some n
found_by true o n e = e
found_by false o n e = absurd cc

pub found_read : (parts : Parts) (t : Transfer) (a n : ℕ) (memory : Bytes) (block : List ℕ) → ShowsBytes block memory → 1 ≤ bytes_in (size_of t) →
    found parts t a memory ≡ Some n → IsRead block a (bytes_in (size_of t)) n
found_read parts t a n memory block shows some e =
    data_read memory block a (bytes_in (size_of t)) n shows some
    (found_by (in_one_region parts.regions a (bytes_in (size_of t)) (writes_memory t)) (number_at memory a (bytes_in (size_of t))) n e)

-- ---- a slot

-- Where a slot of the newest call lies, and what the block has there.
pub record IsFrameWord (block : List ℕ) (a word : ℕ) : Type 0 where
  pub whole : a % 4 ≡ 0
  pub from : 0xF0000 ≤ a
  pub to : a + 4 ≤ 0x100000
  pub is : number_in block (a - 0x80000) 4 ≡ word

pub slot_read : (pages k a word : ℕ) (file : Registers) (block : List ℕ) → pages ≤ 16 → AreCalls pages file → ShowsFrameWords block file → k < depth file → slot file k a ≡ Some word →
    IsFrameWord block a word
slot_read pages k a word file block few calls shows less e =
    let s = calls.slots k a word less e in
    let low = s.low in
    let high = s.high in
    let b = calls.stacked.low k less in
    record { whole = s.aligned; from = omega (arith, low, b, few); to = omega (arith, high); is = shows k a word e }

-- ---- a load of either

room_by : (a count : ℕ) → 0x80000 ≤ a → a + count ≤ 0x100000 → has_room a count ≡ true
room_by a count low high = grind (arith, nat_tests)

pub loaded_number : (block : List ℕ) (a count n : ℕ) → 0x80000 ≤ a → a + count ≤ 0x100000 → number_in block (a - 0x80000) count ≡ n → loaded block a count ≡ Some n
loaded_number block a count n low high is =
    ap (λ (b : Bool). if b then Some (number_in block (a - 0x80000) count) else None) (room_by a count low high) ∙ ap Some is
