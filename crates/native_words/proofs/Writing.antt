-- What the block shows after a store to the data, or to a slot of the newest call.
use Rattle.std.proofs.Common.{◌≡◌, ◌≢◌, ℕ, zero, suc, ◌+◌, ◌-◌, ◌%◌, ◌^◌, ◌<◌, ◌≤◌, ◌⊎◌, inl, inr, Bool, true, false}
use Rattle.std.proofs.Common.{List, [], ◌∷◌, length, Some, None, slice_index, refl, ap, ◌∙◌, arith}
use Rattle.std.specs.Prelude.{◌==◌, ◌&&◌, nat_le, nat_lt, if◌then◌else◌}
use Rattle.std.proofs.lemmas.Bool.Decides.{nat_tests}
use Rattle.sbx_image.specs.Parts.{Parts}
use Rattle.sbx_flat.specs.Calls.{depth, slot, slot_in}
use Rattle.sbx_flat.specs.Memory.{Bytes, byte_of, with_number}
use Rattle.sbx_flat.specs.Registers.{Frame, Registers, with_slot}
use Rattle.sbx_flat.specs.States.{State}
use Rattle.sbx_flat.specs.WellFormed.{AreCalls}
use Rattle.native_lang.specs.Memory.{has_room, number_in, put_in, stored}
use Rattle.native_lang.specs.World.{World}
use Rattle.native_results.specs.ShowsState.{IsBlockByte, ShowsBytes, ShowsFrameWords, ShowsState}
use Rattle.native_words.proofs.Numbers.{put_apart, put_bytes, put_inside, put_length, put_outside, word_back}
use Rattle.native_words.proofs.Reading.{IsFrameWord, slot_read}

-- a call that has a slot is open
open_by : (frames : List Frame) (k a word : ℕ) → slot_in frames k a ≡ Some word → k < length frames
open_by [] k a word e = absurd cc
open_by (f ∷ fs) zero a word e = omega arith
open_by (f ∷ fs) (suc k) a word e = let h = open_by fs k a word e in omega (arith, h)

pub is_open : (file : Registers) (k a word : ℕ) → slot file k a ≡ Some word → k < depth file
unfolding slot
is_open file k a word e = open_by (file.newest ∷ file.older) k a word e

-- ---- to the data

bytes_stored : (memory : Bytes) (block : List ℕ) (a count number : ℕ) → 0x80000 ≤ a → a + count ≤ 0xF0000 → length block ≡ 524288 → ShowsBytes block memory →
    ShowsBytes (put_in block (a - 0x80000) count number count) (with_number memory a count number)
bytes_stored memory block a count number from to size shows x byte e = by (nat_le a x && nat_lt x (a + count)) refl e
  where
    out : (x < a) ⊎ (a ≤ x) → (x < a + count) ⊎ (a + count ≤ x) → (nat_le a x && nat_lt x (a + count)) ≡ false → 0x80000 ≤ x →
        (x - 0x80000 < a - 0x80000) ⊎ (a - 0x80000 + count ≤ x - 0x80000)
    out (inl low) other t start = inl (omega (arith, low, start))
    out (inr high) (inr past) t start = inr (omega (arith, past, from))
    out (inr high) (inl less) t start = absurd (grind (arith, nat_tests))

    by : (b : Bool) → (nat_le a x && nat_lt x (a + count)) ≡ b → (if b then Some (byte_of count number (x - a)) else memory x) ≡ Some byte →
        IsBlockByte (put_in block (a - 0x80000) count number count) x byte
    by true t f =
        let low : a ≤ x = grind (arith, nat_tests) in
        let high : x < a + count = grind (arith, nat_tests) in
        let same : x - 0x80000 ≡ a - 0x80000 + (x - a) = omega (arith, low, from) in
        let is : byte_of count number (x - a) ≡ byte = cc in
        record {
          from = omega (arith, low, from);
          to = omega (arith, high, to);
          is = ap (slice_index (put_in block (a - 0x80000) count number count)) same
              ∙ put_inside block (a - 0x80000) count number count (x - a) (omega (arith, low, high)) (omega (arith, from, to, size)) ∙ is;
        }
    by false t f =
        let b = shows x byte f in
        let start = b.from in
        record {
          from = b.from;
          to = b.to;
          is = put_outside block (a - 0x80000) count number count (x - 0x80000) (out (search arith) (search arith) t start) ∙ b.is;
        }

slots_kept : (pages : ℕ) (file : Registers) (block : List ℕ) (a count number : ℕ) → pages ≤ 16 → AreCalls pages file → ShowsFrameWords block file → 0x80000 ≤ a → a + count ≤ 0xF0000 →
    ShowsFrameWords (put_in block (a - 0x80000) count number count) file
slots_kept pages file block a count number few calls shows from to k x word e =
    let f = slot_read pages k x word file block few calls shows (is_open file k x word e) e in
    let low = f.from in
    put_apart block (a - 0x80000) count number count (x - 0x80000) 4 (inr (omega (arith, low, from, to))) ∙ f.is

module _ (parts : Parts) (w : World) (s : State) (shows : ShowsState parts w s) (calls : AreCalls parts.stack_pages s.registers) where
  pub data_shows : (a count number : ℕ) → 0x80000 ≤ a → a + count ≤ 0xF0000 →
      ShowsState parts (record w { block = put_in w.block (a - 0x80000) count number count }) (record s { memory = with_number s.memory a count number })
  data_shows a count number from to =
      let size = shows.block in
      record {
        variables = shows.variables;
        registers = shows.registers;
        icc = shows.icc;
        y = shows.y;
        windows = shows.windows;
        block = put_length w.block (a - 0x80000) count number count ∙ shows.block;
        block_bytes = put_bytes w.block (a - 0x80000) count number count (omega (arith, from, to, size)) shows.block_bytes;
        slots = slots_kept parts.stack_pages s.registers w.block a count number shows.pages calls shows.slots from to;
        memory = bytes_stored s.memory w.block a count number from to shows.block shows.memory;
        input = shows.input;
        output = shows.output;
        pages = shows.pages;
      }

-- ---- to a slot

other_place : (a x : ℕ) → a % 4 ≡ 0 → x % 4 ≡ 0 → x ≢ a → 0x80000 ≤ a → 0x80000 ≤ x → (x - 0x80000 + 4 ≤ a - 0x80000) ⊎ (a - 0x80000 + 4 ≤ x - 0x80000)
other_place a x whole even apart low high = by (search arith)
  where
    by : (x < a) ⊎ (a ≤ x) → (x - 0x80000 + 4 ≤ a - 0x80000) ⊎ (a - 0x80000 + 4 ≤ x - 0x80000)
    by (inl less) = inl (omega (arith, less, whole, even, high))
    by (inr more) = inr (omega (arith, more, whole, even, low, apart))

module _ (pages : ℕ) (file : Registers) (block : List ℕ) (a was v : ℕ) (few : pages ≤ 16) (calls : AreCalls pages file) (shows : ShowsFrameWords block file)
    (there : slot file 0 a ≡ Some was) (small : v < 2 ^ 32) (size : length block ≡ 524288) where
  here : IsFrameWord block a was
  here = slot_read pages 0 a was file block few calls shows (omega arith) there

  newest_stored : (x word : ℕ) (b : Bool) → (x == a) ≡ b → (if b then Some v else file.newest.slots x) ≡ Some word → (file.newest.slots x ≡ Some word → slot file 0 x ≡ Some word) →
      number_in (put_in block (a - 0x80000) 4 v 4) (x - 0x80000) 4 ≡ word
  newest_stored x word true t e as_slot =
      let same : x ≡ a = grind (arith, nat_tests) in
      let from = here.from in
      let to = here.to in
      let is : v ≡ word = cc in
      ap (λ p. number_in (put_in block (a - 0x80000) 4 v 4) (p - 0x80000) 4) same ∙ word_back block (a - 0x80000) v (omega (arith, from, to, size)) small ∙ is
  newest_stored x word false t e as_slot =
      let f = slot_read pages 0 x word file block few calls shows (omega arith) (as_slot e) in
      let apart : x ≢ a = grind (arith, nat_tests) in
      let low = here.from in
      let high = f.from in
      put_apart block (a - 0x80000) 4 v 4 (x - 0x80000) 4 (other_place a x here.whole f.whole apart (omega (arith, low)) (omega (arith, high))) ∙ f.is

  older_kept : (k x word : ℕ) → slot file (suc k) x ≡ Some word → number_in (put_in block (a - 0x80000) 4 v 4) (x - 0x80000) 4 ≡ word
  older_kept k x word e =
      let less = is_open file (suc k) x word e in
      let s = calls.slots 0 a was (omega arith) there in
      let below = s.below (suc k) (omega arith) less in
      let o = calls.slots (suc k) x word less e in
      let low = o.low in
      let from = here.from in
      put_apart block (a - 0x80000) 4 v 4 (x - 0x80000) 4 (inr (omega (arith, below, low, from))) ∙ shows (suc k) x word e

  pub slots_stored : ShowsFrameWords (put_in block (a - 0x80000) 4 v 4) (with_slot a v file)
  unfolding slot
  slots_stored k x word e = by k e
    where
      by : (k : ℕ) → slot (with_slot a v file) k x ≡ Some word → number_in (put_in block (a - 0x80000) 4 v 4) (x - 0x80000) 4 ≡ word
      by zero e = newest_stored x word (x == a) refl e (λ f. f)
      by (suc k) e = older_kept k x word e

frame_bytes_kept : (memory : Bytes) (block : List ℕ) (a v : ℕ) → 0xF0000 ≤ a → ShowsBytes block memory → ShowsBytes (put_in block (a - 0x80000) 4 v 4) memory
frame_bytes_kept memory block a v from shows x byte e =
    let b = shows x byte e in
    let low = b.from in
    let high = b.to in
    record { from = low; to = high; is = put_outside block (a - 0x80000) 4 v 4 (x - 0x80000) (inl (omega (arith, low, high, from))) ∙ b.is }

module _ (parts : Parts) (w : World) (s : State) (shows : ShowsState parts w s) (calls : AreCalls parts.stack_pages s.registers) where
  pub slot_shows : (a was v : ℕ) → slot s.registers 0 a ≡ Some was → v < 2 ^ 32 →
      ShowsState parts (record w { block = put_in w.block (a - 0x80000) 4 v 4 }) (record s { registers = with_slot a v s.registers })
  slot_shows a was v there small =
      let size = shows.block in
      let f = slot_read parts.stack_pages 0 a was s.registers w.block shows.pages calls shows.slots (omega arith) there in
      let from = f.from in
      let to = f.to in
      record {
        variables = shows.variables;
        registers = shows.registers;
        icc = shows.icc;
        y = shows.y;
        windows = shows.windows;
        block = put_length w.block (a - 0x80000) 4 v 4 ∙ shows.block;
        block_bytes = put_bytes w.block (a - 0x80000) 4 v 4 (omega (arith, from, to, size)) shows.block_bytes;
        slots = slots_stored parts.stack_pages s.registers w.block a was v shows.pages calls shows.slots there small shows.block;
        memory = frame_bytes_kept s.memory w.block a v from shows.memory;
        input = shows.input;
        output = shows.output;
        pages = shows.pages;
      }

-- ---- the store of either

room_by : (a count : ℕ) → 0x80000 ≤ a → a + count ≤ 0x100000 → has_room a count ≡ true
room_by a count low high = grind (arith, nat_tests)

pub stored_number : (block : List ℕ) (a count number : ℕ) → 0x80000 ≤ a → a + count ≤ 0x100000 →
    stored block a count number ≡ Some (put_in block (a - 0x80000) count number count)
stored_number block a count number low high =
    ap (λ (b : Bool). if b then Some (put_in block (a - 0x80000) count number count) else None) (room_by a count low high)
