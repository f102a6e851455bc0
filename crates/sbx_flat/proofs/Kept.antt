-- What well-formed registers keep: under a write, a frame pushed or popped, and a slot written.
use Rattle.std.proofs.Common.{◌≡◌, ◌≢◌, ℕ, zero, suc, ◌+◌, ◌-◌, ◌*◌, ◌%◌, ◌^◌, ◌<◌, ◌≤◌, Bool, true, false, List, [], ◌∷◌, length, Option, Some, None, refl, sym, ap, ◌∙◌, subst, arith}
use Rattle.std.specs.Prelude.{◌==◌, ◌&&◌, nat_le, nat_lt, if◌then◌else◌}
use Rattle.std.specs.List.{AllByRecursion}
use Rattle.std.proofs.lemmas.Bool.Decides.{nat_tests}
use Rattle.sbx_image.specs.Parts.{Parts}
use Rattle.sbx_flat.specs.Calls.{base, cell, depth, slot}
use Rattle.sbx_flat.specs.Effects.{is_base}
use Rattle.sbx_flat.specs.Registers.{AreWords, Frame, Fresh, IsFresh, Registers, Words, ins_of, is_slot, popped, pushed, with_in, with_slot, with_word, word_in, written}
use Rattle.sbx_flat.specs.WellFormed.{AreCalls, AreRegisters, HasSlots, HasWords, IsSlot, IsStacked}

-- ---- cases of a test

pub pick : {A : Type 0} (P : A → Type 0) (b : Bool) (x y : A) → (b ≡ true → P x) → (b ≡ false → P y) → P (if b then x else y)
pick P true x y f g = f refl
pick P false x y f g = g refl

pub below : (n k : ℕ) → nat_lt n k ≡ true → n < k
below n k e = grind (arith, nat_tests)

pub from : (n k : ℕ) → nat_lt n k ≡ false → k ≤ n
from n k e = grind (arith, nat_tests)

-- what holds of the registers with any one word written holds after a write
pub by_class : (P : Registers → Type 0) (n v : ℕ) (file : Registers) → P file
    → P (record file { globals = with_word file.globals n v })
    → (8 ≤ n → n < 16 → P (record file { newest = record file.newest { outs = with_word file.newest.outs n v } }))
    → P (record file { newest = record file.newest { locals = with_word file.newest.locals n v } })
    → (24 ≤ n → P (with_in n v file)) → P (written n v file)
unfolding written
by_class P n v file none global out local in_word =
    let locals : Registers = record file { newest = record file.newest { locals = with_word file.newest.locals n v } } in
    let outs : Registers = record file { newest = record file.newest { outs = with_word file.newest.outs n v } } in
    let fourth : Registers = if nat_lt n 24 then locals else with_in n v file in
    let third : Registers = if nat_lt n 16 then outs else fourth in
    let second : Registers = if nat_lt n 8 then record file { globals = with_word file.globals n v } else third in
    pick P (n == 0) file second (λ e. none)
    (λ e. pick P (nat_lt n 8) (record file { globals = with_word file.globals n v }) third (λ f. global)
    (λ f. pick P (nat_lt n 16) outs fourth (λ g. out (from n 8 f) (below n 16 g))
    (λ g. pick P (nat_lt n 24) locals (with_in n v file) (λ h. local) (λ h. in_word (from n 24 h)))))

-- ---- words

pub words_with : (words : Words) (k v : ℕ) → AreWords words → v < 2 ^ 32 → AreWords (with_word words k v)
words_with words k v all small n = pick (λ w. w < 2 ^ 32) (n == k) v (words n) (λ e. small) (λ e. all n)

ins_words : (older : List Frame) (oldest : Words) → AllByRecursion HasWords older → AreWords oldest → AreWords (ins_of older oldest)
ins_words [] oldest all words n = words n
ins_words (f ∷ fs) oldest all words n = all.0.outs (n - 16)

-- each register reads as a word
pub word_small : (file : Registers) (n : ℕ) → AreRegisters file → word_in file n < 2 ^ 32
word_small file n a =
    let P : ℕ → Type 0 = λ w. w < 2 ^ 32 in
    let fourth : ℕ = if nat_lt n 24 then file.newest.locals n else ins_of file.older file.oldest_ins n in
    let third : ℕ = if nat_lt n 16 then file.newest.outs n else fourth in
    let second : ℕ = if nat_lt n 8 then file.globals n else third in
    pick P (n == 0) 0 second (λ e. omega arith)
    (λ e. pick P (nat_lt n 8) (file.globals n) third (λ f. a.globals n)
    (λ f. pick P (nat_lt n 16) (file.newest.outs n) fourth (λ g. a.newest.outs n)
    (λ g. pick P (nat_lt n 24) (file.newest.locals n) (ins_of file.older file.oldest_ins n) (λ h. a.newest.locals n) (λ h. ins_words file.older file.oldest_ins a.older a.oldest_ins n))))

in_words : (n v : ℕ) (globals : Words) (newest : Frame) (older : List Frame) (oldest : Words) → v < 2 ^ 32
    → AreRegisters (record { globals = globals; newest = newest; older = older; oldest_ins = oldest })
    → AreRegisters (with_in n v (record { globals = globals; newest = newest; older = older; oldest_ins = oldest }))
in_words n v globals newest [] oldest small a = record { globals = a.globals; newest = a.newest; older = tt; oldest_ins = words_with oldest n v a.oldest_ins small }
in_words n v globals newest (f ∷ fs) oldest small a = record {
  globals = a.globals;
  newest = a.newest;
  older = (record { locals = a.older.0.locals; outs = words_with f.outs (n - 16) v a.older.0.outs small; slots = a.older.0.slots }, a.older.1);
  oldest_ins = a.oldest_ins;
}

pub registers_written : (n v : ℕ) (file : Registers) → v < 2 ^ 32 → AreRegisters file → AreRegisters (written n v file)
registers_written n v file small a = by_class AreRegisters n v file a
    (record { globals = words_with file.globals n v a.globals small; newest = a.newest; older = a.older; oldest_ins = a.oldest_ins })
    (λ low high. record {
      globals = a.globals;
      newest =
          record { locals = a.newest.locals; outs = words_with file.newest.outs n v a.newest.outs small; slots = a.newest.slots };
      older = a.older;
      oldest_ins =
          a.oldest_ins;
    })
    (record {
      globals = a.globals;
      newest =
          record { locals = words_with file.newest.locals n v a.newest.locals small; outs = a.newest.outs; slots = a.newest.slots };
      older = a.older;
      oldest_ins =
          a.oldest_ins;
    })
    (λ low. in_words n v file.globals file.newest file.older file.oldest_ins small a)

-- ---- bases and slots

-- The same calls stand at the same bases, with the same slots.
record StandAlike (old new : Registers) : Type 0 where
  many : depth new ≡ depth old
  bases : (k : ℕ) → k < depth old → base new k ≡ base old k
  slots : (k a : ℕ) → slot new k a ≡ slot old k a

other_word : (words : Words) (k v n : ℕ) → n ≢ k → with_word words k v n ≡ words n
other_word words k v n apart = grind (arith, nat_tests)

stand_still : (old new : Registers) → ((k : ℕ) → base new k ≡ base old k) → depth new ≡ depth old → ((k a : ℕ) → slot new k a ≡ slot old k a) → StandAlike old new
stand_still old new same many slots = record { many = many; bases = λ k less. same k; slots = slots }

same_globals : (file : Registers) (globals : Words) → StandAlike file (record file { globals = globals })
unfolding cell slot
same_globals file globals = record { many = refl; bases = λ k less. refl; slots = λ k a. refl }

out_base : (file : Registers) (n v k : ℕ) → n ≢ 14 → base (record file { newest = record file.newest { outs = with_word file.newest.outs n v } }) k ≡ base file k
unfolding cell
out_base file n v zero apart = let other : 14 ≢ n = λ e. apart (sym e) in other_word file.newest.outs n v 14 other
out_base file n v (suc k) apart = refl

out_slot : (file : Registers) (outs : Words) (k a : ℕ) → slot (record file { newest = record file.newest { outs = outs } }) k a ≡ slot file k a
unfolding slot
out_slot file outs zero a = refl
out_slot file outs (suc k) a = refl

local_base : (file : Registers) (locals : Words) (k : ℕ) → base (record file { newest = record file.newest { locals = locals } }) k ≡ base file k
unfolding cell
local_base file locals zero = refl
local_base file locals (suc k) = refl

local_slot : (file : Registers) (locals : Words) (k a : ℕ) → slot (record file { newest = record file.newest { locals = locals } }) k a ≡ slot file k a
unfolding slot
local_slot file locals zero a = refl
local_slot file locals (suc k) a = refl

first_base : (n v : ℕ) (globals : Words) (newest : Frame) (oldest : Words) (k : ℕ) → k < 1
    → base (record { globals = globals; newest = newest; older = []; oldest_ins = with_word oldest n v }) k ≡ base (record { globals = globals; newest = newest; older = []; oldest_ins = oldest }) k
unfolding cell
first_base n v globals newest oldest zero less = refl
first_base n v globals newest oldest (suc k) less = absurd (omega arith)

caller_base : (n v : ℕ) (globals : Words) (newest f : Frame) (fs : List Frame) (oldest : Words) (k : ℕ) → n ≢ 30 → 24 ≤ n
    → base (record { globals = globals; newest = newest; older = record f { outs = with_word f.outs (n - 16) v } ∷ fs; oldest_ins = oldest }) k ≡
    base (record { globals = globals; newest = newest; older = f ∷ fs; oldest_ins = oldest }) k
unfolding cell
caller_base n v globals newest f fs oldest zero apart low = refl
caller_base n v globals newest f fs oldest (suc zero) apart low = let other : 14 ≢ n - 16 = omega arith in other_word f.outs (n - 16) v 14 other
caller_base n v globals newest f fs oldest (suc (suc k)) apart low = refl

caller_slot : (globals : Words) (newest f : Frame) (fs : List Frame) (oldest outs : Words) (k a : ℕ)
    → slot (record { globals = globals; newest = newest; older = record f { outs = outs } ∷ fs; oldest_ins = oldest }) k a ≡
    slot (record { globals = globals; newest = newest; older = f ∷ fs; oldest_ins = oldest }) k a
unfolding slot
caller_slot globals newest f fs oldest outs zero a = refl
caller_slot globals newest f fs oldest outs (suc zero) a = refl
caller_slot globals newest f fs oldest outs (suc (suc k)) a = refl

in_stand : (n v : ℕ) (globals : Words) (newest : Frame) (older : List Frame) (oldest : Words) → n ≢ 30 → 24 ≤ n
    → StandAlike (record { globals = globals; newest = newest; older = older; oldest_ins = oldest }) (with_in n v (record { globals = globals; newest = newest; older = older; oldest_ins = oldest }))
unfolding slot
in_stand n v globals newest [] oldest apart low = record { many = refl; bases = first_base n v globals newest oldest; slots = λ k a. refl }
in_stand n v globals newest (f ∷ fs) oldest apart low = record {
  many = refl;
  bases = λ k less. caller_base n v globals newest f fs oldest k apart low;
  slots = caller_slot globals newest f fs oldest (with_word f.outs (n - 16) v);
}

stand_written : (n v : ℕ) (file : Registers) → n ≢ 14 → n ≢ 30 → StandAlike file (written n v file)
stand_written n v file pointer caller = by_class (StandAlike file) n v file
    (record { many = refl; bases = λ k less. refl; slots = λ k a. refl })
    (same_globals file (with_word file.globals n v))
    (λ low high. stand_still file (record file { newest = record file.newest { outs = with_word file.newest.outs n v } })
    (λ k. out_base file n v k pointer) refl (out_slot file (with_word file.newest.outs n v)))
    (stand_still file (record file { newest = record file.newest { locals = with_word file.newest.locals n v } })
    (local_base file (with_word file.newest.locals n v)) refl (local_slot file (with_word file.newest.locals n v)))
    (λ low. in_stand n v file.globals file.newest file.older file.oldest_ins caller low)

still_stacked : (pages : ℕ) (old new : Registers) → StandAlike old new → IsStacked pages old → IsStacked pages new
still_stacked pages old new a s = record {
  aligned = λ k less. let m = a.many in let b = a.bases k (omega arith) in let h = s.aligned k (omega arith) in omega (arith, b);
  low = λ k less. let m = a.many in let b = a.bases k (omega arith) in let h = s.low k (omega arith) in omega (arith, b);
  high = λ k less. let m = a.many in let b = a.bases k (omega arith) in let h = s.high k (omega arith) in omega (arith, b);
  apart = λ k i less within. let m = a.many in let b = a.bases k (omega arith) in let c = a.bases i (omega arith) in let h = s.apart k i less (omega arith) in omega (arith, b, c);
}

slot_stays : (old new : Registers) (k a : ℕ) → StandAlike old new → k < depth old → IsSlot old k a → IsSlot new k a
slot_stays old new k a same less s = record {
  aligned = s.aligned;
  low = let b = same.bases k less in let h = s.low in omega (arith, b);
  high = s.high;
  below = λ i more within. let m = same.many in let b = same.bases i (omega arith) in let h = s.below i more (omega arith) in omega (arith, b);
}

still_slots : (old new : Registers) → StandAlike old new → HasSlots old → HasSlots new
still_slots old new same s k a w less e =
    let m = same.many in
    let within : k < depth old = omega arith in
    slot_stays old new k a same within (s k a w within (sym (same.slots k a) ∙ e))

pub calls_written : (pages n v : ℕ) (file : Registers) → n ≢ 14 → n ≢ 30 → v < 2 ^ 32 → AreCalls pages file → AreCalls pages (written n v file)
calls_written pages n v file pointer caller small a =
    let same = stand_written n v file pointer caller in
    record {
      words = registers_written n v file small a.words;
      stacked = still_stacked pages file (written n v file) same a.stacked;
      slots = still_slots file (written n v file) same a.slots;
    }

-- ---- a frame pushed

some_word : (b : Bool) (v w : ℕ) → (if b then Some v else None) ≡ Some w → (b ≡ true) × (v ≡ w)
some_word true v w e = (refl, cc)
some_word false v w e = absurd (cc)

registers_pushed : (fresh : Fresh) (b : ℕ) (file : Registers) → IsFresh fresh → b < 2 ^ 32 → AreRegisters file → AreRegisters (pushed fresh b file)
registers_pushed fresh b file f small a = record {
  globals = a.globals;
  newest = record {
    locals = f.locals;
    outs = words_with fresh.outs 14 b f.outs small;
    slots = λ address word e. let h = f.slots address in let s = (some_word (is_slot b (file.newest.outs 14) address) (fresh.slots address) word e).1 in omega (arith, s);
  };
  older = (a.newest, a.older);
  oldest_ins = a.oldest_ins;
}

-- what `is_base` says
pub record IsBase (pages older b : ℕ) : Type 0 where
  pub aligned : b % 8 ≡ 0
  pub high : b + 64 ≤ older
  pub low : 0x100000 ≤ b + 4096 * pages

both_first : (a b : Bool) → (a && b) ≡ true → a ≡ true
both_first true b e = refl
both_first false b e = absurd (cc)

both_second : (a b : Bool) → (a && b) ≡ true → b ≡ true
both_second true b e = e
both_second false b e = absurd (cc)

at_most : (a b : ℕ) → nat_le a b ≡ true → a ≤ b
at_most a b e = grind (arith, nat_tests)

same_number : (a b : ℕ) → (a == b) ≡ true → a ≡ b
same_number a b e = grind (arith, nat_tests)

pub base_says : (parts : Parts) (older b : ℕ) → is_base parts older b ≡ true → IsBase parts.stack_pages older b
base_says parts older b e =
    let first = b % 8 == 0 in
    let second = nat_le (b + 64) older in
    let third = nat_le (0x100000 - 4096 * parts.stack_pages) b in
    let front = both_first (first && second) third e in
    let low = at_most (0x100000 - 4096 * parts.stack_pages) b (both_second (first && second) third e) in
    record { aligned = same_number (b % 8) 0 (both_first first second front); high = at_most (b + 64) older (both_second first second front); low = omega arith }

base_0 : (file : Registers) → base file 0 ≡ file.newest.outs 14
unfolding cell
base_0 file = refl

-- a base below the newest is below all
below_all : (pages : ℕ) (file : Registers) (b i : ℕ) → IsStacked pages file → b + 64 ≤ file.newest.outs 14 → i < depth file → b + 64 ≤ base file i
below_all pages file b zero s h less = let e = base_0 file in omega (arith, e)
below_all pages file b (suc i) s h less = let e = base_0 file in let a = s.apart 0 (suc i) (omega arith) less in omega (arith, e)

stacked_pushed : (pages : ℕ) (fresh : Fresh) (b : ℕ) (file : Registers) → IsBase pages (file.newest.outs 14) b → IsStacked pages file → IsStacked pages (pushed fresh b file)
unfolding cell
stacked_pushed pages fresh b file h s = record { aligned = aligned; low = low; high = high; apart = apart }
  where
    aligned : (k : ℕ) → k < suc (suc (length file.older)) → base (pushed fresh b file) k % 8 ≡ 0
    aligned zero less = h.aligned
    aligned (suc k) less = s.aligned k (omega arith)

    low : (k : ℕ) → k < suc (suc (length file.older)) → 0x100000 ≤ base (pushed fresh b file) k + 4096 * pages
    low zero less = h.low
    low (suc k) less = s.low k (omega arith)

    high : (k : ℕ) → k < suc (suc (length file.older)) → base (pushed fresh b file) k + 64 ≤ 0x100000
    high zero less = let a = h.high in let c = s.high 0 (omega arith) in let e = base_0 file in omega (arith, e)
    high (suc k) less = s.high k (omega arith)

    apart : (k i : ℕ) → k < i → i < suc (suc (length file.older)) → base (pushed fresh b file) k + 64 ≤ base (pushed fresh b file) i
    apart k zero less within = absurd (omega arith)
    apart zero (suc i) less within = below_all pages file b i s h.high (omega arith)
    apart (suc k) (suc i) less within = s.apart k i (omega arith) (omega arith)

-- what `is_slot` says
record IsBetween (b older a : ℕ) : Type 0 where
  low : b + 64 ≤ a
  high : a < older
  aligned : a % 4 ≡ 0

slot_says : (b older a : ℕ) → is_slot b older a ≡ true → IsBetween b older a
slot_says b older a e =
    let first = nat_le (b + 64) a in
    let second = nat_lt a older in
    let third = a % 4 == 0 in
    let front = both_first (first && second) third e in
    record { low = at_most (b + 64) a (both_first first second front); high = below a older (both_second first second front); aligned = same_number (a % 4) 0 (both_second (first && second) third e) }

-- a word below the newest call's base is below all
word_below_all : (pages : ℕ) (file : Registers) (a i : ℕ) → IsStacked pages file → a + 4 ≤ base file 0 → i < depth file → a + 4 ≤ base file i
word_below_all pages file a zero s h less = h
word_below_all pages file a (suc i) s h less = let c = s.apart 0 (suc i) (omega arith) less in omega arith

slots_pushed : (pages : ℕ) (fresh : Fresh) (b : ℕ) (file : Registers) → IsStacked pages file → HasSlots file → HasSlots (pushed fresh b file)
unfolding cell slot
slots_pushed pages fresh b file s slots zero a w less e =
    let h = slot_says b (file.newest.outs 14) a (some_word (is_slot b (file.newest.outs 14) a) (fresh.slots a) w e).0 in
    let eight = s.aligned 0 (omega arith) in
    let under : a + 4 ≤ base file 0 = let x = h.high in let y = h.aligned in let z = base_0 file in omega (arith, z) in
    let top = s.high 0 (omega arith) in
    record { aligned = h.aligned; low = h.low; high = omega arith; below = each }
  where
    each : (i : ℕ) → 0 < i → i < suc (suc (length file.older)) → a + 4 ≤ base (pushed fresh b file) i
    each zero more within = absurd (omega arith)
    each (suc i) more within =
        word_below_all pages file a i s (let h = slot_says b (file.newest.outs 14) a (some_word (is_slot b (file.newest.outs 14) a) (fresh.slots a) w e).0 in
        let eight = s.aligned 0 (omega arith) in let x = h.high in let y = h.aligned in let z = base_0 file in omega (arith, z)) (omega arith)
slots_pushed pages fresh b file s slots (suc k) a w less e =
    let h = slots k a w (omega arith) e in
    record { aligned = h.aligned; low = h.low; high = h.high; below = each h }
  where
    each : IsSlot file k a → (i : ℕ) → suc k < i → i < suc (suc (length file.older)) → a + 4 ≤ base (pushed fresh b file) i
    each h zero more within = absurd (omega arith)
    each h (suc i) more within = h.below i (omega arith) (omega arith)

pub calls_pushed : (pages : ℕ) (fresh : Fresh) (b : ℕ) (file : Registers) → IsFresh fresh → b < 2 ^ 32 → IsBase pages (file.newest.outs 14) b →
    AreCalls pages file → AreCalls pages (pushed fresh b file)
calls_pushed pages fresh b file f small h a = record {
  words = registers_pushed fresh b file f small a.words;
  stacked = stacked_pushed pages fresh b file h a.stacked;
  slots = slots_pushed pages fresh b file a.stacked a.slots;
}

-- ---- a frame popped

calls_left : (pages : ℕ) (globals : Words) (newest f : Frame) (fs : List Frame) (oldest : Words) →
    AreCalls pages (record { globals = globals; newest = newest; older = f ∷ fs; oldest_ins = oldest }) →
    AreCalls pages (record { globals = globals; newest = f; older = fs; oldest_ins = oldest })
unfolding cell slot
calls_left pages globals newest f fs oldest a = record {
  words = record { globals = a.words.globals; newest = a.words.older.0; older = a.words.older.1; oldest_ins = a.words.oldest_ins };
  stacked = record {
    aligned = λ k less. a.stacked.aligned (suc k) (omega arith);
    low = λ k less. a.stacked.low (suc k) (omega arith);
    high = λ k less. a.stacked.high (suc k) (omega arith);
    apart = λ k i less within. a.stacked.apart (suc k) (suc i) (omega arith) (omega arith);
  };
  slots = λ k address w less e.
      let h = a.slots (suc k) address w (omega arith) e in
      record { aligned = h.aligned; low = h.low; high = h.high; below = λ i more within. h.below (suc i) (omega arith) (omega arith) };
}

popped_by : (pages : ℕ) (globals : Words) (newest : Frame) (older : List Frame) (oldest : Words) (left : Registers) →
    popped (record { globals = globals; newest = newest; older = older; oldest_ins = oldest }) ≡ Some left
    → AreCalls pages (record { globals = globals; newest = newest; older = older; oldest_ins = oldest }) → AreCalls pages left
popped_by pages globals newest [] oldest left e a = absurd (cc)
popped_by pages globals newest (f ∷ fs) oldest left e a =
    let is : record { globals = globals; newest = f; older = fs; oldest_ins = oldest } ≡ left = some_file _ _ e in
    subst (AreCalls pages) is (calls_left pages globals newest f fs oldest a)
  where
    some_file : (x y : Registers) → Some x ≡ Some y → x ≡ y
    some_file x y p = cc

pub calls_popped : (pages : ℕ) (file left : Registers) → popped file ≡ Some left → AreCalls pages file → AreCalls pages left
calls_popped pages file left e a = popped_by pages file.globals file.newest file.older file.oldest_ins left e a

-- ---- a slot written

slot_base : (address v : ℕ) (file : Registers) (k : ℕ) → base (with_slot address v file) k ≡ base file k
unfolding cell
slot_base address v file zero = refl
slot_base address v file (suc k) = refl

either_slot : (address v old : ℕ) (file : Registers) (k a w : ℕ) → file.newest.slots address ≡ Some old → slot (with_slot address v file) k a ≡ Some w → (x : ℕ) × (slot file k a ≡ Some x)
unfolding slot
either_slot address v old file zero a w there e = by_address (a == address) refl e
  where
    same : (a == address) ≡ true → a ≡ address
    same h = same_number a address h

    by_address : (b : Bool) → (a == address) ≡ b → (if b then Some v else file.newest.slots a) ≡ Some w → (x : ℕ) × (file.newest.slots a ≡ Some x)
    by_address true h e = (old, ap file.newest.slots (same h) ∙ there)
    by_address false h e = (w, e)
either_slot address v old file (suc k) a w there e = (w, e)

pub calls_slot : (pages address v old : ℕ) (file : Registers) → file.newest.slots address ≡ Some old → v < 2 ^ 32 → AreCalls pages file → AreCalls pages (with_slot address v file)
calls_slot pages address v old file there small a =
    let stands : (k : ℕ) → base (with_slot address v file) k ≡ base file k = slot_base address v file in
    record {
      words = record {
        globals = a.words.globals;
        newest = record {
          locals = a.words.newest.locals;
          outs = a.words.newest.outs;
          slots = λ at word e. pick (λ (o : Option ℕ). o ≡ Some word → word < 2 ^ 32) (at == address) (Some v) (file.newest.slots at)
              (λ h f. small_some v word small f) (λ h f. a.words.newest.slots at word f) e;
        };
        older = a.words.older;
        oldest_ins = a.words.oldest_ins;
      };
      stacked = record {
        aligned = λ k less. let b = stands k in let h = a.stacked.aligned k less in omega (arith, b);
        low = λ k less. let b = stands k in let h = a.stacked.low k less in omega (arith, b);
        high = λ k less. let b = stands k in let h = a.stacked.high k less in omega (arith, b);
        apart = λ k i less within. let b = stands k in let c = stands i in let h = a.stacked.apart k i less within in omega (arith, b, c);
      };
      slots = λ k at word less e.
          let was = either_slot address v old file k at word there e in
          let h = a.slots k at was.0 less was.1 in
          record {
            aligned = h.aligned;
            low = let b = stands k in let x = h.low in omega (arith, b);
            high = h.high;
            below = λ i more within. let b = stands i in let x = h.below i more within in omega (arith, b);
          };
    }
  where
    small_some : (v word : ℕ) → v < 2 ^ 32 → Some v ≡ Some word → word < 2 ^ 32
    small_some v word small e = let s : v ≡ word = cc in omega (arith, s)
