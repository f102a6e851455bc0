-- Numbers of each size in RAM: what a store of one leaves.
use Rattle.std.proofs.Common.{◌≡◌, ℕ, ◌+◌, ◌-◌, ◌*◌, ◌/◌, ◌%◌, ◌^◌, ◌<◌, ◌≤◌, ◌⊎◌, inl, inr, Bool, true, false, List, [], ◌∷◌, ◌++◌, length, take, drop, Option, Some, None, refl, ap, ◌∙◌, arith}
use Rattle.std.specs.Int.{w16, from_be_bytes, to_be_bytes}
use Rattle.std.specs.Prelude.{◌==◌, slice_index, if◌then◌else◌}
use Rattle.std.proofs.lemmas.List.{drop_at, length-take-le, append_assoc}
use Rattle.std.proofs.lemmas.Nat.{from_be_bytes-to_be_bytes_2}
use Rattle.std.proofs.lemmas.Grind.{common_steps}
use Rattle.std.proofs.lemmas.Bool.Decides.{nat_tests}
use Rattle.v8_word.specs.declared.Size.{Size}
use Rattle.v8_word.specs.declared.Size.TheVariants.{Byte, Half, Word, Double}
use Rattle.v8_mmu.specs.Meaning.{limit_of}
use Rattle.v8_mmu.specs.Ram.{entry_of, with_entry, half_of, with_half, byte_of, with_byte, joined, double_of, with_double, number_at}
use Rattle.v8_mmu.specs.Laws.{Stores}
use Rattle.v8_mmu.proofs.RamLemmas.{Within, entry_is, length-with_entry, entry_of-with_entry}
use Rattle.v8_mmu.proofs.RamMore.{entry_elsewhere, entry_beside, byte_elsewhere, byte_among, byte_beside_entry}

-- ---- halfwords

pub record HasHalf (ram : List ℕ) (at : ℕ) : Type 0 where
  pub aligned : at % 2 ≡ 0
  pub fits : at + 2 ≤ length ram

pub half_is : (ram : List ℕ) (at h : ℕ) → half_of ram at ≡ Some h → HasHalf ram at
unfolding half_of
half_is ram at h e = record { aligned = grind (arith, nat_tests, common_steps); fits = grind (arith, nat_tests, common_steps) }

pub has_half : (ram : List ℕ) (at : ℕ) → HasHalf ram at → half_of ram at ≡ Some (from_be_bytes w16 (take 2 (drop at ram)))
unfolding half_of
has_half ram at h = grind (arith, nat_tests, common_steps)

pub length-with_half : (ram : List ℕ) (at h : ℕ) → at + 2 ≤ length ram → length (with_half ram at h) ≡ length ram
unfolding with_half
length-with_half ram at h fits = grind (arith, common_steps)

pub half_of-with_half : (ram : List ℕ) (at h : ℕ) → HasHalf ram at → h < 2 ^ 16 → half_of (with_half ram at h) at ≡ Some h
unfolding with_half
half_of-with_half ram at h there small =
    let n : length (take at ram) ≡ at = length-take-le at ram (omega (arith, there.fits)) in
    let whole : take at ram ++ to_be_bytes w16 h ++ drop (at + 2) ram ≡ take at ram ++ (to_be_bytes w16 h ++ drop (at + 2) ram) = append_assoc (take at ram) (to_be_bytes w16 h) (drop (at + 2) ram) in
    let d : drop at (with_half ram at h) ≡ to_be_bytes w16 h ++ drop (at + 2) ram = rw whole (drop_at (take at ram) (to_be_bytes w16 h ++ drop (at + 2) ram) at n) in
    let b : take 2 (drop at (with_half ram at h)) ≡ to_be_bytes w16 h = rw d refl in
    let within : HasHalf (with_half ram at h) at = record { aligned = there.aligned; fits = omega (arith, there.fits, length-with_half ram at h there.fits) } in
    has_half (with_half ram at h) at within ∙ ap (λ (bs : List ℕ). Some (from_be_bytes w16 bs)) b ∙ ap Some (from_be_bytes-to_be_bytes_2 h small)

pub byte_beside_half : (ram : List ℕ) (at h j : ℕ) → at + 2 ≤ length ram → (j < at) ⊎ (at + 2 ≤ j) → slice_index (with_half ram at h) j ≡ slice_index ram j
unfolding with_half
byte_beside_half ram at h j fits apart = byte_elsewhere ram (to_be_bytes w16 h) at 2 j refl fits apart

entry_beside_half : (ram : List ℕ) (at h p : ℕ) → at + 2 ≤ length ram → (p + 4 ≤ at) ⊎ (at + 2 ≤ p) → entry_of (with_half ram at h) p ≡ entry_of ram p
unfolding with_half
entry_beside_half ram at h p fits apart = entry_beside ram (to_be_bytes w16 h) at 2 p refl fits apart (length-with_half ram at h fits)

-- ---- bytes

pub byte_is : (ram : List ℕ) (at b : ℕ) → byte_of ram at ≡ Some b → at < length ram
unfolding byte_of
byte_is ram at b e = grind (arith, nat_tests, common_steps)

pub has_byte : (ram : List ℕ) (at : ℕ) → at < length ram → byte_of ram at ≡ Some (slice_index ram at)
unfolding byte_of
has_byte ram at less = grind (arith, nat_tests)

pub length-with_byte : (ram : List ℕ) (at b : ℕ) → at < length ram → length (with_byte ram at b) ≡ length ram
unfolding with_byte
length-with_byte ram at b less = grind (arith, common_steps)

pub byte_of-with_byte : (ram : List ℕ) (at b : ℕ) → at < length ram → byte_of (with_byte ram at b) at ≡ Some b
unfolding with_byte
byte_of-with_byte ram at b less =
    let long : at < length (with_byte ram at b) = omega (arith, length-with_byte ram at b less) in
    let none : at - at ≡ 0 = omega arith in
    let is : slice_index (with_byte ram at b) at ≡ b = byte_among ram (b ∷ []) at 1 at refl (omega arith) (omega arith) (omega arith) ∙ ap (slice_index (b ∷ [])) none in
    has_byte (with_byte ram at b) at long ∙ ap Some is

pub byte_beside_byte : (ram : List ℕ) (at b j : ℕ) → at < length ram → (j < at) ⊎ (at + 1 ≤ j) → slice_index (with_byte ram at b) j ≡ slice_index ram j
unfolding with_byte
byte_beside_byte ram at b j less apart = byte_elsewhere ram (b ∷ []) at 1 j refl (omega arith) apart

entry_beside_byte : (ram : List ℕ) (at b p : ℕ) → at < length ram → (p + 4 ≤ at) ⊎ (at + 1 ≤ p) → entry_of (with_byte ram at b) p ≡ entry_of ram p
unfolding with_byte
entry_beside_byte ram at b p less apart = entry_beside ram (b ∷ []) at 1 p refl (omega arith) apart (length-with_byte ram at b less)

-- ---- double words

-- the two words
pub record HasDouble (ram : List ℕ) (at : ℕ) : Type 0 where
  pub aligned : at % 8 ≡ 0
  pub high : Within ram at
  pub low : Within ram (at + 4)

words_of : (ram : List ℕ) (at v : ℕ) (a b : Option ℕ) → entry_of ram at ≡ a → entry_of ram (at + 4) ≡ b → joined a b ≡ Some v → Within ram at × Within ram (at + 4)
words_of ram at v None b e f j = cc
words_of ram at v (Some x) None e f j = cc
words_of ram at v (Some x) (Some y) e f j = ((entry_is ram at x e).0, (entry_is ram (at + 4) y f).0)

double_by : (ram : List ℕ) (at v : ℕ) (t : Bool) → (at % 8 == 0) ≡ t → (if t then joined (entry_of ram at) (entry_of ram (at + 4)) else None) ≡ Some v → HasDouble ram at
double_by ram at v false e j = cc
double_by ram at v true e j =
    let both = words_of ram at v (entry_of ram at) (entry_of ram (at + 4)) refl refl j in
    record { aligned = grind (arith, nat_tests); high = both.0; low = both.1 }

pub double_is : (ram : List ℕ) (at v : ℕ) → double_of ram at ≡ Some v → HasDouble ram at
unfolding double_of
double_is ram at v e = double_by ram at v (at % 8 == 0) refl e

-- a double word is its two words
pub has_double : (ram : List ℕ) (at high low : ℕ) → at % 8 ≡ 0 → entry_of ram at ≡ Some high → entry_of ram (at + 4) ≡ Some low → double_of ram at ≡ Some (high * 2 ^ 32 + low)
unfolding double_of
has_double ram at high low aligned e f = rw e (rw f (grind (arith, nat_tests)))

pub length-with_double : (ram : List ℕ) (at v : ℕ) → at + 8 ≤ length ram → length (with_double ram at v) ≡ length ram
unfolding with_double
length-with_double ram at v fits =
    let first = length-with_entry ram at (v / 2 ^ 32) (omega arith) in
    length-with_entry (with_entry ram at (v / 2 ^ 32)) (at + 4) (v % 2 ^ 32) (omega (arith, first)) ∙ first

pub double_of-with_double : (ram : List ℕ) (at v : ℕ) → HasDouble ram at → v < 2 ^ 64 → double_of (with_double ram at v) at ≡ Some v
unfolding with_double
double_of-with_double ram at v there small =
    let once = with_entry ram at (v / 2 ^ 32) in
    let first = length-with_entry ram at (v / 2 ^ 32) there.high.fits in
    let second : Within once (at + 4) = record { aligned = there.low.aligned; fits = omega (arith, first, there.low.fits) } in
    let high : entry_of (with_entry once (at + 4) (v % 2 ^ 32)) at ≡ Some (v / 2 ^ 32) =
    entry_elsewhere once (at + 4) at (v % 2 ^ 32) second (inl (omega arith)) ∙ entry_of-with_entry ram at (v / 2 ^ 32) there.high (omega arith) in
    let low : entry_of (with_entry once (at + 4) (v % 2 ^ 32)) (at + 4) ≡ Some (v % 2 ^ 32) = entry_of-with_entry once (at + 4) (v % 2 ^ 32) second (omega arith) in
    let whole : v / 2 ^ 32 * 2 ^ 32 + v % 2 ^ 32 ≡ v = omega arith in
    has_double (with_entry once (at + 4) (v % 2 ^ 32)) at (v / 2 ^ 32) (v % 2 ^ 32) there.aligned high low ∙ ap Some whole

pub byte_beside_double : (ram : List ℕ) (at v j : ℕ) → at + 8 ≤ length ram → (j < at) ⊎ (at + 8 ≤ j) → slice_index (with_double ram at v) j ≡ slice_index ram j
unfolding with_double
byte_beside_double ram at v j fits (inl less) =
    let first = length-with_entry ram at (v / 2 ^ 32) (omega arith) in
    byte_beside_entry (with_entry ram at (v / 2 ^ 32)) (at + 4) (v % 2 ^ 32) j (omega (arith, first)) (inl (omega arith)) ∙ byte_beside_entry ram at (v / 2 ^ 32) j (omega arith) (inl less)
byte_beside_double ram at v j fits (inr past) =
    let first = length-with_entry ram at (v / 2 ^ 32) (omega arith) in
    byte_beside_entry (with_entry ram at (v / 2 ^ 32)) (at + 4) (v % 2 ^ 32) j (omega (arith, first)) (inr (omega arith)) ∙ byte_beside_entry ram at (v / 2 ^ 32) j (omega arith) (inr (omega arith))

entry_beside_double : (ram : List ℕ) (at v p : ℕ) → HasDouble ram at → (p + 4 ≤ at) ⊎ (at + 8 ≤ p) → entry_of (with_double ram at v) p ≡ entry_of ram p
unfolding with_double
entry_beside_double ram at v p there apart =
    let low = there.low in
    let once = with_entry ram at (v / 2 ^ 32) in
    let first = length-with_entry ram at (v / 2 ^ 32) there.high.fits in
    let second : Within once (at + 4) = record { aligned = low.aligned; fits = omega (arith, first, low.fits) } in
    let high : (p + 4 ≤ at) ⊎ (at + 4 ≤ p) = elim apart [ inl before ↦ inl before | inr past ↦ inr (omega arith) ] in
    let beside : (p + 4 ≤ at + 4) ⊎ (at + 4 + 4 ≤ p) = elim apart [ inl before ↦ inl (omega arith) | inr past ↦ inr (omega arith) ] in
    entry_elsewhere once (at + 4) p (v % 2 ^ 32) second beside ∙ entry_elsewhere ram at p (v / 2 ^ 32) there.high high

-- ---- any size

pub stores : (ram : List ℕ) (at old v : ℕ) (width : Size) → number_at ram at width ≡ Some old → v < limit_of width → Stores ram at v width
stores ram at old v Byte there small =
    let less = byte_is ram at old there in
    record {
      read = byte_of-with_byte ram at v less;
      size = length-with_byte ram at v less;
      others = λ j apart. byte_beside_byte ram at v j less apart;
      words =
          λ p apart. entry_beside_byte ram at v p less apart;
    }
stores ram at old v Half there small =
    let h = half_is ram at old there in
    record {
      read = half_of-with_half ram at v h small;
      size = length-with_half ram at v h.fits;
      others =
          λ j apart. byte_beside_half ram at v j h.fits apart;
      words = λ p apart. entry_beside_half ram at v p h.fits apart;
    }
stores ram at old v Word there small =
    let h = (entry_is ram at old there).0 in
    record {
      read = entry_of-with_entry ram at v h small;
      size = length-with_entry ram at v h.fits;
      others =
          λ j apart. byte_beside_entry ram at v j h.fits apart;
      words = λ p apart. entry_elsewhere ram at p v h apart;
    }
stores ram at old v Double there small =
    let h = double_is ram at old there in
    let low = h.low in
    let fits : at + 8 ≤ length ram = omega (arith, low.fits) in
    record {
      read = double_of-with_double ram at v h small;
      size = length-with_double ram at v fits;
      others =
          λ j apart. byte_beside_double ram at v j fits apart;
      words = λ p apart. entry_beside_double ram at v p h apart;
    }
