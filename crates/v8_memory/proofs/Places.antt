-- RAM with words and bytes placed in it, one more at a time.
use Rattle.std.proofs.Common.{◌≡◌, ℕ, zero, suc, ◌+◌, ◌-◌, ◌*◌, ◌%◌, ◌<◌, ◌≤◌, ◌^◌, ◌⊎◌, inl, inr, List, ◌++◌, take, drop, length, slice_index, slice_set, Some}
use Rattle.std.proofs.Common.{IsSome, refl, sym, ap, ◌∙◌, subst, arith}
use Rattle.std.specs.Int.{w32, to_be_bytes}
use Rattle.std.proofs.lemmas.List.{get_or_append_left, get_or-append_right, get_or-take, get_or-drop, length-take-le, length-append, get_or-set_same, get_or-set_other, length-set}
use Rattle.v8_mmu.specs.Ram.{entry_of, with_entry}
use Rattle.v8_mmu.proofs.RamLemmas.{Within, within_entry, length-with_entry, entry_of-with_entry}
use Rattle.v8_mmu.proofs.RamMore.{entry_elsewhere}
use Rattle.v8_memory.specs.Placing.{HasWords, HasBytesOf}

-- a word is there
pub word_there : (ram : List ℕ) (at : ℕ) → at % 4 ≡ 0 → at + 4 ≤ length ram → IsSome (entry_of ram at)
word_there ram at whole fits = rw (within_entry ram at (record { aligned = whole; fits = fits })) refl

-- a byte beside a word that is written
byte_beside : (ram : List ℕ) (at p w : ℕ) → at + 4 ≤ length ram → (p < at) ⊎ (at + 4 ≤ p) → slice_index (with_entry ram at w) p ≡ slice_index ram p
unfolding with_entry
byte_beside ram at p w fits (inl before) =
    let n : length (take at ram) ≡ at = length-take-le at ram (omega arith) in
    let m : length (take at ram ++ to_be_bytes w32 w) ≡ at + 4 = omega (arith, length-append (take at ram) (to_be_bytes w32 w)) in
    get_or_append_left (take at ram ++ to_be_bytes w32 w) (drop (at + 4) ram) 0 p (omega arith)
    ∙ get_or_append_left (take at ram) (to_be_bytes w32 w) 0 p (omega arith)
    ∙ get_or-take at ram p 0 before
byte_beside ram at p w fits (inr past) =
    let n : length (take at ram) ≡ at = length-take-le at ram (omega arith) in
    let m : length (take at ram ++ to_be_bytes w32 w) ≡ at + 4 = omega (arith, length-append (take at ram) (to_be_bytes w32 w)) in
    let sum : at + 4 + (p - (at + 4)) ≡ p = omega arith in
    get_or-append_right (take at ram ++ to_be_bytes w32 w) (drop (at + 4) ram) (at + 4) p 0 m past
    ∙ get_or-drop (at + 4) ram (p - (at + 4)) 0
    ∙ ap (slice_index ram) sum

-- the bytes of a word that is written
word_byte : (w i : ℕ) → slice_index (to_be_bytes w32 w) i < 256
word_byte w zero = omega arith
word_byte w (suc zero) = omega arith
word_byte w (suc (suc zero)) = omega arith
word_byte w (suc (suc (suc zero))) = omega arith
word_byte w (suc (suc (suc (suc i)))) = omega arith

byte_within : (ram : List ℕ) (at p w : ℕ) → at + 4 ≤ length ram → at ≤ p → p < at + 4 → slice_index (with_entry ram at w) p < 256
unfolding with_entry
byte_within ram at p w fits low high =
    let n : length (take at ram) ≡ at = length-take-le at ram (omega arith) in
    let m : length (take at ram ++ to_be_bytes w32 w) ≡ at + 4 = omega (arith, length-append (take at ram) (to_be_bytes w32 w)) in
    let is : slice_index (take at ram ++ to_be_bytes w32 w ++ drop (at + 4) ram) p ≡ slice_index (to_be_bytes w32 w) (p - at) =
    get_or_append_left (take at ram ++ to_be_bytes w32 w) (drop (at + 4) ram) 0 p (omega arith)
    ∙ get_or-append_right (take at ram) (to_be_bytes w32 w) at p 0 n low in
    subst (λ b. b < 256) (sym is) (word_byte w (p - at))

pub no_words : (at : ℕ) (words ram : List ℕ) → HasWords at words 0 ram ram
no_words at words ram = record { size = refl; words_are = λ k none. absurd (omega arith); fit = λ p low high. absurd (omega arith); others = λ p apart. refl }

-- one word more
pub word_more : (at : ℕ) (words : List ℕ) (k w : ℕ) (old ram new : List ℕ) → HasWords at words k old ram → at % 4 ≡ 0 → at + 4 * (k + 1) ≤ length ram →
    w < 2 ^ 32 → w ≡ slice_index words k → new ≡ with_entry ram (at + 4 * k) w → HasWords at words (k + 1) old new
word_more at words k w old ram new h whole fits small is made =
    let there : Within ram (at + 4 * k) = record { aligned = omega arith; fits = omega arith } in
    record {
      size = ap length made ∙ length-with_entry ram (at + 4 * k) w (omega arith) ∙ h.size;
      words_are = λ j less.
          let split : (j < k) ⊎ (j ≡ k) = search arith in
          ap (λ r. entry_of r (at + 4 * j)) made
          ∙ elim split [
            | inl before ↦ entry_elsewhere ram (at + 4 * k) (at + 4 * j) w there (inl (omega arith)) ∙ h.words_are j before
            | inr same ↦ ap (λ i. entry_of (with_entry ram (at + 4 * k) w) (at + 4 * i)) same ∙ entry_of-with_entry ram (at + 4 * k) w there small ∙ ap Some (is ∙ ap (slice_index words) (sym same))
          ];
      fit = λ p low high.
          subst (λ r. slice_index r p < 256) (sym made)
          (let split : (p < at + 4 * k) ⊎ (at + 4 * k ≤ p) = search arith in
          elim split [
            | inl before ↦ subst (λ b. b < 256) (sym (byte_beside ram (at + 4 * k) p w (omega arith) (inl before))) (h.fit p low before)
            | inr here ↦ byte_within ram (at + 4 * k) p w (omega arith) here (omega arith)
          ]);
      others = λ p apart.
          ap (λ r. slice_index r p) made
          ∙ byte_beside ram (at + 4 * k) p w (omega arith) (elim apart [ inl before ↦ inl (omega arith) | inr past ↦ inr (omega arith) ])
          ∙ h.others p (elim apart [ inl before ↦ inl before | inr past ↦ inr (omega arith) ]);
    }

pub no_bytes : (at : ℕ) (bytes ram : List ℕ) → HasBytesOf at bytes 0 ram ram
no_bytes at bytes ram = record { size = refl; bytes_are = λ k none. absurd (omega arith); fit = λ p low high. absurd (omega arith); others = λ p apart. refl }

-- one byte more
pub byte_more : (at : ℕ) (bytes : List ℕ) (k b : ℕ) (old ram new : List ℕ) → HasBytesOf at bytes k old ram → at + k < length ram → b < 256 →
    b ≡ slice_index bytes k → new ≡ slice_set ram (at + k) b → HasBytesOf at bytes (k + 1) old new
byte_more at bytes k b old ram new h fits small is made =
    record {
      size = ap length made ∙ length-set ram (at + k) b ∙ h.size;
      bytes_are = λ j less.
          let split : (j < k) ⊎ (j ≡ k) = search arith in
          ap (λ r. slice_index r (at + j)) made
          ∙ elim split [
            | inl before ↦ get_or-set_other ram (at + k) (at + j) b 0 (omega arith) ∙ h.bytes_are j before
            | inr same ↦ ap (λ i. slice_index (slice_set ram (at + k) b) (at + i)) same ∙ get_or-set_same ram (at + k) b 0 fits ∙ is ∙ ap (slice_index bytes) (sym same)
          ];
      fit = λ p low high.
          subst (λ r. slice_index r p < 256) (sym made)
          (let split : (p < at + k) ⊎ (p ≡ at + k) = search arith in
          elim split [
            | inl before ↦ subst (λ v. v < 256) (sym (get_or-set_other ram (at + k) p b 0 (omega arith))) (h.fit p low before)
            | inr same ↦ subst (λ v. v < 256) (sym (ap (slice_index (slice_set ram (at + k) b)) same ∙ get_or-set_same ram (at + k) b 0 fits)) small
          ]);
      others = λ p apart.
          ap (λ r. slice_index r p) made
          ∙ get_or-set_other ram (at + k) p b 0 (elim apart [ inl before ↦ omega arith | inr past ↦ omega arith ])
          ∙ h.others p (elim apart [ inl before ↦ inl before | inr past ↦ inr (omega arith) ]);
    }
