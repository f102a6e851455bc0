-- RAM after a write of a word elsewhere, and what a mark leaves.
use Rattle.std.proofs.Common.{◌≡◌, ℕ, ◌+◌, ◌-◌, ◌/◌, ◌%◌, ◌^◌, ◌<◌, ◌≤◌, ◌⊎◌, inl, inr, Bool, true, false, List, ◌++◌, length, take, drop, Option, Some, None, refl, sym, ap, ◌∙◌, arith}
use Rattle.std.specs.Int.{w32, from_be_bytes, to_be_bytes}
use Rattle.std.specs.Prelude.{◌==◌, ◌&&◌, nat_le, bit_or, slice_index, if◌then◌else◌}
use Rattle.std.proofs.lemmas.List.{take-take, drop-take, take-append-le, drop-append-le, length-take-le, length-append, append_assoc, length-take, length-drop}
use Rattle.std.proofs.lemmas.List.{get_or_append_left, get_or-append_right, get_or-take, get_or-drop}
use Rattle.std.proofs.lemmas.Grind.{same_number_lists}
use Rattle.std.proofs.lemmas.Slice.{drop-append-drop}
use Rattle.std.proofs.lemmas.Nat.{or_shr, or_mod, or_comm}
use Rattle.v8_mmu.specs.Ram.{KeepsWords, entry_of, with_entry}
use Rattle.v8_mmu.specs.Paths.{marked, marked_ram}
use Rattle.v8_mmu.specs.Laws.{Marks}
use Rattle.v8_mmu.proofs.RamLemmas.{Within, entry_is, length-with_entry, entry_of-with_entry, length-marked_ram}

four_before : (at p : ℕ) (ram rest : List ℕ) → at ≤ length ram → p + 4 ≤ at → take 4 (drop p (take at ram ++ rest)) ≡ take 4 (drop p ram)
four_before at p ram rest there before =
    let n : length (take at ram) ≡ at = length-take-le at ram there in
    let a : drop p (take at ram ++ rest) ≡ drop p (take at ram) ++ rest = drop-append-le p (take at ram) rest (omega arith) in
    let sum : p + (at - p) ≡ at = omega arith in
    let b : drop p (take at ram) ≡ take (at - p) (drop p ram) = ap (λ k. drop p (take k ram)) (sym sum) ∙ drop-take p (at - p) ram in
    let m : length (take (at - p) (drop p ram)) ≡ at - p = length-take-le (at - p) (drop p ram) (omega (arith, length-drop p ram)) in
    let c : take 4 (take (at - p) (drop p ram) ++ rest) ≡ take 4 (take (at - p) (drop p ram)) = take-append-le 4 (take (at - p) (drop p ram)) rest (omega arith) in
    let d : take 4 (take (at - p) (drop p ram)) ≡ take 4 (drop p ram) = take-take 4 (at - p) (drop p ram) (omega arith) in
    ap (take 4) (a ∙ ap (λ x. x ++ rest) b) ∙ c ∙ d

-- the four bytes of a place beside n bytes that were written
four_beside : (ram bs : List ℕ) (at n p : ℕ) → length bs ≡ n → at + n ≤ length ram → (p + 4 ≤ at) ⊎ (at + n ≤ p) → take 4 (drop p (take at ram ++ bs ++ drop (at + n) ram)) ≡ take 4 (drop p ram)
four_beside ram bs at n p count there (inl before) =
    let whole : take at ram ++ bs ++ drop (at + n) ram ≡ take at ram ++ (bs ++ drop (at + n) ram) = append_assoc (take at ram) bs (drop (at + n) ram) in
    ap (λ x. take 4 (drop p x)) whole ∙ four_before at p ram (bs ++ drop (at + n) ram) (omega arith) before
four_beside ram bs at n p count there (inr past) =
    let m : length (take at ram) ≡ at = length-take-le at ram (omega arith) in
    let k : length (take at ram ++ bs) ≡ at + n = omega (arith, length-append (take at ram) bs) in
    ap (take 4) (drop-append-drop (at + n) ram (take at ram ++ bs) p past k)

pub four_of : (at p w : ℕ) (ram : List ℕ) → at + 4 ≤ length ram → (p + 4 ≤ at) ⊎ (at + 4 ≤ p) → take 4 (drop p (with_entry ram at w)) ≡ take 4 (drop p ram)
unfolding with_entry
four_of at p w ram there apart = four_beside ram (to_be_bytes w32 w) at 4 p refl there apart

word_by : List ℕ → ℕ → ℕ → Option ℕ
word_by bytes len p = if p % 4 == 0 && nat_le (p + 4) len then Some (from_be_bytes w32 bytes) else None

entry_by : (ram : List ℕ) (p : ℕ) → entry_of ram p ≡ word_by (take 4 (drop p ram)) (length ram) p
unfolding entry_of word_by
entry_by ram p = refl

-- a word stays where its bytes do
word_stays : (old new : List ℕ) (p : ℕ) → length new ≡ length old → take 4 (drop p new) ≡ take 4 (drop p old) → entry_of new p ≡ entry_of old p
word_stays old new p size bytes =
    entry_by new p ∙ ap (λ b. word_by b (length new) p) bytes ∙ ap (λ k. word_by (take 4 (drop p old)) k p) size ∙ sym (entry_by old p)

four_same : (old new : List ℕ) (p : ℕ) → length new ≡ length old → ((j : ℕ) → p ≤ j → j < p + 4 → slice_index new j ≡ slice_index old j) → take 4 (drop p new) ≡ take 4 (drop p old)
four_same old new p size same =
    same_number_lists (take 4 (drop p new)) (take 4 (drop p old))
    (omega (arith, length-take 4 (drop p new), length-take 4 (drop p old), length-drop p new, length-drop p old))
    (λ k less.
    let few : k < 4 = omega (arith, length-take 4 (drop p new)) in
    get_or-take 4 (drop p new) k 0 few ∙ get_or-drop p new k 0 ∙ same (p + k) (omega arith) (omega arith)
    ∙ sym (get_or-drop p old k 0) ∙ sym (get_or-take 4 (drop p old) k 0 few))

-- where all bytes but these stay, so do the words without one of them
pub words_kept : (old new : List ℕ) (at count : ℕ) → length new ≡ length old → ((j : ℕ) → (j < at) ⊎ (at + count ≤ j) → slice_index new j ≡ slice_index old j) → KeepsWords old new at count
words_kept old new at count size same p apart =
    word_stays old new p size
    (four_same old new p size (λ j low high. same j (elim apart [ inl before ↦ inl (omega arith) | inr past ↦ inr (omega arith) ])))

-- a word elsewhere stays
pub entry_elsewhere : (ram : List ℕ) (at p w : ℕ) → Within ram at → (p + 4 ≤ at) ⊎ (at + 4 ≤ p) → entry_of (with_entry ram at w) p ≡ entry_of ram p
entry_elsewhere ram at p w there apart = word_stays ram (with_entry ram at w) p (length-with_entry ram at w there.fits) (four_of at p w ram there.fits apart)

-- a word beside n bytes that were written
pub entry_beside : (ram bs : List ℕ) (at n p : ℕ) → length bs ≡ n → at + n ≤ length ram → (p + 4 ≤ at) ⊎ (at + n ≤ p) →
    length (take at ram ++ bs ++ drop (at + n) ram) ≡ length ram → entry_of (take at ram ++ bs ++ drop (at + n) ram) p ≡ entry_of ram p
entry_beside ram bs at n p count there apart size = word_stays ram (take at ram ++ bs ++ drop (at + n) ram) p size (four_beside ram bs at n p count there apart)

-- ---- bytes

-- a byte before, among and after n bytes that were written
pub byte_before : (ram bs : List ℕ) (at n j : ℕ) → at + n ≤ length ram → j < at → slice_index (take at ram ++ bs ++ drop (at + n) ram) j ≡ slice_index ram j
byte_before ram bs at n j fits less =
    let m : length (take at ram) ≡ at = length-take-le at ram (omega arith) in
    let here : j < length (take at ram) = omega arith in
    let wide : j < length (take at ram ++ bs) = omega (arith, length-append (take at ram) bs) in
    get_or_append_left (take at ram ++ bs) (drop (at + n) ram) 0 j wide ∙ get_or_append_left (take at ram) bs 0 j here ∙ get_or-take at ram j 0 less

pub byte_among : (ram bs : List ℕ) (at n j : ℕ) → length bs ≡ n → at + n ≤ length ram → at ≤ j → j < at + n → slice_index (take at ram ++ bs ++ drop (at + n) ram) j ≡ slice_index bs (j - at)
byte_among ram bs at n j count fits low high =
    let m : length (take at ram) ≡ at = length-take-le at ram (omega arith) in
    let wide : j < length (take at ram ++ bs) = omega (arith, length-append (take at ram) bs) in
    get_or_append_left (take at ram ++ bs) (drop (at + n) ram) 0 j wide ∙ get_or-append_right (take at ram) bs at j 0 m low

pub byte_after : (ram bs : List ℕ) (at n j : ℕ) → length bs ≡ n → at + n ≤ length ram → at + n ≤ j → slice_index (take at ram ++ bs ++ drop (at + n) ram) j ≡ slice_index ram j
byte_after ram bs at n j count fits past =
    let m : length (take at ram) ≡ at = length-take-le at ram (omega arith) in
    let k : length (take at ram ++ bs) ≡ at + n = omega (arith, length-append (take at ram) bs) in
    let e : at + n + (j - (at + n)) ≡ j = omega arith in
    get_or-append_right (take at ram ++ bs) (drop (at + n) ram) (at + n) j 0 k past ∙ get_or-drop (at + n) ram (j - (at + n)) 0 ∙ ap (slice_index ram) e

pub byte_elsewhere : (ram bs : List ℕ) (at n j : ℕ) → length bs ≡ n → at + n ≤ length ram → (j < at) ⊎ (at + n ≤ j) → slice_index (take at ram ++ bs ++ drop (at + n) ram) j ≡ slice_index ram j
byte_elsewhere ram bs at n j count fits (inl less) = byte_before ram bs at n j fits less
byte_elsewhere ram bs at n j count fits (inr past) = byte_after ram bs at n j count fits past

-- the bytes beside a word stay
pub byte_beside_entry : (ram : List ℕ) (at w j : ℕ) → at + 4 ≤ length ram → (j < at) ⊎ (at + 4 ≤ j) → slice_index (with_entry ram at w) j ≡ slice_index ram j
unfolding with_entry
byte_beside_entry ram at w j fits apart = byte_elsewhere ram (to_be_bytes w32 w) at 4 j refl fits apart

-- ---- marks

or_none : (a : ℕ) → bit_or a 0 ≡ a
or_none a = or_comm a 0

-- the bits 5 and 6 alone
pub marked_high : (w : ℕ) (store : Bool) → marked w store / 2 ^ 7 ≡ w / 2 ^ 7
marked_high w true = or_shr (bit_or w 32) 64 7 ∙ or_none (bit_or w 32 / 2 ^ 7) ∙ or_shr w 32 7 ∙ or_none (w / 2 ^ 7)
marked_high w false = or_shr (bit_or w 32) 0 7 ∙ or_none (bit_or w 32 / 2 ^ 7) ∙ or_shr w 32 7 ∙ or_none (w / 2 ^ 7)

pub marked_low : (w : ℕ) (store : Bool) → marked w store % 2 ^ 5 ≡ w % 2 ^ 5
marked_low w true = or_mod (bit_or w 32) 64 5 ∙ or_none (bit_or w 32 % 2 ^ 5) ∙ or_mod w 32 5 ∙ or_none (w % 2 ^ 5)
marked_low w false = or_mod (bit_or w 32) 0 5 ∙ or_none (bit_or w 32 % 2 ^ 5) ∙ or_mod w 32 5 ∙ or_none (w % 2 ^ 5)

pub marked_small : (w : ℕ) (store : Bool) → w < 2 ^ 32 → marked w store < 2 ^ 32
marked_small w store small = omega (arith, marked_high w store)

-- bits 0 and 1 of a number
or_one : (a : ℕ) → bit_or a 1 % 2 ≡ 1
or_one a =
    let split : (a % 2 < 1) ⊎ (1 ≤ a % 2) = search arith in
    let both : bit_or a 1 % 2 ^ 1 ≡ bit_or (a % 2 ^ 1) (1 % 2 ^ 1) = or_mod a 1 1 in
    elim split [
      | inl less ↦ let e : a % 2 ≡ 0 = omega arith in both ∙ ap (λ x. bit_or x 1) e
      | inr more ↦ let e : a % 2 ≡ 1 = omega arith in both ∙ ap (λ x. bit_or x 1) e
    ]

pub marked_referenced : (w : ℕ) (store : Bool) → marked w store / 2 ^ 5 % 2 ≡ 1
marked_referenced w true =
    ap (λ x. x % 2) (or_shr (bit_or w 32) 64 5) ∙ or_mod (bit_or w 32 / 2 ^ 5) 2 1 ∙ or_none (bit_or w 32 / 2 ^ 5 % 2 ^ 1) ∙ ap (λ x. x % 2) (or_shr w 32 5) ∙ or_one (w / 2 ^ 5)
marked_referenced w false =
    ap (λ x. x % 2) (or_shr (bit_or w 32) 0 5 ∙ or_none (bit_or w 32 / 2 ^ 5) ∙ or_shr w 32 5) ∙ or_one (w / 2 ^ 5)

pub marked_modified : (w : ℕ) (store : Bool) → marked w store / 2 ^ 6 % 2 ≡ (if store then 1 else w / 2 ^ 6 % 2)
marked_modified w true = ap (λ x. x % 2) (or_shr (bit_or w 32) 64 6) ∙ or_one (bit_or w 32 / 2 ^ 6)
marked_modified w false = ap (λ x. x % 2) (or_shr (bit_or w 32) 0 6 ∙ or_none (bit_or w 32 / 2 ^ 6) ∙ or_shr w 32 6 ∙ or_none (w / 2 ^ 6))

pub marked_is : (ram : List ℕ) (at w : ℕ) (store : Bool) → entry_of ram at ≡ Some w → marked_ram ram at store ≡ with_entry ram at (marked w store)
unfolding marked_ram
marked_is ram at w store e = rw e refl

pub marks : (ram : List ℕ) (at w : ℕ) (store : Bool) → entry_of ram at ≡ Some w → w < 2 ^ 32 → Marks ram at w store
marks ram at w store e small =
    let there = (entry_is ram at w e).0 in
    let is = marked_is ram at w store e in
    record {
      entry = ap (λ r. entry_of r at) is ∙ entry_of-with_entry ram at (marked w store) there (marked_small w store small);
      referenced = marked_referenced w store;
      modified = marked_modified w store;
      above = marked_high w store;
      below = marked_low w store;
      size = length-marked_ram ram at store;
      others = λ j apart. ap (λ r. slice_index r j) is ∙ byte_beside_entry ram at (marked w store) j there.fits apart;
      words = λ p apart. ap (λ r. entry_of r p) is ∙ entry_elsewhere ram at p (marked w store) there apart;
    }
