-- Numbers of the block's bytes: what is read after a write, and what the flat machine's memory reads.
use Rattle.std.proofs.Common.{◌≡◌, ◌≢◌, ℕ, zero, suc, ◌+◌, ◌-◌, ◌*◌, ◌%◌, ◌^◌, ◌<◌, ◌≤◌, ◌⊎◌, inl, inr, Bool, true, false}
use Rattle.std.proofs.Common.{List, length, Some, slice_index, slice_set, refl, sym, ap, ◌∙◌, subst, arith}
use Rattle.std.specs.Prelude.{◌&&◌, nat_le, nat_lt, if◌then◌else◌}
use Rattle.std.proofs.lemmas.Bool.Decides.{nat_tests}
use Rattle.std.proofs.lemmas.Grind.{get_or-set_at}
use Rattle.std.proofs.lemmas.List.{get_or-set_other, length-set}
use Rattle.sbx_flat.specs.Memory.{Bytes, byte_of, followed_by, number_at, with_number}
use Rattle.sbx_flat.specs.Runs.{AreBytes}
use Rattle.native_lang.specs.Memory.{number_in, put_in}

-- ---- a number read

-- the memory's number is the block's, where their bytes are the same
pub number_shown : (memory : Bytes) (bytes : List ℕ) (address place count : ℕ) →
    ((i : ℕ) → i < count → memory (address + i) ≡ Some (slice_index bytes (place + i))) → number_at memory address count ≡ Some (number_in bytes place count)
number_shown memory bytes address place zero each = refl
number_shown memory bytes address place (suc count) each =
    ap (λ o. followed_by o (memory (address + count))) (number_shown memory bytes address place count (λ i less. each i (omega arith)))
    ∙ ap (followed_by (Some (number_in bytes place count))) (each count (omega arith))

pub number_same : (one other : List ℕ) (place there count : ℕ) → ((i : ℕ) → i < count → slice_index one (place + i) ≡ slice_index other (there + i)) →
    number_in one place count ≡ number_in other there count
number_same one other place there zero each = refl
number_same one other place there (suc count) each =
    ap (λ n. n * 2 ^ 8 + slice_index one (place + count)) (number_same one other place there count (λ i less. each i (omega arith)))
    ∙ ap (λ b. number_in other there count * 2 ^ 8 + b) (each count (omega arith))

pub small_byte : (bytes : List ℕ) (place : ℕ) → AreBytes bytes → number_in bytes place 1 < 2 ^ 8
small_byte bytes place all = let a = all (place + 0) in omega (arith, a)

pub small_half : (bytes : List ℕ) (place : ℕ) → AreBytes bytes → number_in bytes place 2 < 2 ^ 16
small_half bytes place all = let a = all (place + 0) in let b = all (place + 1) in omega (arith, a, b)

pub small_word : (bytes : List ℕ) (place : ℕ) → AreBytes bytes → number_in bytes place 4 < 2 ^ 32
small_word bytes place all =
    let a = all (place + 0) in let b = all (place + 1) in let c = all (place + 2) in let d = all (place + 3) in omega (arith, a, b, c, d)

-- ---- a number written

pub put_length : (bytes : List ℕ) (place count number k : ℕ) → length (put_in bytes place count number k) ≡ length bytes
put_length bytes place count number zero = refl
put_length bytes place count number (suc k) =
    length-set (put_in bytes place count number k) (place + k) (byte_of count number k) ∙ put_length bytes place count number k

pub put_outside : (bytes : List ℕ) (place count number k j : ℕ) → (j < place) ⊎ (place + k ≤ j) → slice_index (put_in bytes place count number k) j ≡ slice_index bytes j
put_outside bytes place count number zero j out = refl
put_outside bytes place count number (suc k) j out =
    get_or-set_other (put_in bytes place count number k) (place + k) j (byte_of count number k) 0 (apart out)
    ∙ put_outside bytes place count number k j (less out)
  where
    apart : (j < place) ⊎ (place + suc k ≤ j) → j ≢ place + k
    apart (inl low) = λ e. omega (arith, e, low)
    apart (inr high) = λ e. omega (arith, e, high)

    less : (j < place) ⊎ (place + suc k ≤ j) → (j < place) ⊎ (place + k ≤ j)
    less (inl low) = inl low
    less (inr high) = inr (omega arith)

pub put_inside : (bytes : List ℕ) (place count number k i : ℕ) → i < k → place + k ≤ length bytes → slice_index (put_in bytes place count number k) (place + i) ≡ byte_of count number i
put_inside bytes place count number zero i less room = absurd (omega arith)
put_inside bytes place count number (suc k) i less room = by (λ low. put_inside bytes place count number k i low (omega arith)) (search arith)
  where
    size : length (put_in bytes place count number k) ≡ length bytes
    size = put_length bytes place count number k

    by : (i < k → slice_index (put_in bytes place count number k) (place + i) ≡ byte_of count number i) → (i < k) ⊎ (k ≤ i) →
        slice_index (slice_set (put_in bytes place count number k) (place + k) (byte_of count number k)) (place + i) ≡ byte_of count number i
    by before (inl low) =
        get_or-set_other (put_in bytes place count number k) (place + k) (place + i) (byte_of count number k) 0 (λ e. omega (arith, e, low))
        ∙ before low
    by before (inr high) =
        let same : i ≡ k = omega (arith, less, high) in
        subst (λ x. slice_index (slice_set (put_in bytes place count number k) (place + k) (byte_of count number k)) (place + x) ≡ byte_of count number x) (sym same)
        (get_or-set_at (put_in bytes place count number k) (place + k) (place + k) (byte_of count number k) 0 refl (omega (arith, size, room)))

pub put_bytes : (bytes : List ℕ) (place count number k : ℕ) → place + k ≤ length bytes → AreBytes bytes → AreBytes (put_in bytes place count number k)
put_bytes bytes place count number k room all j = by (search arith) (search arith)
  where
    by : (j < place) ⊎ (place ≤ j) → (j < place + k) ⊎ (place + k ≤ j) → slice_index (put_in bytes place count number k) j < 2 ^ 8
    by (inl low) other = let e = put_outside bytes place count number k j (inl low) in let a = all j in omega (arith, e, a)
    by (inr high) (inr past) = let e = put_outside bytes place count number k j (inr past) in let a = all j in omega (arith, e, a)
    by (inr high) (inl less) =
        let i : place + (j - place) ≡ j = omega (arith, high) in
        let e = put_inside bytes place count number k (j - place) (omega (arith, high, less)) room in
        let f : slice_index (put_in bytes place count number k) j ≡ byte_of count number (j - place) = ap (slice_index (put_in bytes place count number k)) (sym i) ∙ e in
        omega (arith, f)

-- a number that doesn't overlap stays
pub put_apart : (bytes : List ℕ) (place count number k there size : ℕ) → (there + size ≤ place) ⊎ (place + k ≤ there) →
    number_in (put_in bytes place count number k) there size ≡ number_in bytes there size
put_apart bytes place count number k there size apart =
    number_same (put_in bytes place count number k) bytes there there size (λ i less. put_outside bytes place count number k (there + i) (out apart i less))
  where
    out : (there + size ≤ place) ⊎ (place + k ≤ there) → (i : ℕ) → i < size → (there + i < place) ⊎ (place + k ≤ there + i)
    out (inl low) i less = inl (omega arith)
    out (inr high) i less = inr (omega arith)

-- a word that is written is read
pub word_back : (bytes : List ℕ) (place number : ℕ) → place + 4 ≤ length bytes → number < 2 ^ 32 → number_in (put_in bytes place 4 number 4) place 4 ≡ number
word_back bytes place number room small =
    let a = put_inside bytes place 4 number 4 0 (omega arith) room in
    let b = put_inside bytes place 4 number 4 1 (omega arith) room in
    let c = put_inside bytes place 4 number 4 2 (omega arith) room in
    let d = put_inside bytes place 4 number 4 3 (omega arith) room in
    joined (slice_index (put_in bytes place 4 number 4) (place + 0)) (slice_index (put_in bytes place 4 number 4) (place + 1))
    (slice_index (put_in bytes place 4 number 4) (place + 2)) (slice_index (put_in bytes place 4 number 4) (place + 3)) a b c d
  where
    joined : (a b c d : ℕ) → a ≡ byte_of 4 number 0 → b ≡ byte_of 4 number 1 → c ≡ byte_of 4 number 2 → d ≡ byte_of 4 number 3 →
        (((0 * 2 ^ 8 + a) * 2 ^ 8 + b) * 2 ^ 8 + c) * 2 ^ 8 + d ≡ number
    joined a b c d e f g h = omega (arith, e, f, g, h, small)

-- ---- a number written to both

-- the flat machine's byte at an address, and the block's
pub written_shown : (memory : Bytes) (bytes : List ℕ) (address place count number a there : ℕ) → place + count ≤ length bytes → there + address ≡ a + place →
    memory a ≡ Some (slice_index bytes there) → with_number memory address count number a ≡ Some (slice_index (put_in bytes place count number count) there)
written_shown memory bytes address place count number a there room shift held = by (nat_le address a && nat_lt a (address + count)) refl
  where
    by : (b : Bool) → (nat_le address a && nat_lt a (address + count)) ≡ b →
        (if b then Some (byte_of count number (a - address)) else memory a) ≡ Some (slice_index (put_in bytes place count number count) there)
    by true e =
        let low : address ≤ a = grind (arith, nat_tests) in
        let high : a < address + count = grind (arith, nat_tests) in
        let same : place + (a - address) ≡ there = omega (arith, low, shift) in
        ap Some (sym (put_inside bytes place count number count (a - address) (omega (arith, low, high)) room)
        ∙ ap (slice_index (put_in bytes place count number count)) same)
    by false e = held ∙ ap Some (sym (put_outside bytes place count number count there (out (search arith) (search arith))))
      where
        inside : address ≤ a → a < address + count → ⊥
        inside low high = grind (arith, nat_tests)

        out : (there < place) ⊎ (place ≤ there) → (there < place + count) ⊎ (place + count ≤ there) → (there < place) ⊎ (place + count ≤ there)
        out (inl low) other = inl low
        out (inr high) (inr past) = inr past
        out (inr high) (inl less) = absurd (inside (omega (arith, shift, high)) (omega (arith, shift, less)))

-- numbers of the same bytes are written alike
pub alike : (memory : Bytes) (address count one other : ℕ) → ((k : ℕ) → k < count → byte_of count one k ≡ byte_of count other k) →
    with_number memory address count one ≡ with_number memory address count other
alike memory address count one other same = λ i a. at a i
  where
    by : (b : Bool) (a : ℕ) → (nat_le address a && nat_lt a (address + count)) ≡ b →
        (if b then Some (byte_of count one (a - address)) else memory a) ≡ (if b then Some (byte_of count other (a - address)) else memory a)
    by true a e =
        let low : address ≤ a = grind (arith, nat_tests) in
        let high : a < address + count = grind (arith, nat_tests) in
        ap Some (same (a - address) (omega (arith, low, high)))
    by false a e = refl

    at : (a : ℕ) → with_number memory address count one a ≡ with_number memory address count other a
    at a = by (nat_le address a && nat_lt a (address + count)) a refl

pub low_byte : (memory : Bytes) (address number : ℕ) → with_number memory address 1 (number % 2 ^ 8) ≡ with_number memory address 1 number
low_byte memory address number = alike memory address 1 (number % 2 ^ 8) number (λ k less. each k less)
  where
    each : (k : ℕ) → k < 1 → byte_of 1 (number % 2 ^ 8) k ≡ byte_of 1 number k
    each zero less = omega arith
    each (suc k) less = absurd (omega arith)

pub low_half : (memory : Bytes) (address number : ℕ) → with_number memory address 2 (number % 2 ^ 16) ≡ with_number memory address 2 number
low_half memory address number = alike memory address 2 (number % 2 ^ 16) number (λ k less. each k less)
  where
    each : (k : ℕ) → k < 2 → byte_of 2 (number % 2 ^ 16) k ≡ byte_of 2 number k
    each zero less = omega arith
    each (suc zero) less = omega arith
    each (suc (suc k)) less = absurd (omega arith)
