-- RAM of bytes stays RAM of bytes, and what is loaded from it is a number of its size.
use Rattle.std.proofs.Common.{◌≡◌, ℕ, zero, suc, ◌+◌, ◌-◌, ◌%◌, ◌^◌, ◌<◌, ◌≤◌, ◌⊎◌, inl, inr, Bool, true, false, List, [], ◌∷◌, ◌++◌, take, drop, length}
use Rattle.std.proofs.Common.{Option, Some, None, refl, sym, subst, arith, lit<}
use Rattle.std.specs.Prelude.{slice_index, ◌==◌, ◌&&◌, nat_le, nat_lt, if◌then◌else◌}
use Rattle.std.specs.Option.{option_map_or}
use Rattle.std.specs.Int.{w16, w32, from_be_bytes, to_be_bytes}
use Rattle.std.proofs.lemmas.List.{get_or_append_left, get_or-append_right, get_or-take, get_or-drop, get_or_past, length-take}
use Rattle.std.proofs.lemmas.Option.{same_Some}
use Rattle.v8_core.specs.Size.{Size}
use Rattle.v8_core.specs.Size.TheVariants.{Byte, Half, Word, Double}
use Rattle.v8_core.specs.Meaning.{limit_of}
use Rattle.v8_core.specs.Paths.{marked, marked_ram}
use Rattle.v8_core.specs.Ram.{AreBytes, byte_of, double_of, entry_of, half_of, joined, number_at, with_byte, with_double, with_entry, with_half, with_number}

-- ---- lists of bytes

append_bytes : (xs ys : List ℕ) → AreBytes xs → AreBytes ys → AreBytes (xs ++ ys)
append_bytes xs ys a b i =
    let split : (i < length xs) ⊎ (length xs ≤ i) = search arith in
    elim split [
      | inl less ↦ subst (λ v. v < 256) (sym (get_or_append_left xs ys 0 i less)) (a i)
      | inr past ↦ subst (λ v. v < 256) (sym (get_or-append_right xs ys (length xs) i 0 refl past)) (b (i - length xs))
    ]

take_bytes : (n : ℕ) (xs : List ℕ) → AreBytes xs → AreBytes (take n xs)
take_bytes n xs a i =
    let split : (i < n) ⊎ (n ≤ i) = search arith in
    elim split [
      | inl less ↦ subst (λ v. v < 256) (sym (get_or-take n xs i 0 less)) (a i)
      | inr past ↦ subst (λ v. v < 256) (sym (get_or_past (take n xs) i 0 (omega (arith, length-take n xs)))) (lit< tt)
    ]

drop_bytes : (n : ℕ) (xs : List ℕ) → AreBytes xs → AreBytes (drop n xs)
drop_bytes n xs a i = subst (λ v. v < 256) (sym (get_or-drop n xs i 0)) (a (n + i))

word_bytes : (w : ℕ) → AreBytes (to_be_bytes w32 w)
word_bytes w zero = omega arith
word_bytes w (suc zero) = omega arith
word_bytes w (suc (suc zero)) = omega arith
word_bytes w (suc (suc (suc zero))) = omega arith
word_bytes w (suc (suc (suc (suc i)))) = omega arith

half_bytes : (h : ℕ) → AreBytes (to_be_bytes w16 h)
half_bytes h zero = omega arith
half_bytes h (suc zero) = omega arith
half_bytes h (suc (suc i)) = omega arith

one_byte : (b : ℕ) → b < 256 → AreBytes (b ∷ [])
one_byte b small zero = small
one_byte b small (suc i) = omega arith

-- ---- numbers in the place of others

placed_bytes : (ram bs : List ℕ) (at after : ℕ) → AreBytes ram → AreBytes bs → AreBytes (take at ram ++ bs ++ drop after ram)
placed_bytes ram bs at after a b = append_bytes (take at ram ++ bs) (drop after ram) (append_bytes (take at ram) bs (take_bytes at ram a) b) (drop_bytes after ram a)

entry_bytes : (ram : List ℕ) (at w : ℕ) → AreBytes ram → AreBytes (with_entry ram at w)
unfolding with_entry
entry_bytes ram at w a = placed_bytes ram (to_be_bytes w32 w) at (at + 4) a (word_bytes w)

pub number_bytes : (ram : List ℕ) (at : ℕ) (size : Size) (v : ℕ) → AreBytes ram → v < limit_of size → AreBytes (with_number ram at size v)
unfolding with_byte with_half with_double
number_bytes ram at Byte v a small = placed_bytes ram (v ∷ []) at (at + 1) a (one_byte v small)
number_bytes ram at Half v a small = placed_bytes ram (to_be_bytes w16 v) at (at + 2) a (half_bytes v)
number_bytes ram at Word v a small = entry_bytes ram at v a
number_bytes ram at Double v a small = entry_bytes (with_entry ram at _) (at + 4) _ (entry_bytes ram at _ a)

marks_by : (ram : List ℕ) (at : ℕ) (store : Bool) (o : Option ℕ) → AreBytes ram → AreBytes (option_map_or (λ w. with_entry ram at (marked w store)) o ram)
marks_by ram at store None a = a
marks_by ram at store (Some w) a = entry_bytes ram at (marked w store) a

pub mark_bytes : (ram : List ℕ) (at : ℕ) (store : Bool) → AreBytes ram → AreBytes (marked_ram ram at store)
unfolding marked_ram
mark_bytes ram at store a = marks_by ram at store (entry_of ram at) a

-- ---- numbers that are there

some_fits : (b : Bool) (x v bound : ℕ) → x < bound → (if b then Some x else None) ≡ Some v → v < bound
some_fits true x v bound small e = subst (λ k. k < bound) (same_Some x v e) small
some_fits false x v bound small e = absurd (cc)

four_fit : (bs : List ℕ) → AreBytes bs → from_be_bytes w32 bs < 2 ^ 32
four_fit bs a = let p = a 0 in let q = a 1 in let r = a 2 in let s = a 3 in omega arith

two_fit : (bs : List ℕ) → AreBytes bs → from_be_bytes w16 bs < 2 ^ 16
two_fit bs a = let p = a 0 in let q = a 1 in omega arith

entry_word : (ram : List ℕ) (at v : ℕ) → AreBytes ram → entry_of ram at ≡ Some v → v < 2 ^ 32
unfolding entry_of
entry_word ram at v a e = some_fits (at % 4 == 0 && nat_le (at + 4) (length ram)) _ v (2 ^ 32) (four_fit (take 4 (drop at ram)) (take_bytes 4 (drop at ram) (drop_bytes at ram a))) e

pair_fits : (a b : Option ℕ) (v : ℕ) → ((x : ℕ) → a ≡ Some x → x < 2 ^ 32) → ((x : ℕ) → b ≡ Some x → x < 2 ^ 32) → joined a b ≡ Some v → v < 2 ^ 64
pair_fits (Some x) (Some y) v p q e =
    let high = p x refl in
    let low = q y refl in
    subst (λ k. k < 2 ^ 64) (same_Some _ v e) (omega arith)
pair_fits (Some x) None v p q e = absurd (cc)
pair_fits None b v p q e = absurd (cc)

double_fits : (b : Bool) (o : Option ℕ) (v : ℕ) → (o ≡ Some v → v < 2 ^ 64) → (if b then o else None) ≡ Some v → v < 2 ^ 64
double_fits true o v f e = f e
double_fits false o v f e = absurd (cc)

pub number_fits : (ram : List ℕ) (at : ℕ) (size : Size) (v : ℕ) → AreBytes ram → number_at ram at size ≡ Some v → v < limit_of size
unfolding byte_of half_of double_of
number_fits ram at Byte v a e = some_fits (nat_lt at (length ram)) (slice_index ram at) v 256 (a at) e
number_fits ram at Half v a e = some_fits (at % 2 == 0 && nat_le (at + 2) (length ram)) _ v (2 ^ 16) (two_fit (take 2 (drop at ram)) (take_bytes 2 (drop at ram) (drop_bytes at ram a))) e
number_fits ram at Word v a e = entry_word ram at v a e
number_fits ram at Double v a e = double_fits (at % 8 == 0) _ v (pair_fits (entry_of ram at) (entry_of ram (at + 4)) v (λ x is. entry_word ram at x a is) (λ x is. entry_word ram (at + 4) x a is)) e
