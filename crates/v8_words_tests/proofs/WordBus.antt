-- The bytes of an array of words.
use Rattle.std.proofs.Common.{◌≡◌, ◌≢◌, ℕ, zero, suc, ◌+◌, ◌*◌, ◌/◌, ◌%◌, ◌^◌, ◌<◌, ◌≤◌, true, false, List, [], ◌∷◌, ◌++◌, length, take, drop, Option, Some}
use Rattle.std.proofs.Common.{None, IsSome, refl, sym, ap, ◌∙◌, arith, lit<}
use Rattle.std.specs.Prelude.{slice_index, slice_set, nat_le}
use Rattle.std.specs.Int.{w32, from_be_bytes, to_be_bytes}
use Rattle.std.proofs.lemmas.Bool.Decides.{nat_tests}
use Rattle.std.proofs.lemmas.List.{take_at, drop_at, drop_more, length-append, append_assoc, take-append-drop, length-take-le, set_split}
use Rattle.std.proofs.lemmas.Nat.{from_be_bytes-to_be_bytes_4}
use Rattle.v8_mmu.specs.Ram.{KeepsWords, entry_of, with_entry, HasBytes}
use Rattle.v8_words_tests.specs.WordBus.{bytes_of}
use Rattle.v8_mmu.proofs.RamLemmas.{within_entry, entry_is}
use Rattle.v8_mmu.proofs.RamMore.{entry_elsewhere}

four : (w : ℕ) → length (to_be_bytes w32 w) ≡ 4
four w = refl

pub length-bytes_of : (ws : List ℕ) → length (bytes_of ws) ≡ 4 * length ws
unfolding bytes_of
length-bytes_of [] = refl
length-bytes_of (w ∷ ws) = omega (arith, length-append (to_be_bytes w32 w) (bytes_of ws), four w, length-bytes_of ws)

bytes_of-append : (xs ys : List ℕ) → bytes_of (xs ++ ys) ≡ bytes_of xs ++ bytes_of ys
unfolding bytes_of
bytes_of-append [] ys = refl
bytes_of-append (x ∷ xs) ys = ap (λ r. to_be_bytes w32 x ++ r) (bytes_of-append xs ys) ∙ sym (append_assoc (to_be_bytes w32 x) (bytes_of xs) (bytes_of ys))

split_words : (ws : List ℕ) (i : ℕ) → bytes_of ws ≡ bytes_of (take i ws) ++ bytes_of (drop i ws)
split_words ws i = ap bytes_of (sym (take-append-drop i ws)) ∙ bytes_of-append (take i ws) (drop i ws)

front_long : (ws : List ℕ) (i at : ℕ) → i ≤ length ws → at ≡ 4 * i → length (bytes_of (take i ws)) ≡ at
front_long ws i at less e = omega (arith, length-bytes_of (take i ws), length-take-le i ws less)

drop_words : (ws : List ℕ) (i at : ℕ) → i ≤ length ws → at ≡ 4 * i → drop at (bytes_of ws) ≡ bytes_of (drop i ws)
drop_words ws i at less e = ap (drop at) (split_words ws i) ∙ drop_at (bytes_of (take i ws)) (bytes_of (drop i ws)) at (front_long ws i at less e)

take_words : (ws : List ℕ) (i at : ℕ) → i ≤ length ws → at ≡ 4 * i → take at (bytes_of ws) ≡ bytes_of (take i ws)
take_words ws i at less e = ap (take at) (split_words ws i) ∙ take_at (bytes_of (take i ws)) (bytes_of (drop i ws)) at (front_long ws i at less e)

first_word : (w : ℕ) (ws : List ℕ) → take 4 (bytes_of (w ∷ ws)) ≡ to_be_bytes w32 w
unfolding bytes_of
first_word w ws = refl

-- the word of number i
pub word_there : (ws : List ℕ) (pa i : ℕ) → pa ≡ 4 * i → i < length ws → slice_index ws i < 2 ^ 32 → entry_of (bytes_of ws) pa ≡ Some (slice_index ws i)
word_there ws pa i e less small =
    let whole : pa % 4 ≡ 0 = omega arith in
    let fits : pa + 4 ≤ length (bytes_of ws) = omega (arith, length-bytes_of ws) in
    let rest : drop pa (bytes_of ws) ≡ bytes_of (slice_index ws i ∷ drop (i + 1) ws) = drop_words ws i pa (omega arith) e ∙ ap bytes_of (drop_more ws i 0 less) in
    within_entry (bytes_of ws) pa (record { aligned = whole; fits = fits })
    ∙ ap (λ bs. Some (from_be_bytes w32 (take 4 bs))) rest
    ∙ ap (λ bs. Some (from_be_bytes w32 bs)) (first_word (slice_index ws i) (drop (i + 1) ws))
    ∙ ap Some (from_be_bytes-to_be_bytes_4 (slice_index ws i) small)

pub no_word_aside : (ws : List ℕ) (pa : ℕ) → pa % 4 ≢ 0 → entry_of (bytes_of ws) pa ≡ None
unfolding entry_of
no_word_aside ws pa odd = grind (arith, nat_tests)

pub no_word_past : (ws : List ℕ) (pa : ℕ) → length ws ≤ pa / 4 → entry_of (bytes_of ws) pa ≡ None
unfolding entry_of
no_word_past ws pa past =
    let long = length-bytes_of ws in
    let far : nat_le (pa + 4) (length (bytes_of ws)) ≡ false = grind (arith, nat_tests, long) in
    grind (arith, nat_tests, far)

pub with_word : (ws : List ℕ) (pa i x : ℕ) → pa ≡ 4 * i → i < length ws → with_entry (bytes_of ws) pa x ≡ bytes_of (slice_set ws i x)
unfolding with_entry bytes_of
with_word ws pa i x e less =
    let front = take_words ws i pa (omega arith) e in
    let back : drop (pa + 4) (bytes_of ws) ≡ bytes_of (drop (suc i) ws) = drop_words ws (suc i) (pa + 4) (omega arith) (omega arith) in
    let parts : bytes_of (slice_set ws i x) ≡ bytes_of (take i ws) ++ bytes_of (x ∷ drop (suc i) ws) = ap bytes_of (set_split ws i x less) ∙ bytes_of-append (take i ws) (x ∷ drop (suc i) ws) in
    let one : bytes_of (x ∷ drop (suc i) ws) ≡ to_be_bytes w32 x ++ bytes_of (drop (suc i) ws) = refl in
    ap (λ a. a ++ to_be_bytes w32 x ++ drop (pa + 4) (bytes_of ws)) front
    ∙ ap (λ d. bytes_of (take i ws) ++ to_be_bytes w32 x ++ d) back
    ∙ append_assoc (bytes_of (take i ws)) (to_be_bytes w32 x) (bytes_of (drop (suc i) ws))
    ∙ ap (λ r. bytes_of (take i ws) ++ r) (sym one)
    ∙ sym parts

-- each is a byte
byte_small : (ws : List ℕ) (j : ℕ) → slice_index (bytes_of ws) j < 256
unfolding bytes_of
byte_small [] j = lit< tt
byte_small (w ∷ ws) zero = omega arith
byte_small (w ∷ ws) (suc zero) = omega arith
byte_small (w ∷ ws) (suc (suc zero)) = omega arith
byte_small (w ∷ ws) (suc (suc (suc zero))) = omega arith
byte_small (w ∷ ws) (suc (suc (suc (suc j)))) = byte_small ws j

pub bytes_small : (ws : List ℕ) (pa : ℕ) → HasBytes (bytes_of ws) pa
bytes_small ws pa = (byte_small ws pa, byte_small ws (pa + 1), byte_small ws (pa + 2), byte_small ws (pa + 3))

-- where there is a word, it has a number
pub record HasNumber (ws : List ℕ) (pa : ℕ) : Type 0 where
  pub whole : pa ≡ 4 * (pa / 4)
  pub less : pa / 4 < length ws

number_of : (ws : List ℕ) (pa : ℕ) (o : Option ℕ) → entry_of (bytes_of ws) pa ≡ o → IsSome o → HasNumber ws pa
number_of ws pa None e h = let bad : false ≡ true = h in cc
number_of ws pa (Some w) e h =
    let is = (entry_is (bytes_of ws) pa w e).0 in
    let whole = is.aligned in
    record { whole = omega arith; less = omega (arith, is.fits, length-bytes_of ws) }

pub has_number : (ws : List ℕ) (pa : ℕ) → IsSome (entry_of (bytes_of ws) pa) → HasNumber ws pa
has_number ws pa h = number_of ws pa (entry_of (bytes_of ws) pa) refl h

beside_by : (old new : List ℕ) (at w : ℕ) (o : Option ℕ) → entry_of old at ≡ o → IsSome o → new ≡ with_entry old at w → KeepsWords old new at 4
beside_by old new at w (Some x) is there made = λ p apart. ap (λ r. entry_of r p) made ∙ entry_elsewhere old at p w (entry_is old at x is).0 apart
beside_by old new at w None is there made = λ p apart. let bad : false ≡ true = there in cc

-- a word that was written keeps the words beside it
pub words_beside : (old new : List ℕ) (at w : ℕ) → IsSome (entry_of old at) → new ≡ with_entry old at w → KeepsWords old new at 4
words_beside old new at w there made = beside_by old new at w (entry_of old at) refl there made
