-- Eight registers of a window: read, written, joined.
use Rattle.std.proofs.Common.{◌≡◌, ℕ, zero, suc, ◌+◌, ◌-◌, ◌^◌, ◌<◌, ◌≤◌, ◌⊎◌, inl, inr, List, [], ◌∷◌, ◌++◌, length, take, drop, refl, sym, ap, ◌∙◌, arith, lit<}
use Rattle.std.specs.Prelude.{slice_index, slice_set}
use Rattle.std.proofs.lemmas.List.{take_at, drop_at, take_all, length-drop, length-take-le, get_or-take, get_or-drop, get_or_past, drop_more, drop-drop, drop-set-lt, drop-set-add, set_past}
use Rattle.v8_windows.specs.Halves.{eight, IsHalf, AreRegisters}

-- one word more from i on
one_more : (n i j : ℕ) (xs : List ℕ) → j ≡ i + 1 → i < length xs → take (suc n) (drop i xs) ≡ slice_index xs i ∷ take n (drop j xs)
one_more n i j xs e there =
    let next : drop i xs ≡ slice_index xs i ∷ drop (i + 1) xs = drop_more xs i 0 there in
    ap (take (suc n)) next ∙ ap (λ k. slice_index xs i ∷ take n (drop k xs)) (sym e)

-- eight words one by one
pub eight_listed : (at : ℕ) (xs : List ℕ) → at + 8 ≤ length xs →
    slice_index xs at ∷ slice_index xs (at + 1) ∷ slice_index xs (at + 2) ∷ slice_index xs (at + 3) ∷ slice_index xs (at + 4) ∷ slice_index xs (at + 5)
    ∷ slice_index xs (at + 6) ∷ slice_index xs (at + 7) ∷ [] ≡ eight at xs
eight_listed at xs room =
    sym (one_more 7 at (at + 1) xs (omega arith) (omega arith)
    ∙ ap (λ t. slice_index xs at ∷ t) (one_more 6 (at + 1) (at + 2) xs (omega arith) (omega arith)
    ∙ ap (λ t. slice_index xs (at + 1) ∷ t) (one_more 5 (at + 2) (at + 3) xs (omega arith) (omega arith)
    ∙ ap (λ t. slice_index xs (at + 2) ∷ t) (one_more 4 (at + 3) (at + 4) xs (omega arith) (omega arith)
    ∙ ap (λ t. slice_index xs (at + 3) ∷ t) (one_more 3 (at + 4) (at + 5) xs (omega arith) (omega arith)
    ∙ ap (λ t. slice_index xs (at + 4) ∷ t) (one_more 2 (at + 5) (at + 6) xs (omega arith) (omega arith)
    ∙ ap (λ t. slice_index xs (at + 5) ∷ t) (one_more 1 (at + 6) (at + 7) xs (omega arith) (omega arith)
    ∙ ap (λ t. slice_index xs (at + 6) ∷ t) (one_more 0 (at + 7) (at + 8) xs (omega arith) (omega arith)))))))))

-- the eight words of a half, and then others
abbrev pub words_then : List ℕ → List ℕ → List ℕ
words_then xs ys = slice_index xs 0 ∷ slice_index xs 1 ∷ slice_index xs 2 ∷ slice_index xs 3 ∷ slice_index xs 4 ∷ slice_index xs 5 ∷ slice_index xs 6 ∷ slice_index xs 7 ∷ ys

words_then_is : (xs ys : List ℕ) → length xs ≡ 8 → words_then xs ys ≡ xs ++ ys
words_then_is xs ys long =
    let listed : words_then xs [] ≡ eight 0 xs = eight_listed 0 xs (omega (arith, long)) in
    let all : eight 0 xs ≡ xs = take_all 8 xs (omega (arith, long)) in
    ap (λ zs. zs ++ ys) (listed ∙ all)

-- four halves one by one
pub whole_listed : (g o l i : List ℕ) → length g ≡ 8 → length o ≡ 8 → length l ≡ 8 → length i ≡ 8 → words_then g (words_then o (words_then l (words_then i []))) ≡ g ++ (o ++ (l ++ i))
whole_listed g o l i a b c d =
    let listed : words_then i [] ≡ eight 0 i = eight_listed 0 i (omega (arith, d)) in
    let all : eight 0 i ≡ i = take_all 8 i (omega (arith, d)) in
    words_then_is g (words_then o (words_then l (words_then i []))) a
    ∙ ap (λ t. g ++ t) (words_then_is o (words_then l (words_then i [])) b
    ∙ ap (λ t. o ++ t) (words_then_is l (words_then i []) c
    ∙ ap (λ t. l ++ t) (listed ∙ all)))

-- the eights of four halves
pub eight_globals : (g o l i : List ℕ) → length g ≡ 8 → eight 0 (g ++ (o ++ (l ++ i))) ≡ g
eight_globals g o l i a = take_at g (o ++ (l ++ i)) 8 a

pub eight_outs : (g o l i : List ℕ) → length g ≡ 8 → length o ≡ 8 → eight 8 (g ++ (o ++ (l ++ i))) ≡ o
eight_outs g o l i a b = ap (take 8) (drop_at g (o ++ (l ++ i)) 8 a) ∙ take_at o (l ++ i) 8 b

two_dropped : (m n : ℕ) (xs ys zs : List ℕ) → length xs ≡ m → length ys ≡ n → drop (m + n) (xs ++ (ys ++ zs)) ≡ zs
two_dropped m n xs ys zs a b = sym (drop-drop n m (xs ++ (ys ++ zs))) ∙ ap (drop n) (drop_at xs (ys ++ zs) m a) ∙ drop_at ys zs n b

pub eight_locals : (g o l i : List ℕ) → length g ≡ 8 → length o ≡ 8 → length l ≡ 8 → eight 16 (g ++ (o ++ (l ++ i))) ≡ l
eight_locals g o l i a b c = ap (take 8) (two_dropped 8 8 g o (l ++ i) a b) ∙ take_at l i 8 c

pub eight_ins : (g o l i : List ℕ) → length g ≡ 8 → length o ≡ 8 → length l ≡ 8 → length i ≡ 8 → eight 24 (g ++ (o ++ (l ++ i))) ≡ i
eight_ins g o l i a b c d =
    let third : drop 24 (g ++ (o ++ (l ++ i))) ≡ drop 8 (l ++ i) = sym (drop-drop 8 16 (g ++ (o ++ (l ++ i)))) ∙ ap (drop 8) (two_dropped 8 8 g o (l ++ i) a b) in
    let fourth : drop 8 (l ++ i) ≡ i = drop_at l i 8 c in
    ap (take 8) (third ∙ fourth) ∙ take_all 8 i (omega (arith, d))

-- a word of the eight from at on
pub eight_index : (at k : ℕ) (xs : List ℕ) → k < 8 → slice_index (eight at xs) k ≡ slice_index xs (at + k)
eight_index at k xs small = get_or-take 8 (drop at xs) k 0 small ∙ get_or-drop at xs k 0

pub eight_length : (at : ℕ) (xs : List ℕ) → at + 8 ≤ length xs → length (eight at xs) ≡ 8
eight_length at xs room = length-take-le 8 (drop at xs) (omega (arith, length-drop at xs))

pub eight_half : (at : ℕ) (xs : List ℕ) → AreRegisters xs → at + 8 ≤ 32 → IsHalf (eight at xs)
eight_half at xs h room =
    let long : length (eight at xs) ≡ 8 = eight_length at xs (omega (arith, h.count)) in
    record { count = long; fit = fits long }
  where
    fits : length (eight at xs) ≡ 8 → (k : ℕ) → slice_index (eight at xs) k < 2 ^ 32
    fits long k =
        let split : (k < 8) ⊎ (8 ≤ k) = search arith in
        elim split [
          | inl small ↦ rw (eight_index at k xs small) (h.fit (at + k))
          | inr past ↦ let is : slice_index (eight at xs) k ≡ 0 = get_or_past (eight at xs) k 0 (omega (arith, long)) in rw is (lit< tt)
        ]

-- the eights after a write of one word
take_set : (n : ℕ) (xs : List ℕ) (i x : ℕ) → take n (slice_set xs i x) ≡ slice_set (take n xs) i x
take_set zero xs i x = refl
take_set (suc n) [] i x = refl
take_set (suc n) (y ∷ xs) zero x = refl
take_set (suc n) (y ∷ xs) (suc i) x = ap (λ t. y ∷ t) (take_set n xs i x)

pub eight_written : (at r x : ℕ) (xs : List ℕ) → at ≤ r → eight at (slice_set xs r x) ≡ slice_set (eight at xs) (r - at) x
eight_written at r x xs low =
    let e : r ≡ at + (r - at) = omega arith in
    ap (λ k. eight at (slice_set xs k x)) e ∙ ap (take 8) (drop-set-add at xs (r - at) x) ∙ take_set 8 (drop at xs) (r - at) x

pub eight_below : (at r x : ℕ) (xs : List ℕ) → at + 8 ≤ r → at + 8 ≤ length xs → eight at (slice_set xs r x) ≡ eight at xs
eight_below at r x xs above room =
    eight_written at r x xs (omega arith) ∙ set_past (eight at xs) (r - at) x (omega (arith, eight_length at xs room))

pub eight_above : (at r x : ℕ) (xs : List ℕ) → r < at → eight at (slice_set xs r x) ≡ eight at xs
eight_above at r x xs less = ap (take 8) (drop-set-lt at xs r x less)
