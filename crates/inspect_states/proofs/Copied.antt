-- RAM whose first words were copied.
use Rattle.std.proofs.Common.{◌≡◌, ℕ, ◌+◌, ◌*◌, ◌<◌, ◌≤◌, ◌⊎◌, inl, inr, lit<, List, ◌++◌, length, take, drop, Some, sym, ap, ◌∙◌, subst, arith}
use Rattle.std.specs.Int.{w32, to_be_bytes}
use Rattle.std.proofs.lemmas.List.{drop-take, get_or-drop, get_or-take, get_or_past, length-append, length-drop, length-take-le, take-append-drop, take-take, take_at}
use Rattle.std.proofs.lemmas.Nat.{be_bytes_4}
use Rattle.v8_core.specs.Ram.{AreBytes, entry_of, with_entry}
use Rattle.v8_mmu.proofs.RamLemmas.{entry_is}

-- the first elements, and some more
taken : (n m : ℕ) (xs : List ℕ) → take n xs ++ take m (drop n xs) ≡ take (n + m) xs
taken n m xs =
    let front : take n (take (n + m) xs) ≡ take n xs = take-take n (n + m) xs (omega arith) in
    let back : drop n (take (n + m) xs) ≡ take m (drop n xs) = drop-take n m xs in
    let whole = take-append-drop n (take (n + m) xs) in
    cc

-- the four bytes of a word
four_bytes : (ram : List ℕ) (at : ℕ) → at + 4 ≤ length ram → AreBytes ram → AreBytes (take 4 (drop at ram))
four_bytes ram at fits bytes i =
    let split : (i < 4) ⊎ (4 ≤ i) = search arith in
    elim split [
      | inl inside ↦ subst (λ b. b < 256) (sym (get_or-take 4 (drop at ram) i 0 inside ∙ get_or-drop at ram i 0)) (bytes (at + i))
      | inr past ↦ (let none = get_or_past (take 4 (drop at ram)) i 0 (omega (arith, length-take-le 4 (drop at ram) (omega (arith, length-drop at ram)))) in subst (λ b. b < 256) (sym none) (lit< tt))
    ]

-- one word more
pub copied_more : (k w : ℕ) (source ram new : List ℕ) → AreBytes source → entry_of source (4 * k) ≡ Some w → 4 * k + 4 ≤ length ram
    → take (4 * k) ram ≡ take (4 * k) source → new ≡ with_entry ram (4 * k) w → take (4 * (k + 1)) new ≡ take (4 * (k + 1)) source
unfolding with_entry
copied_more k w source ram new bytes there fits so_far made =
    let at : ℕ = 4 * k in
    let is = entry_is source at w there in
    let n : length (take at ram) ≡ at = length-take-le at ram (omega (arith, fits)) in
    let four : length (take 4 (drop at source)) ≡ 4 = length-take-le 4 (drop at source) (omega (arith, is.0.fits, length-drop at source)) in
    let word : to_be_bytes w32 w ≡ take 4 (drop at source) = be_bytes_4 (take 4 (drop at source)) w four (four_bytes source at is.0.fits bytes) is.1 in
    let m : length (take at ram ++ to_be_bytes w32 w) ≡ at + 4 = omega (arith, length-append (take at ram) (to_be_bytes w32 w), n, ap length word, four) in
    let front : take (at + 4) (take at ram ++ to_be_bytes w32 w ++ drop (at + 4) ram) ≡ take at ram ++ to_be_bytes w32 w = take_at (take at ram ++ to_be_bytes w32 w) (drop (at + 4) ram) (at + 4) m in
    let sum : 4 * (k + 1) ≡ at + 4 = omega arith in
    ap (λ (i : ℕ). take i new) sum ∙ ap (λ (r : List ℕ). take (at + 4) r) made ∙ front
    ∙ ap (λ (t : List ℕ). t ++ to_be_bytes w32 w) so_far ∙ ap (λ (t : List ℕ). take at source ++ t) word ∙ taken at 4 source
    ∙ ap (λ (i : ℕ). take i source) (sym sum)
