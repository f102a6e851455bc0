-- Where RAM has a number.
use Rattle.std.proofs.Common.{◌≡◌, ℕ, ◌+◌, ◌%◌, ◌<◌, ◌≤◌, Bool, true, false, List, [], ◌∷◌, ◌++◌, take, drop, length, Option, Some, None, IsSome, refl, sym, ap, ◌∙◌, arith}
use Rattle.std.specs.Prelude.{slice_set, ◌==◌, ◌&&◌, nat_le, nat_lt}
use Rattle.std.proofs.lemmas.Bool.Decides.{nat_tests}
use Rattle.std.proofs.lemmas.List.{take-append-drop, take-set, drop-set, append_assoc}
use Rattle.v8_mmu.specs.Ram.{entry_of, with_entry, half_of, byte_of, with_byte, double_of, joined}
use Rattle.v8_mmu.proofs.RamLemmas.{entry_is, within_entry, length-with_entry}

-- a word lies within RAM
pub entry_fits : (ram : List ℕ) (at : ℕ) → IsSome (entry_of ram at) → at + 4 ≤ length ram
unfolding entry_of
entry_fits ram at h = by_test (at % 4 == 0 && nat_le (at + 4) (length ram)) refl
  where
    by_test : (b : Bool) → (at % 4 == 0 && nat_le (at + 4) (length ram)) ≡ b → at + 4 ≤ length ram
    by_test true e = grind (arith, nat_tests)
    by_test false e = let bad : false ≡ true = rw e at h in cc

pub half_fits : (ram : List ℕ) (at : ℕ) → IsSome (half_of ram at) → at + 2 ≤ length ram
unfolding half_of
half_fits ram at h = by_test (at % 2 == 0 && nat_le (at + 2) (length ram)) refl
  where
    by_test : (b : Bool) → (at % 2 == 0 && nat_le (at + 2) (length ram)) ≡ b → at + 2 ≤ length ram
    by_test true e = grind (arith, nat_tests)
    by_test false e = let bad : false ≡ true = rw e at h in cc

pub byte_fits : (ram : List ℕ) (at : ℕ) → IsSome (byte_of ram at) → at < length ram
unfolding byte_of
byte_fits ram at h = by_test (nat_lt at (length ram)) refl
  where
    by_test : (b : Bool) → nat_lt at (length ram) ≡ b → at < length ram
    by_test true e = grind (arith, nat_tests)
    by_test false e = let bad : false ≡ true = rw e at h in cc

both : (a b : Option ℕ) → IsSome (joined a b) → IsSome a × IsSome b
both None None h = let bad : false ≡ true = h in cc
both None (Some y) h = let bad : false ≡ true = h in cc
both (Some x) None h = let bad : false ≡ true = h in cc
both (Some x) (Some y) h = (refl, refl)

pub double_both : (ram : List ℕ) (at : ℕ) → IsSome (double_of ram at) → IsSome (entry_of ram at) × IsSome (entry_of ram (at + 4))
unfolding double_of
double_both ram at h = by_test (at % 8 == 0) refl
  where
    by_test : (b : Bool) → (at % 8 == 0) ≡ b → IsSome (entry_of ram at) × IsSome (entry_of ram (at + 4))
    by_test true e = both (entry_of ram at) (entry_of ram (at + 4)) (rw e at h)
    by_test false e = let bad : false ≡ true = rw e at h in absurd (let worse : ⊥ = cc in worse)

some_of : (o : Option ℕ) → IsSome o → (w : ℕ) × (o ≡ Some w)
some_of None h = let bad : false ≡ true = h in cc
some_of (Some w) h = (w, refl)

some_entry : (ram : List ℕ) (p : ℕ) → IsSome (entry_of ram p) → (w : ℕ) × (entry_of ram p ≡ Some w)
some_entry ram p h = some_of (entry_of ram p) h

-- a word stays where there was one
pub entry_stays : (ram : List ℕ) (at p w : ℕ) → IsSome (entry_of ram at) → IsSome (entry_of ram p) → IsSome (entry_of (with_entry ram at w) p)
entry_stays ram at p w first second =
    let one = some_entry ram p second in
    let at_fits = entry_fits ram at first in
    let is = entry_is ram p one.0 one.1 in
    let size = length-with_entry ram at w at_fits in
    let there : p + 4 ≤ length (with_entry ram at w) = omega (arith, size, is.0.fits) in
    rw (within_entry (with_entry ram at w) p (record { aligned = is.0.aligned; fits = there })) refl

pub double_high : (ram : List ℕ) (at : ℕ) → IsSome (double_of ram at) → IsSome (entry_of ram at)
double_high ram at h = (double_both ram at h).0

pub double_low : (ram : List ℕ) (at w : ℕ) → IsSome (double_of ram at) → IsSome (entry_of (with_entry ram at w) (at + 4))
double_low ram at w h = let each = double_both ram at h in entry_stays ram at (at + 4) w each.0 each.1

pub double_fits : (ram : List ℕ) (at : ℕ) → IsSome (double_of ram at) → at + 8 ≤ length ram
double_fits ram at h = let each = double_both ram at h in let fits = entry_fits ram (at + 4) each.1 in omega arith

pub entry_some_fits : (ram : List ℕ) (at w : ℕ) → Some w ≡ entry_of ram at → at + 4 ≤ length ram
entry_some_fits ram at w e = (entry_is ram at w (sym e)).0.fits

pub ruleset doubles = (double_high, double_low, double_fits)

pub ruleset words = (entry_some_fits, entry_some_fits)

-- a byte that is written
pub byte_written : (ram : List ℕ) (at b : ℕ) → at < length ram → slice_set ram at b ≡ with_byte ram at b
unfolding with_byte
byte_written ram at b less =
    sym (take-append-drop at (slice_set ram at b))
    ∙ ap (λ x. x ++ drop at (slice_set ram at b)) (take-set ram at b)
    ∙ ap (λ x. take at ram ++ x) (drop-set ram at b less)
    ∙ sym (append_assoc (take at ram) (b ∷ []) (drop (at + 1) ram))
