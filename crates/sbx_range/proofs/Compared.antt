-- What the condition codes of a comparison, and of a value, say of words.
use Rattle.std.proofs.Common.{◌≡◌, ◌≢◌, ℕ, ◌^◌, ◌<◌, ◌≤◌, Bool, true, false, ◌||◌, refl, arith, inl, inr, ◌⊎◌}
use Rattle.std.specs.Prelude.{◌==◌, not, nat_le, ℤ, pos, negsuc, ◌-ℤ◌, ◌≤ℤ◌, ◌<ℤ◌}
use Rattle.std.proofs.lemmas.Bool.{false≢true, true≢false}
use Rattle.std.proofs.lemmas.Bool.Decides.{nat_tests, Decides-eqb}
use Rattle.std.proofs.lemmas.Int.{ints}
use Rattle.v8_alu.specs.Conditions.{holds, differ}
use Rattle.v8_alu.specs.Cond.TheVariants.{Less}
use Rattle.v8_alu.specs.Results.{signed, is_signed_word, difference, difference_codes}
use Rattle.sbx_range.proofs.Words.{signed-word, is_signed_word-says}
use Rattle.sbx_range.proofs.Additions.{signed-difference}

pub word-same : (x y : ℕ) → x < 2 ^ 32 → y < 2 ^ 32 → signed x ≡ signed y → x ≡ y
word-same x y p q e = let cx = signed-word x p in let cy = signed-word y q in grind (arith, ints)

-- ---- Z and C

pub zero-says : (x y : ℕ) → x < 2 ^ 32 → y < 2 ^ 32 → (difference_codes x y false).z ≡ true → x ≡ y
zero-says x y p q h = let e : difference x y false ≡ 0 = (Decides-eqb (difference x y false) 0).0 h in omega arith

pub zero-denies : (x y : ℕ) → x < 2 ^ 32 → y < 2 ^ 32 → (difference_codes x y false).z ≡ false → x ≢ y
zero-denies x y p q h e = let d : difference x y false ≡ 0 = omega arith in unequal (difference x y false) h d
  where
    unequal : (n : ℕ) → (n == 0) ≡ false → n ≢ 0
    unequal n h e = grind (arith, nat_tests)

pub carry-says : (x y : ℕ) → (difference_codes x y false).c ≡ true → x < y
carry-says x y h = grind (arith, nat_tests)

pub carry-denies : (x y : ℕ) → (difference_codes x y false).c ≡ false → y ≤ x
carry-denies x y h = grind (arith, nat_tests)

-- ---- N and V

-- the sign of a word is its highest bit
pub sign-true : (w : ℕ) → w < 2 ^ 32 → nat_le (2 ^ 31) w ≡ true → signed w <ℤ pos 0
sign-true w b h = let c = signed-word w b in grind (arith, ints, nat_tests)

pub sign-false : (w : ℕ) → w < 2 ^ 32 → nat_le (2 ^ 31) w ≡ false → pos 0 ≤ℤ signed w
sign-false w b h = let c = signed-word w b in grind (arith, ints, nat_tests)

inexact : (z : ℤ) → is_signed_word z ≡ false → (z <ℤ negsuc 2147483647) ⊎ (pos 2147483647 <ℤ z)
inexact (pos n) h = inr (grind (arith, ints, nat_tests))
inexact (negsuc n) h = inl (grind (arith, ints, nat_tests))

-- a difference of two words that is no signed word has the wrong sign
less-says-at : (x y : ℕ) (n fits : Bool) → x < 2 ^ 32 → y < 2 ^ 32 → nat_le (2 ^ 31) (difference x y false) ≡ n →
    is_signed_word (signed x -ℤ signed y -ℤ pos 0) ≡ fits → differ n (not fits) ≡ true → signed x <ℤ signed y
less-says-at x y true true p q e f h =
    let z = is_signed_word-says (signed x -ℤ signed y -ℤ pos 0) f in
    let low = z.0 in let high = z.1 in
    let d = signed-difference x y p q (omega (arith, ints)) (omega (arith, ints)) in
    let s = sign-true (difference x y false) (omega arith) e in
    omega (arith, ints)
less-says-at x y true false p q e f h = absurd (false≢true h)
less-says-at x y false true p q e f h = absurd (false≢true h)
less-says-at x y false false p q e f h =
    let z = inexact (signed x -ℤ signed y -ℤ pos 0) f in
    let cx = signed-word x p in
    let cy = signed-word y q in
    let cz = signed-word (difference x y false) (omega arith) in
    let s = sign-false (difference x y false) (omega arith) e in
    grind (arith, ints)

pub less-says : (x y : ℕ) → x < 2 ^ 32 → y < 2 ^ 32 → holds Less (difference_codes x y false) ≡ true → signed x <ℤ signed y
less-says x y p q h = less-says-at x y _ _ p q refl refl h

less-denies-at : (x y : ℕ) (n fits : Bool) → x < 2 ^ 32 → y < 2 ^ 32 → nat_le (2 ^ 31) (difference x y false) ≡ n →
    is_signed_word (signed x -ℤ signed y -ℤ pos 0) ≡ fits → differ n (not fits) ≡ false → signed y ≤ℤ signed x
less-denies-at x y true false p q e f h =
    let z = inexact (signed x -ℤ signed y -ℤ pos 0) f in
    let cx = signed-word x p in
    let cy = signed-word y q in
    let cz = signed-word (difference x y false) (omega arith) in
    let s = sign-true (difference x y false) (omega arith) e in
    grind (arith, ints)
less-denies-at x y true true p q e f h = absurd (true≢false h)
less-denies-at x y false false p q e f h = absurd (true≢false h)
less-denies-at x y false true p q e f h =
    let z = is_signed_word-says (signed x -ℤ signed y -ℤ pos 0) f in
    let low = z.0 in let high = z.1 in
    let d = signed-difference x y p q (omega (arith, ints)) (omega (arith, ints)) in
    let s = sign-false (difference x y false) (omega arith) e in
    omega (arith, ints)

pub less-denies : (x y : ℕ) → x < 2 ^ 32 → y < 2 ^ 32 → holds Less (difference_codes x y false) ≡ false → signed y ≤ℤ signed x
less-denies x y p q h = less-denies-at x y _ _ p q refl refl h

-- ---- two flags

pub not-true : (t : Bool) → not t ≡ true → t ≡ false
not-true true h = absurd (cc)
not-true false h = refl

pub either-true : (t u : Bool) → t || u ≡ true → (t ≡ true) ⊎ (u ≡ true)
either-true true u h = inl refl
either-true false u h = inr h

pub neither : (t u : Bool) → t || u ≡ false → (t ≡ false) × (u ≡ false)
neither true u h = absurd (cc)
neither false u h = (refl, h)
