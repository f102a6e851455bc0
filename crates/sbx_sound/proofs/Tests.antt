-- What follows from a test for its parts, and for a choice by it.
use Rattle.std.proofs.Common.{◌≡◌, ℕ, ◌<◌, ℤ, Bool, true, false, refl, arith}
use Rattle.std.specs.Prelude.{◌≤ℤ◌, ◌==◌, ◌&&◌, ◌||◌, not, nat_lt, if◌then◌else◌}
use Rattle.std.proofs.lemmas.Bool.Decides.{nat_tests}
use Rattle.std.proofs.lemmas.Int.{by_lt_z}
use Rattle.std.specs.Int.Signed.{clash_ℤ}

pub undone : (x : Bool) → not x ≡ false → x ≡ true
undone true h = refl
undone false h = absurd (cc)

pub and_left : (a b : Bool) → (a && b) ≡ true → a ≡ true
and_left true b h = refl
and_left false b h = absurd (cc)

pub and_right : (a b : Bool) → (a && b) ≡ true → b ≡ true
and_right true b h = h
and_right false b h = absurd (cc)

pub or_left : (a b : Bool) → (a || b) ≡ false → a ≡ false
or_left true b h = absurd (cc)
or_left false b h = refl

pub or_right : (a b : Bool) → (a || b) ≡ false → b ≡ false
or_right true b h = absurd (cc)
or_right false b h = h

-- of two tests, one of which holds
pub and_denied : (a b : Bool) → (a && b) ≡ false → a ≡ true → b ≡ false
and_denied true b h e = h
and_denied false b h e = absurd (cc)

-- a test that is asked and not failed
pub asked_of : (a b : Bool) → (a && not b) ≡ false → a ≡ true → b ≡ true
asked_of true true h e = refl
asked_of true false h e = absurd (cc)
asked_of false b h e = absurd (cc)

pub if_true : (t : Bool) (A : Type 0) (x y : A) → t ≡ true → (if t then x else y) ≡ x
if_true true A x y e = refl
if_true false A x y e = absurd (cc)

pub if_false : (t : Bool) (A : Type 0) (x y : A) → t ≡ false → (if t then x else y) ≡ y
if_false true A x y e = absurd (cc)
if_false false A x y e = refl

pub equal_numbers : (m n : ℕ) → (m == n) ≡ true → m ≡ n
equal_numbers m n e = grind (arith, nat_tests)

pub less_of : (m n : ℕ) → nat_lt m n ≡ true → m < n
less_of m n e = grind (arith, nat_tests)

-- an inequality that isn't refuted
pub at_most : (a b : ℤ) → ((a ≤ℤ b → ⊥) → ⊥) → a ≤ℤ b
at_most a b h = by_lt_z b a (λ less. absurd (h (λ le. clash_ℤ less le))) (λ le. le)
