-- The magnitude of a product.
use Rattle.std.proofs.Common.{arith, sym, subst, ◌^◌, ◌*◌, ◌*ℤ◌, ◌≤◌, ℕ, ℤ, unsigned_abs}
use Rattle.std.proofs.lemmas.Int.{unsigned_abs-mul}

times_within : (a b : ℕ) → a ≤ 2 ^ 31 → b ≤ 2 ^ 40 → a * b ≤ 2 ^ 72
times_within a b p q = grind arith

pub product_within : (x y : ℤ) → unsigned_abs x ≤ 2 ^ 31 → unsigned_abs y ≤ 2 ^ 40 → unsigned_abs (x *ℤ y) ≤ 2 ^ 72
product_within x y p q = subst (λ (n : ℕ). n ≤ 2 ^ 72) (sym (unsigned_abs-mul x y)) (times_within (unsigned_abs x) (unsigned_abs y) p q)
