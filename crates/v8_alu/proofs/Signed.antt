-- The signed product and the signed shift of words are words.
use Rattle.std.proofs.Common.{ℕ, ◌/◌, ◌%◌, ◌^◌, ◌<◌, ◌≤◌, ◌*ℤ◌, arith, rules, unsigned_abs, FitsSigned}
use Rattle.std.specs.Prelude.{ℤ, pos, negsuc}
use Rattle.std.proofs.Math.Nat.{div-le_self}
use Rattle.std.specs.Int.{cast_unsigned, int_div_euclid, w32, w64}
use Rattle.std.proofs.lemmas.Int.{fits_signed_mul}
use Rattle.v8_alu.specs.Results.{shifted_right_signed, signed, signed_product}

small_abs : (a : ℕ) → a < 2 ^ 32 → unsigned_abs (signed a) ≤ 2 ^ 31
small_abs a p = search rules

small_double : (z : ℤ) → FitsSigned w64 z → cast_unsigned w64 z < 2 ^ 64
small_double z f = search rules

pub product_word : (a b : ℕ) → a < 2 ^ 32 → b < 2 ^ 32 → signed_product a b < 2 ^ 64
product_word a b p q = small_double (signed a *ℤ signed b) (fits_signed_mul w64 (signed a) (signed b) (2 ^ 31) (2 ^ 31) (small_abs a p) (small_abs b q) (omega arith))

small_word : (z : ℤ) → FitsSigned w32 z → cast_unsigned w32 z < 2 ^ 32
small_word z f = search rules

signed_fits : (a : ℕ) → a < 2 ^ 32 → FitsSigned w32 (signed a)
signed_fits a p = search rules

quotient_fits : (z : ℤ) (d : ℕ) → FitsSigned w32 z → FitsSigned w32 (int_div_euclid z (pos d))
quotient_fits (pos n) d f = let e : n / d ≤ n = div-le_self n d in let low : n < 2 ^ 31 = grind (arith, f) in grind (arith, e, low)
quotient_fits (negsuc n) d f = let e : n / d ≤ n = div-le_self n d in let low : n < 2 ^ 31 = grind (arith, f) in grind (arith, e, low)

pub shift_word : (a k : ℕ) → a < 2 ^ 32 → shifted_right_signed a k < 2 ^ 32
shift_word a k p = small_word (int_div_euclid (signed a) (pos (2 ^ (k % 32)))) (quotient_fits (signed a) (2 ^ (k % 32)) (signed_fits a p))
