-- A number's sign, by a shift up and one down.
use Rattle.std.proofs.Common.{◌≡◌, ℕ, ◌^◌, ◌<◌, arith}
use Rattle.std.proofs.lemmas.Int.{ints}
use Rattle.std.proofs.lemmas.Bool.Decides.{nat_tests}
use Rattle.v8_word.specs.Word.{sign_extend}
use Rattle.v8_alu.specs.Results.{shifted_left, shifted_right_signed}

pub byte_sign : (n : ℕ) → n < 2 ^ 8 → shifted_right_signed (shifted_left n 24) 24 ≡ sign_extend 8 n
byte_sign n small = grind (arith, ints, nat_tests)

pub half_sign : (n : ℕ) → n < 2 ^ 16 → shifted_right_signed (shifted_left n 16) 16 ≡ sign_extend 16 n
half_sign n small = grind (arith, ints, nat_tests)
