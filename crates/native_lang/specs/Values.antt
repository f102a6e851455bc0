-- The values of expressions: words, in the terms of the processor's results.
use Rattle.std.specs.Prelude.{ℕ, ◌+◌, ◌*◌, ◌%◌, ◌^◌, ◌==◌, false, nat_lt, bit_and, bit_or, bit_xor, List, slice_index}
use Rattle.v8_alu.specs.Results.{sum, difference, low_word, high_word, signed_product, from_flag}
use Rattle.v8_alu.specs.Results.{shifted_left, shifted_right, shifted_right_signed}
use Rattle.native_lang.specs.declared.operator.Operator.{Operator}
use Rattle.native_lang.specs.declared.operator.Operator.TheVariants as operators
use Rattle.native_lang.specs.declared.expr.Expr.{Expr}
use Rattle.native_lang.specs.declared.expr.Expr.TheVariants.{Number, Variable, Binary'}

-- all values are words, numbers below 2^32: each operator is a formula of the processor's (v8_alu), modulo 2^32;
-- shl, shr, sar by the low five bits of b; eq, ltu, lts (1 or 0), of which lts is ltu with the signs turned
abbrev pub applied : Operator → ℕ → ℕ → ℕ
applied operators.Sum a b = sum a b false
applied operators.Difference a b = difference a b false
applied operators.Product a b = low_word (a * b)
applied operators.Both a b = bit_and a b
applied operators.Either a b = bit_or a b
applied operators.Differing a b = bit_xor a b
applied operators.ShiftLeft a b = shifted_left a b
applied operators.ShiftRight a b = shifted_right a b
applied operators.ShiftRightSigned a b = shifted_right_signed a b
applied operators.HighProduct a b = high_word (a * b)
applied operators.HighSignedProduct a b = high_word (signed_product a b)
applied operators.Equal a b = from_flag (a == b)
applied operators.Less a b = from_flag (nat_lt a b)
applied operators.LessSigned a b = from_flag (nat_lt ((a + 2 ^ 31) % 2 ^ 32) ((b + 2 ^ 31) % 2 ^ 32))

-- value v (Number w) = w; value v (Variable x) = v x; value v (Both op a b) = ..
abbrev pub value : List ℕ → Expr → ℕ
value v (Number w) = w
value v (Variable x) = slice_index v x
value v (Binary' op p a q b) = applied op (value v a) (value v b)
