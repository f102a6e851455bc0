-- N, Z, V and C of a result as values of 0 or 1.
use Rattle.std.specs.Prelude.{ℕ, ◌/◌, ◌^◌, bit_and, bit_or, bit_xor}
use Rattle.native_lang.specs.Values.{applied}
use Rattle.native_lang.specs.declared.operator.Operator.TheVariants.{Equal, Less, LessSigned}
use Rattle.native_results.specs.Bench.{Bench}
use Rattle.native_results.specs.declared.codes.CodesBy.{CodesBy}
use Rattle.native_results.specs.declared.codes.CodesBy.TheVariants.{Logic, Sum, SumWithCarry, Difference}
use Rattle.native_results.specs.declared.codes.CodesBy.TheVariants.{DifferenceWithBorrow}

abbrev pub turned : ℕ → ℕ
turned word = bit_xor word 0xFFFFFFFF

-- what both of two words have in their highest bit, or one of them and a third
abbrev pub carried : ℕ → ℕ → ℕ → ℕ
carried a b third = bit_or (bit_and a b) (bit_and (bit_or a b) third) / 2 ^ 31

-- V, of which that of a difference has N already
abbrev pub overflow_by : CodesBy → Bench → ℕ
overflow_by Logic k = 0
overflow_by Sum k = bit_xor (applied LessSigned k.result k.first) (applied LessSigned k.second 0)
overflow_by SumWithCarry k = bit_and (bit_xor k.first k.result) (bit_xor k.second k.result) / 2 ^ 31
overflow_by Difference k = bit_xor k.n (applied LessSigned k.first k.second)
overflow_by DifferenceWithBorrow k = bit_and (bit_xor k.first k.second) (bit_xor k.first k.result) / 2 ^ 31

abbrev pub carry_by : CodesBy → Bench → ℕ
carry_by Logic k = 0
carry_by Sum k = applied Less k.result k.first
carry_by SumWithCarry k = carried k.first k.second (turned k.result)
carry_by Difference k = applied Less k.first k.second
carry_by DifferenceWithBorrow k = carried (turned k.first) k.second k.result

-- one after another
abbrev pub with_negative : Bench → Bench
with_negative k = record k { n = applied LessSigned k.result 0 }

abbrev pub with_zero : Bench → Bench
with_zero k = record k { z = applied Equal k.result 0 }

abbrev pub with_overflow : CodesBy → Bench → Bench
with_overflow making k = record k { v = overflow_by making k }

abbrev pub with_carry : CodesBy → Bench → Bench
with_carry making k = record k { c = carry_by making k }

abbrev pub coded : CodesBy → Bench → Bench
coded making k = with_carry making (with_overflow making (with_zero (with_negative k)))
