-- What a recipe makes of a bench.
use Rattle.std.specs.Prelude.{ℕ, ◌^◌, ◌<◌, Bool, true, false, ◌==◌, bit_and, bit_or, bit_xor, Option, Some, None}
use Rattle.v8_alu.specs.Outcomes.{outcome}
use Rattle.v8_alu.specs.Results.{from_flag}
use Rattle.v8_alu.specs.declared.Op.{Op}
use Rattle.v8_word.specs.declared.Icc.{Icc}
use Rattle.native_lang.specs.Values.{applied}
use Rattle.native_lang.specs.declared.operator.Operator.{Operator}
use Rattle.native_lang.specs.declared.operator.Operator.TheVariants as operators
use Rattle.native_results.specs.Bench.{Bench, Has, laid_out}
use Rattle.native_results.specs.Codes.{coded, turned}
use Rattle.native_results.specs.declared.codes.CodesBy.{CodesBy}
use Rattle.native_results.specs.declared.recipes.OperandsBy.{OperandsBy}
use Rattle.native_results.specs.declared.recipes.OperandsBy.TheVariants.{AsTheyAre, SecondTurned, Stepped}
use Rattle.native_results.specs.declared.recipes.Recipe.{Recipe}

-- ---- operands

abbrev pub with_second_turned : Bench → Bench
with_second_turned k = record k { second = turned k.second }

-- of a multiply step: the second operand where the multiplier's lowest bit is 1
abbrev pub with_added : Bench → Bench
with_added k = record k { second = bit_and k.second (applied operators.Difference 0 (bit_and k.y 1)) }

-- the multiplier moved down by one bit, the partial product's lowest bit in its highest
abbrev pub with_multiplier : Bench → Bench
with_multiplier k =
    record k { y = bit_or (applied operators.ShiftLeft k.first 31) (applied operators.ShiftRight k.y 1) }

-- the partial product moved down by one bit, N xor V in its highest
abbrev pub with_partial : Bench → Bench
with_partial k =
    record k {
      first =
          bit_or (applied operators.ShiftLeft (bit_xor k.n k.v) 31) (applied operators.ShiftRight k.first 1);
    }

abbrev pub prepared : OperandsBy → Bench → Bench
prepared AsTheyAre k = k
prepared SecondTurned k = with_second_turned k
prepared Stepped k = with_partial (with_multiplier (with_added k))

-- ---- the result, Y and the codes

abbrev pub with_result : Operator → Bench → Bench
with_result operator k = record k { result = applied operator k.first k.second }

abbrev pub with_carry_in : Operator → Bool → Bench → Bench
with_carry_in operator false k = k
with_carry_in operator true k = record k { result = applied operator k.result k.c }

abbrev pub with_high : Option Operator → Bench → Bench
with_high None k = k
with_high (Some high) k = record k { y = applied high k.first k.second }

abbrev pub with_codes : Option CodesBy → Bench → Bench
with_codes None k = k
with_codes (Some making) k = coded making k

abbrev pub with_tags : Bool → Bench → Bench
with_tags false k = k
with_tags true k =
    record k { v = bit_or k.v (bit_xor (from_flag (bit_and (bit_or k.first k.second) 3 == 0)) 1) }

abbrev pub followed : Recipe → Bench → Bench
followed r k =
    with_tags r.tags (with_codes r.codes (with_high r.high
    (with_carry_in r.operator r.carry (with_result r.operator (prepared r.operands k)))))

-- Followed on two words, with the codes and Y as they were, it gives what the operation gives.
pub record IsRecipe (op : Op) (r : Recipe) : Type 0 where
  pub gives : (a b y : ℕ) (icc : Icc) (k : Bench) → a < 2 ^ 32 → b < 2 ^ 32 → y < 2 ^ 32 →
      Has (outcome op a b icc y) (followed r (laid_out k a b icc y))
