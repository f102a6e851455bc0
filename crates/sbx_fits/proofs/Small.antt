-- Results, and what goes to Y, are words.
use Rattle.std.proofs.Common.{◌≡◌, ℕ, ◌-◌, ◌*◌, ◌/◌, ◌%◌, ◌^◌, ◌<◌, false, refl, arith}
use Rattle.std.specs.Prelude.{bit_xor}
use Rattle.std.specs.Int.Bits.{and_lt}
use Rattle.std.proofs.lemmas.Nat.{mod_below, mul-le, or_lt, xor_lt, shr_le}
use Rattle.v8_word.specs.declared.Icc.{Icc}
use Rattle.v8_alu.specs.Outcomes.{complement, outcome}
use Rattle.v8_alu.specs.Results.{high_word, signed_product, step_y}
use Rattle.v8_alu.specs.declared.Op.{Op}
use Rattle.v8_alu.specs.declared.Op.TheVariants.{And, AndCc, Andn, AndnCc, Or, OrCc, Orn, OrnCc, Xor, XorCc, Xnor, XnorCc, Srl, Sra, Umul, UmulCc, Smul, SmulCc, MulsCc}
use Rattle.sbx_range.specs.Table.{writes_y}
use Rattle.sbx_range.proofs.Multiples.{signed_product-below}
use Rattle.sbx_range.proofs.Shifted.{sra-word}

complement_word : (n : ℕ) → complement n < 2 ^ 32
complement_word n = omega arith

word : (n : ℕ) → n % 2 ^ 32 < 2 ^ 32
word n = mod_below n (2 ^ 32) (omega arith)

srl_word : (a k : ℕ) → a < 2 ^ 32 → a / 2 ^ k < 2 ^ 32
srl_word a k p = let e = shr_le a k in omega arith

pub value_word : (op : Op) (a b : ℕ) (icc : Icc) (y : ℕ) → a < 2 ^ 32 → b < 2 ^ 32 → (outcome op a b icc y).value < 2 ^ 32
unfolding outcome
value_word And a b icc y p q = and_lt 32 a b p q
value_word AndCc a b icc y p q = and_lt 32 a b p q
value_word Andn a b icc y p q = and_lt 32 a (complement b) p (complement_word b)
value_word AndnCc a b icc y p q = and_lt 32 a (complement b) p (complement_word b)
value_word Or a b icc y p q = or_lt 32 a b p q
value_word OrCc a b icc y p q = or_lt 32 a b p q
value_word Orn a b icc y p q = or_lt 32 a (complement b) p (complement_word b)
value_word OrnCc a b icc y p q = or_lt 32 a (complement b) p (complement_word b)
value_word Xor a b icc y p q = xor_lt 32 a b p q
value_word XorCc a b icc y p q = xor_lt 32 a b p q
value_word Xnor a b icc y p q = complement_word (bit_xor a b)
value_word XnorCc a b icc y p q = complement_word (bit_xor a b)
value_word Srl a b icc y p q = srl_word a (b % 32) p
value_word Sra a b icc y p q = sra-word a b p
value_word _ a b icc y p q = word _

high_part : (n : ℕ) → n < 2 ^ 64 → high_word n < 2 ^ 32
high_part n h = omega arith

product_below : (x y : ℕ) → x < 2 ^ 32 → y < 2 ^ 32 → x * y < 2 ^ 64
product_below x y p q = let e = mul-le x y (2 ^ 32 - 1) (2 ^ 32 - 1) (omega arith) (omega arith) in omega arith

step_word : (x high : ℕ) → high < 2 ^ 32 → step_y x high < 2 ^ 32
step_word x high h = omega arith

pub y_word : (op : Op) (a b : ℕ) (icc : Icc) (y : ℕ) → a < 2 ^ 32 → b < 2 ^ 32 → y < 2 ^ 32 → (outcome op a b icc y).y < 2 ^ 32
unfolding outcome
y_word Smul a b icc y p q r = high_part (signed_product a b) (signed_product-below a b p q)
y_word SmulCc a b icc y p q r = high_part (signed_product a b) (signed_product-below a b p q)
y_word Umul a b icc y p q r = high_part (a * b) (product_below a b p q)
y_word UmulCc a b icc y p q r = high_part (a * b) (product_below a b p q)
y_word MulsCc a b icc y p q r = step_word a y r
y_word _ a b icc y p q r = r

-- only those that write Y change it
pub same_y : (op : Op) (a b : ℕ) (icc : Icc) (y : ℕ) → writes_y op ≡ false → (outcome op a b icc y).y ≡ y
unfolding outcome
same_y Smul a b icc y h = absurd (cc)
same_y SmulCc a b icc y h = absurd (cc)
same_y Umul a b icc y h = absurd (cc)
same_y UmulCc a b icc y h = absurd (cc)
same_y MulsCc a b icc y h = absurd (cc)
same_y _ a b icc y h = refl
