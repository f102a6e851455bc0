-- Results and Y are words, where operands and Y are.
use Rattle.std.proofs.Common.{ℕ, ◌-◌, ◌*◌, ◌/◌, ◌%◌, ◌^◌, ◌<◌, ◌≤◌, Bool, true, false, Some, None, arith, rules}
use Rattle.std.specs.Prelude.{IfSome, min, bit_and, bit_xor, ◌==◌, if◌then◌else◌, ℤ}
use Rattle.std.proofs.lemmas.Nat.{and_le_l, or_lt, xor_lt}
use Rattle.std.proofs.Math.Nat.{div-le_self}
use Rattle.v8_word.specs.declared.Icc.{Icc}
use Rattle.v8_alu.specs.Outcomes.{complement, divided, division_of, out, outcome, tagged_codes, tagged_outcome}
use Rattle.v8_alu.specs.Results.{difference, difference_codes, nearest_word, quotient, signed_quotient, sum, sum_codes, shifted_right, signed_product, step_y}
use Rattle.v8_alu.specs.declared.Op.{Op}
use Rattle.v8_alu.specs.declared.Op.TheVariants.{And, AndCc, Andn, AndnCc, Or, OrCc, Orn, OrnCc, Xor, XorCc, Xnor, XnorCc, Srl, Sra, Umul, UmulCc, Smul, SmulCc, MulsCc}
use Rattle.v8_alu.specs.declared.AluOut.{AluOut}
use Rattle.v8_alu.specs.declared.Division.{Division}
use Rattle.v8_alu.specs.declared.Division.TheVariants.{Udiv, UdivCc, Sdiv, SdivCc}
use Rattle.v8_alu.specs.declared.TaggedOp.{TaggedOp}
use Rattle.v8_alu.specs.declared.TaggedOp.TheVariants.{TaggedAdd, TaggedSub}
use Rattle.v8_alu.proofs.Signed.{product_word, shift_word}

and_word : (a b : ℕ) → a < 2 ^ 32 → bit_and a b < 2 ^ 32
and_word a b p = let e = and_le_l a b in omega arith

complement_word : (a : ℕ) → complement a < 2 ^ 32
complement_word a = omega arith

product_double : (a b : ℕ) → a < 2 ^ 32 → b < 2 ^ 32 → a * b < 2 ^ 64
product_double a b p q = grind (arith)

right_word : (a k : ℕ) → a < 2 ^ 32 → shifted_right a k < 2 ^ 32
right_word a k p = let e : a / 2 ^ (k % 32) ≤ a = div-le_self a (2 ^ (k % 32)) in omega arith

step_y_word : (a y : ℕ) → y < 2 ^ 32 → step_y a y < 2 ^ 32
step_y_word a y p = omega arith

abbrev pub AreResults : AluOut → Type 0
AreResults out = (out.value < 2 ^ 32) × (out.y < 2 ^ 32)

pub outcome_words : (op : Op) (a b : ℕ) (f : Icc) (y : ℕ) → a < 2 ^ 32 → b < 2 ^ 32 → y < 2 ^ 32 → AreResults (outcome op a b f y)
unfolding outcome
outcome_words And a b f y p q w = (and_word a b p, w)
outcome_words AndCc a b f y p q w = (and_word a b p, w)
outcome_words Andn a b f y p q w = (and_word a (complement b) p, w)
outcome_words AndnCc a b f y p q w = (and_word a (complement b) p, w)
outcome_words Or a b f y p q w = (or_lt 32 a b p q, w)
outcome_words OrCc a b f y p q w = (or_lt 32 a b p q, w)
outcome_words Orn a b f y p q w = (or_lt 32 a (complement b) p (complement_word b), w)
outcome_words OrnCc a b f y p q w = (or_lt 32 a (complement b) p (complement_word b), w)
outcome_words Xor a b f y p q w = (xor_lt 32 a b p q, w)
outcome_words XorCc a b f y p q w = (xor_lt 32 a b p q, w)
outcome_words Xnor a b f y p q w = (complement_word (bit_xor a b), w)
outcome_words XnorCc a b f y p q w = (complement_word (bit_xor a b), w)
outcome_words Srl a b f y p q w = (right_word a b p, w)
outcome_words Sra a b f y p q w = (shift_word a b p, w)
outcome_words Umul a b f y p q w = let e = product_double a b p q in (omega arith, omega arith)
outcome_words UmulCc a b f y p q w = let e = product_double a b p q in (omega arith, omega arith)
outcome_words Smul a b f y p q w = let e : signed_product a b < 2 ^ 64 = product_word a b p q in (omega arith, omega arith)
outcome_words SmulCc a b f y p q w = let e : signed_product a b < 2 ^ 64 = product_word a b p q in (omega arith, omega arith)
outcome_words MulsCc a b f y p q w = (omega arith, step_y_word a y w)
outcome_words _ a b f y p q w = (omega arith, w)

-- ---- results that there may not be

capped : (n : ℕ) → min n (2 ^ 32 - 1) < 2 ^ 32
capped n = let e : min n (2 ^ 32 - 1) ≤ 2 ^ 32 - 1 = search rules in omega arith

nearest : (z : ℤ) → nearest_word z < 2 ^ 32
nearest z = search rules

divided_words : (op : Division) (a b : ℕ) (f : Icc) (y : ℕ) → y < 2 ^ 32 → AreResults (divided op a b f y)
unfolding divided
divided_words Udiv a b f y w = (capped (quotient y a b), w)
divided_words UdivCc a b f y w = (capped (quotient y a b), w)
divided_words Sdiv a b f y w = (nearest (signed_quotient y a b), w)
divided_words SdivCc a b f y w = (nearest (signed_quotient y a b), w)

none_or : (P : AluOut → Type 0) (b : Bool) (out : AluOut) → P out → IfSome (if b then None else Some out) P
none_or P true out p = tt
none_or P false out p = p

pub division_words : (op : Division) (a b : ℕ) (f : Icc) (y : ℕ) → y < 2 ^ 32 → IfSome (division_of op a b f y) AreResults
division_words op a b f y w = none_or AreResults (b == 0) (divided op a b f y) (divided_words op a b f y w)

pub tagged_words : (op : TaggedOp) (a b : ℕ) (f : Icc) (y : ℕ) → y < 2 ^ 32 → IfSome (tagged_outcome op a b f y) AreResults
unfolding tagged_outcome
tagged_words TaggedAdd a b f y w = none_or AreResults (tagged_codes a b (sum_codes a b false)).v (out (sum a b false) (tagged_codes a b (sum_codes a b false)) y) (omega arith, w)
tagged_words TaggedSub a b f y w = none_or AreResults (tagged_codes a b (difference_codes a b false)).v (out (difference a b false) (tagged_codes a b (difference_codes a b false)) y) (omega arith, w)
