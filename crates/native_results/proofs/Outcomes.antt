-- Each recipe gives what its operation gives.
use Rattle.std.proofs.Common.{◌≡◌, ℕ, ◌+◌, ◌*◌, ◌/◌, ◌%◌, ◌^◌, ◌<◌, Bool, true, false, Some, None, refl, ap, ◌∙◌, arith}
use Rattle.std.specs.Prelude.{bit_and, bit_or, bit_xor, ◌==◌, if◌then◌else◌}
use Rattle.std.proofs.lemmas.Nat.{and_le_l, or_lt, xor_lt}
use Rattle.v8_word.specs.declared.Icc.{Icc}
use Rattle.v8_alu.specs.declared.Op.TheVariants as ops
use Rattle.v8_alu.specs.Outcomes.{complement, logic_codes, out, outcome}
use Rattle.v8_alu.specs.Results.{difference, difference_codes, from_flag, high_word, is_tagged, low_word, signed_product, step_addend, step_operand, step_y, sum, sum_codes}
use Rattle.native_lang.specs.Values.{applied}
use Rattle.v8_word.specs.Conditions.{differ}
use Rattle.native_lang.specs.declared.operator.Operator.{Operator}
use Rattle.native_lang.specs.declared.operator.Operator.TheVariants as operators
use Rattle.native_results.specs.Bench.{Bench, Has, laid_out}
use Rattle.native_results.specs.Codes.{coded as coded_by, turned as turned_word}
use Rattle.native_results.specs.Recipes.{IsRecipe, followed, prepared}
use Rattle.native_results.specs.declared.codes.CodesBy.{CodesBy}
use Rattle.native_results.specs.declared.codes.CodesBy.TheVariants as by
use Rattle.native_results.specs.declared.recipes.OperandsBy.TheVariants.{AsTheyAre, SecondTurned, Stepped}
use Rattle.native_results.specs.declared.recipes.Recipe.{Recipe}
use Rattle.native_results.proofs.Bits.{borrow, difference_overflow, differencex_borrow, differencex_overflow, differing_flag, either_flag, low_product, majority, negative, step_first, step_multiplier}
use Rattle.native_results.proofs.Bits.{step_second, sum_carry, sum_overflow, sumx_carry, sumx_overflow, tags, turned, turned_differing}

abbrev pub plain : Operator → Recipe
plain operator = record { operands = AsTheyAre; operator = operator; carry = false; high = None; codes = None; tags = false }

abbrev pub product : Operator → Recipe
product high = record { operands = AsTheyAre; operator = operators.Product; carry = false; high = Some high; codes = None; tags = false }

abbrev pub coded : CodesBy → Recipe → Recipe
coded making r = record r { codes = Some making }

abbrev pub carried : Recipe → Recipe
carried r = record r { carry = true }

abbrev pub tagged : Recipe → Recipe
tagged r = record r { tags = true }

abbrev pub stepping : Recipe → Recipe
stepping r = record r { operands = Stepped }

abbrev pub turning : Recipe → Recipe
turning r = record r { operands = SecondTurned }

-- ---- codes of any result

pub by_logic : (k : Bench) (value : ℕ) (icc : Icc) (y : ℕ) → value < 2 ^ 32 → k.result ≡ value → k.y ≡ y → Has (out value (logic_codes value) y) (coded_by by.Logic k)
by_logic k value icc y p e f = record {
  result = e;
  n = ap (λ r. applied operators.LessSigned r 0) e ∙ negative value p;
  z = ap (λ r. from_flag (r == 0)) e;
  v = refl;
  c = refl;
  y = f;
}

and_word : (a b : ℕ) → a < 2 ^ 32 → bit_and a b < 2 ^ 32
and_word a b p = let e = and_le_l a b in omega arith

complement_word : (a : ℕ) → complement a < 2 ^ 32
complement_word a = omega arith

-- ---- sums

with_carry : (a b : ℕ) (c : Bool) → a < 2 ^ 32 → b < 2 ^ 32 → sum (sum a b false) (from_flag c) false ≡ sum a b c
with_carry a b true p q = omega arith
with_carry a b false p q = omega arith

with_borrow : (a b : ℕ) (c : Bool) → a < 2 ^ 32 → b < 2 ^ 32 → difference (difference a b false) (from_flag c) false ≡ difference a b c
with_borrow a b true p q = omega arith
with_borrow a b false p q = omega arith

pub adds : IsRecipe ops.Add (plain operators.Sum)
unfolding outcome
adds = record { gives = λ a b y icc k p q w. record { result = refl; n = refl; z = refl; v = refl; c = refl; y = refl } }

pub adds_coded : IsRecipe ops.AddCc (coded by.Sum (plain operators.Sum))
unfolding outcome
adds_coded = record {
  gives = λ a b y icc k p q w. record {
    result = refl;
    n = negative (sum a b false) (omega arith);
    z = refl;
    v = sum_overflow a b p q;
    c = sum_carry a b p q;
    y = refl;
  };
}

pub adds_carried : IsRecipe ops.Addx (carried (plain operators.Sum))
unfolding outcome
adds_carried = record { gives = λ a b y icc k p q w. record { result = with_carry a b icc.c p q; n = refl; z = refl; v = refl; c = refl; y = refl } }

pub adds_both : IsRecipe ops.AddxCc (coded by.SumWithCarry (carried (plain operators.Sum)))
unfolding outcome
adds_both = record {
  gives = λ a b y icc k p q w.
      let e = with_carry a b icc.c p q in
      record {
        result = e;
        n = ap (λ r. applied operators.LessSigned r 0) e ∙ negative (sum a b icc.c) (omega arith);
        z = ap (λ r. from_flag (r == 0)) e;
        v = ap (λ r. bit_and (bit_xor a r) (bit_xor b r) / 2 ^ 31) e ∙ sumx_overflow a b icc.c p q;
        c = ap (λ r. majority a b (turned_word r) / 2 ^ 31) e ∙ ap (λ r. majority a b r / 2 ^ 31) (turned (sum a b icc.c) (omega arith)) ∙ sumx_carry a b icc.c p q;
        y = refl;
      };
}

pub adds_tagged : IsRecipe ops.TaddCc (tagged (coded by.Sum (plain operators.Sum)))
unfolding outcome
adds_tagged = record {
  gives = λ a b y icc k p q w. record {
    result = refl;
    n = negative (sum a b false) (omega arith);
    z = refl;
    v = ap (λ v. bit_or v (bit_xor (from_flag (bit_and (bit_or a b) 3 == 0)) 1)) (sum_overflow a b p q)
        ∙ ap (bit_or (from_flag (sum_codes a b false).v)) (tags a b) ∙ either_flag (sum_codes a b false).v (is_tagged a b);
    c = sum_carry a b p q;
    y = refl;
  };
}

-- ---- differences

pub subtracts : IsRecipe ops.Sub (plain operators.Difference)
unfolding outcome
subtracts = record { gives = λ a b y icc k p q w. record { result = refl; n = refl; z = refl; v = refl; c = refl; y = refl } }

-- V of N as a comparison
overflow_by_less : (a b : ℕ) → a < 2 ^ 32 → b < 2 ^ 32 →
    bit_xor (applied operators.LessSigned (difference a b false) 0) (applied operators.LessSigned a b) ≡ from_flag (difference_codes a b false).v
overflow_by_less a b p q = ap (λ n. bit_xor n (applied operators.LessSigned a b)) (negative (difference a b false) (omega arith)) ∙ difference_overflow a b p q

pub subtracts_coded : IsRecipe ops.SubCc (coded by.Difference (plain operators.Difference))
unfolding outcome
subtracts_coded = record {
  gives = λ a b y icc k p q w. record {
    result = refl;
    n = negative (difference a b false) (omega arith);
    z = refl;
    v = overflow_by_less a b p q;
    c = borrow a b;
    y = refl;
  };
}

pub subtracts_carried : IsRecipe ops.Subx (carried (plain operators.Difference))
unfolding outcome
subtracts_carried = record { gives = λ a b y icc k p q w. record { result = with_borrow a b icc.c p q; n = refl; z = refl; v = refl; c = refl; y = refl } }

pub subtracts_both : IsRecipe ops.SubxCc (coded by.DifferenceWithBorrow (carried (plain operators.Difference)))
unfolding outcome
subtracts_both = record {
  gives = λ a b y icc k p q w.
      let e = with_borrow a b icc.c p q in
      record {
        result = e;
        n = ap (λ r. applied operators.LessSigned r 0) e ∙ negative (difference a b icc.c) (omega arith);
        z = ap (λ r. from_flag (r == 0)) e;
        v = ap (λ r. bit_and (bit_xor a b) (bit_xor a r) / 2 ^ 31) e ∙ differencex_overflow a b icc.c p q;
        c = ap (λ r. majority (turned_word a) b r / 2 ^ 31) e ∙ ap (λ t. majority t b (difference a b icc.c) / 2 ^ 31) (turned a p) ∙ differencex_borrow a b icc.c p q;
        y = refl;
      };
}

pub subtracts_tagged : IsRecipe ops.TsubCc (tagged (coded by.Difference (plain operators.Difference)))
unfolding outcome
subtracts_tagged = record {
  gives = λ a b y icc k p q w. record {
    result = refl;
    n = negative (difference a b false) (omega arith);
    z = refl;
    v = ap (λ v. bit_or v (bit_xor (from_flag (bit_and (bit_or a b) 3 == 0)) 1)) (overflow_by_less a b p q)
        ∙ ap (bit_or (from_flag (difference_codes a b false).v)) (tags a b) ∙ either_flag (difference_codes a b false).v (is_tagged a b);
    c = borrow a b;
    y = refl;
  };
}

-- ---- logical operations

pub ands : IsRecipe ops.And (plain operators.Both)
unfolding outcome
ands = record { gives = λ a b y icc k p q w. record { result = refl; n = refl; z = refl; v = refl; c = refl; y = refl } }

pub ands_coded : IsRecipe ops.AndCc (coded by.Logic (plain operators.Both))
unfolding outcome
ands_coded = record { gives = λ a b y icc k p q w. by_logic (followed (plain operators.Both) (laid_out k a b icc y)) (bit_and a b) icc y (and_word a b p) refl refl }

pub ands_turned : IsRecipe ops.Andn (turning (plain operators.Both))
unfolding outcome
ands_turned = record { gives = λ a b y icc k p q w. record { result = ap (bit_and a) (turned b q); n = refl; z = refl; v = refl; c = refl; y = refl } }

pub ands_both : IsRecipe ops.AndnCc (coded by.Logic (turning (plain operators.Both)))
unfolding outcome
ands_both = record {
  gives = λ a b y icc k p q w. by_logic (followed (turning (plain operators.Both)) (laid_out k a b icc y)) (bit_and a (complement b)) icc y
      (and_word a (complement b) p) (ap (bit_and a) (turned b q)) refl;
}

pub ors : IsRecipe ops.Or (plain operators.Either)
unfolding outcome
ors = record { gives = λ a b y icc k p q w. record { result = refl; n = refl; z = refl; v = refl; c = refl; y = refl } }

pub ors_coded : IsRecipe ops.OrCc (coded by.Logic (plain operators.Either))
unfolding outcome
ors_coded = record { gives = λ a b y icc k p q w. by_logic (followed (plain operators.Either) (laid_out k a b icc y)) (bit_or a b) icc y (or_lt 32 a b p q) refl refl }

pub ors_turned : IsRecipe ops.Orn (turning (plain operators.Either))
unfolding outcome
ors_turned = record { gives = λ a b y icc k p q w. record { result = ap (bit_or a) (turned b q); n = refl; z = refl; v = refl; c = refl; y = refl } }

pub ors_both : IsRecipe ops.OrnCc (coded by.Logic (turning (plain operators.Either)))
unfolding outcome
ors_both = record {
  gives = λ a b y icc k p q w. by_logic (followed (turning (plain operators.Either)) (laid_out k a b icc y)) (bit_or a (complement b)) icc y
      (or_lt 32 a (complement b) p (complement_word b)) (ap (bit_or a) (turned b q)) refl;
}

pub xors : IsRecipe ops.Xor (plain operators.Differing)
unfolding outcome
xors = record { gives = λ a b y icc k p q w. record { result = refl; n = refl; z = refl; v = refl; c = refl; y = refl } }

pub xors_coded : IsRecipe ops.XorCc (coded by.Logic (plain operators.Differing))
unfolding outcome
xors_coded = record { gives = λ a b y icc k p q w. by_logic (followed (plain operators.Differing) (laid_out k a b icc y)) (bit_xor a b) icc y (xor_lt 32 a b p q) refl refl }

differing : (a b : ℕ) → a < 2 ^ 32 → b < 2 ^ 32 → bit_xor a (turned_word b) ≡ complement (bit_xor a b)
differing a b p q = ap (bit_xor a) (turned b q) ∙ turned_differing a b p q

pub xors_turned : IsRecipe ops.Xnor (turning (plain operators.Differing))
unfolding outcome
xors_turned = record { gives = λ a b y icc k p q w. record { result = differing a b p q; n = refl; z = refl; v = refl; c = refl; y = refl } }

pub xors_both : IsRecipe ops.XnorCc (coded by.Logic (turning (plain operators.Differing)))
unfolding outcome
xors_both = record {
  gives = λ a b y icc k p q w. by_logic (followed (turning (plain operators.Differing)) (laid_out k a b icc y)) (complement (bit_xor a b)) icc y
      (complement_word (bit_xor a b)) (differing a b p q) refl;
}

-- ---- shifts

pub shifts_left : IsRecipe ops.Sll (plain operators.ShiftLeft)
unfolding outcome
shifts_left = record { gives = λ a b y icc k p q w. record { result = refl; n = refl; z = refl; v = refl; c = refl; y = refl } }

pub shifts_right : IsRecipe ops.Srl (plain operators.ShiftRight)
unfolding outcome
shifts_right = record { gives = λ a b y icc k p q w. record { result = refl; n = refl; z = refl; v = refl; c = refl; y = refl } }

pub shifts_signed : IsRecipe ops.Sra (plain operators.ShiftRightSigned)
unfolding outcome
shifts_signed = record { gives = λ a b y icc k p q w. record { result = refl; n = refl; z = refl; v = refl; c = refl; y = refl } }

-- ---- products

pub multiplies : IsRecipe ops.Umul (product operators.HighProduct)
unfolding outcome
multiplies = record { gives = λ a b y icc k p q w. record { result = refl; n = refl; z = refl; v = refl; c = refl; y = refl } }

low_bound : (n : ℕ) → low_word n < 2 ^ 32
low_bound n = omega arith

pub multiplies_coded : IsRecipe ops.UmulCc (coded by.Logic (product operators.HighProduct))
unfolding outcome
multiplies_coded = record {
  gives = λ a b y icc k p q w. by_logic (followed (product operators.HighProduct) (laid_out k a b icc y)) (low_word (a * b)) icc
      (high_word (a * b)) (low_bound (a * b)) refl refl;
}

pub multiplies_signed : IsRecipe ops.Smul (product operators.HighSignedProduct)
unfolding outcome
multiplies_signed = record { gives = λ a b y icc k p q w. record { result = low_product a b p q; n = refl; z = refl; v = refl; c = refl; y = refl } }

pub multiplies_both : IsRecipe ops.SmulCc (coded by.Logic (product operators.HighSignedProduct))
unfolding outcome
multiplies_both = record {
  gives = λ a b y icc k p q w. by_logic (followed (product operators.HighSignedProduct) (laid_out k a b icc y)) (low_word (signed_product a b)) icc
      (high_word (signed_product a b)) (low_bound (signed_product a b)) (low_product a b p q) refl;
}

-- ---- the multiply step

-- a sum with codes of other operands
summed : (k : Bench) (a b y : ℕ) → a < 2 ^ 32 → b < 2 ^ 32 → k.first ≡ a → k.second ≡ b → k.y ≡ y →
    Has (out (sum a b false) (sum_codes a b false) y) (coded_by by.Sum (record k { result = applied operators.Sum k.first k.second }))
summed k a b y p q e f g =
    let r : sum k.first k.second false ≡ sum a b false = ap (λ x. sum x k.second false) e ∙ ap (λ x. sum a x false) f in
    record {
      result = r;
      n = ap (λ r. applied operators.LessSigned r 0) r ∙ negative (sum a b false) (omega arith);
      z = ap (λ r. from_flag (r == 0)) r;
      v = ap (λ r. bit_xor (applied operators.LessSigned r k.first) (applied operators.LessSigned k.second 0)) r
          ∙ ap (λ x. bit_xor (applied operators.LessSigned (sum a b false) x) (applied operators.LessSigned k.second 0)) e
          ∙ ap (λ x. bit_xor (applied operators.LessSigned (sum a b false) a) (applied operators.LessSigned x 0)) f
          ∙ sum_overflow a b p q;
      c = ap (λ r. applied operators.Less r k.first) r ∙ ap (applied operators.Less (sum a b false)) e ∙ sum_carry a b p q;
      y = g;
    }

step_word : (a : ℕ) (icc : Icc) → a < 2 ^ 32 → step_operand a icc < 2 ^ 32
step_word a icc p = by_flag (differ icc.n icc.v)
  where
    by_flag : (d : Bool) → from_flag d * 2 ^ 31 + a / 2 < 2 ^ 32
    by_flag true = omega arith
    by_flag false = omega arith

addend_word : (b y : ℕ) → b < 2 ^ 32 → step_addend b y < 2 ^ 32
addend_word b y q = by_low (y % 2 == 1)
  where
    by_low : (t : Bool) → (if t then b else 0) < 2 ^ 32
    by_low true = q
    by_low false = omega arith

pub steps : IsRecipe ops.MulsCc (coded by.Sum (stepping (plain operators.Sum)))
unfolding outcome
steps = record {
  gives = λ a b y icc k p q w. summed (prepared Stepped (laid_out k a b icc y)) (step_operand a icc) (step_addend b y) (step_y a y) (step_word a icc p) (addend_word b y q)
      (ap (λ t. bit_or (t * 2 ^ 31 % 2 ^ 32) (a / 2)) (differing_flag icc.n icc.v) ∙ step_first (differ icc.n icc.v) a p)
      (step_second b y q) (step_multiplier a y w);
}
