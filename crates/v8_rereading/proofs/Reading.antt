-- What the words of an operand's text are worth.
use Rattle.std.proofs.Common.{◌≡◌, ℕ, suc, ◌+◌, ◌-◌, ◌*◌, ◌/◌, ◌%◌, ◌^◌, ◌<◌, ◌≤◌, Bool, true, false, cond, List, [], ◌∷◌, ◌++◌, refl, ap, ◌∙◌, arith, eqb, ltb}
use Rattle.std.proofs.Common.{leb, Some, Option, Ok, Err, ◌⊎◌, inl, inr, pos, negsuc, neg_ℤ}
use Rattle.std.specs.Prelude.{◌&&◌, ◌||◌}
use Rattle.std.proofs.lemmas.Bool.{cond_both, le-leb, lt-ltb, ltb-true, ltb-false, eq-eqb}
use Rattle.v8_word.specs.Word.{bits_of, sign_extend}
use Rattle.v8_formats.specs.declared.instr.Operand.{Operand}
use Rattle.v8_formats.specs.declared.instr.Operand.TheVariants as operands
use Rattle.v8_forms.specs.declared.part.Range.{Range}
use Rattle.v8_forms.specs.declared.part.Range.TheVariants as ranges
use Rattle.v8_syntax.specs.declared.word.StatementToken.{StatementToken}
use Rattle.v8_syntax.specs.declared.word.StatementToken.TheVariants as words
use Rattle.v8_syntax.specs.declared.word.NameKind.TheVariants as names
use Rattle.v8_syntax.specs.declared.fault.SyntaxFault.{SyntaxFault}
use Rattle.v8_syntax.specs.declared.fault.SyntaxFault.TheVariants.{Immediate, Target}
use Rattle.v8_syntax.specs.declared.expression.Base.TheVariants as bases
use Rattle.v8_syntax.specs.declared.expression.Expression.{Expression}
use Rattle.v8_forms.specs.Text.{number_in, operand_in, sum_bits}
use Rattle.v8_syntax.specs.Statements.{bytes_between, ◌>>=◌, plain, less, expression, added_second, address, second, sum_of, immediate, word_in, in_range, offset_of, distance, reached}
use Rattle.v8_rereading.proofs.Pieces.{OperandIn, signed_words, offset_words, operand_words, added_words}

-- what stands for a word that is read as signed
abbrev pub signed_expression : Bool → ℕ → Expression
signed_expression t n = cond t (plain bases.Number n) (less bases.Number (2 ^ 32 - n))

-- a target by its distance
abbrev pub place_expression : Option ℕ → Bool → ℕ → Expression
place_expression v t n = cond t (plain (bases.Here v) n) (less (bases.Here v) (2 ^ 32 - n))

-- ---- what the numbers are worth

-- a number of some bits, signed, as a word
abbrev pub IsSigned : ℕ → ℕ → Type 0
IsSigned reach n = (n < reach) ⊎ ((2 ^ 32 - reach ≤ n) × (n < 2 ^ 32))

pub signed_is_word : (reach n : ℕ) → reach < 2 ^ 32 → IsSigned reach n → n < 2 ^ 32
signed_is_word reach n small (inl h) = omega arith
signed_is_word reach n small (inr h) = h.1

-- a number of the range
unsigned_in : (high n : ℕ) (fault : SyntaxFault) → n ≤ high → in_range (pos 0) (pos high) fault (pos n) ≡ Ok n
unsigned_in high n fault h =
    ap (λ t. cond (t && leb n high) (Ok n) (Err fault)) (le-leb 0 n (omega arith))
    ∙ ap (λ t. cond t (Ok n) (Err fault)) (le-leb n high h)

positive_in : (low high n : ℕ) (fault : SyntaxFault) → n ≤ high → in_range (negsuc low) (pos high) fault (pos n) ≡ Ok n
positive_in low high n fault h = ap (λ t. cond t (Ok n) (Err fault)) (le-leb n high h)

negative_in : (low high n : ℕ) (fault : SyntaxFault) → n < 2 ^ 32 → 2 ^ 32 - 1 - n ≤ low → in_range (negsuc low) (pos high) fault (neg_ℤ (pos (2 ^ 32 - n))) ≡ Ok n
negative_in low high n fault small h =
    let k : 2 ^ 32 - n ≡ suc (2 ^ 32 - 1 - n) = omega arith in
    let back : 2 ^ 32 - 1 - (2 ^ 32 - 1 - n) ≡ n = omega arith in
    ap (λ m. in_range (negsuc low) (pos high) fault (neg_ℤ (pos m))) k
    ∙ ap (λ t. cond (t && true) (Ok (2 ^ 32 - 1 - (2 ^ 32 - 1 - n))) (Err fault)) (le-leb (2 ^ 32 - 1 - n) low h)
    ∙ ap (λ m. Ok m) back

-- ---- the numbers of a range

abbrev pub In : Range → ℕ → Type 0
In ranges.Signed n = IsSigned 4096 n
In ranges.Count n = n < 32
In ranges.Trap n = n < 128
In ranges.High n = n < 2 ^ 22
In ranges.Space n = n < 2 ^ 8
In ranges.Whole n = ⊥

pub in_word : (range : Range) (n : ℕ) → In range n → n < 2 ^ 32
in_word ranges.Signed n h = signed_is_word 4096 n (omega arith) h
in_word ranges.Count n h = omega arith
in_word ranges.Trap n h = omega arith
in_word ranges.High n h = omega arith
in_word ranges.Space n h = omega arith
in_word ranges.Whole n h = absurd h

signed_by : (t : Bool) (n : ℕ) → (t ≡ true → n < 4096) → (t ≡ false → (2 ^ 32 - 4096 ≤ n) × (n < 2 ^ 32)) → word_in ranges.Signed (signed_expression t n) ≡ Ok n
unfolding word_in
signed_by true n f g = let h = f refl in positive_in 4095 4095 n Immediate (omega arith)
signed_by false n f g = let h = g refl in negative_in 4095 4095 n Immediate h.1 (omega arith)

signed_worth : (n : ℕ) → IsSigned 4096 n → word_in ranges.Signed (signed_expression (ltb n (2 ^ 31)) n) ≡ Ok n
signed_worth n (inl h) = signed_by (ltb n (2 ^ 31)) n (λ _. h) (λ e. let ge = ltb-false n (2 ^ 31) e in absurd (omega arith))
signed_worth n (inr h) = signed_by (ltb n (2 ^ 31)) n (λ e. let lt = ltb-true n (2 ^ 31) e in absurd (omega arith)) (λ _. h)

-- where it is written without a sign
abbrev pub is_unsigned : Range → Bool
is_unsigned ranges.Signed = false
is_unsigned ranges.Whole = false
is_unsigned _ = true

pub unsigned_worth : (range : Range) (n : ℕ) → is_unsigned range ≡ true → In range n → word_in range (plain bases.Number n) ≡ Ok n
unfolding word_in
unsigned_worth ranges.Signed n u h = absurd (cc)
unsigned_worth ranges.Count n u h = unsigned_in 31 n Immediate (omega arith)
unsigned_worth ranges.Trap n u h = unsigned_in 127 n Immediate (omega arith)
unsigned_worth ranges.High n u h = unsigned_in 4194303 n Immediate (omega arith)
unsigned_worth ranges.Space n u h = unsigned_in 255 n Immediate (omega arith)
unsigned_worth ranges.Whole n u h = absurd h

small_worth : (range : Range) (n : ℕ) → is_unsigned range ≡ true → In range n → n < 2 ^ 31 → word_in range (signed_expression (ltb n (2 ^ 31)) n) ≡ Ok n
small_worth range n u h small = ap (λ t. word_in range (signed_expression t n)) (lt-ltb n (2 ^ 31) small) ∙ unsigned_worth range n u h

pub worth : (range : Range) (n : ℕ) → In range n → word_in range (signed_expression (ltb n (2 ^ 31)) n) ≡ Ok n
worth ranges.Signed n h = signed_worth n h
worth ranges.Count n h = small_worth ranges.Count n refl h (omega arith)
worth ranges.Trap n h = small_worth ranges.Trap n refl h (omega arith)
worth ranges.High n h = small_worth ranges.High n refl h (omega arith)
worth ranges.Space n h = small_worth ranges.Space n refl h (omega arith)
worth ranges.Whole n h = absurd h

-- ---- the numbers in a word

extended : (reach n : ℕ) → (t : Bool) → ltb n reach ≡ t → reach < 2 ^ 30 → n < 2 * reach → IsSigned reach (cond t n (n + (2 ^ 32 - 2 * reach)))
extended reach n true e small h = inl (ltb-true n reach e)
extended reach n false e small h = let ge = ltb-false n reach e in inr (omega arith, omega arith)

pub near_in : (w : ℕ) → IsSigned (2 ^ 21) (sign_extend 22 (bits_of w 0 22))
near_in w = extended (2 ^ 21) (bits_of w 0 22) (ltb (bits_of w 0 22) (2 ^ 21)) refl (omega arith) (omega arith)

pub far_in : (w : ℕ) → IsSigned (2 ^ 29) (sign_extend 30 (bits_of w 0 30))
far_in w = extended (2 ^ 29) (bits_of w 0 30) (ltb (bits_of w 0 30) (2 ^ 29)) refl (omega arith) (omega arith)

-- every number but a whole word
abbrev pub is_part : Range → Bool
is_part ranges.Whole = false
is_part _ = true

pub number_inside : (range : Range) (w : ℕ) → is_part range ≡ true → In range (number_in range w)
number_inside ranges.Signed w k = extended 4096 (bits_of w 0 13) (ltb (bits_of w 0 13) 4096) refl (omega arith) (omega arith)
number_inside ranges.Count w k = omega arith
number_inside ranges.Trap w k = omega arith
number_inside ranges.High w k = omega arith
number_inside ranges.Space w k = omega arith
number_inside ranges.Whole w k = absurd (cc)

pub operand_inside : (range : Range) (w : ℕ) → is_part range ≡ true → OperandIn (In range) (operand_in range w)
operand_inside range w k =
    cond_both (eqb (bits_of w 13 1) 1) (operands.Immediate (number_in range w)) (operands.Register (bits_of w 0 5)) (OperandIn (In range)) (λ _. number_inside range w k) (λ _. omega arith)

-- ---- operands and addresses

module _ (values : List ℕ → Option ℕ) (line : List ℕ) where
  signed_read : (range : Range) (t : Bool) (n : ℕ) (ws : List StatementToken)
      → second values line range (signed_words t n ++ ws) ≡ Some (immediate range (signed_expression t n), ws)
  unfolding second expression
  signed_read range true n ws = refl
  signed_read range false n ws = refl

  pub second_read : (range : Range) (o : Operand) (ws : List StatementToken) → OperandIn (In range) o → second values line range (operand_words o ++ ws) ≡ Some (Ok o, ws)
  unfolding second
  second_read range (operands.Register r) ws h = refl
  second_read range (operands.Immediate n) ws h =
      signed_read range (ltb n (2 ^ 31)) n ws ∙ ap (λ r. Some (r >>= λ m. Ok (operands.Immediate m), ws)) (worth range n h)

  offset_read : (range : Range) (rs1 : ℕ) (t : Bool) (n : ℕ) (ws : List StatementToken)
      → address values line range (words.Register rs1 ∷ (offset_words t n ++ ws)) ≡ Some (sum_of rs1 (immediate range (signed_expression t n)), ws)
  unfolding address added_second second expression
  offset_read range rs1 true n ws = refl
  offset_read range rs1 false n ws = refl

  pub address_read : (range : Range) (rs1 : ℕ) (o : Operand) (ws : List StatementToken) → OperandIn (In range) o
      → address values line range (words.Register rs1 ∷ (added_words o ++ ws)) ≡ Some (Ok (sum_bits rs1 o), ws)
  unfolding address added_second second
  address_read range rs1 (operands.Register r) ws h = refl
  address_read range rs1 (operands.Immediate n) ws h =
      offset_read range rs1 (ltb n (2 ^ 31)) n ws ∙ ap (λ r. Some (sum_of rs1 (r >>= λ m. Ok (operands.Immediate m)), ws)) (worth range n h)

  pub target_read : (i j : ℕ) (t : Bool) (n : ℕ)
      → expression values line (words.Name names.Place i j ∷ offset_words t n) ≡ Some (place_expression (values (bytes_between line i j)) t n, [])
  unfolding expression
  target_read i j true n = refl
  target_read i j false n = refl

-- ---- targets

distance_by : (v : Option ℕ) (here : ℕ) (t : Bool) (n : ℕ) → (t ≡ true → n < 2 ^ 31) → (t ≡ false → (2 ^ 31 ≤ n) × (n < 2 ^ 32))
    → distance here (place_expression v t n).base (offset_of (place_expression v t n)) ≡ Ok n
distance_by v here true n f g = let h = f refl in positive_in 2147483647 2147483647 n Target (omega arith)
distance_by v here false n f g = let h = g refl in negative_in 2147483647 2147483647 n Target h.1 (omega arith)

-- a displacement of words, as bytes
abbrev pub bytes_away : ℕ → ℕ
bytes_away d = 4 * d % 2 ^ 32

reached_by : (a b c : Bool) (q : ℕ) → a ≡ true → (b || c) ≡ true → cond (a && (b || c)) (Ok q) (Err Target) ≡ Ok q
reached_by a b c q e f = ap (λ t. cond (t && (b || c)) (Ok q) (Err Target)) e ∙ ap (λ t. cond t (Ok q) (Err Target)) f

or_first : (b c : Bool) → b ≡ true → (b || c) ≡ true
or_first b c e = ap (λ t. t || c) e

or_second : (b c : Bool) → c ≡ true → (b || c) ≡ true
or_second true c e = refl
or_second false c e = e

-- a displacement within reach, in words
near : (reach d : ℕ) → reach ≤ 2 ^ 29 → IsSigned reach d → (ltb (bytes_away d) (4 * reach) || leb (2 ^ 32 - 4 * reach) (bytes_away d)) ≡ true
near reach d small (inl h) = or_first _ _ (lt-ltb (bytes_away d) (4 * reach) (omega arith))
near reach d small (inr h) = or_second (ltb (bytes_away d) (4 * reach)) _ (le-leb (2 ^ 32 - 4 * reach) (bytes_away d) (omega arith))

pub target_value : (reach here d : ℕ) (v : Option ℕ) → reach ≤ 2 ^ 29 → IsSigned reach d
    → (distance here (place_expression v (ltb (bytes_away d) (2 ^ 31)) (bytes_away d)).base (offset_of (place_expression v (ltb (bytes_away d) (2 ^ 31)) (bytes_away d))) >>= reached (4 * reach))
    ≡ Ok (bytes_away d / 4)
target_value reach here d v small h =
    let whole : bytes_away d % 4 ≡ 0 = omega arith in
    ap (λ r. r >>= reached (4 * reach))
    (distance_by v here (ltb (bytes_away d) (2 ^ 31)) (bytes_away d) (λ e. ltb-true (bytes_away d) (2 ^ 31) e)
    (λ e. (ltb-false (bytes_away d) (2 ^ 31) e, omega arith)))
    ∙ reached_by (eqb (bytes_away d % 4) 0) (ltb (bytes_away d) (4 * reach)) (leb (2 ^ 32 - 4 * reach) (bytes_away d)) (bytes_away d / 4)
    (eq-eqb (bytes_away d % 4) 0 whole) (near reach d small h)
