-- How many instructions a statement takes doesn't hang on what its names are worth.
use Rattle.std.proofs.Common.{◌≡◌, ℕ, ◌^◌, ℤ, Bool, true, false, cond, List, [], ◌∷◌, length, refl, sym, ap, subst, ◌∙◌, Some, Option, None, Result, Ok, Err, pos}
use Rattle.std.specs.Prelude.{MatchResult, ◌&&◌, ◌+ℤ◌, int_le, codes}
use Rattle.std.specs.Option.{option_map, option_and_then, option_map_or, option_or}
use Rattle.std.specs.Str.{bytes_eq}
use Rattle.std.proofs.lemmas.Bool.{cond_both}
use Rattle.v8_formats.specs.declared.instr.Instr.{Instr}
use Rattle.v8_formats.specs.Table.{meaning}
use Rattle.v8_forms.specs.declared.part.Range.TheVariants as ranges
use Rattle.v8_syntax.specs.declared.word.StatementToken.{StatementToken}
use Rattle.v8_syntax.specs.declared.word.StatementToken.TheVariants as words
use Rattle.v8_syntax.specs.declared.word.NameKind.{NameKind}
use Rattle.v8_syntax.specs.declared.word.NameKind.TheVariants as names
use Rattle.v8_syntax.specs.declared.fault.SyntaxFault.{SyntaxFault}
use Rattle.v8_syntax.specs.declared.fault.SyntaxFault.TheVariants.{Immediate, Shape, UnknownMnemonic, UnknownSymbol}
use Rattle.v8_syntax.specs.declared.expression.Base.{Base}
use Rattle.v8_syntax.specs.declared.expression.Base.TheVariants as bases
use Rattle.v8_syntax.specs.declared.expression.Expression.{Expression}
use Rattle.v8_forms.specs.Forms.{forms, least, greatest}
use Rattle.v8_syntax.specs.Statements.{bytes_between, statement_tokens, ◌>>=◌, end, read_behind, plain, less, moved, number_first, register_first, named_expression}
use Rattle.v8_syntax.specs.Statements.{expression, word_in, in_range, of_bits, offset_of, set, set_operands, set_instructions, is_symbolic, first_of}
use Rattle.v8_syntax.specs.Statements.{named_meaning, count_of, name_first}
use Rattle.v8_rereading.specs.Laws.{CountsInstructions, IsNoStatement}

-- ---- the operands of `set`, without what their names are worth

abbrev base_of : Base → Base
base_of bases.Number = bases.Number
base_of (bases.Symbol v) = bases.Symbol None
base_of (bases.Here v) = bases.Here None

abbrev bare : Expression → Expression
bare e = record { base = base_of e.base; negative = e.negative; number = e.number }

abbrev read_as : {B : Type 0} → Expression × B → Expression × B
read_as x = (bare x.0, x.1)

-- the operands of `set`, and the words after them
abbrev Operands : Type 0
Operands = (Expression × ℕ) × List StatementToken

abbrev set_as : Operands → Operands
set_as x = (read_as x.0, x.1)

-- readings, and these without what their names are worth
mapped : {A B C : Type 0} (f : B → C) (o : Option A) (g : A → B) (g' : A → C) → ((a : A) → g' a ≡ f (g a)) → option_map g' o ≡ option_map f (option_map g o)
mapped f (Some a) g g' h = ap (λ x. Some x) (h a)
mapped f None g g' h = refl

or_mapped : {B C : Type 0} (f : B → C) (o p : Option B) (o' p' : Option C) → o' ≡ option_map f o → p' ≡ option_map f p → option_or o' p' ≡ option_map f (option_or o p)
or_mapped f (Some b) p o' p' h e = ap (λ r. option_or r p') h
or_mapped f None p o' p' h e = ap (λ r. option_or r p') h ∙ e

then_over : {A B C : Type 0} (f : B → C) (o : Option A) (g : A → Option B) (g' : A → Option C) → ((a : A) → g' a ≡ option_map f (g a)) → option_and_then g' o ≡ option_map f (option_and_then g o)
then_over f (Some a) g g' h = h a
then_over f None g g' h = refl

then_both : {A A' B C : Type 0} (f : B → C) (k : A → A') (o : Option A) (o' : Option A') (g : A → Option B) (g' : A' → Option C)
    → o' ≡ option_map k o → ((a : A) → g' (k a) ≡ option_map f (g a)) → option_and_then g' o' ≡ option_map f (option_and_then g o)
then_both f k (Some a) o' g g' same h = ap (option_and_then g') same ∙ h a
then_both f k None o' g g' same h = ap (option_and_then g') same

moved_bare : (kind : NameKind) (v : Option ℕ) → moved kind None ≡ base_of (moved kind v)
moved_bare names.Place v = refl
moved_bare names.Annul v = refl
moved_bare names.Plain v = refl

named_bare : (kind : NameKind) (v : Option ℕ) (rest : List StatementToken) → named_expression kind None rest ≡ option_map read_as (named_expression kind v rest)
named_bare kind v rest =
    or_mapped read_as _ _ _ _
    (or_mapped read_as _ _ _ _
    (mapped read_as (read_behind 43 number_first rest) _ _ (λ x. ap (λ b. (plain b x.0, x.1)) (moved_bare kind v)))
    (mapped read_as (read_behind 45 number_first rest) _ _ (λ x. ap (λ b. (less b x.0, x.1)) (moved_bare kind v)))) refl

module _ (values : List ℕ → Option ℕ) (line : List ℕ) where
  expression_bare : (ws : List StatementToken) → expression (λ _. None) line ws ≡ option_map read_as (expression values line ws)
  unfolding expression
  expression_bare (words.Number n ∷ ws) = refl
  expression_bare (words.Name kind i j ∷ ws) = named_bare kind (values (bytes_between line i j)) ws
  expression_bare (words.Sign c ∷ ws) = mapped read_as (read_behind 45 number_first (words.Sign c ∷ ws)) _ _ (λ x. refl)
  expression_bare _ = refl

  set_bare : (ws : List StatementToken) → set_operands (λ _. None) line ws ≡ option_map set_as (set_operands values line ws)
  unfolding set_operands
  set_bare ws =
      then_both set_as read_as (expression values line ws) (expression (λ _. None) line ws) _ _ (expression_bare ws)
      (λ x. then_over set_as (read_behind 44 register_first x.1) _ _ (λ y. mapped set_as (end y.1) _ _ (λ z. refl)))

-- ---- `set`

-- so many instructions are made, and one is counted where there is no statement
abbrev Counts : Result (List Instr) SyntaxFault → ℕ → Type 0
Counts r n = MatchResult r (λ is. length is ≡ n) (λ f. IsNoStatement f → n ≡ 1)

counts_itself : (r : Result (List Instr) SyntaxFault) → Counts r (count_of r)
counts_itself (Ok is) = refl
counts_itself (Err UnknownSymbol) = λ k. absurd k
counts_itself (Err _) = λ _. refl

abbrev made : Bool → ℕ → Result ℕ SyntaxFault → Result (List Instr) SyntaxFault
made symbolic rd r = r >>= λ w. Ok (set_instructions symbolic w rd)

-- a value has no fault of shape
abbrev IsValue : Result ℕ SyntaxFault → Type 0
IsValue r = MatchResult r (λ _. Unit {0}) (λ f. IsNoStatement f → ⊥)

range_is_value : (low high z : ℤ) → IsValue (in_range low high Immediate z)
range_is_value low high z = cond_both (int_le low z && int_le z high) (Ok (of_bits (2 ^ 32) z)) (Err Immediate) IsValue (λ _. tt) (λ _ k. k)

symbol_counts : (rd : ℕ) (r : Result ℕ SyntaxFault) → IsValue r → Counts (made true rd r) 2
symbol_counts rd (Ok w) h = refl
symbol_counts rd (Err f) h = λ k. absurd (h k)

abbrev based_on : Base → Bool → ℕ → Expression
based_on b negative n = record { base = b; negative = negative; number = n }

abbrev made_of : Expression → ℕ → Result (List Instr) SyntaxFault
made_of e rd = made (is_symbolic e.base) rd (word_in ranges.Whole e)

base_counts : (b : Base) (negative : Bool) (n rd : ℕ) → Counts (made_of (based_on b negative n) rd) (count_of (made_of (bare (based_on b negative n)) rd))
unfolding word_in
base_counts bases.Number negative n rd = counts_itself (made_of (based_on bases.Number negative n) rd)
base_counts (bases.Symbol (Some v)) negative n rd =
    let z : ℤ = offset_of (based_on bases.Number negative n) in
    symbol_counts rd (in_range (least ranges.Whole) (greatest ranges.Whole) Immediate (pos v +ℤ z)) (range_is_value (least ranges.Whole) (greatest ranges.Whole) (pos v +ℤ z))
base_counts (bases.Symbol None) negative n rd = λ k. absurd k
base_counts (bases.Here (Some v)) negative n rd =
    let z : ℤ = offset_of (based_on bases.Number negative n) in
    symbol_counts rd (in_range (least ranges.Whole) (greatest ranges.Whole) Immediate (pos v +ℤ z)) (range_is_value (least ranges.Whole) (greatest ranges.Whole) (pos v +ℤ z))
base_counts (bases.Here None) negative n rd = λ k. absurd k

abbrev set_of : Option Operands → Result (List Instr) SyntaxFault
set_of o = option_map_or (λ x. made_of x.0.0 x.0.1) o (Err Shape)

set_counts : (o : Option Operands) → Counts (set_of o) (count_of (set_of (option_map set_as o)))
set_counts (Some x) = base_counts x.0.0.base x.0.0.negative x.0.0.number x.0.1
set_counts None = λ _. refl

-- ---- statements

one_counts : (r : Result ℕ SyntaxFault) → Counts (r >>= λ w. Ok (meaning w ∷ [])) 1
one_counts (Ok w) = refl
one_counts (Err f) = λ _. refl

module _ (values : List ℕ → Option ℕ) (here : ℕ) (line : List ℕ) where
  name_counts : (t : Bool) (name : List ℕ) (ws : List StatementToken)
      → Counts (cond t (set values line ws) (first_of values here line UnknownMnemonic forms name ws >>= λ w. Ok (meaning w ∷ []))) (cond t (count_of (set (λ _. None) line ws)) 1)
  unfolding set
  name_counts true name ws =
      subst (λ o. Counts (set values line ws) (count_of (set_of o))) (sym (set_bare values line ws)) (set_counts (set_operands values line ws))
  name_counts false name ws = one_counts (first_of values here line UnknownMnemonic forms name ws)

  words_count : (ws : List StatementToken) →
      Counts (option_map_or (λ x. named_meaning values here line x.0 x.1) (name_first line ws) (Err UnknownMnemonic))
      (option_map_or (λ x. cond (bytes_eq x.0 (codes "set")) (count_of (set (λ _. None) line x.1)) 1) (name_first line ws) 1)
  unfolding named_meaning
  words_count (words.Name kind i j ∷ ws) = name_counts (bytes_eq (bytes_between line i j) (codes "set")) (bytes_between line i j) ws
  words_count _ = λ _. refl

pub counts_instructions : CountsInstructions
counts_instructions values here line tokens = words_count values here line (statement_tokens line tokens)
