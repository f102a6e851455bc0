-- A list of values has as many bytes as its directive says.
use Rattle.std.proofs.Common.{◌≡◌, ℕ, suc, ◌+◌, ◌*◌, Bool, true, false, cond, ℤ, List, [], ◌∷◌, length, drop, Option, None, Some, IfSome, Result, Ok, Err, refl, ap, ◌∙◌, arith}
use Rattle.std.specs.Prelude.{not, ◌&&◌, ◌||◌, ◌==◌}
use Rattle.std.specs.Option.{is_none, option_map_or}
use Rattle.std.specs.Result.{result_err}
use Rattle.std.specs.List.{AllByRecursion, flat_map, list_all, enumerate_from}
use Rattle.std.proofs.lemmas.Bool.{cond_both}
use Rattle.std.proofs.lemmas.List.{length-append}
use Rattle.sbx_text.specs.declared.Token.{Token}
use Rattle.sbx_text.specs.declared.fault.TextFault.{TextFault}
use Rattle.sbx_text.specs.Tokens.{tokens_of}
use Rattle.v8_syntax.specs.declared.word.StatementToken.{StatementToken}
use Rattle.v8_syntax.specs.declared.word.StatementToken.TheVariants as words
use Rattle.v8_syntax.specs.Statements.{statement_token, statement_tokens}
use Rattle.sbx_directives.specs.declared.directive.Width.{Width}
use Rattle.sbx_directives.specs.declared.directive.Width.TheVariants as widths
use Rattle.sbx_directives.specs.declared.directive.Keyword.{Keyword}
use Rattle.sbx_directives.specs.declared.directive.Keyword.TheVariants as keywords
use Rattle.sbx_directives.specs.declared.directive.Directive.{Directive}
use Rattle.sbx_directives.specs.declared.directive.Directive.TheVariants as directives
use Rattle.sbx_directives.specs.declared.directive.Statement.TheVariants as statements
use Rattle.sbx_directives.specs.declared.fault.DataFault.TheVariants as data_faults
use Rattle.sbx_directives.specs.declared.operand.Operand.{Operand}
use Rattle.sbx_directives.specs.Directives.{label_count, ◌>>=◌, operands_of, integer_in, natural_in, range_of, coefficient, plain_name, location, is_expression}
use Rattle.sbx_directives.specs.Directives.{services_of, frames_of, right_of, value_count, directive_of, called, told, keyword_named, begun, statement_of}
use Rattle.sbx_directives.specs.Data.{bytes_of_width, fits, spelled, value_of, is_known, is_fit, bytes_of, listed, data_of}
use Rattle.sbx_asm.specs.Items.{Item, Said, read_line, item_of, items_of, lines_of}
use Rattle.sbx_asm.specs.Rules.{Values, value_rules}
use Rattle.sbx_asm.proofs.Views.{bytes_meant}
use Rattle.sbx_asm.proofs.Wholes.{map_all}
use Rattle.sbx_asm.proofs.Numbers.{then_all, then_any}
use Rattle.sbx_asm.proofs.Nils.{cons_nil}

-- ---- what a directive says of its values

abbrev Counts : List Operand → Directive → Type 0
Counts os (directives.Values w n) = value_count os ≡ Some n
Counts os _ = Unit {0}

abbrev CountsSome : List Operand → Option Directive → Type 0
CountsSome os o = IfSome o (Counts os)

given : {A : Type 0} (o : Option A) → IfSome o (λ x. o ≡ Some x)
given (Some x) = refl
given None = tt

values_count : (os : List Operand) (w : Width) → CountsSome os (value_count os >>= λ n. Some (directives.Values w n))
values_count os w = then_all (λ n. value_count os ≡ Some n) (Counts os) (value_count os) _ (given (value_count os)) (λ n h. h)

directive_counts : (line : List ℕ) (k : Keyword) (os : List Operand) → CountsSome os (directive_of line k os)
unfolding directive_of
directive_counts line keywords.Text [] = tt
directive_counts line keywords.Data [] = tt
directive_counts line keywords.Region (o ∷ []) = then_any (Counts (o ∷ [])) (right_of line o) _ (λ _. tt)
directive_counts line keywords.Services os = then_any (Counts os) (services_of line os) _ (λ _. tt)
directive_counts line keywords.Stack (o ∷ []) = then_any (Counts (o ∷ [])) (natural_in 1 16 o) _ (λ _. tt)
directive_counts line keywords.Function (a ∷ b ∷ c ∷ d ∷ e ∷ []) =
    then_any _ (plain_name a) _ (λ name. then_any _ (frames_of line b) _ (λ kind. then_any _ (natural_in 0 4096 c) _ (λ frame.
    then_any _ (natural_in 0 65536 d) _ (λ room. then_any (Counts (a ∷ b ∷ c ∷ d ∷ e ∷ [])) (natural_in 0 1099511627775 e) _ (λ budget. tt)))))
directive_counts line keywords.Param os = then_any (Counts os) (range_of os) _ (λ _. tt)
directive_counts line keywords.Result os = then_any (Counts os) (range_of os) _ (λ _. tt)
directive_counts line keywords.Depth (o ∷ []) = then_any (Counts (o ∷ [])) (natural_in 0 256 o) _ (λ _. tt)
directive_counts line keywords.Block (o ∷ []) = then_any (Counts (o ∷ [])) (plain_name o) _ (λ _. tt)
directive_counts line keywords.Cell (o ∷ os) = then_any (Counts (o ∷ os)) (location line o) _ (λ place. then_any (Counts (o ∷ os)) (range_of os) _ (λ _. tt))
directive_counts line keywords.Fuel (o ∷ []) = then_any (Counts (o ∷ [])) (integer_in _ _ o) _ (λ _. tt)
directive_counts line keywords.Term (o ∷ p ∷ []) = then_any (Counts (o ∷ p ∷ [])) (location line o) _ (λ place. then_any (Counts (o ∷ p ∷ [])) (coefficient p) _ (λ _. tt))
directive_counts line keywords.Word os = values_count os widths.Word
directive_counts line keywords.Half os = values_count os widths.Half
directive_counts line keywords.Byte os = values_count os widths.Byte
directive_counts line keywords.Skip (o ∷ []) = then_any (Counts (o ∷ [])) (natural_in 0 18446744073709551615 o) _ (λ _. tt)
directive_counts line keywords.Align (o ∷ []) =
    then_any (Counts (o ∷ [])) (natural_in 2 8 o) _ (λ n. cond_both (n == 2 || (n == 4 || n == 8)) (Some (directives.Align n)) None (CountsSome (o ∷ [])) (λ _. tt) (λ _. tt))
directive_counts line _ _ = tt

-- ---- what a line says of them

-- the operands behind its first token are as many
abbrev pub SaysCount : List ℕ → List Token → Said → Type 0
SaysCount line ts (Ok (statements.Directive d)) = Counts (operands_of line (drop 1 ts)) d
SaysCount line ts _ = Unit {0}

abbrev pub ItemCounts : Item → Type 0
ItemCounts i = SaysCount i.bytes i.tokens i.said

told_counts : (line : List ℕ) (first : Token) (rest : List Token) (k : Keyword) (o : Option Directive) → CountsSome (operands_of line rest) o
    → SaysCount line (first ∷ rest) (Ok (option_map_or statements.Directive o (statements.Malformed k (called k (statement_tokens line rest)))))
told_counts line first rest k (Some d) h = h
told_counts line first rest k None h = tt

named_counts : (line : List ℕ) (first : Token) (o : Option Keyword) (rest : List Token) → SaysCount line (first ∷ rest) (Ok (option_map_or (λ k. told line k rest) o statements.Instruction))
named_counts line first (Some k) rest = told_counts line first rest k _ (directive_counts line k (operands_of line rest))
named_counts line first None rest = tt

begun_counts : (line : List ℕ) (w : StatementToken) (first : Token) (rest : List Token) → SaysCount line (first ∷ rest) (Ok (begun line w rest))
begun_counts line (words.Name k start stop) first rest = named_counts line first (keyword_named _) rest
begun_counts line _ first rest = tt

statement_counts : (line : List ℕ) (ts : List Token) → SaysCount line ts (Ok (statement_of line ts))
unfolding statement_of
statement_counts line [] = tt
statement_counts line (first ∷ rest) = begun_counts line (statement_token line first) first rest

read_counts : (number : ℕ) (line : List ℕ) (r : Result (List Token) TextFault) → ItemCounts (read_line number line r)
read_counts number line (Ok ts) = statement_counts line (drop (2 * label_count line ts) ts)
read_counts number line (Err f) = tt

pub items_count : (source : List ℕ) → AllByRecursion ItemCounts (items_of source)
items_count source = map_all ItemCounts item_of (λ x. read_counts x.0 x.1 (tokens_of x.1)) (enumerate_from 1 (lines_of source))

-- ---- so many bytes

as_many : (os : List Operand) (n : ℕ) → value_count os ≡ Some n → length os ≡ n
unfolding value_count
as_many [] n h = absurd (cc)
as_many (o ∷ os) n h = by (list_all is_expression (o ∷ os)) h
  where
    by : (t : Bool) → cond t (Some (length (o ∷ os))) None ≡ Some n → length (o ∷ os) ≡ n
    by true k = cc
    by false k = absurd (cc)

spelled_length : (w : Width) (z : ℤ) → length (spelled w z) ≡ bytes_of_width w
spelled_length widths.Byte z = refl
spelled_length widths.Half z = refl
spelled_length widths.Word z = refl

one_length : (w : Width) (o : Option ℤ) → option_map_or (fits w) o false ≡ true → length (option_map_or (spelled w) o []) ≡ bytes_of_width w
one_length w (Some z) h = spelled_length w z
one_length w None h = absurd (cc)

one_more : (w : Width) (n : ℕ) → bytes_of_width w + bytes_of_width w * n ≡ bytes_of_width w * suc n
one_more widths.Byte n = omega arith
one_more widths.Half n = omega arith
one_more widths.Word n = omega arith

no_more : (w : Width) → 0 ≡ bytes_of_width w * 0
no_more widths.Byte = refl
no_more widths.Half = refl
no_more widths.Word = refl

module _ (values : Values) (line : List ℕ) (w : Width) where
  fitting_length : (os : List Operand) → list_all (is_fit values line w) os ≡ true → length (flat_map (bytes_of values line w) os) ≡ bytes_of_width w * length os
  fitting_length [] h = no_more w
  fitting_length (o ∷ os) h = by (is_fit values line w o) refl h (fitting_length os)
    where
      by : (t : Bool) → is_fit values line w o ≡ t → (t && list_all (is_fit values line w) os) ≡ true →
          (list_all (is_fit values line w) os ≡ true → length (flat_map (bytes_of values line w) os) ≡ bytes_of_width w * length os)
          → length (flat_map (bytes_of values line w) (o ∷ os)) ≡ bytes_of_width w * length (o ∷ os)
      by true e rest more =
          length-append (bytes_of values line w o) (flat_map (bytes_of values line w) os)
          ∙ ap (λ (n : ℕ). n + length (flat_map (bytes_of values line w) os)) (one_length w (value_of values line o) e)
          ∙ ap (λ (n : ℕ). bytes_of_width w + n) (more rest) ∙ one_more w (length os)
      by false e rest more = absurd (cc)

  listed_length : (os : List Operand) (n : ℕ) → value_count os ≡ Some n → value_rules (result_err (listed values line w os)) ≡ [] →
      length (bytes_meant (listed values line w os)) ≡ bytes_of_width w * n
  unfolding listed
  listed_length os n count clean = by (is_none (value_count os)) (not (list_all (is_known values line) os)) (list_all (is_fit values line w) os) refl clean
    where
      by : (a b c : Bool) → list_all (is_fit values line w) os ≡ c
          → value_rules
          (result_err (cond a (Err data_faults.Malformed)
          (cond b (Err data_faults.UnknownSymbol) (cond (not c) (Err data_faults.Malformed) (Ok (flat_map (bytes_of values line w) os)))))) ≡ []
          → length (bytes_meant
          (cond a (Err data_faults.Malformed)
          (cond b (Err data_faults.UnknownSymbol) (cond (not c) (Err data_faults.Malformed) (Ok (flat_map (bytes_of values line w) os)))))) ≡
          bytes_of_width w * n
      by true b c e k = cons_nil k
      by false true c e k = cons_nil k
      by false false false e k = cons_nil k
      by false false true e k = fitting_length os e ∙ ap (λ (m : ℕ). bytes_of_width w * m) (as_many os n count)

  pub values_length : (ts : List Token) (n : ℕ) → value_count (operands_of line (drop 1 ts)) ≡ Some n →
      value_rules (result_err (data_of values line w ts)) ≡ [] → length (bytes_meant (data_of values line w ts)) ≡ bytes_of_width w * n
  values_length ts n count clean = listed_length (operands_of line (drop 1 ts)) n count clean
