-- The numbers of a directive are such that their fields can hold them.
use Rattle.std.proofs.Common.{◌≡◌, ℕ, ◌+◌, ◌^◌, ◌<◌, ◌≤◌, Bool, true, false, cond, ℤ, pos, negsuc, List, [], ◌∷◌, Option, None, Some, Ok, Err, IfSome, arith}
use Rattle.std.specs.Prelude.{◌&&◌, ◌||◌, ◌==◌, int_le, nat_le, codes, FitsSigned}
use Rattle.std.specs.Int.{w32, w64}
use Rattle.std.specs.List.{list_all, list_any}
use Rattle.std.specs.Option.{option_map_or}
use Rattle.std.proofs.lemmas.Bool.{cond_both, leb-true}
use Rattle.std.proofs.lemmas.Int.{ints}
use Rattle.sbx_text.specs.declared.Token.{Token}
use Rattle.v8_syntax.specs.declared.word.StatementToken.{StatementToken}
use Rattle.v8_syntax.specs.declared.word.StatementToken.TheVariants as words
use Rattle.v8_syntax.specs.Statements.{statement_token, statement_tokens}
use Rattle.sbx_image.specs.Services.{Services}
use Rattle.sbx_image.specs.Rules.{is_coefficient}
use Rattle.sbx_image.specs.Spelling.{IsTypedRange, IsTypedCell, IsTypedTerm}
use Rattle.sbx_directives.specs.declared.directive.Keyword.{Keyword}
use Rattle.sbx_directives.specs.declared.directive.Keyword.TheVariants as keywords
use Rattle.sbx_directives.specs.declared.directive.Directive.{Directive}
use Rattle.sbx_directives.specs.declared.directive.Directive.TheVariants as directives
use Rattle.sbx_directives.specs.declared.directive.Statement.{Statement}
use Rattle.sbx_directives.specs.declared.directive.Statement.TheVariants as statements
use Rattle.sbx_directives.specs.declared.operand.Operand.{Operand}
use Rattle.sbx_directives.specs.declared.operand.Operand.TheVariants as operands
use Rattle.sbx_directives.specs.Directives.{◌>>=◌, operands_of, is_between, integer_in, natural_in, range_of, coefficient, plain_name, location, names}
use Rattle.sbx_directives.specs.Directives.{named_services, is_service, services_of, frames_of, right_of, value_count, directive_of, called, told}
use Rattle.sbx_directives.specs.Directives.{keyword_named, begun, statement_of}
use Rattle.sbx_asm.specs.Items.{Said}
use Rattle.sbx_asm.proofs.Wholes.{whatever}

-- each number that a directive has for the image
abbrev pub Fits : Directive → Type 0
Fits (directives.Services x) = x.0 < 2 ^ 16
Fits (directives.Param r) = IsTypedRange r
Fits (directives.Result r) = IsTypedRange r
Fits (directives.Depth n) = n < 2 ^ 16
Fits (directives.Cell c) = IsTypedCell c
Fits (directives.Fuel z) = FitsSigned w64 z
Fits (directives.Term t) = IsTypedTerm t
Fits _ = Unit {0}

abbrev FitSome : Option Directive → Type 0
FitSome o = IfSome o Fits

-- one step after another, with what the first one gives, or whatever that is
pub then_all : {A B : Type 0} (P : A → Type 0) (Q : B → Type 0) (o : Option A) (f : A → Option B) → IfSome o P → ((x : A) → P x → IfSome (f x) Q) → IfSome (o >>= f) Q
then_all P Q (Some x) f h go = go x h
then_all P Q None f h go = tt

pub then_any : {A B : Type 0} (Q : B → Type 0) (o : Option A) (f : A → Option B) → ((x : A) → IfSome (f x) Q) → IfSome (o >>= f) Q
then_any Q o f go = then_all (λ _. Unit {0}) Q o f (whatever o) (λ x _. go x)

-- ---- numbers

word_fits : (z : ℤ) → is_between (negsuc 2147483647) (pos 2147483647) z ≡ true → FitsSigned w32 z
word_fits (pos n) h = record { sfits = grind (arith, ints) }
word_fits (negsuc n) h = record { sfits = grind (arith, ints) }

long_fits : (z : ℤ) → is_between (negsuc 1099511627774) (pos 1099511627775) z ≡ true → FitsSigned w64 z
long_fits (pos n) h = record { sfits = grind (arith, ints) }
long_fits (negsuc n) h = record { sfits = grind (arith, ints) }

integer_between : (low high : ℤ) (o : Operand) → IfSome (integer_in low high o) (λ z. is_between low high z ≡ true)
unfolding integer_in
integer_between low high (operands.Number z) = cond_both (is_between low high z) (Some z) None (λ k. IfSome k (λ y. is_between low high y ≡ true)) (λ h. h) (λ _. tt)
integer_between low high _ = tt

second : (b c : Bool) → (b && c) ≡ true → c ≡ true
second true c h = h
second false c h = absurd (cc)

depth_between : (o : Operand) → IfSome (natural_in 0 256 o) (λ n. n < 2 ^ 16)
unfolding natural_in
depth_between (operands.Number (pos n)) =
    cond_both (nat_le 0 n && nat_le n 256) (Some n) None (λ k. IfSome k (λ m. m < 2 ^ 16)) (λ h. let k = leb-true n 256 (second (nat_le 0 n) (nat_le n 256) h) in omega arith) (λ _. tt)
depth_between _ = tt

bit_small : (t : Bool) (bit : ℕ) → cond t bit 0 ≤ bit
bit_small true bit = omega arith
bit_small false bit = omega arith

bits_small : (t u v : Bool) → cond t 1 0 + cond u 2 0 + cond v 4 0 < 2 ^ 16
bits_small t u v = omega (arith, bit_small t 1, bit_small u 2, bit_small v 4)

services_small : (line : List ℕ) (os : List Operand) → named_services line os < 2 ^ 16
services_small line os = bits_small (list_any (names (codes "exit") line) os) (list_any (names (codes "get") line) os) (list_any (names (codes "put") line) os)

services_fit : (line : List ℕ) (os : List Operand) → IfSome (services_of line os) (λ x. x.0 < 2 ^ 16)
unfolding services_of
services_fit line [] = tt
services_fit line (o ∷ os) =
    cond_both (list_all (is_service line) (o ∷ os)) (Some (record { 0 = named_services line (o ∷ os) })) None (λ k. IfSome k (λ (x : Services). x.0 < 2 ^ 16))
    (λ _. services_small line (o ∷ os)) (λ _. tt)

range_fits : (os : List Operand) → IfSome (range_of os) IsTypedRange
unfolding range_of
range_fits (a ∷ b ∷ c ∷ []) =
    then_all (λ z. is_between (negsuc 2147483647) (pos 2147483647) z ≡ true) IsTypedRange (integer_in (negsuc 2147483647) (pos 2147483647) a) _ (integer_between _ _ a)
    (λ lo l. then_all (λ z. is_between (negsuc 2147483647) (pos 2147483647) z ≡ true) IsTypedRange (integer_in (negsuc 2147483647) (pos 2147483647) b) _ (integer_between _ _ b)
    (λ hi h. then_any IsTypedRange (natural_in 0 3 c) _
    (λ alignment. cond_both (int_le lo hi) (Some (record { lo = lo; hi = hi; alignment = alignment })) None (λ k. IfSome k IsTypedRange)
    (λ _. record { lo = word_fits lo l; hi = word_fits hi h }) (λ _. tt))))
range_fits _ = tt

coefficient_fits : (o : Operand) → IfSome (coefficient o) (FitsSigned w32)
coefficient_fits o =
    then_all (λ z. is_between (negsuc 2147483647) (pos 2147483647) z ≡ true) (FitsSigned w32) (integer_in (negsuc 2147483647) (pos 2147483647) o) _ (integer_between _ _ o)
    (λ z h. cond_both (is_coefficient z) (Some z) None (λ k. IfSome k (FitsSigned w32)) (λ _. word_fits z h) (λ _. tt))

-- ---- directives

directive_fits : (line : List ℕ) (k : Keyword) (os : List Operand) → FitSome (directive_of line k os)
unfolding directive_of
directive_fits line keywords.Text [] = tt
directive_fits line keywords.Data [] = tt
directive_fits line keywords.Region (o ∷ []) = then_any Fits (right_of line o) _ (λ _. tt)
directive_fits line keywords.Services os = then_all (λ x. x.0 < 2 ^ 16) Fits (services_of line os) _ (services_fit line os) (λ x h. h)
directive_fits line keywords.Stack (o ∷ []) = then_any Fits (natural_in 1 16 o) _ (λ _. tt)
directive_fits line keywords.Function (a ∷ b ∷ c ∷ d ∷ e ∷ []) =
    then_any Fits (plain_name a) _ (λ name. then_any Fits (frames_of line b) _ (λ kind. then_any Fits (natural_in 0 4096 c) _ (λ frame.
    then_any Fits (natural_in 0 65536 d) _ (λ room. then_any Fits (natural_in 0 1099511627775 e) _ (λ budget. tt)))))
directive_fits line keywords.Param os = then_all IsTypedRange Fits (range_of os) _ (range_fits os) (λ r h. h)
directive_fits line keywords.Result os = then_all IsTypedRange Fits (range_of os) _ (range_fits os) (λ r h. h)
directive_fits line keywords.Depth (o ∷ []) = then_all (λ n. n < 2 ^ 16) Fits (natural_in 0 256 o) _ (depth_between o) (λ n h. h)
directive_fits line keywords.Block (o ∷ []) = then_any Fits (plain_name o) _ (λ _. tt)
directive_fits line keywords.Cell (o ∷ os) = then_any Fits (location line o) _ (λ place. then_all IsTypedRange Fits (range_of os) _ (range_fits os) (λ r h. h))
directive_fits line keywords.Fuel (o ∷ []) =
    then_all (λ z. is_between (negsuc 1099511627774) (pos 1099511627775) z ≡ true) Fits (integer_in (negsuc 1099511627774) (pos 1099511627775) o) _ (integer_between _ _ o) (λ z h. long_fits z h)
directive_fits line keywords.Term (o ∷ p ∷ []) = then_any Fits (location line o) _ (λ place. then_all (FitsSigned w32) Fits (coefficient p) _ (coefficient_fits p) (λ n h. h))
directive_fits line keywords.Word os = then_any Fits (value_count os) _ (λ _. tt)
directive_fits line keywords.Half os = then_any Fits (value_count os) _ (λ _. tt)
directive_fits line keywords.Byte os = then_any Fits (value_count os) _ (λ _. tt)
directive_fits line keywords.Skip (o ∷ []) = then_any Fits (natural_in 0 18446744073709551615 o) _ (λ _. tt)
directive_fits line keywords.Align (o ∷ []) = then_any Fits (natural_in 2 8 o) _ (λ n. cond_both (n == 2 || (n == 4 || n == 8)) (Some (directives.Align n)) None FitSome (λ _. tt) (λ _. tt))
directive_fits line _ _ = tt

-- ---- statements

abbrev pub StatementFits : Statement → Type 0
StatementFits (statements.Directive d) = Fits d
StatementFits _ = Unit {0}

abbrev pub SaidFits : Said → Type 0
SaidFits (Ok s) = StatementFits s
SaidFits (Err f) = Unit {0}

told_fits : (k : Keyword) (ws : List StatementToken) (o : Option Directive) → FitSome o → StatementFits (option_map_or statements.Directive o (statements.Malformed k (called k ws)))
told_fits k ws (Some d) h = h
told_fits k ws None h = tt

named_fits : (line : List ℕ) (o : Option Keyword) (rest : List Token) → StatementFits (option_map_or (λ k. told line k rest) o statements.Instruction)
named_fits line (Some k) rest = told_fits k (statement_tokens line rest) _ (directive_fits line k (operands_of line rest))
named_fits line None rest = tt

begun_fits : (line : List ℕ) (w : StatementToken) (rest : List Token) → StatementFits (begun line w rest)
begun_fits line (words.Name k start stop) rest = named_fits line (keyword_named _) rest
begun_fits line _ rest = tt

pub statement_fits : (line : List ℕ) (ts : List Token) → StatementFits (statement_of line ts)
unfolding statement_of
statement_fits line [] = tt
statement_fits line (first ∷ rest) = begun_fits line (statement_token line first) rest
