-- Each number of a directive keeps the bounds that the image's rules ask of it alone.
use Rattle.std.proofs.Common.{◌≡◌, ℕ, ◌+◌, ◌*◌, ◌<◌, ◌≤◌, Bool, true, false, cond, ℤ, pos, negsuc, List, [], ◌∷◌, map, drop, Option, None, Some, Result, Ok, Err, IfSome, refl, arith}
use Rattle.std.specs.Prelude.{◌&&◌, ◌||◌, ◌==◌, int_le, nat_le, not, codes}
use Rattle.std.specs.List.{AllByRecursion, list_all, list_any, slice_split, onto_first, enumerate_from}
use Rattle.std.specs.Option.{option_map_or}
use Rattle.std.specs.Str.{bytes_eq}
use Rattle.std.proofs.lemmas.Bool.{and_parts, and_from, cond_both, leb-true, lt-ltb, le-leb, eqb-false}
use Rattle.std.proofs.lemmas.Int.{ints}
use Rattle.sbx_text.specs.declared.Token.{Token}
use Rattle.sbx_text.specs.declared.fault.TextFault.{TextFault}
use Rattle.sbx_text.specs.Tokens.{tokens_of}
use Rattle.v8_syntax.specs.declared.word.StatementToken.{StatementToken}
use Rattle.v8_syntax.specs.declared.word.StatementToken.TheVariants as words
use Rattle.v8_syntax.specs.Statements.{statement_token, statement_tokens}
use Rattle.sbx_parts.specs.declared.fault.ImageFault.TheVariants as fault
use Rattle.sbx_parts.specs.declared.parts.Range.{Range}
use Rattle.sbx_parts.specs.declared.services.Services.{Services}
use Rattle.sbx_parts.specs.Rules.{wants, between, is_known, is_location, is_coefficient, is_fuel, in_order, range_keeps}
use Rattle.sbx_parts.proofs.Steps.{wants_true}
use Rattle.sbx_directives.specs.declared.directive.Keyword.{Keyword}
use Rattle.sbx_directives.specs.declared.directive.Keyword.TheVariants as keywords
use Rattle.sbx_directives.specs.declared.directive.Directive.{Directive}
use Rattle.sbx_directives.specs.declared.directive.Directive.TheVariants as directives
use Rattle.sbx_directives.specs.declared.directive.Statement.{Statement}
use Rattle.sbx_directives.specs.declared.directive.Statement.TheVariants as statements
use Rattle.sbx_directives.specs.declared.operand.Operand.{Operand}
use Rattle.sbx_directives.specs.declared.operand.Operand.TheVariants as operands
use Rattle.sbx_directives.specs.Directives.{text_of, label_count, ◌>>=◌, is_comma, operand_of, operands_of, is_between, integer_in, natural_in, range_of}
use Rattle.sbx_directives.specs.Directives.{coefficient, plain_name, slot, location, names, named_services, is_service, services_of, frames_of, right_of}
use Rattle.sbx_directives.specs.Directives.{value_count, directive_of, called, told, keyword_named, begun, statement_of}
use Rattle.sbx_asm.specs.Items.{Item, Said, read_line, item_of, items_of, lines_of}
use Rattle.sbx_asm.proofs.StatementWords.{IsSmall, AreSmall, words_are_small}
use Rattle.sbx_asm.proofs.Wholes.{map_all}
use Rattle.sbx_asm.proofs.Numbers.{then_all, then_any}
use Rattle.sbx_asm.proofs.Passing.{passes, within}

-- ---- operands

-- a register is one of 32
abbrev IsLow : Operand → Type 0
IsLow (operands.Register r) = r < 32
IsLow _ = Unit {0}

abbrev AreLow : List Operand → Type 0
AreLow os = AllByRecursion IsLow os

operand_low : (ws : List StatementToken) → AreSmall ws → IsLow (operand_of ws)
unfolding operand_of
operand_low (words.Register r ∷ []) h = h.0
operand_low (words.Number n ∷ []) h = tt
operand_low (words.Name k i j ∷ []) h = tt
operand_low (words.Name k i j ∷ words.Number n ∷ []) h = tt
operand_low (words.Sign b ∷ words.Number n ∷ []) h = cond_both (b == 45) _ operands.Other IsLow (λ _. tt) (λ _. tt)
operand_low (words.Name k i j ∷ words.Sign b ∷ words.Number n ∷ []) h =
    cond_both (b == 43) _ _ IsLow (λ _. tt) (λ _. cond_both (b == 45) _ operands.Other IsLow (λ _. tt) (λ _. tt))
operand_low _ h = tt

parts_small : (w : StatementToken) (parts : List (List StatementToken)) → IsSmall w → AllByRecursion AreSmall parts → AllByRecursion AreSmall (onto_first w parts)
parts_small w [] h k = ((h, tt), tt)
parts_small w (p ∷ ps) h k = ((h, k.0), k.1)

split_small : (ws : List StatementToken) → AreSmall ws → AllByRecursion AreSmall (slice_split is_comma ws)
split_small [] h = (tt, tt)
split_small (w ∷ ws) h =
    cond_both (is_comma w) ([] ∷ slice_split is_comma ws) (onto_first w (slice_split is_comma ws)) (AllByRecursion AreSmall) (λ _. (tt, split_small ws h.1))
    (λ _. parts_small w (slice_split is_comma ws) h.0 (split_small ws h.1))

all_low : (parts : List (List StatementToken)) → AllByRecursion AreSmall parts → AreLow (map operand_of parts)
all_low [] h = tt
all_low (p ∷ ps) h = (operand_low p h.0, all_low ps h.1)

operands_low : (line : List ℕ) (ts : List Token) → AreLow (operands_of line ts)
operands_low line [] = tt
operands_low line (t ∷ ts) = all_low (slice_split is_comma (statement_tokens line (t ∷ ts))) (split_small (statement_tokens line (t ∷ ts)) (words_are_small line (t ∷ ts)))

-- ---- numbers

pub record HeadKeeps (frame room budget : ℕ) : Type 0 where
  pub frame_within : between 0 4096 frame ≡ true
  pub room_within : between 0 65536 room ≡ true
  pub budget_within : between 0 1099511627775 budget ≡ true

-- what a directive has keeps the rules
abbrev pub Keeps : Directive → Type 0
Keeps (directives.Services x) = is_known x.0 ≡ true
Keeps (directives.Stack n) = between 1 16 n ≡ true
Keeps (directives.Function name kind frame room budget) = HeadKeeps frame room budget
Keeps (directives.Param r) = range_keeps r ≡ Ok tt
Keeps (directives.Result r) = range_keeps r ≡ Ok tt
Keeps (directives.Depth n) = nat_le n 256 ≡ true
Keeps (directives.Cell c) = (is_location c.location ≡ true) × (range_keeps c.range ≡ Ok tt)
Keeps (directives.Fuel z) = is_fuel z ≡ true
Keeps (directives.Term t) = (is_location t.location ≡ true) × (is_coefficient t.coefficient ≡ true)
Keeps _ = Unit {0}

abbrev KeepsSome : Option Directive → Type 0
KeepsSome o = IfSome o Keeps

natural_between : (low high : ℕ) (o : Operand) → IfSome (natural_in low high o) (λ n. between low high n ≡ true)
unfolding natural_in
natural_between low high (operands.Number (pos n)) = cond_both (nat_le low n && nat_le n high) (Some n) None (λ k. IfSome k (λ m. between low high m ≡ true)) (λ h. h) (λ _. tt)
natural_between low high _ = tt

bits_known : (t u v : Bool) → is_known (cond t 1 0 + cond u 2 0 + cond v 4 0) ≡ true
bits_known true true true = refl
bits_known true true false = refl
bits_known true false true = refl
bits_known true false false = refl
bits_known false true true = refl
bits_known false true false = refl
bits_known false false true = refl
bits_known false false false = refl

services_known : (line : List ℕ) (os : List Operand) → IfSome (services_of line os) (λ x. is_known x.0 ≡ true)
unfolding services_of
services_known line [] = tt
services_known line (o ∷ os) =
    cond_both (list_all (is_service line) (o ∷ os)) (Some (record { 0 = named_services line (o ∷ os) })) None (λ k. IfSome k (λ (x : Services). is_known x.0 ≡ true))
    (λ _. bits_known (list_any (names (codes "exit") line) (o ∷ os)) (list_any (names (codes "get") line) (o ∷ os)) (list_any (names (codes "put") line) (o ∷ os))) (λ _. tt)

ascends : (lo hi : ℤ) → int_le lo hi ≡ true → in_order lo hi ≡ true
ascends lo hi h = grind (arith, ints)

range_kept : (r : Range) → in_order r.lo r.hi ≡ true → between 0 3 r.alignment ≡ true → range_keeps r ≡ Ok tt
unfolding range_keeps
range_kept r h k = passes (in_order r.lo r.hi) fault.Range (λ _. wants (between 0 3 r.alignment) fault.Range) tt h (wants_true (between 0 3 r.alignment) fault.Range k)

range_with : (lo hi : ℤ) (alignment : ℕ) → between 0 3 alignment ≡ true → IfSome (cond (int_le lo hi) (Some (record { lo = lo; hi = hi; alignment = alignment })) None) (λ r. range_keeps r ≡ Ok tt)
range_with lo hi alignment k =
    cond_both (int_le lo hi) (Some (record { lo = lo; hi = hi; alignment = alignment })) None (λ o. IfSome o (λ (r : Range). range_keeps r ≡ Ok tt))
    (λ h. range_kept (record { lo = lo; hi = hi; alignment = alignment }) (ascends lo hi h) k) (λ _. tt)

range_between : (os : List Operand) → IfSome (range_of os) (λ r. range_keeps r ≡ Ok tt)
unfolding range_of
range_between (a ∷ b ∷ c ∷ []) =
    then_any (λ r. range_keeps r ≡ Ok tt) (integer_in (negsuc 2147483647) (pos 2147483647) a) _ (λ lo. then_any (λ r. range_keeps r ≡ Ok tt) (integer_in (negsuc 2147483647) (pos 2147483647) b) _
    (λ hi. then_all (λ n. between 0 3 n ≡ true) (λ r. range_keeps r ≡ Ok tt) (natural_in 0 3 c) _ (natural_between 0 3 c) (λ alignment k. range_with lo hi alignment k)))
range_between _ = tt

coefficient_some : (o : Operand) → IfSome (coefficient o) (λ z. is_coefficient z ≡ true)
coefficient_some o =
    then_any (λ z. is_coefficient z ≡ true) (integer_in (negsuc 2147483647) (pos 2147483647) o) _
    (λ z. cond_both (is_coefficient z) (Some z) None (λ k. IfSome k (λ y. is_coefficient y ≡ true)) (λ h. h) (λ _. tt))

fuel_within : (z : ℤ) → is_between (negsuc 1099511627774) (pos 1099511627775) z ≡ true → is_fuel z ≡ true
fuel_within (pos n) h = let k = leb-true n 1099511627775 h in lt-ltb n 1099511627776 (omega arith)
fuel_within (negsuc n) h = let k = leb-true n 1099511627774 (and_parts _ _ h).0 in and_from _ _ (lt-ltb n 1099511627775 (omega arith)) refl

fuel_between : (o : Operand) → IfSome (integer_in (negsuc 1099511627774) (pos 1099511627775) o) (λ z. is_fuel z ≡ true)
unfolding integer_in
fuel_between (operands.Number z) = cond_both (is_between (negsuc 1099511627774) (pos 1099511627775) z) (Some z) None (λ k. IfSome k (λ y. is_fuel y ≡ true)) (λ h. fuel_within z h) (λ _. tt)
fuel_between _ = tt

slot_between : (name : List ℕ) (k : ℕ) → IfSome (slot name k) (λ n. is_location n ≡ true)
slot_between name k =
    cond_both (bytes_eq name (codes "slot") && nat_le k 1007) (Some (32 + k)) None (λ o. IfSome o (λ n. is_location n ≡ true))
    (λ h. let le : k ≤ 1007 = leb-true k 1007 (and_parts (bytes_eq name (codes "slot")) (nat_le k 1007) h).1 in within 1 1039 (32 + k) (omega arith) (omega arith)) (λ _. tt)

location_between : (line : List ℕ) (o : Operand) → IsLow o → IfSome (location line o) (λ n. is_location n ≡ true)
unfolding location
location_between line (operands.Register r) h =
    cond_both (r == 0) None (Some r) (λ o. IfSome o (λ n. is_location n ≡ true)) (λ _. tt) (λ e. within 1 1039 r (let some = eqb-false r 0 e in omega (arith, some)) (omega (arith, h)))
location_between line (operands.Counted x n) h = slot_between (text_of line x) n
location_between line (operands.Difference x n) h = cond_both (n == 0) (slot (text_of line x) n) None (λ o. IfSome o (λ m. is_location m ≡ true)) (λ _. slot_between (text_of line x) n) (λ _. tt)
location_between line _ h = tt

-- ---- directives

head_with : (frame room budget : ℕ) → between 0 4096 frame ≡ true → between 0 65536 room ≡ true → between 0 1099511627775 budget ≡ true → HeadKeeps frame room budget
head_with frame room budget f r b = record { frame_within = f; room_within = r; budget_within = b }

directive_keeps : (line : List ℕ) (k : Keyword) (os : List Operand) → AreLow os → KeepsSome (directive_of line k os)
unfolding directive_of
directive_keeps line keywords.Text [] low = tt
directive_keeps line keywords.Data [] low = tt
directive_keeps line keywords.Region (o ∷ []) low = then_any Keeps (right_of line o) _ (λ _. tt)
directive_keeps line keywords.Services os low = then_all (λ x. is_known x.0 ≡ true) Keeps (services_of line os) _ (services_known line os) (λ x h. h)
directive_keeps line keywords.Stack (o ∷ []) low = then_all (λ n. between 1 16 n ≡ true) Keeps (natural_in 1 16 o) _ (natural_between 1 16 o) (λ n h. h)
directive_keeps line keywords.Function (a ∷ b ∷ c ∷ d ∷ e ∷ []) low =
    then_any Keeps (plain_name a) _ (λ name. then_any Keeps (frames_of line b) _ (λ kind. then_all (λ n. between 0 4096 n ≡ true) Keeps (natural_in 0 4096 c) _ (natural_between 0 4096 c)
    (λ frame f. then_all (λ n. between 0 65536 n ≡ true) Keeps (natural_in 0 65536 d) _ (natural_between 0 65536 d)
    (λ room r. then_all (λ n. between 0 1099511627775 n ≡ true) Keeps (natural_in 0 1099511627775 e) _ (natural_between 0 1099511627775 e) (λ budget u. head_with frame room budget f r u)))))
directive_keeps line keywords.Param os low = then_all (λ r. range_keeps r ≡ Ok tt) Keeps (range_of os) _ (range_between os) (λ r h. h)
directive_keeps line keywords.Result os low = then_all (λ r. range_keeps r ≡ Ok tt) Keeps (range_of os) _ (range_between os) (λ r h. h)
directive_keeps line keywords.Depth (o ∷ []) low = then_all (λ n. between 0 256 n ≡ true) Keeps (natural_in 0 256 o) _ (natural_between 0 256 o) (λ n h. (and_parts (nat_le 0 n) (nat_le n 256) h).1)
directive_keeps line keywords.Block (o ∷ []) low = then_any Keeps (plain_name o) _ (λ _. tt)
directive_keeps line keywords.Cell (o ∷ os) low =
    then_all (λ n. is_location n ≡ true) Keeps (location line o) _ (location_between line o low.0)
    (λ place l. then_all (λ r. range_keeps r ≡ Ok tt) Keeps (range_of os) _ (range_between os) (λ r h. (l, h)))
directive_keeps line keywords.Fuel (o ∷ []) low = then_all (λ z. is_fuel z ≡ true) Keeps (integer_in (negsuc 1099511627774) (pos 1099511627775) o) _ (fuel_between o) (λ z h. h)
directive_keeps line keywords.Term (o ∷ p ∷ []) low =
    then_all (λ n. is_location n ≡ true) Keeps (location line o) _ (location_between line o low.0)
    (λ place l. then_all (λ z. is_coefficient z ≡ true) Keeps (coefficient p) _ (coefficient_some p) (λ z h. (l, h)))
directive_keeps line keywords.Word os low = then_any Keeps (value_count os) _ (λ _. tt)
directive_keeps line keywords.Half os low = then_any Keeps (value_count os) _ (λ _. tt)
directive_keeps line keywords.Byte os low = then_any Keeps (value_count os) _ (λ _. tt)
directive_keeps line keywords.Skip (o ∷ []) low = then_any Keeps (natural_in 0 18446744073709551615 o) _ (λ _. tt)
directive_keeps line keywords.Align (o ∷ []) low = then_any Keeps (natural_in 2 8 o) _ (λ n. cond_both (n == 2 || (n == 4 || n == 8)) (Some (directives.Align n)) None KeepsSome (λ _. tt) (λ _. tt))
directive_keeps line _ _ low = tt

-- ---- lines

abbrev pub SaidKeeps : Said → Type 0
SaidKeeps (Ok (statements.Directive d)) = Keeps d
SaidKeeps _ = Unit {0}

abbrev pub ItemKeeps : Item → Type 0
ItemKeeps i = SaidKeeps i.said

abbrev pub Keep : List Item → Type 0
Keep is = AllByRecursion ItemKeeps is

told_keeps : (k : Keyword) (ws : List StatementToken) (o : Option Directive) → KeepsSome o → SaidKeeps (Ok (option_map_or statements.Directive o (statements.Malformed k (called k ws))))
told_keeps k ws (Some d) h = h
told_keeps k ws None h = tt

named_keeps : (line : List ℕ) (o : Option Keyword) (rest : List Token) → SaidKeeps (Ok (option_map_or (λ k. told line k rest) o statements.Instruction))
named_keeps line (Some k) rest = told_keeps k (statement_tokens line rest) _ (directive_keeps line k (operands_of line rest) (operands_low line rest))
named_keeps line None rest = tt

begun_keeps : (line : List ℕ) (w : StatementToken) (rest : List Token) → SaidKeeps (Ok (begun line w rest))
begun_keeps line (words.Name k start stop) rest = named_keeps line (keyword_named _) rest
begun_keeps line _ rest = tt

statement_keeps : (line : List ℕ) (ts : List Token) → SaidKeeps (Ok (statement_of line ts))
unfolding statement_of
statement_keeps line [] = tt
statement_keeps line (first ∷ rest) = begun_keeps line (statement_token line first) rest

read_keeps : (number : ℕ) (line : List ℕ) (r : Result (List Token) TextFault) → ItemKeeps (read_line number line r)
read_keeps number line (Ok ts) = statement_keeps line (drop (2 * label_count line ts) ts)
read_keeps number line (Err f) = tt

pub items_keep : (source : List ℕ) → Keep (items_of source)
items_keep source = map_all ItemKeeps item_of (λ x. read_keeps x.0 x.1 (tokens_of x.1)) (enumerate_from 1 (lines_of source))
