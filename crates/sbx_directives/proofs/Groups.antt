-- The first group of tokens, up to a comma or the end, and what follows it.
use Rattle.std.proofs.Common.{◌≡◌, ℕ, suc, ◌+◌, Bool, true, false, List, [], ◌∷◌, take, drop, map, refl, arith}
use Rattle.std.specs.Prelude.{not}
use Rattle.std.specs.List.{prefix_len, slice_split}
use Rattle.sbx_text.specs.declared.Token.{Token}
use Rattle.v8_syntax.specs.declared.word.StatementToken.{StatementToken}
use Rattle.v8_syntax.specs.Statements.{statement_token, statement_tokens}
use Rattle.sbx_directives.specs.declared.operand.Operand.{Operand}
use Rattle.sbx_directives.specs.Directives.{is_comma, operand_of, behind}

-- the groups behind a first token
abbrev behind_groups : List ℕ → List Token → List (List StatementToken)
behind_groups line [] = []
behind_groups line (t ∷ ts) = slice_split is_comma (statement_tokens line ts)

step : (line : List ℕ) (t : Token) (ts : List Token) (c : Bool) → is_comma (statement_token line t) ≡ c
    → slice_split is_comma (statement_tokens line ts) ≡ statement_tokens line (take (prefix_len (λ u. not (is_comma (statement_token line u))) ts) ts)
    ∷ behind_groups line (drop (prefix_len (λ u. not (is_comma (statement_token line u))) ts) ts)
    → slice_split is_comma (statement_tokens line (t ∷ ts)) ≡ statement_tokens line (take (prefix_len (λ u. not (is_comma (statement_token line u))) (t ∷ ts)) (t ∷ ts))
    ∷ behind_groups line (drop (prefix_len (λ u. not (is_comma (statement_token line u))) (t ∷ ts)) (t ∷ ts))
step line t ts true e h = rw e refl
step line t ts false e h =
    let k : 1 + prefix_len (λ u. not (is_comma (statement_token line u))) ts ≡ suc (prefix_len (λ u. not (is_comma (statement_token line u))) ts) = omega arith in
    rw (e, h, k) refl

split_groups : (line : List ℕ) (ts : List Token)
    → slice_split is_comma (statement_tokens line ts) ≡ statement_tokens line (take (prefix_len (λ u. not (is_comma (statement_token line u))) ts) ts)
    ∷ behind_groups line (drop (prefix_len (λ u. not (is_comma (statement_token line u))) ts) ts)
split_groups line [] = refl
split_groups line (t ∷ ts) = step line t ts (is_comma (statement_token line t)) refl (split_groups line ts)

to_operands : (line : List ℕ) (ts : List Token) → map operand_of (behind_groups line ts) ≡ behind line ts
to_operands line [] = refl
to_operands line (t ∷ ts) = refl

pub first_group : (line : List ℕ) (t : Token) (ts : List Token)
    → behind line (t ∷ ts) ≡ operand_of (statement_tokens line (take (prefix_len (λ u. not (is_comma (statement_token line u))) ts) ts))
    ∷ behind line (drop (prefix_len (λ u. not (is_comma (statement_token line u))) ts) ts)
first_group line t ts = rw (split_groups line ts, to_operands line (drop (prefix_len (λ u. not (is_comma (statement_token line u))) ts) ts)) refl

-- the same where a split gave the parts
pub next_group : (line : List ℕ) (tokens rest front back : List Token) (t : Token) (n : ℕ) (o : Operand) → tokens ≡ t ∷ rest
    → n ≡ prefix_len (λ u. not (is_comma (statement_token line u))) rest → front ≡ take n rest → back ≡ drop n rest → o ≡ operand_of (statement_tokens line front)
    → behind line tokens ≡ o ∷ behind line back
next_group line tokens rest front back t n o whole len before after read = rw (read, before, after, len, whole) (first_group line t rest)
