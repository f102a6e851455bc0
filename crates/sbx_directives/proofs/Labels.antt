-- A name and `:`, as the words of some tokens have them.
use Rattle.std.proofs.Common.{◌≡◌, ℕ, suc, ◌+◌, Bool, true, false, cond, List, ◌∷◌, length, Option, Some, None, refl, ap, arith, eqb}
use Rattle.std.proofs.lemmas.List.{length-map}
use Rattle.sbx_text.specs.declared.Token.{Token}
use Rattle.v8_syntax.specs.declared.word.StatementToken.{StatementToken}
use Rattle.v8_syntax.specs.declared.word.StatementToken.TheVariants as words
use Rattle.v8_syntax.specs.Statements.{after_sign, statement_token, statement_tokens}
use Rattle.sbx_directives.specs.Directives.{labels_first}

same : (ws rest : List StatementToken) → (let o : Option (List StatementToken) = Some ws in o) ≡ Some rest → ws ≡ rest
same ws rest e = cc

-- no colon, no label
pub no_colon : (w : StatementToken) (ws : List StatementToken) → after_sign 58 ws ≡ None → labels_first (w ∷ ws) ≡ 0
unfolding labels_first
no_colon (words.Name k i j) (words.Sign b ∷ ws) h = by (eqb b 58) h
  where
    by : (t : Bool) → cond t (Some ws) None ≡ None → cond t (suc (labels_first ws)) 0 ≡ 0
    by true e = absurd (cc)
    by false e = refl
no_colon _ _ h = refl

pub colon : (k : _) (i j : ℕ) (ws rest : List StatementToken) → after_sign 58 ws ≡ Some rest → labels_first (words.Name k i j ∷ ws) ≡ suc (labels_first rest)
unfolding labels_first
colon k i j (words.Sign b ∷ ws) rest h = by (eqb b 58) h
  where
    by : (t : Bool) → cond t (Some ws) None ≡ Some rest → cond t (suc (labels_first ws)) 0 ≡ suc (labels_first rest)
    by true e = ap (λ xs. suc (labels_first xs)) (same ws rest e)
    by false e = absurd (cc)
colon k i j _ rest h = absurd (cc)

one_fewer : (b : ℕ) (ws rest : List StatementToken) → after_sign b ws ≡ Some rest → length ws ≡ suc (length rest)
one_fewer b (words.Sign c ∷ ws) rest h = by (eqb c b) h
  where
    by : (t : Bool) → cond t (Some ws) None ≡ Some rest → suc (length ws) ≡ suc (length rest)
    by true e = ap (λ (xs : List StatementToken). suc (length xs)) (same ws rest e)
    by false e = absurd (cc)
one_fewer b _ rest h = absurd (cc)

pub tokens_fewer : (line : List ℕ) (after rest : List Token) → after_sign 58 (statement_tokens line after) ≡ Some (statement_tokens line rest) → 1 + length rest ≡ length after
tokens_fewer line after rest h =
    let e = one_fewer 58 (statement_tokens line after) (statement_tokens line rest) h in
    let a = length-map after (statement_token line) in
    let b = length-map rest (statement_token line) in omega arith
