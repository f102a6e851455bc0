-- How some bytes of a line are read: their tokens, and what each of these is.
use Rattle.std.proofs.Common.{◌≡◌, ℕ, zero, suc, ◌+◌, ◌-◌, ◌*◌, ◌<◌, ◌≤◌, true, cond, List, [], ◌∷◌, ◌++◌, length, take, drop, get_or, refl, sym, ap, ap₂, subst, ◌∙◌, arith, leb, Ok}
use Rattle.std.specs.Prelude.{◌&&◌}
use Rattle.std.proofs.lemmas.Bool.{le-leb}
use Rattle.std.proofs.lemmas.List.{append_assoc, append-nil, length-append}
use Rattle.std.proofs.Math.Seq.{take-append_seam, drop-append_seam}
use Rattle.sbx_text.specs.declared.Token.{Token}
use Rattle.sbx_text.specs.declared.Kind.{Kind}
use Rattle.sbx_text.specs.declared.Kind.TheVariants as kinds
use Rattle.sbx_text.specs.declared.scanning.Step.TheVariants.{Emit}
use Rattle.sbx_text.specs.Tokens.{front, tokens_at, tokens_behind, before}
use Rattle.v8_syntax.specs.declared.word.StatementToken.{StatementToken}
use Rattle.v8_syntax.specs.declared.word.StatementToken.TheVariants as words
use Rattle.v8_syntax.specs.Statements.{bytes_between, token_at, statement_token, statement_tokens, percent_token, name_kind}

-- what a token of that kind and text is, at a place
abbrev pub word_like : List ℕ → ℕ → ℕ → Kind → StatementToken
word_like text start stop kinds.Name = words.Name (name_kind text) start stop
word_like text start stop kinds.Percent = percent_token (drop 1 text)
word_like text start stop (kinds.Number n) = words.Number n
word_like text start stop kinds.Sign = words.Sign (get_or text 0 0)

like_word : (line : List ℕ) (start stop : ℕ) (kind : Kind) → token_at line start stop kind ≡ word_like (bytes_between line start stop) start stop kind
like_word line start stop kinds.Name = refl
like_word line start stop kinds.Percent = refl
like_word line start stop (kinds.Number n) = refl
like_word line start stop kinds.Sign = refl

-- the bytes of a token are those that stand there
pub between : (line pre text rest : List ℕ) (at : ℕ) → line ≡ pre ++ (text ++ rest) → at ≡ length pre → bytes_between line at (at + length text) ≡ text
between line pre text rest at e p =
    let long : length line ≡ length pre + (length text + length rest) = ap length e ∙ length-append pre (text ++ rest) ∙ ap (λ n. length pre + n) (length-append text rest) in
    let low : leb at (at + length text) ≡ true = le-leb at (at + length text) (omega arith) in
    let high : leb (at + length text) (length line) ≡ true = le-leb (at + length text) (length line) (omega arith) in
    let dropped : drop at line ≡ text ++ rest = ap₂ (λ n xs. drop n xs) p e ∙ drop-append_seam pre (text ++ rest) in
    let taken : at + length text - at ≡ length text = omega arith in
    ap (λ t. cond (t && leb (at + length text) (length line)) (take (at + length text - at) (drop at line)) []) low
    ∙ ap (λ t. cond t (take (at + length text - at) (drop at line)) []) high
    ∙ ap₂ (λ n xs. take n xs) taken dropped
    ∙ take-append_seam text rest

-- Some bytes have tokens wherever they end a line, and these are those words: at most so many tokens and blanks.
pub record Heard (count : ℕ) (bytes : List ℕ) (words : ℕ → List StatementToken) : Type 0 where
  pub marks : ℕ → List Token
  pub scanned : (k at : ℕ) → length bytes ≤ k → tokens_at k at bytes ≡ Ok (marks at)
  pub said : (line pre : List ℕ) (at : ℕ) → line ≡ pre ++ bytes → at ≡ length pre → statement_tokens line (marks at) ≡ words at
  pub short : length bytes ≤ 16 * count

-- ---- the end

nothing : (k at : ℕ) → tokens_at k at [] ≡ Ok []
unfolding tokens_at
nothing zero at = refl
nothing (suc k) at = refl

pub ended : Heard 0 [] (λ _. [])
ended = record { marks = λ _. []; scanned = λ k at room. nothing k at; said = λ line pre at e p. refl; short = omega arith }

-- ---- a blank

blank_scanned : (bytes : List ℕ) (marks : ℕ → List Token) → ((k at : ℕ) → length bytes ≤ k → tokens_at k at bytes ≡ Ok (marks at))
    → (k at : ℕ) → suc (length bytes) ≤ k → tokens_at k at (32 ∷ bytes) ≡ Ok (marks (at + 1))
unfolding tokens_at
blank_scanned bytes marks h zero at room = absurd (omega arith)
blank_scanned bytes marks h (suc k) at room = h k (at + 1) (omega arith)

pub spaced : {count : ℕ} {bytes : List ℕ} {words : ℕ → List StatementToken} → Heard count bytes words → Heard (suc count) (32 ∷ bytes) (λ at. words (at + 1))
spaced {count} {bytes} {words} h = record {
  marks = λ at. h.marks (at + 1);
  scanned = blank_scanned bytes h.marks h.scanned;
  said = λ line pre at e p. h.said line (pre ++ 32 ∷ []) (at + 1) (e ∙ sym (append_assoc pre (32 ∷ []) bytes)) (let l = length-append pre (32 ∷ []) in omega arith);
  short = (let s = h.short in omega arith);
}

-- ---- a token

pub token_scanned : (kind : Kind) (text bytes : List ℕ) (marks : ℕ → List Token) → front (text ++ bytes) ≡ Emit kind (length text) → 0 < length text
    → ((k at : ℕ) → length bytes ≤ k → tokens_at k at bytes ≡ Ok (marks at))
    → (k at : ℕ) → length (text ++ bytes) ≤ k → tokens_at k at (text ++ bytes) ≡ Ok (record { kind = kind; start = at; stop = at + length text } ∷ marks (at + length text))
unfolding tokens_at
token_scanned kind text bytes marks f some h zero at room = let l = length-append text bytes in absurd (omega arith)
token_scanned kind text bytes marks f some h (suc k) at room =
    let l = length-append text bytes in
    let fits : length bytes ≤ k = omega arith in
    ap (tokens_behind (tokens_at k) at (text ++ bytes)) f
    ∙ ap (λ xs. before (record { kind = kind; start = at; stop = at + length text }) (tokens_at k (at + length text) xs)) (drop-append_seam text bytes)
    ∙ ap (before (record { kind = kind; start = at; stop = at + length text })) (h k (at + length text) fits)

token_said : (kind : Kind) (text bytes : List ℕ) (word : ℕ → StatementToken) (marks : ℕ → List Token) (words : ℕ → List StatementToken)
    → ((at : ℕ) → word_like text at (at + length text) kind ≡ word at)
    → ((line pre : List ℕ) (at : ℕ) → line ≡ pre ++ bytes → at ≡ length pre → statement_tokens line (marks at) ≡ words at)
    → (line pre : List ℕ) (at : ℕ) → line ≡ pre ++ (text ++ bytes) → at ≡ length pre
    → statement_tokens line (record { kind = kind; start = at; stop = at + length text } ∷ marks (at + length text)) ≡ word at ∷ words (at + length text)
unfolding statement_token
token_said kind text bytes word marks words is h line pre at e p =
    let l = length-append pre text in
    let place : at + length text ≡ length (pre ++ text) = omega arith in
    let here : token_at line at (at + length text) kind ≡ word at
    = like_word line at (at + length text) kind ∙ ap (λ t. word_like t at (at + length text) kind) (between line pre text bytes at e p) ∙ is at in
    ap₂ (λ w ws. w ∷ ws) here (h line (pre ++ text) (at + length text) (e ∙ sym (append_assoc pre text bytes)) place)

pub tokened : {count : ℕ} {bytes : List ℕ} {words : ℕ → List StatementToken} (kind : Kind) (text : List ℕ) (word : ℕ → StatementToken) →
    front (text ++ bytes) ≡ Emit kind (length text) → 0 < length text → length text ≤ 16
    → ((at : ℕ) → word_like text at (at + length text) kind ≡ word at) → Heard count bytes words → Heard (suc count) (text ++ bytes) (λ at. word at ∷ words (at + length text))
tokened {count} {bytes} {words} kind text word f some small is h = record {
  marks = λ at. record { kind = kind; start = at; stop = at + length text } ∷ h.marks (at + length text);
  scanned = token_scanned kind text bytes h.marks f some h.scanned;
  said = token_said kind text bytes word h.marks words is h.said;
  short = (let s = h.short in let l = length-append text bytes in omega arith);
}

-- nothing follows
pub closed : {count : ℕ} {words : ℕ → List StatementToken} (text : List ℕ) → Heard count (text ++ []) words → Heard count text words
closed {count} {words} text h = subst (λ xs. Heard count xs words) (append-nil text) h

-- fewer than so many
pub fewer : {count : ℕ} {bytes : List ℕ} {words : ℕ → List StatementToken} → Heard count bytes words → Heard (suc count) bytes words
fewer h = record { marks = h.marks; scanned = h.scanned; said = h.said; short = (let s = h.short in omega arith) }

pub regrouped : {count : ℕ} {words : ℕ → List StatementToken} (xs ys zs : List ℕ) → Heard count (xs ++ (ys ++ zs)) words → Heard count ((xs ++ ys) ++ zs) words
regrouped {count} {words} xs ys zs h = subst (λ bs. Heard count bs words) (sym (append_assoc xs ys zs)) h

pub three_groups : (a b c d : List ℕ) → ((a ++ b) ++ c) ++ d ≡ a ++ (b ++ (c ++ d))
three_groups a b c d = simp append_assoc

pub regrouped3 : {count : ℕ} {words : ℕ → List StatementToken} (a b c d : List ℕ) → Heard count (a ++ (b ++ (c ++ d))) words → Heard count (((a ++ b) ++ c) ++ d) words
regrouped3 {count} {words} a b c d h = subst (λ bs. Heard count bs words) (sym (three_groups a b c d)) h
