-- The tokens of the lines of a source, as they are kept and as they are given out again.
use Rattle.std.proofs.Common.{◌≡◌, ℕ, ◌+◌, ◌-◌, ◌≤◌, ◌<◌, List, [], ◌∷◌, ◌++◌, length, map, take, drop, Result, Ok, Err, refl, sym, ap, ◌∙◌, append_assoc, arith}
use Rattle.std.specs.Prelude.{min}
use Rattle.std.specs.List.{enumerate_from}
use Rattle.std.specs.Result.{result_map_both, result_unwrap_or}
use Rattle.std.proofs.Math.Seq.{take-append_seam, drop-append_seam}
use Rattle.std.proofs.lemmas.List.{append-nil, nil_from_length, drop_all, length-append}
use Rattle.sbx_text.specs.declared.Token.{Token}
use Rattle.sbx_text.specs.declared.fault.TextFault.{TextFault}
use Rattle.sbx_text.specs.Tokens.{tokens_of, in_front}
use Rattle.sbx_asm.specs.Items.{Item, lines_of, item_of}

-- what was read of a line: how many tokens, and which
abbrev pub counted : Result (List Token) TextFault → Result ℕ TextFault
counted read = result_map_both length (λ fault. fault) read

abbrev pub count_of : List ℕ → Result ℕ TextFault
count_of line = counted (tokens_of line)

abbrev pub own : List ℕ → List Token
own line = result_unwrap_or (tokens_of line) []

-- ---- one more line

abbrev pub IsRead : Result (List Token) TextFault → Result ℕ TextFault → List Token → List Token → Type 0
IsRead read found old new = (found ≡ counted read) × (new ≡ old ++ result_unwrap_or read [])

pub adds_tokens : (old new : List Token) (read : Result (List Token) TextFault) (n : ℕ) → in_front old read ≡ Ok new → n ≡ length new - length old → IsRead read (Ok n) old new
adds_tokens old new (Err f) n h is = absurd (cc)
adds_tokens old new (Ok ts) n h is =
    let whole : old ++ ts ≡ new = cc h in
    let count : n ≡ length ts = omega (arith, length-append old ts, ap length whole) in
    (ap (λ (k : ℕ). Ok k) count, sym whole)

-- what the lines so far give, with what those of the rest do
module _ {A : Type 0} (give : List (List ℕ) → List A) (old total : List A) (rest : List ℕ) (so_far : old ++ give (lines_of rest) ≡ total) where
  pub one_more : (line after : List ℕ) (more new : List A) → lines_of rest ≡ line ∷ lines_of after →
      give (line ∷ lines_of after) ≡ more ++ give (lines_of after) → new ≡ old ++ more → new ++ give (lines_of after) ≡ total
  one_more line after more new first splits is =
      ap (λ (xs : List A). xs ++ give (lines_of after)) is
      ∙ append_assoc old more (give (lines_of after))
      ∙ ap (λ (xs : List A). old ++ xs) (sym (ap give first ∙ splits))
      ∙ so_far

  pub all_read : give [] ≡ [] → length rest ≡ 0 → old ≡ total
  unfolding lines_of
  all_read gives_none none =
      sym (append-nil old) ∙ ap (λ (xs : List A). old ++ xs) (sym (ap (λ (bytes : List ℕ). give (lines_of bytes)) (nil_from_length rest none) ∙ gives_none)) ∙ so_far

-- ---- the lines again

some_left : (f : Result ℕ TextFault) (fs : List (Result ℕ TextFault)) (rest : List ℕ) → f ∷ fs ≡ map count_of (lines_of rest) → 0 < length rest
unfolding lines_of
some_left f fs [] h = cc
some_left f fs (b ∷ bytes) h = omega arith

module _ (fs : List (Result ℕ TextFault)) (k : ℕ) (f : Result ℕ TextFault) (rest : List ℕ) (is : drop k fs ≡ f ∷ drop (k + 1) fs) (so_far : drop k fs ≡ map count_of (lines_of rest)) where
  pub is_left : 0 < length rest
  is_left = some_left f (drop (k + 1) fs) rest (sym is ∙ so_far)

  module _ (line after : List ℕ) (first : lines_of rest ≡ line ∷ lines_of after) where
    both : f ∷ drop (k + 1) fs ≡ count_of line ∷ map count_of (lines_of after)
    both = sym is ∙ so_far ∙ ap (map count_of) first

    pub own_count : f ≡ count_of line
    own_count = cc both

    pub other_counts : drop (k + 1) fs ≡ map count_of (lines_of after)
    other_counts = cc both

-- the first of some tokens are a line's, and the others those of the lines after it
module _ (n : ℕ) (ts others : List Token) where
  pub own_tokens : (read : Result (List Token) TextFault) → Ok n ≡ counted read → ts ≡ result_unwrap_or read [] ++ others
      → (Ok (take (min n (length ts)) ts) ≡ read) × (drop (min n (length ts)) ts ≡ others)
  own_tokens (Err f) h e = absurd (cc)
  own_tokens (Ok us) h e =
      let count : n ≡ length us = cc h in
      let least : min n (length ts) ≡ length us = omega (arith, count, ap length e, length-append us others) in (
        (λ j. let read : Result (List Token) TextFault = Ok (take (least j) (e j)) in read) ∙ ap (λ (vs : List Token). Ok vs) (take-append_seam us others),
        (λ j. drop (least j) (e j)) ∙ drop-append_seam us others,
      )

module _ (read total : List Item) (k : ℕ) (rest : List ℕ) (so_far : read ++ map item_of (enumerate_from (k + 1) (lines_of rest)) ≡ total) where
  pub next_item : (line after : List ℕ) → lines_of rest ≡ line ∷ lines_of after → (read ++ item_of (k + 1, line) ∷ []) ++ map item_of (enumerate_from (k + 1 + 1) (lines_of after)) ≡ total
  next_item line after first =
      append_assoc read (item_of (k + 1, line) ∷ []) (map item_of (enumerate_from (k + 1 + 1) (lines_of after)))
      ∙ ap (λ (lines : List (List ℕ)). read ++ map item_of (enumerate_from (k + 1) lines)) (sym first) ∙ so_far

  pub all_items : (fs : List (Result ℕ TextFault)) → length fs ≤ k → drop k fs ≡ map count_of (lines_of rest) → read ≡ total
  all_items fs le cut =
      let none : [] ≡ map count_of (lines_of rest) = sym (drop_all k fs le) ∙ cut in
      sym (append-nil read) ∙ ap (λ (lines : List (List ℕ)). read ++ map item_of (enumerate_from (k + 1) lines)) (sym (no_lines (lines_of rest) none)) ∙ so_far
    where
      no_lines : (lines : List (List ℕ)) → [] ≡ map count_of lines → lines ≡ []
      no_lines [] h = refl
      no_lines (l ∷ lines) h = cc
