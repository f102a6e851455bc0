-- Reading the tokens one after the other, as a loop does.
use Rattle.std.proofs.Common.{◌≡◌, ℕ, suc, ◌-◌, ◌+◌, ◌≤◌, ◌<◌, List, [], ◌∷◌, ◌++◌, drop, Result, Ok, Err, refl, sym, ap, ◌∙◌, append_assoc, arith}
use Rattle.std.proofs.lemmas.List.{append-nil}
use Rattle.sbx_text.specs.declared.Token.{Token}
use Rattle.sbx_text.specs.declared.Kind.{Kind}
use Rattle.sbx_text.specs.declared.fault.TextFault.{TextFault}
use Rattle.sbx_text.specs.declared.scanning.Step.TheVariants.{Stop, Skip, Emit, Refuse}
use Rattle.sbx_text.specs.Tokens.{tokens_at, front, before, in_front}

pub in_front_none : (read : Result (List Token) TextFault) → in_front [] read ≡ read
in_front_none (Ok ts) = refl
in_front_none (Err f) = refl

-- a fault stands behind no tokens
pub fault_alone : (others : List Token) (read : Result (List Token) TextFault) (f : TextFault) → in_front others read ≡ Err f → read ≡ Err f
fault_alone others (Ok ts) f h = absurd (cc)
fault_alone others (Err g) f h = h

regroup : (found : List Token) (t : Token) (read : Result (List Token) TextFault) → in_front found (before t read) ≡ in_front (found ++ t ∷ []) read
regroup found t (Ok ts) = ap (λ (xs : List Token). Ok (xs)) (simp append_assoc)
regroup found t (Err f) = refl

module _ (count i at : ℕ) (found : List Token) (bytes : List ℕ) (total : Result (List Token) TextFault)
    (lt : i < count) (so_far : in_front found (tokens_at (count - i) at bytes) ≡ total) where
  pub skips : front bytes ≡ Skip → in_front found (tokens_at (count - (i + 1)) (at + 1) (drop 1 bytes)) ≡ total
  unfolding tokens_at
  skips h =
      let k : count - i ≡ suc (count - (i + 1)) = omega arith in
      let one : in_front found (tokens_at (count - i) at bytes) ≡ in_front found (tokens_at (count - (i + 1)) (at + 1) (drop 1 bytes)) = rw (k, h) refl in
      sym one ∙ so_far

  pub emits : (kind : Kind) (n : ℕ) → front bytes ≡ Emit kind n
      → in_front (found ++ record { kind = kind; start = at; stop = at + n } ∷ []) (tokens_at (count - (i + 1)) (at + n) (drop n bytes)) ≡ total
  unfolding tokens_at
  emits kind n h =
      let k : count - i ≡ suc (count - (i + 1)) = omega arith in
      let t : Token = record { kind = kind; start = at; stop = at + n } in
      let one : in_front found (tokens_at (count - i) at bytes) ≡ in_front (found ++ t ∷ []) (tokens_at (count - (i + 1)) (at + n) (drop n bytes))
      = rw (k, h) (regroup found t (tokens_at (count - (i + 1)) (at + n) (drop n bytes))) in
      sym one ∙ so_far

  pub stops : front bytes ≡ Stop → total ≡ Ok found
  unfolding tokens_at
  stops h =
      let k : count - i ≡ suc (count - (i + 1)) = omega arith in
      let one : in_front found (tokens_at (count - i) at bytes) ≡ Ok found = rw (k, h) (ap (λ (xs : List Token). Ok (xs)) (append-nil found)) in
      sym so_far ∙ one

  pub refuses : (f : TextFault) → front bytes ≡ Refuse f → total ≡ Err f
  unfolding tokens_at
  refuses f h =
      let k : count - i ≡ suc (count - (i + 1)) = omega arith in
      let one : in_front found (tokens_at (count - i) at bytes) ≡ Err f = rw (k, h) refl in
      sym so_far ∙ one

pub is_done : (count i at : ℕ) (found : List Token) (bytes : List ℕ) (total : Result (List Token) TextFault) → count ≤ i
    → in_front found (tokens_at (count - i) at bytes) ≡ total → total ≡ Ok found
unfolding tokens_at
is_done count i at found bytes total le so_far =
    let k : count - i ≡ 0 = omega arith in
    let one : in_front found (tokens_at (count - i) at bytes) ≡ Ok found = rw k (ap (λ (xs : List Token). Ok (xs)) (append-nil found)) in
    sym so_far ∙ one
