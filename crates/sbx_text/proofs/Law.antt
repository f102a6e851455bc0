-- The tokens of a line are slices of it, in order.
use Rattle.std.proofs.Common.{◌≡◌, ℕ, zero, suc, ◌+◌, ◌≤◌, Bool, true, false, cond, List, [], ◌∷◌, ◌++◌, length, take, drop, Result, Ok, Err, refl, sym, subst, arith}
use Rattle.std.specs.Prelude.{nat_lt}
use Rattle.std.proofs.lemmas.List.{take-append-drop, length-take-le, length-drop}
use Rattle.sbx_text.specs.declared.Token.{Token}
use Rattle.sbx_text.specs.declared.Kind.{Kind}
use Rattle.sbx_text.specs.declared.fault.TextFault.{TextFault}
use Rattle.sbx_text.specs.declared.fault.TextFault.TheVariants.{LineTooLong}
use Rattle.sbx_text.specs.declared.scanning.Step.{Step}
use Rattle.sbx_text.specs.declared.scanning.Step.TheVariants.{Stop, Skip, Emit, Refuse}
use Rattle.sbx_text.specs.Tokens.{tokens_at, tokens_of, front, tokens_behind, before}
use Rattle.sbx_text.specs.Slices.{AreSlices, at_end, at_comment, after_blank, after_token}
use Rattle.sbx_text.proofs.Fronts.{StopsAt, SkipsAt, Sound, front_sound}

ok-injective : (us ts : List Token) → (let r : Result (List Token) TextFault = Ok us in r) ≡ Ok ts → us ≡ ts
ok-injective us ts e = cc

stop_case : (at : ℕ) (bytes : List ℕ) → StopsAt bytes → AreSlices at bytes []
stop_case at [] s = at_end at
stop_case at (b ∷ bytes) s = subst (λ (x : ℕ). AreSlices at (x ∷ bytes) []) (sym s) (at_comment at bytes)

skip_case : (k at : ℕ) (bytes : List ℕ) (ts : List Token) → length bytes ≤ suc k → ((a : ℕ) (bs : List ℕ) (us : List Token) → length bs ≤ k → tokens_at k a bs ≡ Ok us → AreSlices a bs us)
    → SkipsAt bytes → tokens_at k (at + 1) (drop 1 bytes) ≡ Ok ts → AreSlices at bytes ts
skip_case k at [] ts room goes s e = absurd s
skip_case k at (b ∷ bytes) ts room goes s e = after_blank at b bytes ts s (goes (at + 1) bytes ts (omega arith) e)

emit_case : (at n : ℕ) (kind : Kind) (bytes : List ℕ) (read : Result (List Token) TextFault) (ts : List Token) → Sound bytes (Emit kind n)
    → ((us : List Token) → read ≡ Ok us → AreSlices (at + n) (drop n bytes) us)
    → before (record { kind = kind; start = at; stop = at + n }) read ≡ Ok ts → AreSlices at bytes ts
emit_case at n kind bytes (Err f) ts s goes e = absurd (cc)
emit_case at n kind bytes (Ok us) ts s goes e =
    let t : Token = record { kind = kind; start = at; stop = at + n } in
    let whole : t ∷ us ≡ ts = ok-injective (t ∷ us) ts e in
    let len : length (take n bytes) ≡ n = length-take-le n bytes s.2 in
    let here : AreSlices (at + n) (drop n bytes) us = goes us refl in
    let there : AreSlices (at + length (take n bytes)) (drop n bytes) us = subst (λ (m : ℕ). AreSlices (at + m) (drop n bytes) us) (sym len) here in
    let made = after_token at kind (take n bytes) (drop n bytes) us s.0 there in
    let moved = subst (λ (m : ℕ). AreSlices at (take n bytes ++ drop n bytes) (record { kind = kind; start = at; stop = at + m } ∷ us)) len made in
    subst (λ (xs : List Token). AreSlices at bytes xs) whole (subst (λ (xs : List ℕ). AreSlices at xs (t ∷ us)) (take-append-drop n bytes) moved)

step_case : (k at : ℕ) (bytes : List ℕ) (ts : List Token) (s : Step) → length bytes ≤ suc k → ((a : ℕ) (bs : List ℕ) (us : List Token) → length bs ≤ k → tokens_at k a bs ≡ Ok us → AreSlices a bs us)
    → Sound bytes s → tokens_behind (tokens_at k) at bytes s ≡ Ok ts → AreSlices at bytes ts
step_case k at bytes ts Stop room goes s e = subst (λ (xs : List Token). AreSlices at bytes xs) (ok-injective [] ts e) (stop_case at bytes s)
step_case k at bytes ts Skip room goes s e = skip_case k at bytes ts room goes s e
step_case k at bytes ts (Emit kind n) room goes s e =
    let less : length (drop n bytes) ≤ k = simp length-drop (omega arith) in
    emit_case at n kind bytes (tokens_at k (at + n) (drop n bytes)) ts s (λ us h. goes (at + n) (drop n bytes) us less h) e
step_case k at bytes ts (Refuse f) room goes s e = absurd (cc)

law_at : (k at : ℕ) (bytes : List ℕ) (ts : List Token) → length bytes ≤ k → tokens_at k at bytes ≡ Ok ts → AreSlices at bytes ts
unfolding tokens_at
law_at zero at [] ts room e = subst (λ (xs : List Token). AreSlices at [] xs) (ok-injective [] ts e) (at_end at)
law_at zero at (b ∷ bytes) ts room e = absurd (omega arith)
law_at (suc k) at bytes ts room e = step_case k at bytes ts (front bytes) room (law_at k) (front_sound bytes) e

pub law : (line : List ℕ) (ts : List Token) → tokens_at (length line) 0 line ≡ Ok ts → AreSlices 0 line ts
law line ts e = law_at (length line) 0 line ts (omega arith) e

pub law_of : (line : List ℕ) (ts : List Token) → tokens_of line ≡ Ok ts → AreSlices 0 line ts
law_of line ts e = by (nat_lt 1024 (length line)) e
  where
    by : (long : Bool) → cond long (Err LineTooLong) (tokens_at (length line) 0 line) ≡ Ok ts → AreSlices 0 line ts
    by true h = absurd (cc)
    by false h = law line ts h
