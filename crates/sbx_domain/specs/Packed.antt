-- Terms as a form keeps them, which are those that it has.
use Rattle.std.proofs.Common.{◌≡◌, ℕ, ◌+◌, ◌-◌, ◌*◌, ◌/◌, ◌%◌, ◌^◌, ◌<◌, ◌≤◌, ℤ, pos, List, ◌++◌, length, take, drop, replicate, sym, arith}
use Rattle.std.proofs.Common.{ap, ◌∙◌, take-append-drop, length-take-le}
use Rattle.std.specs.Prelude.{◌+ℤ◌, ◌-ℤ◌, unsigned_abs}
use Rattle.std.proofs.lemmas.Int.{ints}
use Rattle.sbx_form.specs.declared.terms.FormTerm.{FormTerm}

-- a coefficient is raised by 2^32, so that none is below 0, and lowered again
abbrev pub raised : ℤ → ℕ
raised c = unsigned_abs (c +ℤ pos (2 ^ 32))

abbrev pub lowered : ℕ → ℤ
lowered n = pos n -ℤ pos (2 ^ 32)

-- what stands in a place that holds no term
abbrev pub blank : FormTerm
blank = record { location = 0; coefficient = pos 0 }

abbrev pub no_term : FormTerm
no_term = blank

-- ---- a term's parts are got back from it

lowered_back : (n : ℕ) → raised (lowered n) ≡ n
lowered_back n = let e : lowered n +ℤ pos (2 ^ 32) ≡ pos n = omega (arith, ints) in ap unsigned_abs e

pub high_back : (a b : ℕ) → b < 2 ^ 32 → raised (lowered (a * 2 ^ 32 + b)) / 2 ^ 32 ≡ a
high_back a b low = ap (λ n. n / 2 ^ 32) (lowered_back (a * 2 ^ 32 + b)) ∙ omega arith

pub low_back : (a b : ℕ) → b < 2 ^ 32 → raised (lowered (a * 2 ^ 32 + b)) % 2 ^ 32 ≡ b
low_back a b low = ap (λ n. n % 2 ^ 32) (lowered_back (a * 2 ^ 32 + b)) ∙ omega arith

-- ---- an array with blanks is got back from its terms

pub count_back : (n : ℕ) (xs : List FormTerm) → n ≤ length xs → length (take n xs) ≡ n
count_back n xs within = length-take-le n xs within

pub terms_back : (n : ℕ) (xs : List FormTerm) → n ≤ length xs → drop n xs ≡ replicate (8 - n) blank
    → take n xs ++ replicate (8 - length (take n xs)) blank ≡ xs
terms_back n xs within rest =
    ap (λ k. take n xs ++ replicate (8 - k) blank) (count_back n xs within)
    ∙ (ap (λ ys. take n xs ++ ys) (sym rest) ∙ take-append-drop n xs)
