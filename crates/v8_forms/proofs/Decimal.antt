-- Decimal digits, the last one apart.
use Rattle.std.proofs.Common.{◌≡◌, ℕ, ◌+◌, ◌/◌, ◌%◌, ◌^◌, ◌<◌, ◌≤◌, true, [], ◌∷◌, ◌++◌, length, refl, sym, ap, ◌∙◌, arith, lt-ltb}
use Rattle.std.specs.Fmt.{decimal, digit_glyph}
use Rattle.std.proofs.lemmas.Fmt.{decimal_step, decimal_digit, length-decimal-le}
use Rattle.std.proofs.lemmas.List.{length-append}

pub one_digit : (n : ℕ) → n < 10 → decimal n ≡ digit_glyph true n ∷ []
one_digit n h = decimal_digit n h ∙ ap (λ (d : ℕ). d ∷ []) (sym (rw (lt-ltb n 10 h) refl))

pub more_digits : (n : ℕ) → 10 ≤ n → n < 2 ^ 64 → decimal n ≡ decimal (n / 10) ++ digit_glyph true (n % 10) ∷ []
more_digits n h small =
    let last : n % 10 < 10 = omega arith in
    decimal_step n h small ∙ ap (λ (d : ℕ). decimal (n / 10) ++ d ∷ []) (sym (rw (lt-ltb (n % 10) 10 last) refl))

pub length_one : (n : ℕ) → n < 10 → length (decimal n) ≡ 1
length_one n h = ap length (one_digit n h)

pub length_more : (n : ℕ) → 10 ≤ n → n < 2 ^ 64 → length (decimal n) ≡ length (decimal (n / 10)) + 1
length_more n h small = ap length (more_digits n h small) ∙ length-append (decimal (n / 10)) (digit_glyph true (n % 10) ∷ [])

pub ten_digits : (n : ℕ) → n < 2 ^ 32 → length (decimal n) ≤ 10
ten_digits n h = length-decimal-le 10 n (omega arith) (omega arith) (omega arith)

pub three_digits : (n : ℕ) → n < 2 ^ 8 → length (decimal n) ≤ 3
three_digits n h = length-decimal-le 3 n (omega arith) (omega arith) (omega arith)

pub ruleset decimal_laws = (one_digit, more_digits, length_one, length_more, ten_digits, three_digits)
