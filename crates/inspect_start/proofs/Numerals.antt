-- Numbers that words spell: what a parse of their digits says, as a function.
use Rattle.std.proofs.Common.{◌≡◌, ℕ, ◌<◌, ◌≤◌, Bool, true, false, cond, List, [], ◌∷◌, length, Option, Some, None, refl, ap, arith}
use Rattle.std.specs.Prelude.{◌&&◌, nat_lt, nat_le}
use Rattle.std.specs.Option.{SomeIff}
use Rattle.std.specs.Char.{digit_value, is_digit}
use Rattle.std.specs.List.{list_all}
use Rattle.std.specs.Str.{IsAscii, IsUtf8}
use Rattle.std.specs.Str.Parse.{AllDigits, IsNumeral, digits_value}
use Rattle.std.proofs.lemmas.Bool.{and_parts, and_from, ltb-true, leb-true, lt-ltb, le-leb, false≢true}
use Rattle.std.proofs.lemmas.Bool.Decides.{nat_tests}
use Rattle.std.proofs.lemmas.Str.{IsUtf8-from_ascii}
use Rattle.std.proofs.lemmas.Str.Ascii.{IsAscii-nil, IsAscii-cons}
use Rattle.inspect_start.specs.Lines.{numeral_of}

each_digit : (radix : ℕ) (digits : List ℕ) → list_all (λ b. is_digit b radix) digits ≡ true → AllDigits radix digits
each_digit radix [] h = tt
each_digit radix (b ∷ digits) h =
    let parts = and_parts (is_digit b radix) (list_all (λ b. is_digit b radix) digits) h in
    (ltb-true (digit_value b) radix parts.0, each_digit radix digits parts.1)

all_digits : (radix : ℕ) (digits : List ℕ) → AllDigits radix digits → list_all (λ b. is_digit b radix) digits ≡ true
all_digits radix [] h = refl
all_digits radix (b ∷ digits) h =
    and_from (is_digit b radix) (list_all (λ b. is_digit b radix) digits) (lt-ltb (digit_value b) radix h.0) (all_digits radix digits h.1)

-- a fact that a test decides
by_test : (r : Option ℕ) (P : Type 0) (value : ℕ) (t : Bool) → (t ≡ true → P) → (P → t ≡ true) → SomeIff r P value → r ≡ cond t (Some value) None
by_test (Some x) P value true holds passes h = ap Some h.1
by_test (Some x) P value false holds passes h = absurd (false≢true (passes h.0))
by_test None P value true holds passes h = absurd (h (holds refl))
by_test None P value false holds passes h = refl

module _ (radix most : ℕ) (digits : List ℕ) where
  abbrev IsNumber : Type 0
  IsNumber = IsNumeral radix digits × (digits_value radix digits ≤ most)

  abbrev test : Bool
  test = (nat_lt 0 (length digits) && list_all (λ b. is_digit b radix) digits) && nat_le (digits_value radix digits) most

  holds : test ≡ true → IsNumber
  holds h =
      let both = and_parts (nat_lt 0 (length digits) && list_all (λ b. is_digit b radix) digits) (nat_le (digits_value radix digits) most) h in
      let numeral = and_parts (nat_lt 0 (length digits)) (list_all (λ b. is_digit b radix) digits) both.0 in
      ((ltb-true 0 (length digits) numeral.0, each_digit radix digits numeral.1), leb-true (digits_value radix digits) most both.1)

  passes : IsNumber → test ≡ true
  passes h =
      and_from (nat_lt 0 (length digits) && list_all (λ b. is_digit b radix) digits) (nat_le (digits_value radix digits) most)
      (and_from (nat_lt 0 (length digits)) (list_all (λ b. is_digit b radix) digits) (lt-ltb 0 (length digits) h.0.0) (all_digits radix digits h.0.1))
      (le-leb (digits_value radix digits) most h.1)

  pub numeral_is : (r : Option ℕ) → SomeIff r IsNumber (digits_value radix digits) → r ≡ numeral_of radix most digits
  numeral_is r h = by_test r IsNumber (digits_value radix digits) test holds passes h

digit_is_ascii : (b : ℕ) → digit_value b < 36 → b < 128
digit_is_ascii b = grind (arith, nat_tests)

digits_are_ascii : (radix : ℕ) (digits : List ℕ) → radix ≤ 36 → AllDigits radix digits → IsAscii digits
digits_are_ascii radix [] few h = IsAscii-nil
digits_are_ascii radix (b ∷ digits) few h = IsAscii-cons b digits (digit_is_ascii b (omega (arith, h.0))) (digits_are_ascii radix digits few h.1)

-- what is no text is no number
pub no_numeral : (radix most : ℕ) (digits : List ℕ) → radix ≤ 36 → ¬ IsUtf8 digits → None ≡ numeral_of radix most digits
no_numeral radix most digits few none =
    numeral_is radix most digits None (λ h. none (IsUtf8-from_ascii digits (digits_are_ascii radix digits few h.0.1)))
