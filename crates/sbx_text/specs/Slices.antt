-- How the tokens of a line lie in it: slices in order, with only blanks and a comment outside them.
use Rattle.std.specs.Prelude.{◌≡◌, ℕ, ◌+◌, ◌^◌, ◌<◌, IsTrue, ◌⊎◌, List, [], ◌∷◌, ◌++◌, length}
use Rattle.std.specs.List.{AllPass}
use Rattle.std.specs.Char.{is_digit}
use Rattle.std.specs.Str.Parse.{digits_value}
use Rattle.sbx_text.specs.declared.Token.{Token}
use Rattle.sbx_text.specs.declared.Kind.{Kind}
use Rattle.sbx_text.specs.declared.Kind.TheVariants.{Name, Percent, Number, Sign}
use Rattle.sbx_text.specs.Tokens.{is_blank, starts_name, continues_name, is_sign}

-- a letter, `_` or `.`, then those and digits
abbrev pub IsName : List ℕ → Type 0
IsName [] = ⊥
IsName (b ∷ bytes) = IsTrue (starts_name b) × AllPass continues_name bytes

-- some digits of the radix, of that value
abbrev pub AreDigits : ℕ → ℕ → List ℕ → Type 0
AreDigits radix value bytes = (0 < length bytes) × AllPass (λ b. is_digit b radix) bytes
    × (digits_value radix bytes ≡ value)

-- what a token of each kind is
abbrev pub IsSpelled : Kind → List ℕ → Type 0
IsSpelled Name bytes = IsName bytes
IsSpelled Percent bytes = (name : List ℕ) × (bytes ≡ 37 ∷ name) × IsName name
IsSpelled (Number n) bytes =
    (n < 2 ^ 40) × (AreDigits 10 n bytes ⊎ ((digits : List ℕ) × (bytes ≡ 48 ∷ 120 ∷ digits) × AreDigits 16 n digits))
IsSpelled Sign bytes = (b : ℕ) × (bytes ≡ b ∷ []) × IsTrue (is_sign b)

-- from a place of a line on, where some bytes are left, its tokens are these
pub data AreSlices : ℕ → List ℕ → List Token → Type 0 where
  at_end : (at : ℕ) → AreSlices at [] []
  at_comment : (at : ℕ) (bytes : List ℕ) → AreSlices at (33 ∷ bytes) []
  after_blank : (at b : ℕ) (bytes : List ℕ) (ts : List Token) → IsTrue (is_blank b) → AreSlices (at + 1) bytes ts →
      AreSlices at (b ∷ bytes) ts
  after_token : (at : ℕ) (kind : Kind) (text bytes : List ℕ) (ts : List Token) → IsSpelled kind text →
      AreSlices (at + length text) bytes ts
      → AreSlices at (text ++ bytes) (record { kind = kind; start = at; stop = at + length text } ∷ ts)
