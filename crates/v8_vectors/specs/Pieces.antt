-- The pieces of a line between white space, and the words that they spell.
use Rattle.std.specs.Prelude.{◌≡◌, ℕ, ◌+◌, ◌*◌, ◌^◌, ◌<◌, List, [], ◌∷◌, ◌++◌, length, map}
use Rattle.std.specs.Borrow.{Bor}
use Rattle.std.specs.List.{All}
use Rattle.std.specs.Str.{NoCharPasses, EmptyOrStartsWithPassing}
use Rattle.std.specs.Str.Parse.{IsNumeral, digits_value}
use Rattle.std.specs.Char.{is_whitespace, is_not_whitespace}
use Rattle.v8_word.specs.declared.Icc.{Icc}
use Rattle.v8_alu.specs.Results.{from_flag}
use Rattle.v8_vectors.specs.Agreement.{IsSpelledAgain}

-- bs is white space, the piece p, and rest, which is empty or begins with white space
pub record StartsWithPiece (bs p rest : List ℕ) : Type 0 where
  pub gap : List ℕ
  pub split : bs ≡ gap ++ (p ++ rest)
  pub nonempty : 0 < length p
  pub gap_is_blank : NoCharPasses is_not_whitespace gap
  pub piece_has_no_space : NoCharPasses is_whitespace p
  pub rest_starts_blank : (more : List ℕ) × EmptyOrStartsWithPassing is_whitespace rest more

-- the pieces of bs, in order
abbrev pub SplitsInto : List ℕ → List (List ℕ) → Type 0
SplitsInto bs [] = NoCharPasses is_not_whitespace bs
SplitsInto bs (p ∷ ps) = (rest : List ℕ) × StartsWithPiece bs p rest × SplitsInto rest ps

-- hexadecimal digits alone, of a number of 32 bits
abbrev pub IsWord : List ℕ → Type 0
IsWord p = IsNumeral 16 p × (digits_value 16 p < 2 ^ 32)

-- the digit of four codes: N 8, Z 4, V 2, C 1
abbrev pub digit_of : Icc → ℕ
digit_of f = from_flag f.n * 8 + from_flag f.z * 4 + from_flag f.v * 2 + from_flag f.c

-- the texts ps are the pieces of bs
abbrev pub ArePieces : List ℕ → List (Bor (List ℕ)) → Type 0
ArePieces bs ps = SplitsInto bs (map (λ p. p.now) ps)

-- one word or more, and nothing else
abbrev pub AreWords : List (Bor (List ℕ)) → Type 0
AreWords ps = (0 < length ps) × All (λ p. IsWord p.now) ps

-- each text spells an instruction's word as that instruction is spelled
abbrev pub AreSpelledAgain : List (Bor (List ℕ)) → Type 0
AreSpelledAgain ps = All (λ p. IsSpelledAgain (digits_value 16 p.now)) ps
