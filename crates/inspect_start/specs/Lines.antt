-- The lines of a file, the words of a line, and the numbers that words spell.
use Rattle.std.specs.Prelude.{ℕ, ◌==◌, ◌&&◌, Bool, not, nat_lt, nat_le, if◌then◌else◌, List, [], ◌∷◌, length, take}
use Rattle.std.specs.Prelude.{drop, filter, codes, Option, Some, None}
use Rattle.std.specs.List.{list_all, onto_first, slice_split, take_while}
use Rattle.std.specs.Char.{is_ascii_whitespace, is_digit}
use Rattle.std.specs.Str.{byte, bytes_eq}
use Rattle.std.specs.Str.Parse.{digits_value}

-- LF, which is 10, ends a line; what follows the last one is a line if it has a byte
abbrev pub lines_of : List ℕ → List (List ℕ)
lines_of [] = []
lines_of (b ∷ bytes) = if b == 10 then [] ∷ lines_of bytes else onto_first b (lines_of bytes)

-- what stands in a line before its comment, which begins with `!`
abbrev pub text_of : List ℕ → List ℕ
text_of line = take_while (λ b. not (b == byte "!")) line

abbrev pub is_text : List ℕ → Bool
is_text text = list_all (λ b. nat_lt b 128) text

-- the words of a text are what stands between its blanks
abbrev pub words_of : List ℕ → List (List ℕ)
words_of text = filter (λ word. nat_lt 0 (length word)) (slice_split is_ascii_whitespace text)

-- the number of one digit or more, and nothing else, if it is at most `most`
abbrev pub numeral_of : ℕ → ℕ → List ℕ → Option ℕ
numeral_of radix most digits =
    if (nat_lt 0 (length digits) && list_all (λ b. is_digit b radix) digits) && nat_le (digits_value radix digits) most
    then Some (digits_value radix digits) else None

-- a number is `0x` and hexadecimal digits, or decimal digits
abbrev pub number_of : ℕ → List ℕ → Option ℕ
number_of most word =
    if bytes_eq (take 2 word) (codes "0x") then numeral_of 16 most (drop 2 word) else numeral_of 10 most word
