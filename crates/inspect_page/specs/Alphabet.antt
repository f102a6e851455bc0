-- The alphabet of the data of a page.
use Rattle.std.specs.Prelude.{ℕ, Bool, List, EachIndex, IsTrue, slice_index, ◌||◌, ◌&&◌, ◌==◌, nat_le}

-- from the first to the second
abbrev pub is_from : ℕ → ℕ → ℕ → Bool
is_from first last byte = nat_le first byte && nat_le byte last

-- a letter or a digit
abbrev pub is_word : ℕ → Bool
is_word byte = is_from 97 122 byte || is_from 65 90 byte || is_from 48 57 byte

-- a letter, a digit, a blank, a line feed, or one of `%+,-.:[]`
abbrev pub is_plain : ℕ → Bool
is_plain byte = is_word byte || (byte == 10) || (byte == 32) || (byte == 37) || (byte == 43) || (byte == 44)
    || (byte == 45) || (byte == 46) || (byte == 58) || (byte == 91) || (byte == 93)

-- each byte of a text is one
abbrev pub IsPlainText : List ℕ → Type 0
IsPlainText text = EachIndex text (λ k. IsTrue (is_plain (slice_index text k)))
