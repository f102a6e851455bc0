-- What the listing of code is.
use Rattle.std.specs.Prelude.{ℕ, ◌+◌, List, [], ◌∷◌, ◌++◌}
use Rattle.v8_formats.specs.Table.{meaning}
use Rattle.v8_forms.specs.Text.{hexadecimal, text_of}

-- the line of a word of code: its address, the word, and the text of the instruction that it means
unfoldable pub word_line : ℕ → ℕ → List ℕ
word_line address word = hexadecimal address ++ (32 ∷ (hexadecimal word ++ (32 ∷ (text_of (meaning word) ++ 10 ∷ []))))

-- the lines of the words from an address on
abbrev pub listing : ℕ → List ℕ → List ℕ
listing address [] = []
listing address (word ∷ words) = word_line address word ++ listing (address + 4) words
