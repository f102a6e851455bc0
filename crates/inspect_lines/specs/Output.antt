-- What a program put out, as lines of text.
use Rattle.std.specs.Prelude.{ℕ, ◌+◌, ◌==◌, ◌&&◌, ◌||◌, nat_le, if◌then◌else◌, List, [], ◌∷◌, ◌++◌, codes, length}
use Rattle.std.specs.Fmt.{decimal}
use Rattle.inspect_lines.specs.Words.{byte_text}

abbrev pub line_end : List ℕ
line_end = 10 ∷ []

-- a byte: a graphic character or a blank as it is, a backslash doubled, a line feed as \n, any other by two hexadecimal
-- digits
abbrev pub glyph : ℕ → List ℕ
glyph b =
    if b == 10 then codes "\\n"
    else (if b == 92 then codes "\\\\"
    else (if nat_le 32 b && nat_le b 126 then b ∷ []
    else codes "\\x" ++ byte_text b))

-- a line ends behind a line feed, and behind its 24th byte
abbrev pub ends_line : ℕ → ℕ → ℕ
ends_line k b = if (b == 10) || (k == 23) then 0 else k + 1

abbrev pub indent : ℕ → List ℕ
indent k = if k == 0 then codes "  " else []

abbrev pub break : ℕ → List ℕ
break k = if k == 0 then line_end else []

-- a byte in its line, which has k bytes already
abbrev pub shown_at : ℕ → ℕ → List ℕ
shown_at k b = indent k ++ glyph b ++ break (ends_line k b)

-- bytes in lines, of whose first there are k bytes already
abbrev pub lines_text : ℕ → List ℕ → List ℕ
lines_text k [] = if k == 0 then [] else line_end
lines_text k (b ∷ bytes) = shown_at k b ++ lines_text (ends_line k b) bytes

abbrev pub output_text : List ℕ → List ℕ
output_text bytes = (codes "output: " ++ (decimal (length bytes) ++ codes " bytes\n")) ++ lines_text 0 bytes
