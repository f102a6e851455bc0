-- The C of a whole program.
use Rattle.std.specs.Prelude.{◌≡◌, ℕ, zero, suc, ◌-◌, List, [], ◌∷◌, ◌++◌, length, replicate, codes, false}
use Rattle.std.specs.Fmt.{decimal}
use Rattle.native_text.specs.Lines.{CodeLine}
use Rattle.native_text.specs.Spelling.{word_text, lines_text, all_points}

-- bytes, with a comma behind each
abbrev pub bytes_text : List ℕ → List ℕ
bytes_text [] = []
bytes_text (byte ∷ bytes) = decimal byte ++ codes "," ++ bytes_text bytes

-- bytes in rows
abbrev pub rows_text : List (List ℕ) → List ℕ
rows_text [] = []
rows_text (row ∷ rows) = codes "    " ++ bytes_text row ++ codes "\n" ++ rows_text rows

abbrev pub joined : List (List ℕ) → List ℕ
joined [] = []
joined (row ∷ rows) = row ++ joined rows

-- an array of C has an element at least, so a zero stands at its end
abbrev pub array_text : List ℕ → List (List ℕ) → List ℕ
array_text head rows = head ++ codes " = {\n" ++ rows_text rows ++ codes "    0};\n"

-- some bytes are these first ones, and zeros behind them
abbrev pub IsPadded : List ℕ → List ℕ → Type 0
IsPadded front bytes = bytes ≡ front ++ replicate (length bytes - length front) 0

abbrev pub constant_text : List ℕ → ℕ → List ℕ
constant_text name value = codes "#define " ++ name ++ codes " " ++ word_text value ++ codes "\n"

-- where a run by steps goes on: a line for each point
abbrev pub resumes_text : ℕ → List ℕ
resumes_text zero = []
resumes_text (suc k) = resumes_text k ++ codes "    RESUME(" ++ decimal (suc k) ++ codes ");\n"

-- what a file of C has: how many bytes data and stack have, the image's hash, the first bytes of the data in rows, and
-- the lines of its body
pub record CodeFile : Type 0 where
  pub data_bytes : ℕ
  pub stack_bytes : ℕ
  pub image : List ℕ
  pub rows : List (List ℕ)
  pub lines : List CodeLine

abbrev pub head_text : ℕ → ℕ → List ℕ → List (List ℕ) → List ℕ
head_text data_bytes stack_bytes image rows =
    codes "/* An accepted image as C, by Geyserpan's `native`. */\n"
    ++ constant_text (codes "GP_DATA_BYTES") data_bytes
    ++ constant_text (codes "GP_STACK_BYTES") stack_bytes
    ++ codes "#define GP_IMAGE {" ++ bytes_text image ++ codes "}\n#include \"geyserpan_native.h\"\n"
    ++ array_text (codes "static const uint8_t gp_start[]") rows

-- the body twice: as a run, and as a run by steps
abbrev pub twice_text : List ℕ → ℕ → List ℕ
twice_text body points =
    codes "\nRUN_BEGINS\n" ++ body
    ++ codes "RUN_ENDS\n\n#define GP_STEPS\n#include \"geyserpan_native.h\"\n\nSTEP_BEGINS\n"
    ++ resumes_text points ++ codes "STEP_RESUMES\n" ++ body ++ codes "STEP_ENDS\n"

abbrev pub bodies_text : List CodeLine → List ℕ
bodies_text lines = twice_text (lines_text 0 false lines) (all_points 0 lines)

abbrev pub file_text : CodeFile → List ℕ
file_text f = head_text f.data_bytes f.stack_bytes f.image f.rows ++ bodies_text f.lines
