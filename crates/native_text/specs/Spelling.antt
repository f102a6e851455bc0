-- How the C of a program is spelled.
use Rattle.std.specs.Prelude.{ℕ, nat_le, Bool, false, ◌&&◌, ◌||◌, List, [], ◌∷◌, ◌++◌, codes}
use Rattle.std.specs.Prelude.{if◌then◌else◌}
use Rattle.std.specs.Fmt.{decimal}
use Rattle.native_lang.specs.declared.operator.Operator.{Operator}
use Rattle.native_lang.specs.declared.operator.Operator.TheVariants as operator
use Rattle.native_lang.specs.declared.stmt.NumberWidth.{NumberWidth}
use Rattle.native_lang.specs.declared.stmt.NumberWidth.TheVariants.{Byte, Half, Word}
use Rattle.native_lang.specs.declared.program.Arm.{Arm}
use Rattle.native_text.specs.Terms.{Term, Constant, Named, Applied, Action, Sets, Loads, Stores, Divides, Gets, Puts}
use Rattle.native_text.specs.Terms.{Counts, Enters, Leaves, Pushes, Pops}
use Rattle.native_text.specs.Lines.{CodeLine, Label, Head, Does, Jump, Branch, Leave, Switch, next_number}

-- ---- numbers and names

-- a constant of C without a sign
abbrev pub word_text : ℕ → List ℕ
word_text word = decimal word ++ codes "u"

abbrev pub variable_text : ℕ → List ℕ
variable_text x = codes "x" ++ decimal x

abbrev pub label_text : ℕ → List ℕ
label_text label = codes "L" ++ decimal label

-- ---- expressions, each in brackets of its own

abbrev pub applied_text : Operator → List ℕ → List ℕ → List ℕ
applied_text operator.Sum a b = codes "(" ++ a ++ codes " + " ++ b ++ codes ")"
applied_text operator.Difference a b = codes "(" ++ a ++ codes " - " ++ b ++ codes ")"
applied_text operator.Product a b = codes "(" ++ a ++ codes " * " ++ b ++ codes ")"
applied_text operator.Both a b = codes "(" ++ a ++ codes " & " ++ b ++ codes ")"
applied_text operator.Either a b = codes "(" ++ a ++ codes " | " ++ b ++ codes ")"
applied_text operator.Differing a b = codes "(" ++ a ++ codes " ^ " ++ b ++ codes ")"
applied_text operator.ShiftLeft a b = codes "(" ++ a ++ codes " << (" ++ b ++ codes " & 31u))"
applied_text operator.ShiftRight a b = codes "(" ++ a ++ codes " >> (" ++ b ++ codes " & 31u))"
applied_text operator.ShiftRightSigned a b = codes "SAR(" ++ a ++ codes ", " ++ b ++ codes ")"
applied_text operator.HighProduct a b = codes "UMULH(" ++ a ++ codes ", " ++ b ++ codes ")"
applied_text operator.HighSignedProduct a b = codes "SMULH(" ++ a ++ codes ", " ++ b ++ codes ")"
applied_text operator.Equal a b = codes "(WORD)(" ++ a ++ codes " == " ++ b ++ codes ")"
applied_text operator.Less a b = codes "(WORD)(" ++ a ++ codes " < " ++ b ++ codes ")"
applied_text operator.LessSigned a b = codes "(WORD)(SIGNED(" ++ a ++ codes ") < SIGNED(" ++ b ++ codes "))"

abbrev pub term_text : Term → List ℕ
term_text (Constant word) = word_text word
term_text (Named x) = variable_text x
term_text (Applied operator a b) = applied_text operator (term_text a) (term_text b)

-- ---- lines

abbrev pub bits_text : NumberWidth → List ℕ
bits_text Byte = codes "8"
bits_text Half = codes "16"
bits_text Word = codes "32"

abbrev pub division_text : Bool → List ℕ
division_text sign = if sign then codes "    SDIV(" else codes "    UDIV("

abbrev pub keeping_text : Bool → List ℕ
keeping_text has_codes = if has_codes then codes "CODES, " else codes "NO_CODES, "

-- a call that may pause has the number of its point, n are before it, and says whether there are codes to be kept
abbrev pub action_text : ℕ → Bool → Action → List ℕ
action_text n has_codes (Sets x e) = codes "    " ++ variable_text x ++ codes " = " ++ term_text e ++ codes ";\n"
action_text n has_codes (Loads x width a) =
    codes "    " ++ variable_text x ++ codes " = LOAD" ++ bits_text width ++ codes "(" ++ term_text a ++ codes ");\n"
action_text n has_codes (Stores width a e) =
    codes "    STORE" ++ bits_text width ++ codes "(" ++ term_text a ++ codes ", " ++ term_text e ++ codes ");\n"
action_text n has_codes (Divides x over sign y a b) =
    division_text sign ++ variable_text x ++ codes ", " ++ variable_text over ++ codes ", " ++ term_text y
    ++ codes ", " ++ term_text a ++ codes ", " ++ term_text b ++ codes ");\n"
action_text n has_codes (Gets x) =
    codes "    GET(" ++ decimal (next_number n) ++ codes ", " ++ keeping_text has_codes ++ variable_text x
    ++ codes ");\n"
action_text n has_codes (Puts e) =
    codes "    PUT(" ++ decimal (next_number n) ++ codes ", " ++ keeping_text has_codes ++ term_text e ++ codes ");\n"
action_text n has_codes (Counts k) = codes "    TURNS(" ++ word_text k ++ codes ");\n"
action_text n has_codes Enters = codes "    ENTER;\n"
action_text n has_codes Leaves = codes "    LEAVE;\n"
action_text n has_codes Pushes = codes "    PUSH;\n"
action_text n has_codes Pops = codes "    POP;\n"

abbrev pub arms_text : List Arm → List ℕ
arms_text [] = []
arms_text (arm ∷ arms) =
    codes "    case " ++ word_text arm.word ++ codes ": goto " ++ label_text arm.label ++ codes ";\n" ++ arms_text arms

abbrev pub switch_text : ℕ → List Arm → List ℕ
switch_text x arms =
    codes "    switch (" ++ variable_text x ++ codes ") {\n" ++ arms_text arms ++ codes "    default: LOST;\n    }\n"

abbrev pub line_text : ℕ → Bool → CodeLine → List ℕ
line_text n has_codes (Label label) = label_text label ++ codes ":;\n"
line_text n has_codes Head = codes "    HEAD(" ++ decimal (next_number n) ++ codes ", NO_CODES);\n"
line_text n has_codes (Does action) = action_text n has_codes action
line_text n has_codes (Jump label) = codes "    goto " ++ label_text label ++ codes ";\n"
line_text n has_codes (Branch e label) =
    codes "    if (" ++ term_text e ++ codes ") goto " ++ label_text label ++ codes ";\n"
line_text n has_codes (Leave e) = codes "    EXIT(" ++ term_text e ++ codes ");\n"
line_text n has_codes (Switch x arms) = switch_text x arms

-- how many points there are behind a line
abbrev pub action_points : ℕ → Action → ℕ
action_points n (Gets x) = next_number n
action_points n (Puts e) = next_number n
action_points n _ = n

abbrev pub points : ℕ → CodeLine → ℕ
points n Head = next_number n
points n (Does action) = action_points n action
points n _ = n

-- whether there are codes behind a line: variables 32 to 35, set since the label
abbrev pub action_codes : Bool → Action → Bool
action_codes has_codes (Sets x e) = has_codes || (nat_le 32 x && nat_le x 35)
action_codes has_codes _ = has_codes

abbrev pub codes_kept : Bool → CodeLine → Bool
codes_kept has_codes (Label label) = false
codes_kept has_codes (Does action) = action_codes has_codes action
codes_kept has_codes _ = has_codes

abbrev pub lines_text : ℕ → Bool → List CodeLine → List ℕ
lines_text n has_codes [] = []
lines_text n has_codes (line ∷ lines) =
    line_text n has_codes line ++ lines_text (points n line) (codes_kept has_codes line) lines

abbrev pub all_points : ℕ → List CodeLine → ℕ
all_points n [] = n
all_points n (line ∷ lines) = all_points (points n line) lines
