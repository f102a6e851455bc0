-- The text of an instruction (appendix A): decimal numbers, targets in bytes from the instruction, both parts of an
-- address, no synthetic form.
use Rattle.std.specs.Prelude.{ℕ, ◌+◌, ◌-◌, ◌*◌, ◌/◌, ◌%◌, ◌^◌, ◌==◌, nat_lt, Bool, true, if◌then◌else◌, List, [], ◌∷◌}
use Rattle.std.specs.Prelude.{◌++◌, get_or, Option, Some, None, codes}
use Rattle.std.specs.List.{find}
use Rattle.std.specs.Fmt.{decimal, digit_glyph}
use Rattle.v8_word.specs.Registers.{frame_pointer, stack_pointer}
use Rattle.v8_word.specs.Word.{bits_of, sign_extend}
use Rattle.v8_formats.specs.declared.instr.Operand.{Operand}
use Rattle.v8_formats.specs.declared.instr.Operand.TheVariants as operands
use Rattle.v8_formats.specs.declared.instr.Instr.{Instr}
use Rattle.v8_formats.specs.Spelling.{spelling, spell_operand}
use Rattle.v8_forms.specs.declared.part.Part.{Part}
use Rattle.v8_forms.specs.declared.part.Part.TheVariants as parts
use Rattle.v8_forms.specs.declared.part.Field.{Field}
use Rattle.v8_forms.specs.declared.part.Field.TheVariants as fields
use Rattle.v8_forms.specs.declared.part.Range.{Range}
use Rattle.v8_forms.specs.declared.part.Range.TheVariants as ranges
use Rattle.v8_forms.specs.declared.part.Special.{Special}
use Rattle.v8_forms.specs.declared.part.Special.TheVariants as specials
use Rattle.v8_forms.specs.Forms.{Form, scale, width, plus, suffixes, natives}

-- ---- what stands in a word's fields

abbrev pub register_in : Field → ℕ → ℕ
register_in fields.Rd w = bits_of w 25 5
register_in fields.Rs1 w = bits_of w 14 5
register_in fields.Rs2 w = bits_of w 0 5
register_in fields.Rs1AndRd w = bits_of w 14 5
register_in fields.Rs2AndRd w = bits_of w 0 5

abbrev pub special_of : ℕ → Special
special_of n =
    if n == 0 then specials.Y
    else (if n == 1 then specials.Psr
    else (if n == 2 then specials.Wim
    else specials.Tbr))

abbrev pub special_number : Special → ℕ
special_number specials.Y = 0
special_number specials.Psr = 1
special_number specials.Wim = 2
special_number specials.Tbr = 3

-- the state register is told by the two low bits of op3
abbrev pub special_in : ℕ → Special
special_in w = special_of (bits_of w 19 2)

abbrev pub number_in : Range → ℕ → ℕ
number_in ranges.Signed w = sign_extend 13 (bits_of w 0 13)
number_in ranges.Count w = bits_of w 0 5
number_in ranges.Trap w = bits_of w 0 7
number_in ranges.High w = bits_of w 0 22
number_in ranges.Space w = bits_of w 5 8
number_in ranges.Whole w = w

abbrev pub operand_in : Range → ℕ → Operand
operand_in range w =
    if bits_of w 13 1 == 1 then operands.Immediate (number_in range w) else operands.Register (bits_of w 0 5)

abbrev pub near : ℕ → ℕ
near w = sign_extend 22 (bits_of w 0 22)

abbrev pub far : ℕ → ℕ
far w = sign_extend 30 (bits_of w 0 30)

abbrev pub annuls : ℕ → Bool
annuls w = bits_of w 29 1 == 1

abbrev pub annul_bit : Bool → ℕ
annul_bit t = if t then 2 ^ 29 else 0

-- the second operand of a sum, and the first, in their fields
abbrev pub sum_bits : ℕ → Operand → ℕ
sum_bits rs1 operand2 = rs1 * 2 ^ 14 + spell_operand operand2

abbrev pub elsewhere_bits : ℕ → ℕ → ℕ → ℕ
elsewhere_bits rs1 rs2 asi = rs1 * 2 ^ 14 + asi * 2 ^ 5 + rs2

-- the bits of the word that the operand fills
abbrev pub value : Part → ℕ → ℕ
value (parts.Register f) w = register_in f w * scale f
value parts.State w = special_number (special_in w) * 2 ^ 19
value (parts.Second range) w = spell_operand (operand_in range w)
value (parts.Address range) w = sum_bits (bits_of w 14 5) (operand_in range w)
value parts.Memory w = sum_bits (bits_of w 14 5) (operand_in ranges.Signed w)
value parts.Elsewhere w = elsewhere_bits (bits_of w 14 5) (bits_of w 0 5) (number_in ranges.Space w)
value (parts.Number range) w = number_in range w % 2 ^ width range
value parts.Call w = far w % 2 ^ 30
value parts.Branch w = annul_bit (annuls w) + near w % 2 ^ 22

abbrev pub values : List Part → ℕ → ℕ
values [] w = 0
values (p ∷ ps) w = plus (value p w) (values ps w)

-- the condition's number
abbrev pub condition_in : Form → ℕ → ℕ
condition_in f w = if f.conditional then bits_of w 25 4 else 0

-- the word of a form with a condition, and with what its operands fill
abbrev pub filled : Form → ℕ → ℕ → ℕ
filled f condition n = plus f.word (plus (condition * 2 ^ 25) n)

-- the word is that of the form with its own condition and operands
abbrev pub is_word_of : Form → ℕ → Bool
is_word_of f w = filled f (condition_in f w) (values f.parts w) == w

-- ---- the texts of operands

-- eight registers of a kind: globals, outs, locals, ins
abbrev pub group_text : ℕ → List ℕ
group_text k =
    if k == 0 then codes "%g"
    else (if k == 1 then codes "%o"
    else (if k == 2 then codes "%l"
    else codes "%i"))

abbrev pub register_text : ℕ → List ℕ
register_text r =
    if r == stack_pointer then codes "%sp"
    else (if r == frame_pointer then codes "%fp"
    else group_text (r / 8) ++ (48 + r % 8) ∷ [])

abbrev pub special_text : Special → List ℕ
special_text specials.Y = codes "%y"
special_text specials.Psr = codes "%psr"
special_text specials.Wim = codes "%wim"
special_text specials.Tbr = codes "%tbr"

-- a word, read as signed
abbrev pub signed_text : ℕ → List ℕ
signed_text n = if nat_lt n (2 ^ 31) then decimal n else codes "-" ++ decimal (2 ^ 32 - n)

-- the same with its sign
abbrev pub offset_text : ℕ → List ℕ
offset_text n = if nat_lt n (2 ^ 31) then codes "+" ++ decimal n else codes "-" ++ decimal (2 ^ 32 - n)

abbrev pub operand_text : Operand → List ℕ
operand_text (operands.Register r) = register_text r
operand_text (operands.Immediate n) = signed_text n

abbrev pub address_text : ℕ → Operand → List ℕ
address_text rs1 (operands.Register r) = register_text rs1 ++ codes "+" ++ register_text r
address_text rs1 (operands.Immediate n) = register_text rs1 ++ offset_text n

abbrev pub memory_text : ℕ → Operand → List ℕ
memory_text rs1 operand2 = codes "[" ++ address_text rs1 operand2 ++ codes "]"

-- a displacement counts words; the target is so many bytes from the instruction
abbrev pub target_text : ℕ → List ℕ
target_text d = codes "." ++ offset_text (4 * d % 2 ^ 32)

abbrev pub part_text : Part → ℕ → List ℕ
part_text (parts.Register f) w = register_text (register_in f w)
part_text parts.State w = special_text (special_in w)
part_text (parts.Second range) w = operand_text (operand_in range w)
part_text (parts.Address range) w = address_text (bits_of w 14 5) (operand_in range w)
part_text parts.Memory w = memory_text (bits_of w 14 5) (operand_in ranges.Signed w)
part_text parts.Elsewhere w =
    memory_text (bits_of w 14 5) (operands.Register (bits_of w 0 5)) ++ codes " " ++ decimal (number_in ranges.Space w)
part_text (parts.Number range) w = decimal (number_in range w)
part_text parts.Call w = target_text (far w)
part_text parts.Branch w = target_text (near w)

-- between the name and its first operand
abbrev pub lead_text : Part → ℕ → List ℕ
lead_text parts.Branch w = if annuls w then codes ",a " else codes " "
lead_text _ w = codes " "

abbrev pub behind_text : List Part → ℕ → List ℕ
behind_text [] w = []
behind_text (p ∷ ps) w = codes "," ++ part_text p w ++ behind_text ps w

abbrev pub operands_text : List Part → ℕ → List ℕ
operands_text [] w = []
operands_text (p ∷ ps) w = lead_text p w ++ part_text p w ++ behind_text ps w

abbrev pub suffix_text : Bool → ℕ → List ℕ
suffix_text conditional w = if conditional then get_or suffixes (bits_of w 25 4) [] else []

abbrev pub form_text : Form → ℕ → List ℕ
form_text f w = f.name ++ suffix_text f.conditional w ++ operands_text f.parts w

-- ---- the text of a word

-- eight digits
abbrev pub hexadecimal : ℕ → List ℕ
hexadecimal w =
    digit_glyph true (w / 0x10000000 % 16) ∷ digit_glyph true (w / 0x1000000 % 16)
    ∷ digit_glyph true (w / 0x100000 % 16) ∷ digit_glyph true (w / 0x10000 % 16)
    ∷ digit_glyph true (w / 0x1000 % 16) ∷ digit_glyph true (w / 0x100 % 16) ∷ digit_glyph true (w / 0x10 % 16)
    ∷ digit_glyph true (w % 16) ∷ []

abbrev pub shown : Option Form → ℕ → List ℕ
shown (Some f) w = form_text f w
shown None w = codes ".word 0x" ++ hexadecimal w

-- the form of a word
unfoldable pub native_of : ℕ → Option Form
native_of w = find (λ f. is_word_of f w) natives

-- the text of an instruction is that of its word
unfoldable pub text_of : Instr → List ℕ
text_of i = shown (native_of (spelling i)) (spelling i)
