-- The forms of statements (appendix A and appendix B): a name, the operands behind it, and the word that these are
-- filled into (appendix F).
use Rattle.std.specs.Prelude.{ℕ, ◌+◌, ◌%◌, ◌^◌, ℤ, pos, negsuc, Bool, true, false, List, [], ◌∷◌, ◌++◌, map, codes}
use Rattle.v8_forms.specs.declared.part.Part.{Part}
use Rattle.v8_forms.specs.declared.part.Part.TheVariants.{Register, State, Second, Address, Memory, Elsewhere, Number}
use Rattle.v8_forms.specs.declared.part.Part.TheVariants.{Call, Branch}
use Rattle.v8_forms.specs.declared.part.Field.{Field}
use Rattle.v8_forms.specs.declared.part.Field.TheVariants.{Rd, Rs1, Rs2, Rs1AndRd, Rs2AndRd}
use Rattle.v8_forms.specs.declared.part.Range.{Range}
use Rattle.v8_forms.specs.declared.part.Range.TheVariants.{Signed, Count, Trap, High, Space, Whole}
use Rattle.v8_forms.specs.declared.rows.Row.{Row}

-- A condition's suffix stands behind the name of a conditional form, and its number at bit 25.
pub record Form : Type 0 where
  pub name : List ℕ
  pub conditional : Bool
  pub parts : List Part
  pub word : ℕ

abbrev pub form_of : Row → Form
form_of r = record { name = r.name.now; conditional = r.conditional; parts = r.parts.now; word = r.word }

-- ---- where operands stand in a word

-- what a register's number is multiplied by: rd stands at bit 25, rs1 at 14, rs2 at 0, and one register may stand in
-- two fields
abbrev pub scale : Field → ℕ
scale Rd = 2 ^ 25
scale Rs1 = 2 ^ 14
scale Rs2 = 1
scale Rs1AndRd = 2 ^ 14 + 2 ^ 25
scale Rs2AndRd = 1 + 2 ^ 25

-- the least and greatest number of each kind
abbrev pub least : Range → ℤ
least Signed = negsuc 4095
least Count = pos 0
least Trap = pos 0
least High = pos 0
least Space = pos 0
least Whole = negsuc 2147483647

abbrev pub greatest : Range → ℤ
greatest Signed = pos 4095
greatest Count = pos 31
greatest Trap = pos 127
greatest High = pos 4194303
greatest Space = pos 255
greatest Whole = pos 4294967295

-- how many bits it has in a word
abbrev pub width : Range → ℕ
width Signed = 13
width Count = 5
width Trap = 7
width High = 22
width Space = 8
width Whole = 32

-- words are added modulo 2 ^ 32
abbrev pub plus : ℕ → ℕ → ℕ
plus a b = (a + b) % 2 ^ 32

-- ---- the sixteen conditions by their numbers (appendix F, "Condition Codes"), behind `b` and `t`

abbrev pub suffixes : List (List ℕ)
suffixes =
    codes "n" ∷ codes "e" ∷ codes "le" ∷ codes "l" ∷ codes "leu" ∷ codes "cs" ∷ codes "neg" ∷ codes "vs"
    ∷ codes "a" ∷ codes "ne" ∷ codes "g" ∷ codes "ge" ∷ codes "gu" ∷ codes "cc" ∷ codes "pos" ∷ codes "vc" ∷ []

-- ---- the table

abbrev form : List ℕ → List Part → ℕ → Form
form name ps word = record { name = name; conditional = false; parts = ps; word = word }

abbrev by_condition : List ℕ → List Part → ℕ → Form
by_condition name ps word = record { name = name; conditional = true; parts = ps; word = word }

abbrev three : List Part
three = Register Rs1 ∷ Second Signed ∷ Register Rd ∷ []

abbrev operations : List Form
operations =
    form (codes "add") three 0x80000000
    ∷ form (codes "and") three 0x80080000
    ∷ form (codes "or") three 0x80100000
    ∷ form (codes "xor") three 0x80180000
    ∷ form (codes "sub") three 0x80200000
    ∷ form (codes "andn") three 0x80280000
    ∷ form (codes "orn") three 0x80300000
    ∷ form (codes "xnor") three 0x80380000
    ∷ form (codes "addx") three 0x80400000
    ∷ form (codes "umul") three 0x80500000
    ∷ form (codes "smul") three 0x80580000
    ∷ form (codes "subx") three 0x80600000
    ∷ form (codes "udiv") three 0x80700000
    ∷ form (codes "sdiv") three 0x80780000 ∷ []

-- the same with the condition codes set: bit 23
abbrev setting_codes : Form → Form
setting_codes f = form (f.name ++ codes "cc") f.parts (f.word + 2 ^ 23)

abbrev transfers : List Form
transfers =
    form (codes "ld") (Memory ∷ Register Rd ∷ []) 0xC0000000
    ∷ form (codes "ldub") (Memory ∷ Register Rd ∷ []) 0xC0080000
    ∷ form (codes "lduh") (Memory ∷ Register Rd ∷ []) 0xC0100000
    ∷ form (codes "ldd") (Memory ∷ Register Rd ∷ []) 0xC0180000
    ∷ form (codes "ldsb") (Memory ∷ Register Rd ∷ []) 0xC0480000
    ∷ form (codes "ldsh") (Memory ∷ Register Rd ∷ []) 0xC0500000
    ∷ form (codes "ldstub") (Memory ∷ Register Rd ∷ []) 0xC0680000
    ∷ form (codes "swap") (Memory ∷ Register Rd ∷ []) 0xC0780000
    ∷ form (codes "st") (Register Rd ∷ Memory ∷ []) 0xC0200000
    ∷ form (codes "stb") (Register Rd ∷ Memory ∷ []) 0xC0280000
    ∷ form (codes "sth") (Register Rd ∷ Memory ∷ []) 0xC0300000
    ∷ form (codes "std") (Register Rd ∷ Memory ∷ []) 0xC0380000 ∷ []

abbrev elsewhere : Part → Part
elsewhere Memory = Elsewhere
elsewhere p = p

-- the same in another address space: bit 23
abbrev in_space : Form → Form
in_space f = form (f.name ++ codes "a") (map elsewhere f.parts) (f.word + 2 ^ 23)

abbrev others : List Form
others =
    form (codes "taddcc") three 0x81000000
    ∷ form (codes "tsubcc") three 0x81080000
    ∷ form (codes "taddcctv") three 0x81100000
    ∷ form (codes "tsubcctv") three 0x81180000
    ∷ form (codes "mulscc") three 0x81200000
    ∷ form (codes "sll") (Register Rs1 ∷ Second Count ∷ Register Rd ∷ []) 0x81280000
    ∷ form (codes "srl") (Register Rs1 ∷ Second Count ∷ Register Rd ∷ []) 0x81300000
    ∷ form (codes "sra") (Register Rs1 ∷ Second Count ∷ Register Rd ∷ []) 0x81380000
    ∷ form (codes "save") three 0x81E00000
    ∷ form (codes "restore") three 0x81E80000 ∷ []

abbrev controls : List Form
controls =
    form (codes "rd") (State ∷ Register Rd ∷ []) 0x81400000
    ∷ form (codes "wr") (Register Rs1 ∷ Second Signed ∷ State ∷ []) 0x81800000
    ∷ form (codes "jmpl") (Address Signed ∷ Register Rd ∷ []) 0x81C00000
    ∷ form (codes "rett") (Address Signed ∷ []) 0x81C80000
    ∷ form (codes "flush") (Address Signed ∷ []) 0x81D80000
    ∷ form (codes "call") (Call ∷ []) 0x40000000
    ∷ form (codes "sethi") (Number High ∷ Register Rd ∷ []) 0x01000000
    ∷ form (codes "unimp") (Number High ∷ []) 0x00000000
    ∷ form (codes "stbar") [] 0x8143C000
    ∷ by_condition (codes "b") (Branch ∷ []) 0x00800000
    ∷ by_condition (codes "t") (Number Trap ∷ []) 0x81D02000
    ∷ by_condition (codes "t") (Address Trap ∷ []) 0x81D00000 ∷ []

-- the instructions, as they are printed (appendix B, "Suggested Assembly Language Syntax")
unfoldable pub natives : List Form
natives = operations ++ map setting_codes operations ++ others ++ transfers ++ map in_space transfers ++ controls

-- other names of branches, and synthetic instructions (appendix A), beside `set`
unfoldable pub synthetics : List Form
synthetics =
    form (codes "b") (Branch ∷ []) 0x10800000
    ∷ form (codes "bz") (Branch ∷ []) 0x02800000
    ∷ form (codes "bnz") (Branch ∷ []) 0x12800000
    ∷ form (codes "blu") (Branch ∷ []) 0x0A800000
    ∷ form (codes "bgeu") (Branch ∷ []) 0x1A800000
    ∷ form (codes "cmp") (Register Rs1 ∷ Second Signed ∷ []) 0x80A00000
    ∷ form (codes "jmp") (Address Signed ∷ []) 0x81C00000
    ∷ form (codes "call") (Address Signed ∷ []) 0x9FC00000
    ∷ form (codes "tst") (Register Rs2 ∷ []) 0x80900000
    ∷ form (codes "ret") [] 0x81C7E008
    ∷ form (codes "retl") [] 0x81C3E008
    ∷ form (codes "save") [] 0x81E00000
    ∷ form (codes "restore") [] 0x81E80000
    ∷ form (codes "not") (Register Rs1 ∷ Register Rd ∷ []) 0x80380000
    ∷ form (codes "not") (Register Rs1AndRd ∷ []) 0x80380000
    ∷ form (codes "neg") (Register Rs2 ∷ Register Rd ∷ []) 0x80200000
    ∷ form (codes "neg") (Register Rs2AndRd ∷ []) 0x80200000
    ∷ form (codes "inc") (Register Rs1AndRd ∷ []) 0x80002001
    ∷ form (codes "inc") (Number Signed ∷ Register Rs1AndRd ∷ []) 0x80002000
    ∷ form (codes "inccc") (Register Rs1AndRd ∷ []) 0x80802001
    ∷ form (codes "inccc") (Number Signed ∷ Register Rs1AndRd ∷ []) 0x80802000
    ∷ form (codes "dec") (Register Rs1AndRd ∷ []) 0x80202001
    ∷ form (codes "dec") (Number Signed ∷ Register Rs1AndRd ∷ []) 0x80202000
    ∷ form (codes "deccc") (Register Rs1AndRd ∷ []) 0x80A02001
    ∷ form (codes "deccc") (Number Signed ∷ Register Rs1AndRd ∷ []) 0x80A02000
    ∷ form (codes "btst") (Second Signed ∷ Register Rs1 ∷ []) 0x80880000
    ∷ form (codes "bset") (Second Signed ∷ Register Rs1AndRd ∷ []) 0x80100000
    ∷ form (codes "bclr") (Second Signed ∷ Register Rs1AndRd ∷ []) 0x80280000
    ∷ form (codes "btog") (Second Signed ∷ Register Rs1AndRd ∷ []) 0x80180000
    ∷ form (codes "clr") (Register Rd ∷ []) 0x80100000
    ∷ form (codes "clr") (Memory ∷ []) 0xC0200000
    ∷ form (codes "clrb") (Memory ∷ []) 0xC0280000
    ∷ form (codes "clrh") (Memory ∷ []) 0xC0300000
    ∷ form (codes "mov") (Second Signed ∷ Register Rd ∷ []) 0x80100000
    ∷ form (codes "mov") (State ∷ Register Rd ∷ []) 0x81400000
    ∷ form (codes "mov") (Second Signed ∷ State ∷ []) 0x81800000
    ∷ form (codes "nop") [] 0x01000000 ∷ []

abbrev pub forms : List Form
forms = natives ++ synthetics
