-- What a statement means: its tokens as words, the words behind its name as its operands, and all as one or two
-- instructions, or the fault (appendices A and B).
use Rattle.std.specs.Prelude.{ℕ, ◌+◌, ◌-◌, ◌*◌, ◌/◌, ◌%◌, ◌^◌, ◌==◌, Bool, true, false, not, ◌&&◌, ◌||◌, nat_lt, nat_le}
use Rattle.std.specs.Prelude.{if◌then◌else◌, ℤ, pos, negsuc, ◌+ℤ◌, neg_ℤ, int_le, List, [], ◌∷◌, length, take, drop}
use Rattle.std.specs.Prelude.{map, slice_index, slice_range, Option, Some, None, Result, Ok, Err, codes}
use Rattle.std.specs.Option.{option_map, option_and_then, option_map_or, option_or, unwrap_or}
use Rattle.std.specs.List.{find, position_from}
use Rattle.std.specs.Char.{is_ascii_digit}
use Rattle.std.specs.Str.{bytes_eq}
use Rattle.sbx_text.specs.declared.{Token.Token, Kind.Kind}
use Rattle.v8_formats.specs.declared.instr.{Operand.Operand, Instr.Instr}
use Rattle.v8_formats.specs.Spelling.{spell_operand}
use Rattle.v8_formats.specs.Table.{meaning}
use Rattle.v8_forms.specs.declared.part.{Part.Part, Range.Range, Special.Special}
use Rattle.v8_forms.specs.Forms.{Form, suffixes, forms, scale, least, greatest, width, plus}
use Rattle.v8_forms.specs.Text.{special_number, sum_bits, elsewhere_bits, annul_bit, filled}
use Rattle.v8_syntax.specs.declared.fault.SyntaxFault.{SyntaxFault}
use Rattle.v8_syntax.specs.declared.word.{StatementToken.StatementToken, NameKind.NameKind}
use Rattle.v8_syntax.specs.declared.expression.{Base.Base, Expression.Expression}

-- the bytes of a line from one place up to another, and none where the line has no such bytes
abbrev pub bytes_between : List ℕ → ℕ → ℕ → List ℕ
bytes_between line start stop =
    if nat_le start stop && nat_le stop (length line) then slice_range line start stop else []

-- what stands beside a name in a table
abbrev pub beside : {A : Type 0} → List ℕ → List (List ℕ × A) → Option A
beside name rows = option_map (λ row. row.1) (find (λ row. bytes_eq name row.0) rows)

-- ---- registers (appendix A, "Registers")

-- the first register of each letter, and how many there are: globals, outs, locals, ins, and all
abbrev pub groups : List (List ℕ × (ℕ × ℕ))
groups = (codes "g", (0, 8)) ∷ (codes "o", (8, 8)) ∷ (codes "l", (16, 8)) ∷ (codes "i", (24, 8)) ∷ (codes "r", (0, 32))
    ∷ []

-- a number of one digit or two, with no 0 in front
abbrev pub small_number : List ℕ → Option ℕ
small_number (a ∷ []) = if is_ascii_digit a then Some (a - 48) else None
small_number (a ∷ b ∷ []) =
    if is_ascii_digit a && is_ascii_digit b && nat_lt 48 a then Some (10 * (a - 48) + (b - 48)) else None
small_number _ = None

-- `sp`, `fp`, or a letter and a number
abbrev pub register_named : List ℕ → Option ℕ
register_named name =
    option_or (beside name ((codes "sp", 14) ∷ (codes "fp", 30) ∷ []))
    (option_and_then
    (λ group. option_and_then (λ n. if nat_lt n group.1 then Some (group.0 + n) else None)
    (small_number (drop 1 name))) (beside (take 1 name) groups))

-- the state registers that have a name here
abbrev pub specials : List (List ℕ × Special)
specials = (codes "y", Special.Y) ∷ (codes "psr", Special.Psr) ∷ (codes "wim", Special.Wim) ∷ (codes "tbr", Special.Tbr)
    ∷ []

-- ---- the word of each token

-- what stands behind a `%`
abbrev pub percent_token : List ℕ → StatementToken
percent_token name =
    unwrap_or (option_or (option_map StatementToken.Register (register_named name))
    (option_map StatementToken.Special (beside name specials))) StatementToken.Unknown

-- `a` annuls, `.` is the place, and another name is a symbol
abbrev pub name_kind : List ℕ → NameKind
name_kind name = unwrap_or (beside name ((codes "a", NameKind.Annul) ∷ (codes ".", NameKind.Place) ∷ [])) NameKind.Plain

abbrev pub token_at : List ℕ → ℕ → ℕ → Kind → StatementToken
token_at line start stop Kind.Name = StatementToken.Name (name_kind (bytes_between line start stop)) start stop
token_at line start stop Kind.Percent = percent_token (drop 1 (bytes_between line start stop))
token_at line start stop (Kind.Number n) = StatementToken.Number n
token_at line start stop Kind.Sign = StatementToken.Sign (slice_index (bytes_between line start stop) 0)

unfoldable pub statement_token : List ℕ → Token → StatementToken
statement_token line t = token_at line t.start t.stop t.kind

abbrev pub statement_tokens : List ℕ → List Token → List StatementToken
statement_tokens line tokens = map (statement_token line) tokens

-- what is done next, where there is no fault
infixl 10 ◌>>=◌
abbrev pub ◌>>=◌ : {A B : Type 0} → Result A SyntaxFault → (A → Result B SyntaxFault) → Result B SyntaxFault
(Ok x) >>= f = f x
(Err e) >>= f = Err e

-- ---- readings: what stands at the front of some words, and the words after it

abbrev pub Reading : Type 0 → Type 0
Reading A = List StatementToken → Option (A × List StatementToken)

infixl 30 ◌and_then◌
abbrev pub ◌and_then◌ : {A B : Type 0} → Reading A → (A → Reading B) → Reading B
p and_then f = λ ws. option_and_then (λ x. f x.0 x.1) (p ws)

infixl 30 ◌giving◌
abbrev pub ◌giving◌ : {A B : Type 0} → Reading A → (A → B) → Reading B
p giving f = λ ws. option_map (λ x. (f x.0, x.1)) (p ws)

infixl 20 ◌or_else◌
abbrev pub ◌or_else◌ : {A : Type 0} → Reading A → Reading A → Reading A
p or_else q = λ ws. option_or (p ws) (q ws)

-- nothing is read
abbrev pub gives : {A : Type 0} → A → Reading A
gives x = λ ws. Some (x, ws)

abbrev pub end : Reading (Unit {0})
end [] = Some (tt, [])
end _ = None

abbrev pub after_sign : ℕ → List StatementToken → Option (List StatementToken)
after_sign b (StatementToken.Sign c ∷ ws) = if c == b then Some ws else None
after_sign b _ = None

-- a reading behind a sign
abbrev pub read_behind : {A : Type 0} → ℕ → Reading A → Reading A
read_behind b p = λ ws. option_and_then p (after_sign b ws)

abbrev pub number_first : Reading ℕ
number_first (StatementToken.Number n ∷ ws) = Some (n, ws)
number_first _ = None

abbrev pub register_first : Reading ℕ
register_first (StatementToken.Register r ∷ ws) = Some (r, ws)
register_first _ = None

abbrev pub special_first : Reading Special
special_first (StatementToken.Special s ∷ ws) = Some (s, ws)
special_first _ = None

abbrev pub annul_first : Reading Bool
annul_first (StatementToken.Name NameKind.Annul i j ∷ ws) = Some (true, ws)
annul_first _ = None

-- a name of the line
abbrev pub name_first : List ℕ → Reading (List ℕ)
name_first line (StatementToken.Name kind i j ∷ ws) = Some (bytes_between line i j, ws)
name_first line _ = None

-- ---- expressions: a number, `-` number, a symbol, a symbol with `+` or `-` number

abbrev pub plain : Base → ℕ → Expression
plain base n = record { base = base; negative = false; number = n }

abbrev pub less : Base → ℕ → Expression
less base n = record { base = base; negative = true; number = n }

abbrev pub negative : Base → Reading Expression
negative base = read_behind 45 number_first giving less base

-- `.` before a sign is the place of the instruction; else it is a symbol, as other names are
abbrev pub moved : NameKind → Option ℕ → Base
moved NameKind.Place value = Base.Here value
moved _ value = Base.Symbol value

abbrev pub named_expression : NameKind → Option ℕ → Reading Expression
named_expression kind value =
    read_behind 43 number_first giving plain (moved kind value) or_else negative (moved kind value) or_else gives
    (plain (Base.Symbol value) 0)

-- ---- their values: whole numbers, without wrapping

abbrev pub offset_of : Expression → ℤ
offset_of e = if e.negative then neg_ℤ (pos e.number) else pos e.number

abbrev pub based : Base → ℤ → Result ℤ SyntaxFault
based Base.Number z = Ok z
based (Base.Symbol (Some v)) z = Ok (pos v +ℤ z)
based (Base.Here (Some v)) z = Ok (pos v +ℤ z)
based _ z = Err SyntaxFault.UnknownSymbol

-- a number as bits that tell so many numbers apart: a negative one plus so many
abbrev pub of_bits : ℕ → ℤ → ℕ
of_bits room (pos n) = n
of_bits room (negsuc n) = room - 1 - n

-- the word of a value in a range, else a fault
abbrev pub in_range : ℤ → ℤ → SyntaxFault → ℤ → Result ℕ SyntaxFault
in_range low high fault z = if int_le low z && int_le z high then Ok (of_bits (2 ^ 32) z) else Err fault

unfoldable pub word_in : Range → Expression → Result ℕ SyntaxFault
word_in range e = based e.base (offset_of e) >>= in_range (least range) (greatest range) SyntaxFault.Immediate

-- how many bytes from the instruction, as a word: `.+N` itself, or from here to an address below 2 ^ 32
abbrev pub distance : ℕ → Base → ℤ → Result ℕ SyntaxFault
distance here (Base.Here v) z = in_range (negsuc 2147483647) (pos 2147483647) SyntaxFault.Target z
distance here base z =
    based base z >>= in_range (pos 0) (pos 4294967295) SyntaxFault.Target >>= λ target. Ok
    ((target + 2 ^ 32 - here) % 2 ^ 32)

-- a multiple of 4 less than so many bytes before, or after, the instruction, in words
abbrev pub reached : ℕ → ℕ → Result ℕ SyntaxFault
reached reach w =
    if w % 4 == 0 && (nat_lt w reach || nat_le (2 ^ 32 - reach) w) then Ok (w / 4) else Err SyntaxFault.Target

-- ---- what operands fill

-- both are filled in, or the first fault
abbrev pub added : Result ℕ SyntaxFault → Result ℕ SyntaxFault → Result ℕ SyntaxFault
added x y = x >>= λ a. y >>= λ b. Ok (plus a b)

-- a number as the second operand
abbrev pub immediate : Range → Expression → Result Operand SyntaxFault
immediate range e = word_in range e >>= λ n. Ok (Operand.Immediate n)

abbrev pub sum_of : ℕ → Result Operand SyntaxFault → Result ℕ SyntaxFault
sum_of rs1 o = o >>= λ operand2. Ok (sum_bits rs1 operand2)

-- a register behind `+`, else %g0
abbrev pub added_register : Reading ℕ
added_register = read_behind 43 register_first or_else gives 0

-- ---- names

-- the condition under which a form has that name, the number of its suffix: 0 where it has none
abbrev pub named : Form → List ℕ → Option ℕ
named f name =
    if f.conditional
    then (if bytes_eq f.name (bytes_between name 0 1)
    then position_from (λ suffix. bytes_eq suffix (drop 1 name)) 0 suffixes else None)
    else (if bytes_eq f.name name then Some 0 else None)

-- ---- `set`

abbrev pub sethi : ℕ → ℕ → Instr
sethi w rd = Instr.Sethi (record { rd = rd; imm22 = w / 2 ^ 10 })

abbrev pub or : ℕ → ℕ → ℕ → Instr
or rs1 n rd = Instr.Or (record { rd = rd; rs1 = rs1; operand2 = Operand.Immediate n })

-- a symbol always in two; another word in one where it is 13 bits, signed, or its low ten bits are 0
abbrev pub set_instructions : Bool → ℕ → ℕ → List Instr
set_instructions symbolic w rd =
    if not symbolic && (nat_lt w 4096 || nat_le 4294963200 w) then or 0 w rd ∷ []
    else (if not symbolic && w % 2 ^ 10 == 0 then sethi w rd ∷ []
    else sethi w rd ∷ or rd (w % 2 ^ 10) rd ∷ [])

abbrev pub is_symbolic : Base → Bool
is_symbolic Base.Number = false
is_symbolic _ = true

-- ---- what the words mean

-- what the symbols are worth, and the line
module _ (values : List ℕ → Option ℕ) (line : List ℕ) where
  unfoldable pub expression : Reading Expression
  expression (StatementToken.Number n ∷ ws) = Some (plain Base.Number n, ws)
  expression (StatementToken.Name kind i j ∷ ws) = named_expression kind (values (bytes_between line i j)) ws
  expression ws = negative Base.Number ws

  unfoldable pub second : Range → Reading (Result Operand SyntaxFault)
  second range = register_first giving (λ r. Ok (Operand.Register r)) or_else expression giving immediate range

  -- such a one behind `+`, a number behind `-`, else %g0
  unfoldable pub added_second : Range → Reading (Result Operand SyntaxFault)
  added_second range =
      read_behind 43 (second range) or_else negative Base.Number giving immediate range or_else gives
      (Ok (Operand.Register 0))

  -- a register and such a one; an expression, and a register behind it
  unfoldable pub address : Range → Reading (Result ℕ SyntaxFault)
  address range =
      (register_first and_then λ r. added_second range giving sum_of r)
      or_else (expression and_then λ e. added_register giving λ r. sum_of r (immediate range e))

  -- `set`: `value,register`
  unfoldable pub set_operands : Reading (Expression × ℕ)
  set_operands = expression and_then λ e. read_behind 44 register_first and_then λ rd. end giving λ _. (e, rd)

  unfoldable pub set : List StatementToken → Result (List Instr) SyntaxFault
  set ws = option_map_or
      (λ x. word_in Range.Whole x.0.0 >>= λ w. Ok (set_instructions (is_symbolic x.0.0.base) w x.0.1)) (set_operands ws)
      (Err SyntaxFault.Shape)

-- and where the statement stands
module _ (values : List ℕ → Option ℕ) (here : ℕ) (line : List ℕ) where
  -- the words to a target (appendix B, "Branch on Integer Condition Codes" and "Call and Link"), in a field of the bits
  -- that reach so far
  unfoldable pub target : ℕ → Bool → Reading (Result ℕ SyntaxFault)
  target reach annuls =
      expression values line giving λ e. distance here e.base (offset_of e) >>= reached reach >>= λ d. Ok
      (annul_bit annuls + d % (reach / 2))

  unfoldable pub read : Part → Reading (Result ℕ SyntaxFault)
  read (Part.Register f) = register_first giving λ r. Ok (r * scale f)
  read Part.State = special_first giving λ s. Ok (special_number s * 2 ^ 19)
  read (Part.Second range) = second values line range giving λ o. o >>= λ operand2. Ok (spell_operand operand2)
  read (Part.Address range) = address values line range
  read Part.Memory = read_behind 91 (address values line Range.Signed) and_then λ x. read_behind 93 (gives x)
  read Part.Elsewhere =
      read_behind 91 register_first and_then λ rs1. added_register and_then λ rs2.
      read_behind 93 (expression values line) giving λ e. word_in Range.Space e >>= λ asi. Ok
      (elsewhere_bits rs1 rs2 (asi % 2 ^ 8))
  read (Part.Number range) = expression values line giving λ e. word_in range e >>= λ n. Ok (n % 2 ^ width range)
  read Part.Call = target (2 ^ 31) false
  read Part.Branch = (read_behind 44 annul_first or_else gives false) and_then target (2 ^ 23)

  -- operands with commas between them, to the end

  abbrev pub behind : List Part → Reading (Result ℕ SyntaxFault)
  behind [] = end giving λ _. Ok 0
  behind (p ∷ ps) = read_behind 44 (read p) and_then λ x. behind ps giving added x

  abbrev pub operands_of : List Part → Reading (Result ℕ SyntaxFault)
  operands_of [] = end giving λ _. Ok 0
  operands_of (p ∷ ps) = read p and_then λ x. behind ps giving added x

  -- the word of the first of some forms that has the name and that the operands fit, else the fault
  abbrev pub of_condition : (SyntaxFault → Result ℕ SyntaxFault) → SyntaxFault → Form → List StatementToken → Option ℕ →
      Result ℕ SyntaxFault
  of_condition others fault f ws (Some condition) =
      option_map_or (λ x. x.0 >>= λ n. Ok (filled f condition n)) (operands_of f.parts ws) (others SyntaxFault.Shape)
  of_condition others fault f ws None = others fault

  abbrev pub first_of : SyntaxFault → List Form → List ℕ → List StatementToken → Result ℕ SyntaxFault
  first_of fault [] name ws = Err fault
  first_of fault (f ∷ fs) name ws = of_condition (λ other. first_of other fs name ws) fault f ws (named f name)

  unfoldable pub named_meaning : List ℕ → List StatementToken → Result (List Instr) SyntaxFault
  named_meaning name ws =
      if bytes_eq name (codes "set") then set values line ws
      else (first_of SyntaxFault.UnknownMnemonic forms name ws >>= λ w. Ok (meaning w ∷ []))

-- the instructions of a statement, a name first, or its fault
abbrev pub source_meaning : (List ℕ → Option ℕ) → ℕ → List ℕ → List Token → Result (List Instr) SyntaxFault
source_meaning values here line tokens =
    option_map_or (λ x. named_meaning values here line x.0 x.1) (name_first line (statement_tokens line tokens))
    (Err SyntaxFault.UnknownMnemonic)

-- ---- how many instructions a statement takes, whatever its symbols are worth

-- `set` of a symbol is two; a statement with a fault counts as one
abbrev pub count_of : Result (List Instr) SyntaxFault → ℕ
count_of (Ok is) = length is
count_of (Err SyntaxFault.UnknownSymbol) = 2
count_of (Err fault) = 1

abbrev pub statement_length : List ℕ → List Token → ℕ
statement_length line tokens =
    option_map_or (λ x. if bytes_eq x.0 (codes "set") then count_of (set (λ _. None) line x.1) else 1)
    (name_first line (statement_tokens line tokens)) 1
