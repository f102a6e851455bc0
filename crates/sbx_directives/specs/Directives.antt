-- Lines of source but their instructions: the labels, the operands of a directive by shape, and what each directive and
-- annotation asks for.
use Rattle.std.specs.Prelude.{ℕ, suc, ◌+◌, ◌==◌, Bool, true, false, nat_le, ◌&&◌, ◌||◌, if◌then◌else◌, ℤ, pos, negsuc}
use Rattle.std.specs.Prelude.{neg_ℤ, int_le, List, [], ◌∷◌, length, map, Option, Some, None, codes}
use Rattle.std.specs.Str.{bytes_eq}
use Rattle.std.specs.List.{list_any, list_all, slice_split}
use Rattle.std.specs.Option.{option_map_or}
use Rattle.sbx_text.specs.declared.Token.{Token}
use Rattle.v8_syntax.specs.declared.word.StatementToken.{StatementToken}
use Rattle.v8_syntax.specs.Statements.{beside, bytes_between, statement_token, statement_tokens}
use Rattle.sbx_image.specs.{Kind.Kind, Range.Range, Rules.is_coefficient, Services.Services}
use Rattle.sbx_directives.specs.declared.directive.{Name.Name, Width.Width, Keyword.Keyword, Directive.Directive}
use Rattle.sbx_directives.specs.declared.directive.{Statement.Statement}
use Rattle.sbx_directives.specs.declared.operand.Operand.{Operand}

-- the bytes of a name
abbrev pub text_of : List ℕ → Name → List ℕ
text_of line x = bytes_between line x.start x.stop

-- How many labels come first, each a name and `:`. The name of the k-th is the token 2 k.
unfoldable pub labels_first : List StatementToken → ℕ
labels_first (StatementToken.Name k start stop ∷ StatementToken.Sign b ∷ ws) =
    if b == 58 then suc (labels_first ws) else 0
labels_first _ = 0

abbrev pub label_count : List ℕ → List Token → ℕ
label_count line tokens = labels_first (statement_tokens line tokens)

infixl 10 ◌>>=◌
abbrev pub ◌>>=◌ : {A B : Type 0} → Option A → (A → Option B) → Option B
(Some x) >>= f = f x
None >>= f = None

-- an operand by its words
unfoldable pub operand_of : List StatementToken → Operand
operand_of (StatementToken.Number n ∷ []) = Operand.Number (pos n)
operand_of (StatementToken.Register r ∷ []) = Operand.Register r
operand_of (StatementToken.Name k i j ∷ []) = Operand.Name (record { start = i; stop = j })
operand_of (StatementToken.Sign b ∷ StatementToken.Number n ∷ []) =
    if b == 45 then Operand.Number (neg_ℤ (pos n)) else Operand.Other
operand_of (StatementToken.Name k i j ∷ StatementToken.Number n ∷ []) =
    Operand.Counted (record { start = i; stop = j }) n
operand_of (StatementToken.Name k i j ∷ StatementToken.Sign b ∷ StatementToken.Number n ∷ []) =
    if b == 43 then Operand.Sum (record { start = i; stop = j }) n
    else (if b == 45 then Operand.Difference (record { start = i; stop = j }) n
    else Operand.Other)
operand_of _ = Operand.Other

abbrev pub is_comma : StatementToken → Bool
is_comma (StatementToken.Sign b) = b == 44
is_comma _ = false

-- what some tokens have between their commas; none where there is no token
abbrev pub operands_of : List ℕ → List Token → List Operand
operands_of line [] = []
operands_of line tokens = map operand_of (slice_split is_comma (statement_tokens line tokens))

-- what stands behind a first token, which may be a comma: an operand at least
abbrev pub behind : List ℕ → List Token → List Operand
behind line [] = []
behind line (t ∷ ts) = map operand_of (slice_split is_comma (statement_tokens line ts))

abbrev pub is_between : ℤ → ℤ → ℤ → Bool
is_between low high z = int_le low z && int_le z high

-- a number from low to high
unfoldable pub integer_in : ℤ → ℤ → Operand → Option ℤ
integer_in low high (Operand.Number z) = if is_between low high z then Some z else None
integer_in low high _ = None

-- the same of one that is not negative; `-0` is 0
unfoldable pub natural_in : ℕ → ℕ → Operand → Option ℕ
natural_in low high (Operand.Number (pos n)) = if nat_le low n && nat_le n high then Some n else None
natural_in low high _ = None

-- `LO,HI,AL`: signed words from lo to hi that are multiples of 2 to the power al
unfoldable pub range_of : List Operand → Option Range
range_of (a ∷ b ∷ c ∷ []) =
    integer_in (negsuc 2147483647) (pos 2147483647) a >>= λ lo. integer_in (negsuc 2147483647)
    (pos 2147483647) b >>= λ hi.
    natural_in 0 3 c >>= λ alignment.
    (if int_le lo hi then Some (record { lo = lo; hi = hi; alignment = alignment }) else None)
range_of _ = None

-- any number but 0
abbrev pub coefficient : Operand → Option ℤ
coefficient o = integer_in (negsuc 2147483647) (pos 2147483647) o >>= λ z. if is_coefficient z then Some z else None

abbrev pub plain_name : Operand → Option Name
plain_name (Operand.Name x) = Some x
plain_name _ = None

-- frame word k of `slot k`
abbrev pub slot : List ℕ → ℕ → Option ℕ
slot name k = if bytes_eq name (codes "slot") && nat_le k 1007 then Some (32 + k) else None

-- a register but %g0, or a frame word; `slot -0` is `slot 0`
unfoldable pub location : List ℕ → Operand → Option ℕ
location line (Operand.Register r) = if r == 0 then None else Some r
location line (Operand.Counted x n) = slot (text_of line x) n
location line (Operand.Difference x n) = if n == 0 then slot (text_of line x) n else None
location line _ = None

-- the directives and annotations by their names
unfoldable pub named_keywords : List (List ℕ × Keyword)
named_keywords =
    (codes ".text", Keyword.Text) ∷ (codes ".data", Keyword.Data) ∷ (codes ".region", Keyword.Region)
    ∷ (codes ".services", Keyword.Services)
    ∷ (codes ".stack", Keyword.Stack) ∷ (codes ".function", Keyword.Function) ∷ (codes ".param", Keyword.Param)
    ∷ (codes ".result", Keyword.Result)
    ∷ (codes ".depth", Keyword.Depth) ∷ (codes ".block", Keyword.Block) ∷ (codes ".cell", Keyword.Cell)
    ∷ (codes ".fuel", Keyword.Fuel)
    ∷ (codes ".term", Keyword.Term) ∷ (codes ".word", Keyword.Word) ∷ (codes ".half", Keyword.Half)
    ∷ (codes ".byte", Keyword.Byte)
    ∷ (codes ".skip", Keyword.Skip) ∷ (codes ".align", Keyword.Align) ∷ []

-- the keyword of a name
unfoldable pub keyword_named : List ℕ → Option Keyword
keyword_named name = beside name named_keywords

-- the name that is wanted
abbrev pub names : List ℕ → List ℕ → Operand → Bool
names wanted line o = option_map_or (λ x. bytes_eq (text_of line x) wanted) (plain_name o) false

-- `leaf` or `framed`
abbrev pub frames_of : List ℕ → Operand → Option Kind
frames_of line o =
    plain_name o >>= λ x. beside (text_of line x) ((codes "leaf", Kind.Leaf) ∷ (codes "framed", Kind.Framed) ∷ [])

-- `ro` or `rw`: whether the program may write
abbrev pub right_of : List ℕ → Operand → Option Bool
right_of line o = plain_name o >>= λ x. beside (text_of line x) ((codes "ro", false) ∷ (codes "rw", true) ∷ [])

abbrev pub is_service : List ℕ → Operand → Bool
is_service line o = names (codes "exit") line o || (names (codes "get") line o || names (codes "put") line o)

-- the set of the services that are named
abbrev pub named_services : List ℕ → List Operand → ℕ
named_services line os =
    (if list_any (names (codes "exit") line) os then 1 else 0)
    + (if list_any (names (codes "get") line) os then 2 else 0)
    + (if list_any (names (codes "put") line) os then 4 else 0)

-- of the services at least one
unfoldable pub services_of : List ℕ → List Operand → Option Services
services_of line [] = None
services_of line os = if list_all (is_service line) os then Some (record { 0 = named_services line os }) else None

-- a number, `-` number, a symbol, a symbol with `+` or `-` number
abbrev pub is_expression : Operand → Bool
is_expression (Operand.Register r) = false
is_expression (Operand.Counted x n) = false
is_expression Operand.Other = false
is_expression _ = true

-- how many values, at least one
unfoldable pub value_count : List Operand → Option ℕ
value_count [] = None
value_count os = if list_all is_expression os then Some (length os) else None

-- The table: what the operands of each directive are.
unfoldable pub directive_of : List ℕ → Keyword → List Operand → Option Directive
directive_of line Keyword.Text [] = Some Directive.Text
directive_of line Keyword.Data [] = Some Directive.Data
directive_of line Keyword.Region (o ∷ []) = right_of line o >>= λ writable. Some (Directive.Region writable)
directive_of line Keyword.Services os = services_of line os >>= λ s. Some (Directive.Services s)
directive_of line Keyword.Stack (o ∷ []) = natural_in 1 16 o >>= λ n. Some (Directive.Stack n)
directive_of line Keyword.Function (a ∷ b ∷ c ∷ d ∷ e ∷ []) =
    plain_name a >>= λ name. frames_of line b >>= λ kind.
    natural_in 0 4096 c >>= λ frame. natural_in 0 65536 d >>= λ stack_room. natural_in 0 1099511627775 e >>= λ budget.
    Some (Directive.Function name kind frame stack_room budget)
directive_of line Keyword.Param os = range_of os >>= λ r. Some (Directive.Param r)
directive_of line Keyword.Result os = range_of os >>= λ r. Some (Directive.Result r)
directive_of line Keyword.Depth (o ∷ []) = natural_in 0 256 o >>= λ n. Some (Directive.Depth n)
directive_of line Keyword.Block (o ∷ []) = plain_name o >>= λ x. Some (Directive.Block x)
directive_of line Keyword.Cell (o ∷ os) =
    location line o >>= λ place. range_of os >>= λ r. Some (Directive.Cell (record { location = place; range = r }))
directive_of line Keyword.Fuel (o ∷ []) =
    integer_in (negsuc 1099511627774) (pos 1099511627775) o >>= λ z. Some (Directive.Fuel z)
directive_of line Keyword.Term (o ∷ p ∷ []) =
    location line o >>= λ place. coefficient p >>= λ z. Some
    (Directive.Term (record { location = place; coefficient = z }))
directive_of line Keyword.Word os = value_count os >>= λ n. Some (Directive.Values Width.Word n)
directive_of line Keyword.Half os = value_count os >>= λ n. Some (Directive.Values Width.Half n)
directive_of line Keyword.Byte os = value_count os >>= λ n. Some (Directive.Values Width.Byte n)
directive_of line Keyword.Skip (o ∷ []) = natural_in 0 18446744073709551615 o >>= λ n. Some (Directive.Skip n)
directive_of line Keyword.Align (o ∷ []) =
    natural_in 2 8 o >>= λ n. if n == 2 || (n == 4 || n == 8) then Some (Directive.Align n) else None
directive_of line _ _ = None

-- what a function or a block is called, whatever else stands there: the first word behind the keyword, where it is a
-- name
unfoldable pub called : Keyword → List StatementToken → Option Name
called Keyword.Function (StatementToken.Name k i j ∷ ws) = Some (record { start = i; stop = j })
called Keyword.Block (StatementToken.Name k i j ∷ ws) = Some (record { start = i; stop = j })
called _ _ = None

abbrev pub told : List ℕ → Keyword → List Token → Statement
told line k rest =
    option_map_or Statement.Directive (directive_of line k (operands_of line rest))
    (Statement.Malformed k (called k (statement_tokens line rest)))

-- a name that is no directive's begins an instruction
abbrev pub begun : List ℕ → StatementToken → List Token → Statement
begun line (StatementToken.Name k start stop) rest =
    option_map_or (λ k. told line k rest) (keyword_named (bytes_between line start stop)) Statement.Instruction
begun line _ rest = Statement.Instruction

-- What the tokens behind the labels of a line ask for.
unfoldable pub statement_of : List ℕ → List Token → Statement
statement_of line [] = Statement.Nothing
statement_of line (first ∷ rest) = begun line (statement_token line first) rest
