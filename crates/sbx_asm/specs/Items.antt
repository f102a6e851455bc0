-- The lines of a source as items: the labels of each, and the statement or the directive behind them.
use Rattle.std.specs.Prelude.{ℕ, zero, suc, ◌+◌, ◌*◌, Bool, true, false, ◌||◌, ◌&&◌, nat_lt, if◌then◌else◌, List, []}
use Rattle.std.specs.Prelude.{◌∷◌, ◌++◌, drop, length, map, slice_index, not, ◌==◌, ℤ, Result, Ok, Err}
use Rattle.std.specs.List.{enumerate_from}
use Rattle.sbx_text.specs.declared.Token.{Token}
use Rattle.sbx_text.specs.declared.fault.TextFault.{TextFault}
use Rattle.sbx_text.specs.Tokens.{tokens_of}
use Rattle.v8_syntax.specs.Statements.{bytes_between}
use Rattle.sbx_image.specs.Range.{Range}
pub use Rattle.sbx_image.specs.Cell.{Cell}
use Rattle.sbx_image.specs.Services.{Services}
pub use Rattle.sbx_image.specs.Term.{Term}
use Rattle.sbx_directives.specs.declared.directive.Keyword.TheVariants as keywords
use Rattle.sbx_directives.specs.declared.directive.Directive.TheVariants as directives
use Rattle.sbx_directives.specs.declared.directive.Statement.{Statement}
use Rattle.sbx_directives.specs.declared.directive.Statement.TheVariants as statements
use Rattle.sbx_directives.specs.Directives.{label_count, statement_of}

-- A line ends by LF, which is 10, or by CR, 13, and LF; what follows the last end is a line if it has a byte.
unfoldable pub lines_of : List ℕ → List (List ℕ)
lines_of [] = []
lines_of (b ∷ bytes) =
    if b == 10 then [] ∷ lines_of bytes
    else (if b == 13 && slice_index bytes 0 == 10 then lines_of bytes
    else elim (lines_of bytes) [ [] ↦ (b ∷ []) ∷ [] | line ∷ lines ↦ (b ∷ line) ∷ lines ])

-- what stands behind the labels of a line, or why the line has no tokens
abbrev pub Said : Type 0
Said = Result Statement TextFault

-- A line: its number, from 1, the names of its labels, its bytes, its tokens behind the labels, and what these say.
pub record Item : Type 0 where
  pub number : ℕ
  pub labels : List (List ℕ)
  pub bytes : List ℕ
  pub tokens : List Token
  pub said : Said

-- the names of so many labels, each with a sign behind it
unfoldable pub label_names : List ℕ → ℕ → List Token → List (List ℕ)
label_names line zero ts = []
label_names line (suc n) [] = []
label_names line (suc n) (t ∷ ts) = bytes_between line t.start t.stop ∷ label_names line n (drop 1 ts)

-- the labels of a line without tokens don't count
abbrev pub read_line : ℕ → List ℕ → Result (List Token) TextFault → Item
read_line number line (Ok ts) =
    let count : ℕ = label_count line ts in
    let rest : List Token = drop (2 * count) ts in
    record {
      number = number;
      labels = label_names line count ts;
      bytes = line;
      tokens = rest;
      said =
          Ok (statement_of line rest);
    }
read_line number line (Err f) = record { number = number; labels = []; bytes = line; tokens = []; said = Err f }

abbrev pub item_of : ℕ × List ℕ → Item
item_of x = read_line x.0 x.1 (tokens_of x.1)

-- the items of a source
abbrev pub items_of : List ℕ → List Item
items_of source = map item_of (enumerate_from 1 (lines_of source))

-- ---- each item in its place

-- What the items give one after the other, where those before an item, the nearest first, and those after it are known.
abbrev pub each : {A : Type 0} → (List Item → Item → List Item → List A) → List Item → List Item → List A
each gives before [] = []
each gives before (i ∷ after) = gives before i after ++ each gives (i ∷ before) after

-- the items up to the next, or back to the nearest, that passes a test
abbrev pub up_to : (Item → Bool) → List Item → List Item
up_to test [] = []
up_to test (i ∷ is) = if test i then [] else i ∷ up_to test is

-- how many items pass a test
abbrev pub count : (Item → Bool) → List Item → ℕ
count test [] = 0
count test (i ∷ is) = if test i then count test is + 1 else count test is

-- ---- what an item is

-- a `.function`
abbrev pub starts_function : Item → Bool
starts_function i =
    elim i.said [ Ok (statements.Directive (directives.Function name kind frame room budget)) ↦ true | _ ↦ false ]

-- a `.function`, whatever its operands: it ends the function before it
abbrev pub ends_function : Item → Bool
ends_function i =
    starts_function i || elim i.said [ Ok (statements.Malformed keywords.Function name) ↦ true | _ ↦ false ]

-- a `.block`, whatever its operands
abbrev pub is_block : Item → Bool
is_block i = elim i.said [
  | Ok (statements.Directive (directives.Block name)) ↦ true
  | Ok (statements.Malformed keywords.Block name) ↦ true
  | _ ↦ false
]

-- a block ends where another one or a function begins
abbrev pub ends_block : Item → Bool
ends_block i = ends_function i || is_block i

abbrev pub is_text : Item → Bool
is_text i = elim i.said [ Ok (statements.Directive directives.Text) ↦ true | _ ↦ false ]

abbrev pub is_data : Item → Bool
is_data i = elim i.said [ Ok (statements.Directive directives.Data) ↦ true | _ ↦ false ]

abbrev pub is_region : Item → Bool
is_region i = elim i.said [ Ok (statements.Directive (directives.Region writable)) ↦ true | _ ↦ false ]

-- a list of values, or zeros; at the start of a region `.align` gives none
abbrev pub has_bytes : Item → Bool
has_bytes i =
    elim i.said [
      | Ok (statements.Directive (directives.Values w n)) ↦ true
      | Ok (statements.Directive (directives.Skip n)) ↦ nat_lt 0 n
      | _ ↦ false
    ]

-- whether some items, the nearest first, end within a function
abbrev pub in_function : List Item → Bool
in_function [] = false
in_function (i ∷ before) = if ends_function i then starts_function i else in_function before

-- an item that begins a block: a `.function`, or a `.block` in one
abbrev pub begins_block : List Item → Item → Bool
begins_block before i = starts_function i || (is_block i && in_function before)

abbrev pub block_count : List Item → ℕ
block_count [] = 0
block_count (i ∷ before) = if begins_block before i then block_count before + 1 else block_count before

-- ---- what an item has

abbrev pub services : Item → List Services
services i = elim i.said [ Ok (statements.Directive (directives.Services x)) ↦ x ∷ [] | _ ↦ [] ]

abbrev pub stacks : Item → List ℕ
stacks i = elim i.said [ Ok (statements.Directive (directives.Stack n)) ↦ n ∷ [] | _ ↦ [] ]

abbrev pub params : Item → List Range
params i = elim i.said [ Ok (statements.Directive (directives.Param r)) ↦ r ∷ [] | _ ↦ [] ]

abbrev pub results : Item → List Range
results i = elim i.said [ Ok (statements.Directive (directives.Result r)) ↦ r ∷ [] | _ ↦ [] ]

abbrev pub depths : Item → List ℕ
depths i = elim i.said [ Ok (statements.Directive (directives.Depth n)) ↦ n ∷ [] | _ ↦ [] ]

abbrev pub fuels : Item → List ℤ
fuels i = elim i.said [ Ok (statements.Directive (directives.Fuel z)) ↦ z ∷ [] | _ ↦ [] ]

abbrev pub cells : Item → List Cell
cells i = elim i.said [ Ok (statements.Directive (directives.Cell c)) ↦ c ∷ [] | _ ↦ [] ]

abbrev pub terms : Item → List Term
terms i = elim i.said [ Ok (statements.Directive (directives.Term t)) ↦ t ∷ [] | _ ↦ [] ]

-- an item that has any of them
abbrev pub has : {A : Type 0} → (Item → List A) → Item → Bool
has of i = not (length (of i) == 0)
