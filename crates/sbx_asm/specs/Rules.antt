-- The faults of a source: how one is shown, which is told, and what is wrong at a line, a case a rule. The lines before
-- it stand nearest first.
use Rattle.std.specs.Prelude.{ℕ, ◌*◌, ◌-◌, Bool, true, false, not, ◌&&◌, ◌||◌, ◌==◌, nat_lt, nat_le, if◌then◌else◌}
use Rattle.std.specs.Prelude.{List, [], ◌∷◌, ◌++◌, length, map, get_or, codes, Ok, Err, Option, None, Some}
use Rattle.std.specs.Fmt.{decimal}
use Rattle.std.specs.List.{list_any, flat_map, fold}
use Rattle.std.specs.Result.{result_err}
use Rattle.std.specs.Str.{bytes_eq}
use Rattle.sbx_text.specs.Faults as texts
use Rattle.v8_syntax.specs.Faults as syntax
use Rattle.v8_syntax.specs.declared.fault.SyntaxFault.{SyntaxFault}
use Rattle.v8_syntax.specs.declared.fault.SyntaxFault.TheVariants.{UnknownSymbol}
use Rattle.v8_syntax.specs.Statements.{source_meaning, statement_length}
use Rattle.sbx_directives.specs.declared.directive.Keyword.TheVariants as keywords
use Rattle.sbx_directives.specs.declared.directive.Directive.{Directive}
use Rattle.sbx_directives.specs.declared.directive.Directive.TheVariants as directives
use Rattle.sbx_directives.specs.declared.directive.Statement.TheVariants as statements
use Rattle.sbx_directives.specs.declared.fault.DataFault.{DataFault}
use Rattle.sbx_directives.specs.declared.fault.DataFault.TheVariants as data_faults
use Rattle.sbx_directives.specs.Data.{data_of, bytes_of_width}
pub use Rattle.sbx_asm.specs.declared.fault.AsmFault.{AsmFault}
pub use Rattle.sbx_asm.specs.declared.fault.Cause.{Cause}
use Rattle.sbx_asm.specs.declared.fault.Cause.TheVariants as causes
use Rattle.sbx_asm.specs.Items.{Item, Cell, Term, Said, each, up_to, count, starts_function, ends_function, is_block}
use Rattle.sbx_asm.specs.Items.{ends_block, is_text, is_data, is_region, has_bytes, in_function, begins_block}
use Rattle.sbx_asm.specs.Items.{block_count, services, stacks, params, results, depths, fuels, cells, terms, has}
use Rattle.sbx_asm.specs.Addresses.{Label, padding_of, section_room, code_offset, data_offset, code_address, in_code}
use Rattle.sbx_asm.specs.Addresses.{labels_at, values_of}

-- ---- how it is shown

abbrev pub code_of : Cause → List ℕ
code_of (causes.Text f) = texts.code_of f
code_of (causes.Syntax f) = syntax.code_of f
code_of causes.DuplicateLabel = codes "A1"
code_of causes.Directive = codes "A2"
code_of causes.Limit = codes "A3"
code_of causes.Annotation = codes "A4"
code_of (causes.Memory want) = codes "A5"

abbrev pub shown : AsmFault → List ℕ
shown a = codes "line " ++ (decimal a.line ++ (codes ": " ++ code_of a.cause))

-- ---- which is told

abbrev pub rank : Cause → ℕ
rank (causes.Text f) = 0
rank (causes.Syntax f) = 1
rank causes.DuplicateLabel = 2
rank causes.Directive = 3
rank causes.Limit = 4
rank causes.Annotation = 5
rank (causes.Memory want) = 6

abbrev pub is_earlier : AsmFault → AsmFault → Bool
is_earlier a b = nat_lt a.line b.line || (a.line == b.line && nat_lt (rank a.cause) (rank b.cause))

abbrev pub at : ℕ → Cause → AsmFault
at line cause = record { line = line; cause = cause }

-- the earlier one of the fault so far, if there is one, and of another
abbrev pub told : Option AsmFault → AsmFault → Option AsmFault
told (Some a) b = if is_earlier b a then Some b else Some a
told None b = Some b

-- the least of some faults, if there are any: of the least line, and there of the least cause
abbrev pub least_of : List AsmFault → Option AsmFault
least_of faults = fold told None faults

-- ---- what several rules ask

abbrev pub Values : Type 0
Values = List ℕ → Option ℕ

abbrev pub when : Bool → Cause → List Cause
when test cause = if test then cause ∷ [] else []

-- the rules of what stands in its place
abbrev pub in_place : Bool → List Cause → List Cause
in_place test rules = if test then rules else causes.Annotation ∷ []

-- one name, one place: the second of two equal labels is told
abbrev pub duplicates : List Label → List Label → List AsmFault
duplicates before [] = []
duplicates before (l ∷ ls) =
    map (at l.line) (when (list_any (λ (m : Label). bytes_eq m.name l.name) before) causes.DuplicateLabel)
    ++ duplicates (before ++ l ∷ []) ls

-- data stand in the data section, within its room
abbrev pub data_rules : List Item → ℕ → List Cause
data_rules before n =
    when (in_code before) causes.Directive ++ when (not (nat_le n (section_room - data_offset before))) causes.Limit

-- a malformed list of values, or one that doesn't fit; an unknown symbol
abbrev pub value_rules : Option DataFault → List Cause
value_rules (Some data_faults.UnknownSymbol) = causes.Syntax UnknownSymbol ∷ []
value_rules (Some data_faults.Malformed) = causes.Directive ∷ []
value_rules _ = []

-- a `.block` stands in a function; at most 4,096 blocks in all
abbrev pub block_rules : List Item → List Cause
block_rules before = in_place (in_function before) (when (nat_le 4096 (block_count before)) causes.Limit)

-- at most so many cells or terms of a block, the nearest first: their locations ascend
abbrev pub ascending : ℕ → List ℕ → ℕ → List Cause
ascending most locations location =
    when (nat_le most (length locations)) causes.Limit ++ when (nat_le location (get_or locations 0 0)) causes.Directive

-- what the labels are worth
module _ (values : Values) where
  -- why the values of a data directive have no bytes, where they have none
  abbrev pub value_fault_of : Item → Option DataFault
  value_fault_of i =
      elim i.said [
        | Ok (statements.Directive (directives.Values w n)) ↦ result_err (data_of values i.bytes w i.tokens)
        | _ ↦ None
      ]

  -- why an instruction has no words, where it has none
  abbrev pub syntax_fault_of : List Item → Item → Option SyntaxFault
  syntax_fault_of before i =
      elim i.said [
        | Ok statements.Instruction ↦
            result_err (source_meaning values (code_address before) i.bytes i.tokens)
        | _ ↦ None
      ]

  -- a line that acts: an instruction, or one with a fault of its text or of its syntax, which counts as one
  abbrev pub acts : Item → Bool
  acts i = elim i.said [
    | Err f ↦ true
    | Ok statements.Instruction ↦ true
    | _ ↦ elim (value_fault_of i) [ Some data_faults.UnknownSymbol ↦ true | _ ↦ false ]
  ]

  -- annotations stand between the line that begins a block and the first that acts
  abbrev pub takes_annotations : List Item → Bool
  takes_annotations before = in_function before && not (list_any acts (up_to ends_block before))

  -- params, results and the depth in the first block
  abbrev pub takes_ranges : List Item → Bool
  takes_ranges before = takes_annotations before && not (list_any is_block (up_to ends_function before))

  -- a fuel of the block stands in its place
  abbrev pub has_fuel : List Item → Bool
  has_fuel [] = false
  has_fuel (i ∷ before) = not (begins_block before i) && ((has fuels i && takes_annotations before) || has_fuel before)

  -- ---- the rules of each line

  abbrev pub directive_rules : List Item → Item → Directive → List Cause
  directive_rules before i directives.Text = []
  -- a source has `.data` or regions, and at most 8 of these
  directive_rules before i directives.Data = when (list_any is_region before) causes.Directive
  directive_rules before i (directives.Region writable) =
      when (list_any is_data before) causes.Directive ++ when (nat_le 8 (count is_region before)) causes.Limit
  -- `.services` and `.stack` stand once, and so does a `.depth` in a function and a `.fuel` in a block
  directive_rules before i (directives.Services x) = when (list_any (has services) before) causes.Directive
  directive_rules before i (directives.Stack n) = when (list_any (has stacks) before) causes.Directive
  directive_rules before i (directives.Depth n) =
      if in_function before && list_any (has depths) (up_to ends_function before) then causes.Directive ∷ []
      else in_place (takes_ranges before) []
  directive_rules before i (directives.Fuel z) =
      if has_fuel before then causes.Directive ∷ [] else in_place (takes_annotations before) []
  -- at most 256 functions, each of which begins a block, and 6 params and results of each, 64 cells and 8 terms of a
  -- block
  directive_rules before i (directives.Function name kind frame room budget) =
      when (nat_le 256 (count starts_function before)) causes.Limit
      ++ when (nat_le 4096 (block_count before)) causes.Limit
  directive_rules before i (directives.Param r) =
      in_place (takes_ranges before)
      (when (nat_le 6 (length (flat_map params (up_to ends_function before)))) causes.Limit)
  directive_rules before i (directives.Result r) =
      in_place (takes_ranges before)
      (when (nat_le 6 (length (flat_map results (up_to ends_function before)))) causes.Limit)
  directive_rules before i (directives.Block name) = block_rules before
  directive_rules before i (directives.Cell c) =
      in_place (takes_annotations before)
      (ascending 64 (map (λ (d : Cell). d.location) (flat_map cells (up_to ends_block before))) c.location)
  directive_rules before i (directives.Term t) =
      in_place (takes_annotations before)
      (ascending 8 (map (λ (u : Term). u.location) (flat_map terms (up_to ends_block before))) t.location)
  directive_rules before i (directives.Values w n) =
      data_rules before (bytes_of_width w * n) ++ value_rules (value_fault_of i)
  directive_rules before i (directives.Skip n) = data_rules before n
  directive_rules before i (directives.Align n) = data_rules before (padding_of n (data_offset before))

  abbrev pub line_rules : List Item → Item → Said → List Cause
  line_rules before i (Err f) = causes.Text f ∷ []
  line_rules before i (Ok statements.Nothing) = []
  line_rules before i (Ok (statements.Directive x)) = directive_rules before i x
  -- a bad operand; a `.block` begins a block all the same
  line_rules before i (Ok (statements.Malformed keywords.Block name)) = block_rules before ++ causes.Directive ∷ []
  line_rules before i (Ok (statements.Malformed k name)) = causes.Directive ∷ []
  -- an instruction stands in the code, in a function, within the code's room
  line_rules before i (Ok statements.Instruction) =
      when (not (in_code before && in_function before)) causes.Directive
      ++ (when (not (nat_le (4 * statement_length i.bytes i.tokens) (section_room - code_offset before))) causes.Limit
      ++ elim (syntax_fault_of before i) [ None ↦ [] | Some f ↦ causes.Syntax f ∷ [] ])

  -- At most 1,000,000 lines. A region without bytes, up to a `.text` or another one, is told where it begins, and so is
  -- a block in which no line acts.
  abbrev pub faults_at : List Item → Item → List Item → List AsmFault
  faults_at before i after =
      map (at i.number) (
      when (nat_lt 1000000 i.number) causes.Limit
      ++ (line_rules before i i.said
      ++ (when (is_region i && not (list_any has_bytes (up_to (λ j. is_text j || is_region j) after))) causes.Directive
      ++ when (begins_block before i && not (list_any acts (up_to ends_block after))) causes.Directive)))

-- the faults of all lines
abbrev pub faults_of : List Item → List AsmFault
faults_of items = duplicates [] (each labels_at [] items) ++ each (faults_at (values_of items)) [] items
