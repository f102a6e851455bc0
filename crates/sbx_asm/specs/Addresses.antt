-- Where the lines of a source stand, and what their labels are worth: the start of a section and the lengths before
-- them.
use Rattle.std.specs.Prelude.{ℕ, ◌+◌, ◌-◌, ◌*◌, ◌%◌, min, Bool, true, false, ◌||◌, ◌==◌, if◌then◌else◌, List, [], ◌∷◌}
use Rattle.std.specs.Prelude.{◌++◌, map, Option, Some, None, Ok, Err}
use Rattle.std.specs.List.{list_any}
use Rattle.std.specs.Str.{bytes_eq}
use Rattle.v8_map.specs.declared.TheConstants.{CODE_START, DATA_START}
use Rattle.v8_syntax.specs.Statements.{statement_length}
use Rattle.sbx_image.specs.Regions.{pages_for}
use Rattle.sbx_directives.specs.declared.directive.Directive.TheVariants as directives
use Rattle.sbx_directives.specs.declared.directive.Statement.TheVariants as statements
use Rattle.sbx_directives.specs.Directives.{text_of}
use Rattle.sbx_directives.specs.Data.{bytes_of_width}
use Rattle.sbx_asm.specs.Items.{Item, Said, each, is_text, is_data, is_region}

-- ---- lengths, in bytes

-- a statement with a fault is as long as one without, and a line without tokens one word long
abbrev pub code_length : Item → ℕ
code_length i = elim i.said [ Ok statements.Instruction ↦ 4 * statement_length i.bytes i.tokens | Err f ↦ 4 | _ ↦ 0 ]

-- up to a multiple of n
abbrev pub padding_of : ℕ → ℕ → ℕ
padding_of n size = if n == 0 then 0 else (n - size % n) % n

-- behind so many bytes of the section
abbrev pub data_length : ℕ → Said → ℕ
data_length size (Ok (statements.Directive (directives.Values w n))) = bytes_of_width w * n
data_length size (Ok (statements.Directive (directives.Skip n))) = n
data_length size (Ok (statements.Directive (directives.Align n))) = padding_of n size
data_length size _ = 0

-- a section, as the code, the data or a region of them, has room for 262,144 bytes, and ends there
abbrev pub section_room : ℕ
section_room = 0x40000

-- how far some items, the nearest first, fill the code
abbrev pub code_offset : List Item → ℕ
code_offset [] = 0
code_offset (i ∷ before) = min (code_offset before + code_length i) section_room

-- and the data, of which the newest region counts
abbrev pub data_offset : List Item → ℕ
data_offset [] = 0
data_offset (i ∷ before) =
    if is_region i then 0 else min (data_offset before + data_length (data_offset before) i.said) section_room

-- ---- addresses

-- a region begins at the page behind the last one of the region before, of so many bytes; a ninth, too many, behind
-- eight full ones at the latest
abbrev pub start_behind : ℕ → ℕ → ℕ
start_behind start size = min (start + 4096 * pages_for size) (DATA_START + 8 * section_room)

-- where a region begins behind some items: the first one where the data do, whatever stands before it
abbrev pub next_start : List Item → ℕ → ℕ
next_start before start = if list_any is_region before then start_behind start (data_offset before) else DATA_START

-- where the newest region begins, or the data where there are no regions
abbrev pub region_start : List Item → ℕ
region_start [] = DATA_START
region_start (i ∷ before) = if is_region i then next_start before (region_start before) else region_start before

-- the code begins at 00040000 and the data at 00080000, as the address map has them
abbrev pub code_address : List Item → ℕ
code_address before = CODE_START + code_offset before

-- whether the code is the section that `.text`, `.data` or `.region` chose last
abbrev pub in_code : List Item → Bool
in_code [] = true
in_code (i ∷ before) = if is_text i then true else (if is_data i || is_region i then false else in_code before)

-- where the next line's labels point: behind the code, or the data of the newest region
abbrev pub label_address : List Item → ℕ
label_address before = if in_code before then code_address before else region_start before + data_offset before

-- ---- labels

-- a name, where it stands, and the line's number
pub record Label : Type 0 where
  pub name : List ℕ
  pub address : ℕ
  pub line : ℕ

-- the names of a function and of a block are labels of their first words, whatever else stands there
abbrev pub names_said : List ℕ → Said → List (List ℕ)
names_said line (Ok (statements.Directive (directives.Function name kind frame room budget))) = text_of line name ∷ []
names_said line (Ok (statements.Directive (directives.Block name))) = text_of line name ∷ []
names_said line (Ok (statements.Malformed k (Some name))) = text_of line name ∷ []
names_said line _ = []

abbrev pub labelled : ℕ → ℕ → List ℕ → Label
labelled line address name = record { name = name; address = address; line = line }

-- the labels of an item
abbrev pub labels_at : List Item → Item → List Item → List Label
labels_at before i after =
    map (labelled i.number (label_address before)) i.labels
    ++ map (labelled i.number (code_address before)) (names_said i.bytes i.said)

-- a name is worth the address of the first label of that name
abbrev pub worth_in : List Label → List ℕ → Option ℕ
worth_in [] name = None
worth_in (l ∷ ls) name = if bytes_eq l.name name then Some l.address else worth_in ls name

abbrev pub values_of : List Item → List ℕ → Option ℕ
values_of items = worth_in (each labels_at [] items)
