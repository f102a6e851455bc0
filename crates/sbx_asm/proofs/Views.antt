-- Parts of the definitions that lemmas speak of, by what a line says or by themselves.
use Rattle.std.specs.Prelude.{◌≡◌, ℕ, ◌+◌, ◌-◌, ◌*◌, min, Bool, false, ◌&&◌, ◌||◌, nat_le, if◌then◌else◌, List, [], ◌∷◌, ◌++◌, map, Option, None, Some, Result, Ok, Err}
use Rattle.std.specs.List.{AllByRecursion, list_any}
use Rattle.std.specs.Result.{result_err, result_unwrap_or}
use Rattle.std.specs.Str.{bytes_eq}
use Rattle.sbx_text.specs.declared.Token.{Token}
use Rattle.v8_map.specs.declared.TheConstants.{DATA_START}
use Rattle.v8_formats.specs.declared.instr.Instr.{Instr}
use Rattle.v8_formats.specs.Spelling.{spelling}
use Rattle.v8_syntax.specs.declared.fault.SyntaxFault.{SyntaxFault}
use Rattle.v8_syntax.specs.Statements.{source_meaning}
use Rattle.sbx_image.specs.ImageFault.{ImageFault}
use Rattle.sbx_image.specs.Parts.{Parts}
use Rattle.sbx_directives.specs.declared.directive.Statement.TheVariants as statements
use Rattle.sbx_directives.specs.declared.fault.DataFault.{DataFault}
use Rattle.sbx_asm.specs.declared.fault.AsmFault.{AsmFault}
use Rattle.sbx_asm.specs.declared.fault.Cause.{Cause}
use Rattle.sbx_asm.specs.declared.fault.Cause.TheVariants as causes
use Rattle.sbx_asm.specs.Items.{Item, Said, up_to, count, is_text, is_data, is_region, ends_function, in_function, block_count, each, depths, has}
use Rattle.sbx_asm.specs.Addresses.{Label, labels_at, section_room, region_start, data_offset, code_address}
use Rattle.sbx_asm.specs.Rules.{Values, at, when, is_earlier}
use Rattle.sbx_asm.specs.Images.{whole_cause}

-- ---- a line by what it says

abbrev pub item : ℕ → List (List ℕ) → List ℕ → List Token → Said → Item
item number labels bytes tokens s = record { number = number; labels = labels; bytes = bytes; tokens = tokens; said = s }

abbrev pub saying : Said → Item
saying s = record { number = 0; labels = []; bytes = []; tokens = []; said = s }

abbrev pub leaves_region : Item → Bool
leaves_region i = is_text i || is_region i

-- the items before those that stand behind some more
abbrev pub behind : List Item → List Item → List Item
behind before [] = before
behind before (i ∷ is) = behind (i ∷ before) is

-- ---- places

abbrev pub up_to_room : ℕ → ℕ
up_to_room size = min size section_room

abbrev pub fits_behind : ℕ → ℕ → Bool
fits_behind offset n = nat_le n (section_room - offset)

-- where a ninth region begins at the latest
abbrev pub last_start : ℕ
last_start = DATA_START + 8 * section_room

abbrev pub all_labels : List Item → List Label
all_labels items = each labels_at [] items

abbrev pub data_address : List Item → ℕ
data_address before = region_start before + data_offset before

abbrev pub address_in_section : List Item → Bool → ℕ
address_in_section before section = if section then code_address before else data_address before

-- ---- rules

abbrev pub told_again : Bool → ℕ → List AsmFault
told_again test line = map (at line) (when test causes.DuplicateLabel)

abbrev pub range_rules : ℕ → List Cause
range_rules n = when (nat_le 6 n) causes.Limit

abbrev pub another_region : List Item → List Cause
another_region before = when (list_any is_data before) causes.Directive ++ when (nat_le 8 (count is_region before)) causes.Limit

abbrev pub fault_meant : Values → ℕ → Item → Option SyntaxFault
fault_meant values here i = elim i.said [ Ok statements.Instruction ↦ result_err (source_meaning values here i.bytes i.tokens) | _ ↦ None ]

abbrev pub statement_rules : Option SyntaxFault → List Cause
statement_rules o = elim o [ None ↦ [] | Some f ↦ causes.Syntax f ∷ [] ]

abbrev pub another_block : List Item → List Cause
another_block before = when (nat_le 4096 (block_count before)) causes.Limit

-- the open function has a `.depth` already
abbrev pub has_depth : List Item → Bool
has_depth before = in_function before && list_any (has depths) (up_to ends_function before)

abbrev pub is_called : List ℕ → Label → Bool
is_called name l = bytes_eq l.name name

-- ---- words and bytes

abbrev pub words_meant : Result (List Instr) SyntaxFault → List ℕ
words_meant r = map spelling (result_unwrap_or r [])

abbrev pub bytes_meant : Result (List ℕ) DataFault → List ℕ
bytes_meant r = result_unwrap_or r []

-- ---- the image

abbrev pub version_with : Bool → Bool → ℕ
version_with depths regions = if depths then 3 else (if regions then 2 else 1)

abbrev pub kept : ℕ → Parts → Result (Unit {0}) ImageFault → Result Parts AsmFault
kept after p r = elim r [ Ok u ↦ Ok p | Err f ↦ Err (at after (whole_cause p)) ]

-- ---- other numbers and names

abbrev pub renumbered : (ℕ → ℕ) → Item → Item
renumbered number i = record i { number = number i.number }

abbrev pub retold : (ℕ → ℕ) → AsmFault → AsmFault
retold number f = record f { line = number f.line }

abbrev pub renamed : (List ℕ → List ℕ) → Label → Label
renamed rename l = record l { name = rename l.name }

-- one of some faults, of which no other is earlier
abbrev pub IsLeastOf : AsmFault → List AsmFault → Type 0
IsLeastOf f faults = ((front : List AsmFault) × (rest : List AsmFault) × (faults ≡ front ++ f ∷ rest)) × AllByRecursion (λ g. is_earlier g f ≡ false) faults
