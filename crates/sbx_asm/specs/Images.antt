-- What a source means. Without faults that is its image, a map over its lines: words and bytes one after the other,
-- functions and blocks as groups.
use Rattle.std.specs.Prelude.{◌≡◌, ◌⊎◌, ℕ, ◌+◌, ◌-◌, ◌%◌, ◌<◌, ◌≤◌, pos, Bool, true, not, ◌&&◌, ◌==◌, nat_lt}
use Rattle.std.specs.Prelude.{if◌then◌else◌, List, [], ◌∷◌, ◌++◌, length, map, get_or, replicate, Option, Some, None}
use Rattle.std.specs.Prelude.{Result, Ok, Err, MatchResult}
use Rattle.std.specs.Result.{result_unwrap_or}
use Rattle.std.specs.List.{flat_map, list_any}
use Rattle.v8_formats.specs.Spelling.{spelling}
use Rattle.v8_syntax.specs.Statements.{source_meaning}
use Rattle.sbx_image.specs.Block.{Block}
use Rattle.sbx_image.specs.Function.{Function}
pub use Rattle.sbx_image.specs.Parts.{Parts}
use Rattle.sbx_image.specs.Region.{Region}
use Rattle.sbx_image.specs.Regions.{page_rights}
use Rattle.sbx_image.specs.Rules.{parts_keep}
use Rattle.want.specs.Wants.{refused}
use Rattle.sbx_directives.specs.declared.directive.Directive.TheVariants as directives
use Rattle.sbx_directives.specs.declared.directive.Statement.TheVariants as statements
use Rattle.sbx_directives.specs.Data.{data_of}
use Rattle.sbx_asm.specs.declared.fault.Cause.TheVariants as causes
use Rattle.sbx_asm.specs.Items.{Item, items_of, each, up_to, count, starts_function, ends_function, ends_block}
use Rattle.sbx_asm.specs.Items.{is_region, services, stacks, params, results, depths, fuels, cells, terms, has}
use Rattle.sbx_asm.specs.Addresses.{padding_of, code_address, data_offset, values_of}
use Rattle.sbx_asm.specs.Rules.{AsmFault, Cause, Values, at, faults_of, least_of}

-- ---- blocks and functions

-- the block that begins at an address and has some lines
abbrev pub block_with : ℕ → List Item → Block
block_with address own =
    record {
      address = address;
      fuel = get_or (flat_map fuels own) 0 (pos 0);
      cells = flat_map cells own;
      terms =
          flat_map terms own;
    }

-- a `.block` and the lines up to the next, or to a `.function`
abbrev pub block_at : List Item → Item → List Item → List Block
block_at before i after =
    elim i.said [
      | Ok (statements.Directive (directives.Block name)) ↦
          block_with (code_address before) (up_to ends_block after) ∷ []
      | _ ↦ []
    ]

-- A `.function` and the lines up to the next. Its first block begins with it; without a `.depth` its depth is 0.
abbrev pub function_at : List Item → Item → List Item → List Function
function_at before i after =
    let own : List Item = up_to ends_function after in
    elim i.said [
      | Ok (statements.Directive (directives.Function name kind frame room budget)) ↦
          record {
            kind = kind;
            params = flat_map params own;
            results = flat_map results own;
            entry = code_address before;
            frame = frame;
            stack_room = room;
            budget = budget;
            depth = get_or (flat_map depths own) 0 0;
            blocks = block_with (code_address before) (up_to ends_block own) ∷ each block_at (i ∷ before) own;
          } ∷ []
      | _ ↦ []
    ]

-- ---- words and bytes

-- zeros up to a multiple of 8
abbrev pub filled : List ℕ → List ℕ
filled bytes = bytes ++ replicate ((8 - length bytes % 8) % 8) 0

-- no region where there are no bytes
abbrev pub region_with : Bool → List ℕ → List Region
region_with writable [] = []
region_with writable (b ∷ bytes) = record { bytes = b ∷ bytes; writable = writable } ∷ []

-- what the labels are worth
module _ (values : Values) where
  -- the words of a statement
  abbrev pub words_at : List Item → Item → List Item → List ℕ
  words_at before i after =
      elim i.said [
        | Ok statements.Instruction ↦
            map spelling (result_unwrap_or (source_meaning values (code_address before) i.bytes i.tokens) [])
        | _ ↦ []
      ]

  -- the bytes of a data directive
  abbrev pub bytes_at : List Item → Item → List Item → List ℕ
  bytes_at before i after = elim i.said [
    | Ok (statements.Directive (directives.Values w n)) ↦ result_unwrap_or (data_of values i.bytes w i.tokens) []
    | Ok (statements.Directive (directives.Skip n)) ↦ replicate n 0
    | Ok (statements.Directive (directives.Align n)) ↦ replicate (padding_of n (data_offset before)) 0
    | _ ↦ []
  ]

  -- a `.region` and the lines up to the next
  abbrev pub region_at : List Item → Item → List Item → List Region
  region_at before i after =
      elim i.said [
        | Ok (statements.Directive (directives.Region writable)) ↦
            region_with writable (filled (each bytes_at (i ∷ before) (up_to is_region after)))
        | _ ↦ []
      ]

  -- the data before any `.region` may be written
  abbrev pub regions_of : List Item → List Region
  regions_of items = region_with true (filled (each bytes_at [] (up_to is_region items))) ++ each region_at [] items

-- ---- the image

-- The version is the one that has depths, where a `.depth` stands; else the one that has regions, where a `.region`
-- stands. Without their lines, no services and one page of stack.
unfoldable pub image_of : List Item → Parts
image_of items =
    record {
      version = if list_any (has depths) items then 3 else (if list_any is_region items then 2 else 1);
      services = get_or (flat_map services items) 0 (record { 0 = 0 });
      words = each (words_at (values_of items)) [] items;
      regions = regions_of (values_of items) items;
      stack_pages = get_or (flat_map stacks items) 0 1;
      functions = each function_at [] items;
    }

-- ---- what is told

-- why parts are no image: they have no function, or their data take more than 64 pages
abbrev pub whole_cause : Parts → Cause
whole_cause p =
    if not (length p.functions == 0) && nat_lt 64 (length (page_rights p.regions)) then causes.Limit
    else causes.Directive

-- why lines without faults are no image: none is a `.function`, or one is, and the data take more than 64 pages
abbrev pub IsOfTheWhole : List Item → Cause → Type 0
IsOfTheWhole items c =
    (faults_of items ≡ [])
    × (((c ≡ causes.Directive) × (count starts_function items ≡ 0))
    ⊎ ((c ≡ causes.Limit) × (1 ≤ count starts_function items)
    × (64 < length (page_rights (image_of items).regions))))

-- the fault of the lines where one is told, else their image; what is none though no line has a fault is told at the
-- line after the last
abbrev pub judged : ℕ → Option AsmFault → Parts → Result Parts AsmFault
judged after (Some f) p = Err f
judged after None p = elim (parts_keep p) [ Ok u ↦ Ok p | Err f ↦ Err (at after (whole_cause p)) ]

-- The image of a source, as its parts, or the fault that is told: the least one.
unfoldable pub source_image : List ℕ → Result Parts AsmFault
source_image source =
    let items : List Item = items_of source in
    judged (length items + 1) (least_of (faults_of items)) (image_of items)

-- what a call gives is this, but want of memory, told at line 0, may stand in the place of any answer
abbrev pub Gives : Result Parts AsmFault → Result Parts AsmFault → Type 0
Gives result meant = MatchResult result (λ p. meant ≡ Ok p) (λ f. (f ≡ at 0 (causes.Memory refused)) ⊎ (meant ≡ Err f))
