-- Reading from left to right: a field is a value and the bytes after it, or the first fault that is met.
use Rattle.std.specs.Prelude.{◌≡◌, ◌≢◌, ℕ, zero, suc, ◌+◌, ◌-◌, ◌*◌, ℤ, true, List, [], ◌∷◌, length, take, drop, Result}
use Rattle.std.specs.Prelude.{Ok, Err, MatchResult, nat_lt, ◌==◌, if◌then◌else◌}
use Rattle.std.specs.Int.{Width, w8, w16, w32, w64, byte_len, from_be_bytes, cast_signed}
use Rattle.sbx_parts.specs.declared.fault.ImageFault.{ImageFault}
use Rattle.sbx_parts.specs.declared.fault.ImageFault.TheVariants as fault
use Rattle.want.specs.Wants.{refused}
use Rattle.sbx_parts.specs.declared.order.Next.{Next}
use Rattle.sbx_parts.specs.declared.order.Next.TheVariants.{Exactly, Above}
use Rattle.sbx_image.specs.declared.heads.Header.{Header}
use Rattle.sbx_image.specs.declared.heads.Shape.{Shape}
use Rattle.sbx_image.specs.declared.heads.Counts.{Counts}
use Rattle.sbx_image.specs.declared.heads.Bounds.{Bounds}
use Rattle.sbx_image.specs.declared.heads.FunctionHead.{FunctionHead}
use Rattle.sbx_image.specs.declared.heads.BlockHead.{BlockHead}
use Rattle.sbx_parts.specs.declared.parts.Kind.{Kind}
use Rattle.sbx_parts.specs.declared.parts.Kind.TheVariants.{Leaf, Framed}
use Rattle.sbx_parts.specs.declared.parts.Range.{Range}
use Rattle.sbx_parts.specs.declared.parts.Cell.{Cell}
use Rattle.sbx_parts.specs.declared.parts.Term.{Term}
use Rattle.sbx_parts.specs.declared.parts.Block.{Block}
use Rattle.sbx_parts.specs.declared.parts.Function.{Function}
use Rattle.sbx_parts.specs.declared.parts.Parts.{Parts}
use Rattle.sbx_parts.specs.declared.parts.Region.{Region}
use Rattle.sbx_parts.specs.declared.services.Services.{Services}
use Rattle.sbx_parts.specs.Regions.{pages_for}
use Rattle.sbx_parts.specs.Rules.{◌>>=◌, wants, between, code_start, admits, is_fuel, is_coefficient, is_known}
use Rattle.sbx_parts.specs.Rules.{is_version, is_data_length, is_length_behind, in_order, FunctionsSoFar}

-- What a function returned, seen by view, is what reading gives, unless memory ran out.
abbrev pub Gives : {X Y : Type 0} → (X → Y) → Result X ImageFault → Result Y ImageFault → Type 0
Gives view result read = MatchResult result (λ x. read ≡ Ok (view x)) (λ e. e ≢ fault.Memory refused → read ≡ Err e)

-- an unsigned number
abbrev pub number_at : Width → List ℕ → Result (ℕ × List ℕ) ImageFault
number_at w bytes =
    if nat_lt (length bytes) (byte_len w) then Err fault.Short
    else Ok (from_be_bytes w (take (byte_len w) bytes), drop (byte_len w) bytes)

-- an unsigned number from low to high
abbrev pub number_in : Width → ℕ → ℕ → ImageFault → List ℕ → Result (ℕ × List ℕ) ImageFault
number_in w low high bad bytes = do
  n ← number_at w bytes
  _ ← wants (between low high n.0) bad
  Ok n

-- a signed number
abbrev pub signed_at : Width → List ℕ → Result (ℤ × List ℕ) ImageFault
signed_at w bytes = do
  n ← number_at w bytes
  Ok (cast_signed w n.0, n.1)

-- count bytes
abbrev pub bytes_at : ℕ → List ℕ → Result (List ℕ × List ℕ) ImageFault
bytes_at count bytes = if nat_lt (length bytes) count then Err fault.Short else Ok (take count bytes, drop count bytes)

-- count items, one after the other, from whatever is still to be read
unfoldable pub items_at : {A C : Type 0} → (C → Result (A × C) ImageFault) → ℕ → C → Result (List A × C) ImageFault
items_at item zero rest = Ok ([], rest)
items_at item (suc n) rest = do
  first ← item rest
  others ← items_at item n first.1
  Ok (first.0 ∷ others.0, others.1)

unfoldable pub range_at : List ℕ → Result (Range × List ℕ) ImageFault
range_at bytes = do
  lo ← signed_at w32 bytes
  hi ← signed_at w32 lo.1
  _ ← wants (in_order lo.0 hi.0) fault.Range
  alignment ← number_in w8 0 3 fault.Range hi.1
  Ok (record { lo = lo.0; hi = hi.0; alignment = alignment.0 }, alignment.1)

-- a location past the last one of its list
unfoldable pub location_at : ℕ → List ℕ → Result (ℕ × List ℕ) ImageFault
location_at last bytes = do
  location ← number_in w16 1 1039 fault.Limit bytes
  _ ← wants (nat_lt last location.0) fault.Order
  Ok location

-- The last location so far goes along with the bytes.
unfoldable pub cell_at : ℕ × List ℕ → Result (Cell × (ℕ × List ℕ)) ImageFault
cell_at cursor = do
  location ← location_at cursor.0 cursor.1
  range ← range_at location.1
  Ok (record { location = location.0; range = range.0 }, (location.0, range.1))

unfoldable pub term_at : ℕ × List ℕ → Result (Term × (ℕ × List ℕ)) ImageFault
term_at cursor = do
  location ← location_at cursor.0 cursor.1
  coefficient ← signed_at w32 location.1
  _ ← wants (is_coefficient coefficient.0) fault.Limit
  Ok (record { location = location.0; coefficient = coefficient.0 }, (location.0, coefficient.1))

unfoldable pub block_head_at : ℕ → Next → List ℕ → Result (BlockHead × List ℕ) ImageFault
block_head_at end next bytes = do
  address ← number_at w32 bytes
  _ ← wants (admits end next address.0) fault.Order
  cells ← number_in w16 0 64 fault.Limit address.1
  terms ← number_in w16 0 8 fault.Limit cells.1
  fuel ← signed_at w64 terms.1
  _ ← wants (is_fuel fuel.0) fault.Limit
  Ok (record { address = address.0; cells = cells.0; terms = terms.0; fuel = fuel.0 }, fuel.1)

-- Where the next address may lie goes along with the bytes.
unfoldable pub block_at : ℕ → Next × List ℕ → Result (Block × (Next × List ℕ)) ImageFault
block_at end cursor = do
  head ← block_head_at end cursor.0 cursor.1
  cells ← items_at cell_at head.0.cells (0, head.1)
  terms ← items_at term_at head.0.terms (0, cells.1.1)
  Ok (
    record { address = head.0.address; fuel = head.0.fuel; cells = cells.0; terms = terms.0 },
    (Above head.0.address, terms.1.1),
  )

unfoldable pub kind_at : List ℕ → Result (Kind × List ℕ) ImageFault
kind_at bytes = do
  kind ← number_in w8 0 1 fault.Limit bytes
  Ok (if kind.0 == 0 then Leaf else Framed, kind.1)

unfoldable pub counts_at : List ℕ → Result (Counts × List ℕ) ImageFault
counts_at bytes = do
  kind ← kind_at bytes
  params ← number_in w8 0 6 fault.Limit kind.1
  results ← number_in w8 0 6 fault.Limit params.1
  unused ← number_in w8 0 0 fault.Limit results.1
  Ok (record { kind = kind.0; params = params.0; results = results.0 }, unused.1)

unfoldable pub bounds_at : List ℕ → Result (Bounds × List ℕ) ImageFault
bounds_at bytes = do
  frame ← number_in w32 0 4096 fault.Limit bytes
  stack_room ← number_in w32 0 65536 fault.Limit frame.1
  budget ← number_in w64 0 1099511627775 fault.Limit stack_room.1
  Ok (record { frame = frame.0; stack_room = stack_room.0; budget = budget.0 }, budget.1)

-- how many frames calls push at one time, which version 3 alone tells
abbrev pub depth_at : ℕ → List ℕ → Result (ℕ × List ℕ) ImageFault
depth_at version bytes = if version == 3 then number_in w16 0 256 fault.Limit bytes else Ok (0, bytes)

-- The functions before it have so many blocks.
unfoldable pub function_head_at : ℕ → ℕ → FunctionsSoFar → List ℕ → Result (FunctionHead × List ℕ) ImageFault
function_head_at version end place bytes = do
  counts ← counts_at bytes
  entry ← number_at w32 counts.1
  _ ← wants (admits end place.0 entry.0) fault.Order
  bounds ← bounds_at entry.1
  depth ← depth_at version bounds.1
  blocks ← number_in w16 1 (4096 - place.1) fault.Limit depth.1
  Ok (
    record {
      kind = counts.0.kind;
      params = counts.0.params;
      results = counts.0.results;
      entry = entry.0;
      frame =
          bounds.0.frame;
      stack_room = bounds.0.stack_room;
      budget = bounds.0.budget;
      depth = depth.0;
      blocks = blocks.0;
    },
    blocks.1,
  )

unfoldable pub function_at : ℕ → ℕ → FunctionsSoFar × List ℕ → Result (Function × (FunctionsSoFar × List ℕ)) ImageFault
function_at version end cursor = do
  head ← function_head_at version end cursor.0 cursor.1
  params ← items_at range_at head.0.params head.1
  results ← items_at range_at head.0.results params.1
  blocks ← items_at (block_at end) head.0.blocks (Exactly head.0.entry, results.1)
  Ok (
    record {
      kind = head.0.kind;
      params = params.0;
      results = results.0;
      entry = head.0.entry;
      frame =
          head.0.frame;
      stack_room = head.0.stack_room;
      budget = head.0.budget;
      depth = head.0.depth;
      blocks = blocks.0;
    },
    ((blocks.1.0, cursor.0.1 + head.0.blocks), blocks.1.1),
  )

-- version and services, behind what tells an image
unfoldable pub services_at : List ℕ → Result ((ℕ × Services) × List ℕ) ImageFault
services_at bytes = do
  magic ← number_in w32 0x53425838 0x53425838 fault.Magic bytes
  version ← number_at w16 magic.1
  _ ← wants (is_version version.0) fault.Version
  services ← number_at w16 version.1
  _ ← wants (is_known services.0) fault.Service
  Ok ((version.0, record { 0 = services.0 }), services.1)

unfoldable pub data_length_at : List ℕ → Result (ℕ × List ℕ) ImageFault
data_length_at bytes = do
  data_bytes ← number_at w32 bytes
  _ ← wants (is_data_length data_bytes.0) fault.Limit
  Ok data_bytes

-- how many bytes of data version 1 has, or how many regions versions 2 and 3 have
unfoldable pub data_count_at : ℕ → List ℕ → Result (ℕ × List ℕ) ImageFault
data_count_at version bytes = if version == 1 then data_length_at bytes else number_in w16 0 8 fault.Limit bytes

unfoldable pub header_at : List ℕ → Result (Header × List ℕ) ImageFault
header_at bytes = do
  services ← services_at bytes
  words ← number_in w32 1 65536 fault.Limit services.1
  data_count ← data_count_at services.0.0 words.1
  stack_pages ← number_in w16 1 16 fault.Limit data_count.1
  functions ← number_in w16 1 256 fault.Limit stack_pages.1
  Ok (
    record {
      version = services.0.0;
      services = services.0.1;
      words = words.0;
      data_count =
          data_count.0;
      stack_pages = stack_pages.0;
      functions = functions.0;
    },
    functions.1,
  )

-- a region's length and kind; the pages of the regions before it go along with the bytes
unfoldable pub shape_at : ℕ × List ℕ → Result (Shape × (ℕ × List ℕ)) ImageFault
shape_at cursor = do
  size ← number_at w32 cursor.1
  _ ← wants (is_length_behind cursor.0 size.0) fault.Limit
  kind ← number_in w16 0 1 fault.Limit size.1
  Ok (record { bytes = size.0; writable = kind.0 == 1 }, (cursor.0 + pages_for size.0, kind.1))

-- the one region of version 1, which may be written, or none where there are no bytes
abbrev pub shape_of : ℕ → List Shape
shape_of zero = []
shape_of (suc n) = record { bytes = suc n; writable = true } ∷ []

-- the regions' lengths and kinds, which versions 2 and 3 have behind the header
unfoldable pub shapes_at : Header → List ℕ → Result (List Shape × List ℕ) ImageFault
shapes_at header bytes =
    if header.version == 1 then Ok (shape_of header.data_count, bytes)
    else (items_at shape_at header.data_count (0, bytes) >>= λ shapes. Ok (shapes.0, shapes.1.1))

-- how many bytes all regions have
abbrev pub shape_bytes : List Shape → ℕ
shape_bytes [] = 0
shape_bytes (shape ∷ shapes) = shape.bytes + shape_bytes shapes

-- the bytes of each region
unfoldable pub regions_at : List Shape → List ℕ → Result (List Region × List ℕ) ImageFault
regions_at [] bytes = Ok ([], bytes)
regions_at (shape ∷ shapes) bytes = do
  own ← bytes_at shape.bytes bytes
  others ← regions_at shapes own.1
  Ok (record { bytes = own.0; writable = shape.writable } ∷ others.0, others.1)

unfoldable pub parts_at : List ℕ → Result (Parts × List ℕ) ImageFault
parts_at bytes = do
  header ← header_at bytes
  shapes ← shapes_at header.0 header.1
  words ← items_at (number_at w32) header.0.words shapes.1
  regions ← regions_at shapes.0 words.1
  functions ← items_at (function_at header.0.version (code_start + 4 * header.0.words)) header.0.functions
      ((Exactly code_start, 0), regions.1)
  Ok (
    record {
      version = header.0.version;
      services = header.0.services;
      words = words.0;
      regions =
          regions.0;
      stack_pages = header.0.stack_pages;
      functions = functions.0;
    },
    functions.1.1,
  )

-- The image that all of the bytes spell.
unfoldable pub reading : List ℕ → Result Parts ImageFault
reading bytes = do
  parts ← parts_at bytes
  _ ← wants (length parts.1 == 0) fault.Trailing
  Ok parts.0
