-- The one spelling of each image: every number with its most significant byte first, and nothing between the fields.
use Rattle.std.specs.Prelude.{ℕ, ◌<◌, ℤ, Bool, true, false, List, [], ◌++◌, length, get_or, ◌==◌, if◌then◌else◌}
use Rattle.std.specs.List.{flat_map}
use Rattle.std.specs.Int.{Width, w8, w16, w32, w64, to_be_bytes, cast_unsigned}
use Rattle.sbx_parts.specs.declared.parts.Kind.{Kind}
use Rattle.sbx_parts.specs.declared.parts.Kind.TheVariants.{Leaf, Framed}
use Rattle.sbx_parts.specs.declared.parts.Range.{Range}
use Rattle.sbx_parts.specs.declared.parts.Cell.{Cell}
use Rattle.sbx_parts.specs.declared.parts.Term.{Term}
use Rattle.sbx_parts.specs.declared.parts.Block.{Block}
use Rattle.sbx_parts.specs.declared.parts.Function.{Function}
use Rattle.sbx_parts.specs.declared.parts.Parts.{Parts}
use Rattle.sbx_parts.specs.declared.parts.Region.{Region}
use Rattle.sbx_parts.specs.Regions.{byte_count}
pub use Rattle.sbx_parts.specs.Widths.{IsTypedRange, IsTypedRegion, IsTypedCell, IsTypedTerm, IsTypedBlock}
pub use Rattle.sbx_parts.specs.Widths.{IsTypedFunction, IsTyped, IsCountedBlock, IsCountedFunction}

-- a signed number as the unsigned one of the same bits
abbrev pub signed : Width → ℤ → List ℕ
signed w z = to_be_bytes w (cast_unsigned w z)

unfoldable pub range_text : Range → List ℕ
range_text r = signed w32 r.lo ++ signed w32 r.hi ++ to_be_bytes w8 r.alignment

unfoldable pub cell_text : Cell → List ℕ
cell_text c = to_be_bytes w16 c.location ++ range_text c.range

unfoldable pub term_text : Term → List ℕ
term_text t = to_be_bytes w16 t.location ++ signed w32 t.coefficient

unfoldable pub block_text : Block → List ℕ
block_text b =
    to_be_bytes w32 b.address
    ++ to_be_bytes w16 (length b.cells)
    ++ to_be_bytes w16 (length b.terms)
    ++ signed w64 b.fuel
    ++ flat_map cell_text b.cells
    ++ flat_map term_text b.terms

abbrev pub right_code : Bool → ℕ
right_code false = 0
right_code true = 1

-- a region's length, and whether it may be written
unfoldable pub shape_text : Region → List ℕ
shape_text r = to_be_bytes w32 (length r.bytes) ++ to_be_bytes w16 (right_code r.writable)

-- a region's bytes alone
abbrev pub region_text : Region → List ℕ
region_text r = r.bytes

abbrev pub kind_code : Kind → ℕ
kind_code Leaf = 0
kind_code Framed = 1

-- how many frames calls push at one time, which version 3 alone tells
abbrev pub depth_text : ℕ → Function → List ℕ
depth_text version f = if version == 3 then to_be_bytes w16 f.depth else []

unfoldable pub function_head_text : ℕ → Function → List ℕ
function_head_text version f =
    to_be_bytes w8 (kind_code f.kind)
    ++ to_be_bytes w8 (length f.params)
    ++ to_be_bytes w8 (length f.results)
    ++ to_be_bytes w8 0
    ++ to_be_bytes w32 f.entry
    ++ to_be_bytes w32 f.frame
    ++ to_be_bytes w32 f.stack_room
    ++ to_be_bytes w64 f.budget
    ++ depth_text version f
    ++ to_be_bytes w16 (length f.blocks)

unfoldable pub function_text : ℕ → Function → List ℕ
function_text version f =
    function_head_text version f
    ++ flat_map range_text f.params
    ++ flat_map range_text f.results
    ++ flat_map block_text f.blocks

-- how many bytes of data version 1 has, or how many regions versions 2 and 3 have
unfoldable pub data_count_text : Parts → List ℕ
data_count_text p =
    if p.version == 1 then to_be_bytes w32 (byte_count p.regions) else to_be_bytes w16 (length p.regions)

-- version 1 tells no more of its region; versions 2 and 3 tell length and kind of each
unfoldable pub shapes_text : Parts → List ℕ
shapes_text p = if p.version == 1 then [] else flat_map shape_text p.regions

-- `SBX8`, the version, and how much follows
unfoldable pub header_text : Parts → List ℕ
header_text p =
    to_be_bytes w32 0x53425838
    ++ to_be_bytes w16 p.version
    ++ to_be_bytes w16 p.services.0
    ++ to_be_bytes w32 (length p.words)
    ++ data_count_text p
    ++ to_be_bytes w16 p.stack_pages
    ++ to_be_bytes w16 (length p.functions)

unfoldable pub spelling : Parts → List ℕ
spelling p =
    header_text p
    ++ shapes_text p
    ++ flat_map (to_be_bytes w32) p.words
    ++ flat_map region_text p.regions
    ++ flat_map (function_text p.version) p.functions

abbrev pub IsBytes : List ℕ → Type 0
IsBytes bytes = (i : ℕ) → get_or bytes i 0 < 256
