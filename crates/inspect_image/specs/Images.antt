-- What an image declares, as its source would.
use Rattle.std.specs.Prelude.{ℕ, ◌+◌, ◌==◌, Bool, true, false, if◌then◌else◌, List, [], ◌∷◌, ◌++◌, codes, length}
use Rattle.std.specs.List.{flat_map}
use Rattle.std.specs.Fmt.{decimal, signed_decimal}
use Rattle.sbx_image.specs.Block.{Block}
use Rattle.sbx_image.specs.Cell.{Cell}
use Rattle.sbx_image.specs.Function.{Function}
use Rattle.sbx_image.specs.Kind.{Kind}
use Rattle.sbx_image.specs.Kind.TheVariants.{Leaf, Framed}
use Rattle.sbx_image.specs.Parts.{Parts}
use Rattle.sbx_image.specs.Range.{Range}
use Rattle.sbx_image.specs.Region.{Region}
use Rattle.sbx_image.specs.Regions.{Placed, byte_count, placed}
use Rattle.sbx_image.specs.Term.{Term}
use Rattle.inspect_lines.specs.Words.{word_text}
use Rattle.inspect_image.specs.Names.{bounds_text, location_text}

abbrev pub line_end : List ℕ
line_end = 10 ∷ []

-- the texts of items, which are numbered from n
abbrev pub numbered : {A : Type 0} → (ℕ → A → List ℕ) → ℕ → List A → List ℕ
numbered text n [] = []
numbered text n (x ∷ xs) = text n x ++ numbered text (n + 1) xs

-- ---- a block

abbrev pub cell_line : Cell → List ℕ
cell_line c = codes ".cell " ++ (location_text c.location ++ (codes "," ++ (bounds_text c.range ++ line_end)))

abbrev pub term_line : Term → List ℕ
term_line t = codes ".term " ++ (location_text t.location ++ (codes "," ++ (signed_decimal t.coefficient ++ line_end)))

-- its cells, its fuel and the fuel's terms
abbrev pub block_lines : Block → List ℕ
block_lines b =
    flat_map cell_line b.cells ++ (codes ".fuel " ++ (signed_decimal b.fuel ++ line_end)) ++ flat_map term_line b.terms

-- block k of function n
abbrev pub block_head : ℕ → ℕ → Block → List ℕ
block_head n k b =
    codes "\n! " ++
    (word_text b.address ++ (codes "\n.block f" ++ (decimal n ++ (codes "_b" ++ (decimal k ++ line_end)))))

-- the first block begins with its function
abbrev pub block_text : ℕ → ℕ → Block → List ℕ
block_text n k b = (if k == 0 then [] else block_head n k b) ++ block_lines b

-- the blocks of function n
abbrev pub blocks_text : ℕ → List Block → List ℕ
blocks_text n blocks = numbered (block_text n) 0 blocks

-- ---- a function

abbrev pub kind_text : Kind → List ℕ
kind_text Leaf = codes "leaf"
kind_text Framed = codes "framed"

abbrev pub param_line : Range → List ℕ
param_line r = codes ".param " ++ (bounds_text r ++ line_end)

abbrev pub result_line : Range → List ℕ
result_line r = codes ".result " ++ (bounds_text r ++ line_end)

abbrev pub function_head : ℕ → Function → List ℕ
function_head n f =
    codes "\n! " ++ (word_text f.entry ++ (codes "\n.function f" ++ (decimal n ++ (codes "," ++ (kind_text f.kind
    ++ (codes ","
    ++ (decimal f.frame
    ++ (codes "," ++ (decimal f.stack_room ++ (codes "," ++ (decimal f.budget ++ line_end)))))))))))

-- version 3 tells the depth of each function, also one of 0
abbrev pub depth_line : ℕ → ℕ → List ℕ
depth_line version depth = if version == 3 then codes ".depth " ++ (decimal depth ++ line_end) else []

abbrev pub function_text : ℕ → ℕ → Function → List ℕ
function_text version n f =
    function_head n f ++ depth_line version f.depth ++ flat_map param_line f.params ++ flat_map result_line f.results
    ++ blocks_text n f.blocks

abbrev pub functions_text : ℕ → List Function → List ℕ
functions_text version functions = numbered (function_text version) 0 functions

-- ---- services and sizes

abbrev pub services_line : ℕ → List ℕ
services_line s =
    if s == 0 then []
    else (if s == 1 then codes ".services exit\n"
    else (if s == 2 then codes ".services get\n"
    else (if s == 3 then codes ".services exit,get\n"
    else (if s == 4 then codes ".services put\n"
    else (if s == 5 then codes ".services exit,put\n"
    else (if s == 6 then codes ".services get,put\n"
    else codes ".services exit,get,put\n"))))))

abbrev pub sizes_lines : ℕ → ℕ → ℕ → List ℕ
sizes_lines pages words bytes = codes ".stack " ++ (decimal pages ++ (codes "\n! words of code: " ++ (decimal words
    ++ (codes ", bytes of data: " ++ (decimal bytes ++ line_end)))))

-- ---- the data

abbrev pub right_text : Bool → List ℕ
right_text true = codes "rw"
right_text false = codes "ro"

-- where a region begins, how many bytes it has, and whether the program may write them
abbrev pub region_lines : Placed → List ℕ
region_lines r =
    codes "\n! " ++
    (word_text r.address
    ++ (codes ", bytes: " ++ (decimal (length r.bytes) ++ (codes "\n.region " ++ (right_text r.writable ++ line_end)))))

-- version 1 tells no more of its data
abbrev pub regions_text : ℕ → List Region → List ℕ
regions_text version regions = if version == 1 then [] else flat_map region_lines (placed regions)

-- ---- the whole

abbrev pub image_text : Parts → List ℕ
image_text parts =
    services_line parts.services.0 ++ sizes_lines parts.stack_pages (length parts.words) (byte_count parts.regions)
    ++ regions_text parts.version parts.regions ++ functions_text parts.version parts.functions
