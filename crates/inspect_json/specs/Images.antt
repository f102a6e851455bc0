-- What an image declares, as JSON.
use Rattle.std.specs.Prelude.{ℕ, ◌/◌, ◌%◌, ◌==◌, Bool, true, false, List, [], ◌∷◌, ◌++◌, codes, length, map}
use Rattle.json.specs.Json.{Json, boolean, string}
use Rattle.json.specs.Token.{Token}
use Rattle.sbx_image.specs.Block.{Block}
use Rattle.sbx_image.specs.Cell.{Cell}
use Rattle.sbx_image.specs.Function.{Function}
use Rattle.sbx_image.specs.Kind.{Kind}
use Rattle.sbx_image.specs.Kind.TheVariants.{Leaf, Framed}
use Rattle.sbx_image.specs.Parts.{Parts}
use Rattle.sbx_image.specs.Range.{Range}
use Rattle.sbx_image.specs.Regions.{Placed, byte_count, placed}
use Rattle.sbx_image.specs.Term.{Term}
use Rattle.inspect_image.specs.Names.{location_text}
use Rattle.inspect_json.specs.Objects.{Named, array_of, member_tokens, object_of, signed, unsigned}

-- a register, or a word of the frame, by its name in the source language
abbrev pub location_json : ℕ → Json
location_json l = string (location_text l)

-- the words of a range, read as signed, lie from the low end to the high one, and are multiples of 2 to the power of
-- the alignment
abbrev pub range_members : Range → List Named
range_members r =
    (codes "low", signed r.lo) ∷ (codes "high", signed r.hi) ∷ (codes "alignment", unsigned r.alignment) ∷ []

abbrev pub range_json : Range → Json
range_json r = object_of (range_members r)

abbrev pub cell_json : Cell → Json
cell_json c = object_of ((codes "location", location_json c.location) ∷ range_members c.range)

abbrev pub term_json : Term → Json
term_json t =
    object_of ((codes "location", location_json t.location) ∷ (codes "coefficient", signed t.coefficient) ∷ [])

abbrev pub block_json : Block → Json
block_json b = object_of (
    (codes "address", unsigned b.address)
    ∷ (codes "fuel", signed b.fuel)
    ∷ (codes "cells", array_of (map cell_json b.cells))
    ∷ (codes "terms", array_of (map term_json b.terms))
    ∷ []
    )

abbrev pub is_framed : Kind → Bool
is_framed Leaf = false
is_framed Framed = true

abbrev pub function_json : Function → Json
function_json f = object_of (
    (codes "address", unsigned f.entry)
    ∷ (codes "framed", boolean (is_framed f.kind))
    ∷ (codes "frame", unsigned f.frame)
    ∷ (codes "room", unsigned f.stack_room)
    ∷ (codes "budget", unsigned f.budget)
    ∷ (codes "depth", unsigned f.depth)
    ∷ (codes "params", array_of (map range_json f.params))
    ∷ (codes "results", array_of (map range_json f.results))
    ∷ (codes "blocks", array_of (map block_json f.blocks))
    ∷ []
    )

abbrev pub region_json : Placed → Json
region_json r =
    object_of ((codes "address", unsigned r.address) ∷ (codes "bytes", unsigned (length r.bytes))
    ∷ (codes "writable", boolean r.writable) ∷ [])

-- each service by whether it is declared: bit 0 exit, bit 1 get, bit 2 put
abbrev pub services_json : ℕ → Json
services_json s = object_of (
    (codes "exit", boolean (s % 2 == 1))
    ∷ (codes "get", boolean (s / 2 % 2 == 1))
    ∷ (codes "put", boolean (s / 4 % 2 == 1))
    ∷ []
    )

abbrev pub image_json : Parts → Json
image_json parts = object_of (
    (codes "version", unsigned parts.version)
    ∷ (codes "services", services_json parts.services.0)
    ∷ (codes "stack_pages", unsigned parts.stack_pages)
    ∷ (codes "words", unsigned (length parts.words))
    ∷ (codes "data_bytes", unsigned (byte_count parts.regions))
    ∷ (codes "regions", array_of (map region_json (placed parts.regions)))
    ∷ (codes "functions", array_of (map function_json parts.functions))
    ∷ []
    )

-- ---- on the way

abbrev pub range_tokens : Range → List Token
range_tokens r =
    member_tokens (codes "low") (signed r.lo)
    ++ (member_tokens (codes "high") (signed r.hi) ++ member_tokens (codes "alignment") (unsigned r.alignment))

abbrev pub number_tokens : Function → List Token
number_tokens f =
    member_tokens (codes "address") (unsigned f.entry)
    ++ (member_tokens (codes "framed") (boolean (is_framed f.kind))
    ++ (member_tokens (codes "frame") (unsigned f.frame)
    ++ (member_tokens (codes "room") (unsigned f.stack_room)
    ++ (member_tokens (codes "budget") (unsigned f.budget) ++ member_tokens (codes "depth") (unsigned f.depth)))))

abbrev pub size_tokens : ℕ → ℕ → ℕ → ℕ → ℕ → List Token
size_tokens version services pages words bytes =
    member_tokens (codes "version") (unsigned version)
    ++ (member_tokens (codes "services") (services_json services)
    ++ (member_tokens (codes "stack_pages") (unsigned pages)
    ++ (member_tokens (codes "words") (unsigned words) ++ member_tokens (codes "data_bytes") (unsigned bytes))))
