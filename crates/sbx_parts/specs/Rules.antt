-- The limits and orders that an image keeps, field by field in the order in which the format has them.
-- Each test that fails names its fault, and the first one tells.
use Rattle.std.specs.Prelude.{ℕ, ◌+◌, ◌-◌, ◌*◌, ◌%◌, ℤ, pos, negsuc, Bool, true, false, not, ◌&&◌, ◌||◌, List, [], ◌∷◌}
use Rattle.std.specs.Prelude.{length, Result, Ok, Err, nat_lt, nat_le, int_lt, ◌==◌, if◌then◌else◌}
use Rattle.std.specs.Int.RustNames.{bit_and}
use Rattle.v8_map.specs.declared.TheConstants.{CODE_START}
use Rattle.sbx_parts.specs.declared.fault.ImageFault.{ImageFault}
use Rattle.sbx_parts.specs.declared.fault.ImageFault.TheVariants as fault
use Rattle.sbx_parts.specs.declared.order.Next.{Next}
use Rattle.sbx_parts.specs.declared.order.Next.TheVariants.{Exactly, Above}
use Rattle.sbx_parts.specs.declared.parts.Range.{Range}
use Rattle.sbx_parts.specs.declared.parts.Cell.{Cell}
use Rattle.sbx_parts.specs.declared.parts.Term.{Term}
use Rattle.sbx_parts.specs.declared.parts.Block.{Block}
use Rattle.sbx_parts.specs.declared.parts.Function.{Function}
use Rattle.sbx_parts.specs.declared.parts.Region.{Region}
use Rattle.sbx_parts.specs.declared.parts.Parts.{Parts}
use Rattle.sbx_parts.specs.Regions.{pages_for}

-- one step after another, up to the first fault
infixl 10 ◌>>=◌
abbrev pub ◌>>=◌ : {A B : Type 0} → Result A ImageFault → (A → Result B ImageFault) → Result B ImageFault
(Ok x) >>= f = f x
(Err e) >>= f = Err e

-- a test, and what is told where it fails
abbrev pub wants : Bool → ImageFault → Result (Unit {0}) ImageFault
wants true fault = Ok tt
wants false fault = Err fault

-- each item in turn; what an item leaves, as the last address, goes on to the next one
unfoldable pub each : {A S : Type 0} → (S → A → Result S ImageFault) → S → List A → Result S ImageFault
each item state [] = Ok state
each item state (x ∷ xs) = item state x >>= λ next. each item next xs

abbrev pub code_start : ℕ
code_start = CODE_START

abbrev pub between : ℕ → ℕ → ℕ → Bool
between low high n = nat_le low n && nat_le n high

-- an address of a word of the code that ends at end
abbrev pub admits : ℕ → Next → ℕ → Bool
admits end (Exactly a) address = address == a
admits end (Above a) address = nat_lt a address && (address % 4 == 0 && nat_lt address end)

-- below 2^40 in magnitude
abbrev pub is_fuel : ℤ → Bool
is_fuel z = int_lt (negsuc 1099511627775) z && int_lt z (pos 1099511627776)

abbrev pub is_location : ℕ → Bool
is_location n = between 1 1039 n

abbrev pub in_order : ℤ → ℤ → Bool
in_order lo hi = not (int_lt hi lo)

unfoldable pub range_keeps : Range → Result (Unit {0}) ImageFault
range_keeps r = do
  _ ← wants (in_order r.lo r.hi) fault.Range
  wants (between 0 3 r.alignment) fault.Range

-- a location of cells or of terms, past the last one
abbrev pub location_keeps : ℕ → ℕ → Result (Unit {0}) ImageFault
location_keeps last location = do
  _ ← wants (is_location location) fault.Limit
  wants (nat_lt last location) fault.Order

unfoldable pub cell_keeps : ℕ → Cell → Result ℕ ImageFault
cell_keeps last c = do
  _ ← location_keeps last c.location
  _ ← range_keeps c.range
  Ok c.location

-- any number but 0
abbrev pub is_coefficient : ℤ → Bool
is_coefficient z = int_lt z (pos 0) || int_lt (pos 0) z

unfoldable pub term_keeps : ℕ → Term → Result ℕ ImageFault
term_keeps last t = do
  _ ← location_keeps last t.location
  _ ← wants (is_coefficient t.coefficient) fault.Limit
  Ok t.location

unfoldable pub block_keeps : ℕ → Next → Block → Result Next ImageFault
block_keeps end next b = do
  _ ← wants (admits end next b.address) fault.Order
  _ ← wants (between 0 64 (length b.cells)) fault.Limit
  _ ← wants (between 0 8 (length b.terms)) fault.Limit
  _ ← wants (is_fuel b.fuel) fault.Limit
  _ ← each cell_keeps 0 b.cells
  _ ← each term_keeps 0 b.terms
  Ok (Above b.address)

-- where the next function may begin, and how many blocks all functions have so far
abbrev pub FunctionsSoFar : Type 0
FunctionsSoFar = Next × ℕ

abbrev pub ranges_keep : List Range → Result (Unit {0}) ImageFault
ranges_keep rs = each (λ _ r. range_keeps r) tt rs

-- how many frames calls push at one time: version 3 alone tells it
abbrev pub is_depth : ℕ → ℕ → Bool
is_depth version depth = if version == 3 then nat_le depth 256 else depth == 0

unfoldable pub function_keeps : ℕ → ℕ → FunctionsSoFar → Function → Result FunctionsSoFar ImageFault
function_keeps version end place f = do
  _ ← wants (between 0 6 (length f.params)) fault.Limit
  _ ← wants (between 0 6 (length f.results)) fault.Limit
  _ ← wants (admits end place.0 f.entry) fault.Order
  _ ← wants (between 0 4096 f.frame) fault.Limit
  _ ← wants (between 0 65536 f.stack_room) fault.Limit
  _ ← wants (between 0 1099511627775 f.budget) fault.Limit
  _ ← wants (is_depth version f.depth) fault.Limit
  _ ← wants (between 1 (4096 - place.1) (length f.blocks)) fault.Limit
  _ ← ranges_keep f.params
  _ ← ranges_keep f.results
  next ← each (block_keeps end) (Exactly f.entry) f.blocks
  Ok (next, place.1 + length f.blocks)

-- no bit above exit, get and put
abbrev pub is_known : ℕ → Bool
is_known services = bit_and services 7 == services

-- the versions that are known
abbrev pub is_version : ℕ → Bool
is_version n = between 1 3 n

-- whole double words
abbrev pub is_data_length : ℕ → Bool
is_data_length n = nat_le n 262144 && n % 8 == 0

-- the data of version 1: no region, or one that has bytes and may be written
abbrev pub is_one_region : List Region → Bool
is_one_region [] = true
is_one_region (r ∷ []) = r.writable && (nat_lt 0 (length r.bytes) && is_data_length (length r.bytes))
is_one_region (r ∷ s ∷ rest) = false

-- the regions where their bytes or they themselves are counted: versions 2 and 3 have up to 8
abbrev pub is_data : ℕ → List Region → Bool
is_data version regions = if version == 1 then is_one_region regions else nat_le (length regions) 8

-- a region's length, behind regions of so many pages: 64 pages are in all, and the region that passes them is told
abbrev pub is_length_behind : ℕ → ℕ → Bool
is_length_behind pages n = nat_lt 0 n && (is_data_length n && nat_le (pages + pages_for n) 64)

-- how many pages there are with a region's own
unfoldable pub region_keeps : ℕ → Region → Result ℕ ImageFault
region_keeps pages r = do
  _ ← wants (is_length_behind pages (length r.bytes)) fault.Limit
  Ok (pages + pages_for (length r.bytes))

unfoldable pub parts_keep : Parts → Result (Unit {0}) ImageFault
parts_keep p = do
  _ ← wants (is_version p.version) fault.Version
  _ ← wants (is_known p.services.0) fault.Service
  _ ← wants (between 1 65536 (length p.words)) fault.Limit
  _ ← wants (is_data p.version p.regions) fault.Limit
  _ ← wants (between 1 16 p.stack_pages) fault.Limit
  _ ← wants (between 1 256 (length p.functions)) fault.Limit
  _ ← each region_keeps 0 p.regions
  _ ← each (function_keeps p.version (code_start + 4 * length p.words)) (Exactly code_start, 0) p.functions
  Ok tt
