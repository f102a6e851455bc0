-- What parts that keep every limit and order are known to keep, taken apart.
use Rattle.std.proofs.Common.{◌≡◌, ℕ, ◌+◌, ◌-◌, ◌*◌, ◌%◌, ◌≤◌, ◌<◌, leb, ltb, Bool, true, false, List, [], ◌∷◌, length, All, Result, Ok, ap, arith}
use Rattle.std.specs.Prelude.{◌==◌, if◌then◌else◌}
use Rattle.std.specs.List.{AllByRecursion}
use Rattle.std.proofs.lemmas.Bool.{eqb-true, leb-true, ltb-true}
use Rattle.std.proofs.lemmas.List.Elements.{All-from_recursion}
use Rattle.sbx_parts.specs.declared.fault.ImageFault.{ImageFault}
use Rattle.sbx_parts.specs.declared.fault.ImageFault.TheVariants as fault
use Rattle.sbx_parts.specs.declared.order.Next.{Next}
use Rattle.sbx_parts.specs.declared.order.Next.TheVariants.{Exactly, Above}
use Rattle.sbx_parts.specs.declared.parts.Range.{Range}
use Rattle.sbx_parts.specs.declared.parts.Cell.{Cell}
use Rattle.sbx_parts.specs.declared.parts.Term.{Term}
use Rattle.sbx_parts.specs.declared.parts.Block.{Block}
use Rattle.sbx_parts.specs.declared.parts.Function.{Function}
use Rattle.sbx_parts.specs.declared.parts.Parts.{Parts}
use Rattle.sbx_parts.specs.declared.parts.Region.{Region}
use Rattle.sbx_parts.specs.Regions.{AreData, IsSized, byte_count, page_rights, pages_for}
use Rattle.sbx_parts.proofs.Placing.{page_count}
use Rattle.sbx_parts.specs.Rules.{◌>>=◌, wants, between, each, FunctionsSoFar, code_start, admits, is_location, is_fuel, is_coefficient, is_known, is_version, is_depth}
use Rattle.sbx_parts.specs.Rules.{is_data, is_data_length, is_one_region, is_length_behind, region_keeps, in_order, range_keeps, location_keeps, cell_keeps}
use Rattle.sbx_parts.specs.Rules.{term_keeps, block_keeps, ranges_keep, function_keeps, parts_keep}
use Rattle.sbx_parts.specs.Widths.{IsCountedBlock, IsCountedFunction}
use Rattle.sbx_parts.proofs.Steps.{bind_ok, wanted, wanted_last, both_true, is_between, ok_is}

pub record KeptRange (r : Range) : Type 0 where
  pub ends : in_order r.lo r.hi ≡ true
  pub alignment : between 0 3 r.alignment ≡ true

pub range_kept : (r : Range) → range_keeps r ≡ Ok tt → KeptRange r
unfolding range_keeps
range_kept r e =
    let ends = wanted (in_order r.lo r.hi) fault.Range _ _ e in
    record { ends = ends.0; alignment = wanted_last (between 0 3 r.alignment) fault.Range ends.1 }

pub location_kept : (last location : ℕ) → location_keeps last location ≡ Ok tt → (is_location location ≡ true) × (ltb last location ≡ true)
location_kept last location e =
    let bound = wanted (is_location location) fault.Limit _ _ e in
    (bound.0, wanted_last (ltb last location) fault.Order bound.1)

pub record KeptCell (last : ℕ) (c : Cell) (state : ℕ) : Type 0 where
  pub location : location_keeps last c.location ≡ Ok tt
  pub range : range_keeps c.range ≡ Ok tt
  pub state_is : c.location ≡ state

pub cell_kept : (last : ℕ) (c : Cell) (state : ℕ) → cell_keeps last c ≡ Ok state → KeptCell last c state
unfolding cell_keeps
cell_kept last c state e =
    let location = bind_ok (location_keeps last c.location) (λ _. range_keeps c.range >>= λ _. Ok c.location) state e in
    let range = bind_ok (range_keeps c.range) (λ _. Ok c.location) state location.2 in
    record { location = location.1; range = range.1; state_is = ok_is _ _ range.2 }

pub record KeptTerm (last : ℕ) (t : Term) (state : ℕ) : Type 0 where
  pub location : location_keeps last t.location ≡ Ok tt
  pub coefficient : is_coefficient t.coefficient ≡ true
  pub state_is : t.location ≡ state

pub term_kept : (last : ℕ) (t : Term) (state : ℕ) → term_keeps last t ≡ Ok state → KeptTerm last t state
unfolding term_keeps
term_kept last t state e =
    let location = bind_ok (location_keeps last t.location) (λ _. wants (is_coefficient t.coefficient) fault.Limit >>= λ _. Ok t.location) state e in
    let coefficient = wanted (is_coefficient t.coefficient) fault.Limit _ _ location.2 in
    record { location = location.1; coefficient = coefficient.0; state_is = ok_is _ _ coefficient.1 }

pub record KeptBlock (end : ℕ) (next : Next) (b : Block) (state : Next) : Type 0 where
  pub address : admits end next b.address ≡ true
  pub cell_count : between 0 64 (length b.cells) ≡ true
  pub term_count : between 0 8 (length b.terms) ≡ true
  pub fuel : is_fuel b.fuel ≡ true
  pub last_cell : ℕ
  pub cells : each cell_keeps 0 b.cells ≡ Ok last_cell
  pub last_term : ℕ
  pub terms : each term_keeps 0 b.terms ≡ Ok last_term
  pub state_is : Above b.address ≡ state

pub block_kept : (end : ℕ) (next : Next) (b : Block) (state : Next) → block_keeps end next b ≡ Ok state → KeptBlock end next b state
unfolding block_keeps
block_kept end next b state e =
    let address = wanted (admits end next b.address) fault.Order _ _ e in
    let cell_count = wanted (between 0 64 (length b.cells)) fault.Limit _ _ address.1 in
    let term_count = wanted (between 0 8 (length b.terms)) fault.Limit _ _ cell_count.1 in
    let fuel = wanted (is_fuel b.fuel) fault.Limit _ _ term_count.1 in
    let cells = bind_ok _ _ _ fuel.1 in
    let terms = bind_ok _ _ _ cells.2 in
    record {
      address = address.0;
      cell_count = cell_count.0;
      term_count = term_count.0;
      fuel = fuel.0;
      last_cell = cells.0;
      cells = cells.1;
      last_term =
          terms.0;
      terms = terms.1;
      state_is = ok_is _ _ terms.2;
    }

pub record KeptFunction (version end : ℕ) (place : FunctionsSoFar) (f : Function) (state : FunctionsSoFar) : Type 0 where
  pub param_count : between 0 6 (length f.params) ≡ true
  pub result_count : between 0 6 (length f.results) ≡ true
  pub entry : admits end place.0 f.entry ≡ true
  pub frame : between 0 4096 f.frame ≡ true
  pub stack_room : between 0 65536 f.stack_room ≡ true
  pub budget : between 0 1099511627775 f.budget ≡ true
  pub depth : is_depth version f.depth ≡ true
  pub block_count : between 1 (4096 - place.1) (length f.blocks) ≡ true
  pub params : ranges_keep f.params ≡ Ok tt
  pub results : ranges_keep f.results ≡ Ok tt
  pub next : Next
  pub blocks : each (block_keeps end) (Exactly f.entry) f.blocks ≡ Ok next
  pub next_is : next ≡ state.0
  pub blocks_is : place.1 + length f.blocks ≡ state.1

pub function_kept : (version end : ℕ) (place : FunctionsSoFar) (f : Function) (state : FunctionsSoFar) → function_keeps version end place f ≡ Ok state → KeptFunction version end place f state
unfolding function_keeps
function_kept version end place f state e =
    let param_count = wanted (between 0 6 (length f.params)) fault.Limit _ _ e in
    let result_count = wanted (between 0 6 (length f.results)) fault.Limit _ _ param_count.1 in
    let entry = wanted (admits end place.0 f.entry) fault.Order _ _ result_count.1 in
    let frame = wanted (between 0 4096 f.frame) fault.Limit _ _ entry.1 in
    let stack_room = wanted (between 0 65536 f.stack_room) fault.Limit _ _ frame.1 in
    let budget = wanted (between 0 1099511627775 f.budget) fault.Limit _ _ stack_room.1 in
    let depth = wanted (is_depth version f.depth) fault.Limit _ _ budget.1 in
    let block_count = wanted (between 1 (4096 - place.1) (length f.blocks)) fault.Limit _ _ depth.1 in
    let params = bind_ok _ _ _ block_count.1 in
    let results = bind_ok _ _ _ params.2 in
    let blocks = bind_ok _ _ _ results.2 in
    let state_is : (blocks.0, place.1 + length f.blocks) ≡ state = ok_is _ _ blocks.2 in
    record {
      param_count = param_count.0;
      result_count = result_count.0;
      entry = entry.0;
      frame = frame.0;
      stack_room = stack_room.0;
      budget = budget.0;
      depth = depth.0;
      block_count = block_count.0;
      params = params.1;
      results = results.1;
      next = blocks.0;
      blocks = blocks.1;
      next_is = ap (λ (s : FunctionsSoFar). s.0) state_is;
      blocks_is = ap (λ (s : FunctionsSoFar). s.1) state_is;
    }

pub record KeptParts (p : Parts) : Type 0 where
  pub version : is_version p.version ≡ true
  pub services : is_known p.services.0 ≡ true
  pub word_count : between 1 65536 (length p.words) ≡ true
  pub regions : is_data p.version p.regions ≡ true
  pub stack_pages : between 1 16 p.stack_pages ≡ true
  pub function_count : between 1 256 (length p.functions) ≡ true
  pub last_pages : ℕ
  pub lengths : each region_keeps 0 p.regions ≡ Ok last_pages
  pub last : FunctionsSoFar
  pub functions : each (function_keeps p.version (code_start + 4 * length p.words)) (Exactly code_start, 0) p.functions ≡ Ok last

pub parts_kept : (p : Parts) → parts_keep p ≡ Ok tt → KeptParts p
unfolding parts_keep
parts_kept p e =
    let version = wanted (is_version p.version) fault.Version _ _ e in
    let services = wanted (is_known p.services.0) fault.Service _ _ version.1 in
    let word_count = wanted (between 1 65536 (length p.words)) fault.Limit _ _ services.1 in
    let regions = wanted (is_data p.version p.regions) fault.Limit _ _ word_count.1 in
    let stack_pages = wanted (between 1 16 p.stack_pages) fault.Limit _ _ regions.1 in
    let function_count = wanted (between 1 256 (length p.functions)) fault.Limit _ _ stack_pages.1 in
    let lengths = bind_ok (each region_keeps 0 p.regions) _ tt function_count.1 in
    let functions = bind_ok (each (function_keeps p.version (code_start + 4 * length p.words)) (Exactly code_start, 0) p.functions) (λ _. Ok tt) tt lengths.2 in
    record {
      version = version.0;
      services = services.0;
      word_count = word_count.0;
      regions = regions.0;
      stack_pages = stack_pages.0;
      function_count =
          function_count.0;
      last_pages = lengths.0;
      lengths = lengths.1;
      last = functions.0;
      functions = functions.1;
    }

-- the code has 1 to 65,536 words
pub words_within : (p : Parts) → parts_keep p ≡ Ok tt → (1 ≤ length p.words) × (length p.words ≤ 65536)
words_within p e = is_between 1 65536 (length p.words) (parts_kept p e).word_count

-- ---- regions

-- a region's length, and how many pages there are with its own
pub record KeptRegion (pages : ℕ) (r : Region) (state : ℕ) : Type 0 where
  pub size : IsSized r
  pub within : state ≤ 64
  pub state_is : pages + pages_for (length r.bytes) ≡ state

length_kept : (pages : ℕ) (r : Region) → is_length_behind pages (length r.bytes) ≡ true → IsSized r × (pages + pages_for (length r.bytes) ≤ 64)
length_kept pages r e =
    let some = both_true (ltb 0 (length r.bytes)) _ e in
    let tests = both_true (is_data_length (length r.bytes)) _ some.1 in
    let whole = both_true (leb (length r.bytes) 262144) _ tests.0 in
    let first : 0 < length r.bytes = ltb-true _ _ some.0 in
    let few : length r.bytes ≤ 262144 = leb-true _ _ whole.0 in
    let eights : length r.bytes % 8 ≡ 0 = eqb-true _ _ whole.1 in
    (record { some = omega arith; few = few; whole = eights }, leb-true _ _ tests.1)

pub region_kept : (pages : ℕ) (r : Region) (state : ℕ) → region_keeps pages r ≡ Ok state → KeptRegion pages r state
unfolding region_keeps
region_kept pages r state e =
    let test = wanted (is_length_behind pages (length r.bytes)) fault.Limit _ _ e in
    let kept = length_kept pages r test.0 in
    let is : pages + pages_for (length r.bytes) ≡ state = ok_is _ _ test.1 in
    record { size = kept.0; within = omega (arith, kept.1, is); state_is = is }

-- regions behind others of so many pages
record KeptRegions (pages : ℕ) (rs : List Region) (state : ℕ) : Type 0 where
  within : state ≤ 64
  state_is : pages + length (page_rights rs) ≡ state
  bytes : byte_count rs ≤ 4096 * length (page_rights rs)
  sizes : AllByRecursion IsSized rs

regions_kept : (rs : List Region) (pages state : ℕ) → pages ≤ 64 → each region_keeps pages rs ≡ Ok state → KeptRegions pages rs state
unfolding each
regions_kept [] pages state le e =
    let is : pages ≡ state = ok_is _ _ e in
    record { within = omega (arith, le, is); state_is = omega (arith, is); bytes = omega arith; sizes = tt }
regions_kept (r ∷ rs) pages state le e =
    let first = bind_ok (region_keeps pages r) (λ next. each region_keeps next rs) state e in
    let kept = region_kept pages r first.0 first.1 in
    let others = regions_kept rs first.0 state kept.within first.2 in
    record {
      within = others.within;
      state_is = omega (arith, others.state_is, kept.state_is, page_count r rs);
      bytes = omega (arith, others.bytes, page_count r rs);
      sizes = (kept.size, others.sizes);
    }

one_is_few : (rs : List Region) → is_one_region rs ≡ true → length rs ≤ 8
one_is_few [] e = omega arith
one_is_few (r ∷ []) e = omega arith
one_is_few (r ∷ s ∷ rest) e = absurd cc

are_few : (one : Bool) (rs : List Region) → (if one then is_one_region rs else leb (length rs) 8) ≡ true → length rs ≤ 8
are_few true rs e = one_is_few rs e
are_few false rs e = leb-true _ _ e

-- the data keep their limits
pub data_within : (p : Parts) → parts_keep p ≡ Ok tt → AreData p.regions
data_within p e =
    let k = parts_kept p e in
    let kept = regions_kept p.regions 0 k.last_pages (omega arith) k.lengths in
    record {
      few = are_few (p.version == 1) p.regions k.regions;
      pages = omega (arith, kept.within, kept.state_is);
      bytes = omega (arith, kept.within, kept.state_is, kept.bytes);
      each = kept.sizes;
    }

-- three versions are known
pub version_within : (p : Parts) → parts_keep p ≡ Ok tt → (1 ≤ p.version) × (p.version ≤ 3)
version_within p e = is_between 1 3 p.version (parts_kept p e).version

-- 1 to 16 pages of stack
pub stack_within : (p : Parts) → parts_keep p ≡ Ok tt → (1 ≤ p.stack_pages) × (p.stack_pages ≤ 16)
stack_within p e = is_between 1 16 p.stack_pages (parts_kept p e).stack_pages

-- 1 to 256 functions
pub functions_within : (p : Parts) → parts_keep p ≡ Ok tt → (1 ≤ length p.functions) × (length p.functions ≤ 256)
functions_within p e = is_between 1 256 (length p.functions) (parts_kept p e).function_count

-- what each item keeps by itself, each item of a list keeps
pub each_all : {A S : Type 0} (keeps : S → A → Result S ImageFault) (P : A → Type 0) (one : (s : S) (a : A) (t : S) → keeps s a ≡ Ok t →
    P a) (xs : List A) (s t : S) → each keeps s xs ≡ Ok t → AllByRecursion P xs
unfolding each
each_all keeps P one [] s t e = tt
each_all keeps P one (x ∷ xs) s t e =
    let first = bind_ok (keeps s x) (λ next. each keeps next xs) t e in
    (one s x first.0 first.1, each_all keeps P one xs first.0 t first.2)

-- ---- lists have lengths that their counts can say

pub block_counted : (end : ℕ) (next : Next) (b : Block) (state : Next) → block_keeps end next b ≡ Ok state → IsCountedBlock b
block_counted end next b state e =
    let k = block_kept end next b state e in
    (omega (arith, (is_between 0 64 (length b.cells) k.cell_count).1), omega (arith, (is_between 0 8 (length b.terms) k.term_count).1))

pub function_counted : (version end : ℕ) (place : FunctionsSoFar) (f : Function) (state : FunctionsSoFar) → function_keeps version end place f ≡ Ok state → IsCountedFunction f
function_counted version end place f state e =
    let k = function_kept version end place f state e in
    record {
      params = omega (arith, (is_between 0 6 (length f.params) k.param_count).1);
      results = omega (arith, (is_between 0 6 (length f.results) k.result_count).1);
      blocks = omega (arith, (is_between 1 (4096 - place.1) (length f.blocks) k.block_count).1);
      each_block = All-from_recursion IsCountedBlock f.blocks (each_all (block_keeps end) IsCountedBlock (block_counted end) f.blocks (Exactly f.entry) k.next k.blocks);
    }

pub functions_counted : (p : Parts) → parts_keep p ≡ Ok tt → All IsCountedFunction p.functions
functions_counted p e =
    let k = parts_kept p e in
    All-from_recursion IsCountedFunction p.functions
    (each_all (function_keeps p.version (code_start + 4 * length p.words)) IsCountedFunction
    (function_counted p.version (code_start + 4 * length p.words)) p.functions (Exactly code_start, 0) k.last k.functions)
