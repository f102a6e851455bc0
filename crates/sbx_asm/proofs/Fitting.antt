-- Each number of an image that a source means is one that its field can hold.
use Rattle.std.proofs.Common.{ℕ, ◌+◌, ◌*◌, ◌^◌, ◌<◌, Bool, true, false, cond, pos, List, [], ◌∷◌, length, drop, Result, Ok, Err, IfOk, subst, arith, get_or}
use Rattle.std.specs.Prelude.{replicate, FitsSigned}
use Rattle.std.specs.Int.{w64}
use Rattle.std.specs.List.{AllByRecursion, flat_map, list_any, enumerate_from}
use Rattle.std.proofs.lemmas.Int.{ints}
use Rattle.sbx_text.specs.declared.Token.{Token}
use Rattle.sbx_text.specs.declared.fault.TextFault.{TextFault}
use Rattle.sbx_text.specs.Tokens.{tokens_of}
use Rattle.v8_formats.specs.declared.instr.Instr.{Instr}
use Rattle.v8_syntax.specs.declared.fault.SyntaxFault.{SyntaxFault}
use Rattle.v8_syntax.specs.Statements.{source_meaning}
use Rattle.sbx_image.specs.Parts.{Parts}
use Rattle.sbx_image.specs.Regions.{AreBytes}
use Rattle.sbx_image.specs.Services.{Services}
use Rattle.sbx_image.specs.Spelling.{IsTyped, IsTypedRange, IsTypedCell, IsTypedTerm, IsTypedBlock, IsTypedFunction, IsTypedRegion}
use Rattle.sbx_directives.specs.declared.directive.Directive.TheVariants as directives
use Rattle.sbx_directives.specs.declared.directive.Statement.TheVariants as statements
use Rattle.sbx_directives.specs.declared.fault.DataFault.{DataFault}
use Rattle.sbx_directives.specs.Directives.{label_count}
use Rattle.sbx_directives.specs.Data.{data_of}
use Rattle.sbx_asm.specs.Items.{Item, Said, read_line, item_of, items_of, each, up_to, is_region, ends_function, ends_block, services, params, results, depths, fuels, cells, terms, has, lines_of}
use Rattle.sbx_asm.specs.Addresses.{padding_of, code_address, data_offset, values_of}
use Rattle.sbx_asm.specs.Rules.{Values, faults_of, least_of}
use Rattle.sbx_asm.specs.Images.{block_with, block_at, function_at, filled, region_with, words_at, bytes_at, region_at, regions_of, image_of, source_image}
use Rattle.sbx_asm.specs.Laws.{MeantImagesFitTheirFields}
use Rattle.sbx_asm.proofs.Views.{saying, words_meant, bytes_meant, version_with}
use Rattle.sbx_asm.proofs.Wholes.{append_all, copies_all, map_all}
use Rattle.sbx_asm.proofs.Rooms.{code_within}
use Rattle.sbx_asm.proofs.StatementWords.{AreSpelled, source_spelled}
use Rattle.sbx_asm.proofs.Numbers.{SaidFits, statement_fits}
use Rattle.sbx_asm.proofs.DataBytes.{Bytes, numbered_bytes, data_bytes}
use Rattle.sbx_asm.proofs.Meanings.{judged_parts}

-- ---- lists of lines

abbrev ItemFits : Item → Type 0
ItemFits i = SaidFits i.said

abbrev Fit : List Item → Type 0
Fit is = AllByRecursion ItemFits is

module _ {A : Type 0} (P : A → Type 0) where
  first_fits : (default : A) (xs : List A) → P default → AllByRecursion P xs → P (get_or xs 0 default)
  first_fits default [] h k = h
  first_fits default (x ∷ xs) h k = k.0

  flat_fits : (f : Item → List A) → ((i : Item) → ItemFits i → AllByRecursion P (f i)) → (is : List Item) → Fit is → AllByRecursion P (flat_map f is)
  flat_fits f one [] h = tt
  flat_fits f one (i ∷ is) h = append_all P (f i) (flat_map f is) (one i h.0) (flat_fits f one is h.1)

  each_fits : (gives : List Item → Item → List Item → List A) → ((before : List Item) (i : Item) (after : List Item) → ItemFits i → Fit after → AllByRecursion P (gives before i after))
      → (before is : List Item) → Fit is → AllByRecursion P (each gives before is)
  each_fits gives one before [] h = tt
  each_fits gives one before (i ∷ is) h = append_all P (gives before i is) (each gives (i ∷ before) is) (one before i is h.0 h.1) (each_fits gives one (i ∷ before) is h.1)

up_to_fits : (test : Item → Bool) (is : List Item) → Fit is → Fit (up_to test is)
up_to_fits test [] h = tt
up_to_fits test (i ∷ is) h = by (test i) (up_to_fits test is h.1)
  where
    by : (b : Bool) → Fit (up_to test is) → Fit (cond b [] (i ∷ up_to test is))
    by true more = tt
    by false more = (h.0, more)

-- ---- what a line has

abbrev HasBits : Services → Type 0
HasBits x = x.0 < 2 ^ 16

abbrev IsHalf : ℕ → Type 0
IsHalf n = n < 2 ^ 16

services_fit : (s : Said) → SaidFits s → AllByRecursion HasBits (services (saying s))
services_fit (Ok (statements.Directive (directives.Services x))) h = (h, tt)
services_fit (Ok (statements.Directive _)) h = tt
services_fit (Ok _) h = tt
services_fit (Err f) h = tt

params_fit : (s : Said) → SaidFits s → AllByRecursion IsTypedRange (params (saying s))
params_fit (Ok (statements.Directive (directives.Param r))) h = (h, tt)
params_fit (Ok (statements.Directive _)) h = tt
params_fit (Ok _) h = tt
params_fit (Err f) h = tt

results_fit : (s : Said) → SaidFits s → AllByRecursion IsTypedRange (results (saying s))
results_fit (Ok (statements.Directive (directives.Result r))) h = (h, tt)
results_fit (Ok (statements.Directive _)) h = tt
results_fit (Ok _) h = tt
results_fit (Err f) h = tt

depths_fit : (s : Said) → SaidFits s → AllByRecursion IsHalf (depths (saying s))
depths_fit (Ok (statements.Directive (directives.Depth n))) h = (h, tt)
depths_fit (Ok (statements.Directive _)) h = tt
depths_fit (Ok _) h = tt
depths_fit (Err f) h = tt

fuels_fit : (s : Said) → SaidFits s → AllByRecursion (FitsSigned w64) (fuels (saying s))
fuels_fit (Ok (statements.Directive (directives.Fuel z))) h = (h, tt)
fuels_fit (Ok (statements.Directive _)) h = tt
fuels_fit (Ok _) h = tt
fuels_fit (Err f) h = tt

cells_fit : (s : Said) → SaidFits s → AllByRecursion IsTypedCell (cells (saying s))
cells_fit (Ok (statements.Directive (directives.Cell c))) h = (h, tt)
cells_fit (Ok (statements.Directive _)) h = tt
cells_fit (Ok _) h = tt
cells_fit (Err f) h = tt

terms_fit : (s : Said) → SaidFits s → AllByRecursion IsTypedTerm (terms (saying s))
terms_fit (Ok (statements.Directive (directives.Term t))) h = (h, tt)
terms_fit (Ok (statements.Directive _)) h = tt
terms_fit (Ok _) h = tt
terms_fit (Err f) h = tt

-- ---- blocks and functions

address_fits : (before : List Item) → code_address before < 2 ^ 32
address_fits before = omega (arith, code_within before)

no_fuel : FitsSigned w64 (pos 0)
no_fuel = record { sfits = omega (arith, ints) }

no_depth : IsHalf 0
no_depth = omega arith

block_fits : (before own : List Item) → Fit own → IsTypedBlock (block_with (code_address before) own)
block_fits before own h = record {
  address = address_fits before;
  fuel = first_fits (FitsSigned w64) (pos 0) (flat_map fuels own) no_fuel (flat_fits (FitsSigned w64) fuels (λ i. fuels_fit i.said) own h);
  cells = flat_fits IsTypedCell cells (λ i. cells_fit i.said) own h;
  terms = flat_fits IsTypedTerm terms (λ i. terms_fit i.said) own h;
}

block_at_fits : (before : List Item) (s : Said) (after : List Item) → Fit after → AllByRecursion IsTypedBlock (block_at before (saying s) after)
block_at_fits before (Ok (statements.Directive (directives.Block name))) after h = (block_fits before (up_to ends_block after) (up_to_fits ends_block after h), tt)
block_at_fits before (Ok (statements.Directive _)) after h = tt
block_at_fits before (Ok _) after h = tt
block_at_fits before (Err f) after h = tt

function_at_fits : (before : List Item) (i : Item) (after : List Item) (s : Said) → Fit after → AllByRecursion IsTypedFunction (function_at before (record i { said = s }) after)
function_at_fits before i after (Ok (statements.Directive (directives.Function name kind frame room budget))) h =
    let own : List Item = up_to ends_function after in
    let it : Item = record i { said = Ok (statements.Directive (directives.Function name kind frame room budget)) } in
    let k : Fit own = up_to_fits ends_function after h in (
      record {
        entry = address_fits before;
        params = flat_fits IsTypedRange params (λ j. params_fit j.said) own k;
        results = flat_fits IsTypedRange results (λ j. results_fit j.said) own k;
        depth = first_fits IsHalf 0 (flat_map depths own) no_depth (flat_fits IsHalf depths (λ j. depths_fit j.said) own k);
        blocks = (block_fits before (up_to ends_block own) (up_to_fits ends_block own k), each_fits IsTypedBlock block_at (λ b j a _ l. block_at_fits b j.said a l) (it ∷ before) own k);
      },
      tt,
    )
function_at_fits before i after (Ok (statements.Directive _)) h = tt
function_at_fits before i after (Ok _) h = tt
function_at_fits before i after (Err f) h = tt

-- ---- words and bytes

abbrev IsWord : ℕ → Type 0
IsWord w = w < 2 ^ 32

abbrev IsByte : ℕ → Type 0
IsByte b = b < 256

meant_words_fit : (r : Result (List Instr) SyntaxFault) → IfOk r AreSpelled → AllByRecursion IsWord (words_meant r)
meant_words_fit (Ok is) h = h
meant_words_fit (Err f) h = tt

meant_bytes_fit : (r : Result (List ℕ) DataFault) → IfOk r Bytes → Bytes (bytes_meant r)
meant_bytes_fit (Ok bs) h = h
meant_bytes_fit (Err f) h = tt

zeros_fit : (n : ℕ) → Bytes (replicate n 0)
zeros_fit n = copies_all IsByte 0 (omega arith) n

filled_fit : (bs : List ℕ) → Bytes bs → Bytes (filled bs)
filled_fit bs fits = append_all IsByte bs _ fits (zeros_fit _)

with_bytes_fit : (writable : Bool) (bs : List ℕ) → AreBytes bs → AllByRecursion IsTypedRegion (region_with writable bs)
with_bytes_fit writable [] fits = tt
with_bytes_fit writable (b ∷ bs) fits = (fits, tt)

module _ (values : Values) where
  words_fit : (before : List Item) (i : Item) (s : Said) → AllByRecursion IsWord (words_at values before (record i { said = s }) [])
  words_fit before i (Ok statements.Instruction) = meant_words_fit (source_meaning values (code_address before) i.bytes i.tokens) (source_spelled values (code_address before) i.bytes i.tokens)
  words_fit before i (Ok _) = tt
  words_fit before i (Err f) = tt

  bytes_fit : (before : List Item) (i : Item) (s : Said) → Bytes (bytes_at values before (record i { said = s }) [])
  bytes_fit before i (Ok (statements.Directive (directives.Values w n))) = meant_bytes_fit (data_of values i.bytes w i.tokens) (data_bytes values i.bytes w i.tokens)
  bytes_fit before i (Ok (statements.Directive (directives.Skip n))) = zeros_fit n
  bytes_fit before i (Ok (statements.Directive (directives.Align n))) = zeros_fit (padding_of n (data_offset before))
  bytes_fit before i (Ok (statements.Directive _)) = tt
  bytes_fit before i (Ok _) = tt
  bytes_fit before i (Err f) = tt

  region_fits : (writable : Bool) (before own : List Item) → Fit own → AllByRecursion IsTypedRegion (region_with writable (filled (each (bytes_at values) before own)))
  region_fits writable before own h =
      let bs : List ℕ = each (bytes_at values) before own in
      with_bytes_fit writable (filled bs) (numbered_bytes (filled bs) (filled_fit bs (each_fits IsByte (bytes_at values) (λ b i a _ _. bytes_fit b i i.said) before own h)))

  region_at_fits : (before : List Item) (i : Item) (after : List Item) (s : Said) → Fit after → AllByRecursion IsTypedRegion (region_at values before (record i { said = s }) after)
  region_at_fits before i after (Ok (statements.Directive (directives.Region writable))) h =
      region_fits writable (record i { said = Ok (statements.Directive (directives.Region writable)) } ∷ before) (up_to is_region after) (up_to_fits is_region after h)
  region_at_fits before i after (Ok (statements.Directive _)) h = tt
  region_at_fits before i after (Ok _) h = tt
  region_at_fits before i after (Err f) h = tt

  regions_fit : (is : List Item) → Fit is → AllByRecursion IsTypedRegion (regions_of values is)
  regions_fit is h =
      append_all IsTypedRegion (region_with true (filled (each (bytes_at values) [] (up_to is_region is)))) (each (region_at values) [] is)
      (region_fits true [] (up_to is_region is) (up_to_fits is_region is h))
      (each_fits IsTypedRegion (region_at values) (λ b i a _ k. region_at_fits b i a i.said k) [] is h)

-- ---- the image

version_fits : (depths regions : Bool) → version_with depths regions < 2 ^ 16
version_fits true regions = omega arith
version_fits false true = omega arith
version_fits false false = omega arith

no_services : HasBits (record { 0 = 0 })
no_services = omega arith

abbrev PartsFit : Parts → Type 0
PartsFit p = IsTyped p

image_fits : (is : List Item) → Fit is → PartsFit (image_of is)
unfolding image_of
image_fits is h = record {
  version = version_fits (list_any (has depths) is) (list_any is_region is);
  services = first_fits HasBits (record { 0 = 0 }) (flat_map services is) no_services (flat_fits HasBits services (λ i. services_fit i.said) is h);
  words = each_fits IsWord (words_at (values_of is)) (λ b i a _ _. words_fit (values_of is) b i i.said) [] is h;
  regions = regions_fit (values_of is) is h;
  functions = each_fits IsTypedFunction function_at (λ b i a _ k. function_at_fits b i a i.said k) [] is h;
}

read_fits : (number : ℕ) (line : List ℕ) (r : Result (List Token) TextFault) → ItemFits (read_line number line r)
read_fits number line (Ok ts) = statement_fits line (drop (2 * label_count line ts) ts)
read_fits number line (Err f) = tt

pub meant_images_fit : MeantImagesFitTheirFields
unfolding source_image
meant_images_fit source parts told =
    let items : List Item = items_of source in
    subst PartsFit (judged_parts (length items + 1) (least_of (faults_of items)) (image_of items) parts told).1
    (image_fits items (map_all ItemFits item_of (λ x. read_fits x.0 x.1 (tokens_of x.1)) (enumerate_from 1 (lines_of source))))
