-- What an image keeps of the limits of its format, as far as a run asks for it: ranges with words, counts, and the order of its code.
use Rattle.std.proofs.Common.{◌≡◌, ℕ, zero, suc, ◌+◌, ◌*◌, ◌^◌, ◌<◌, ◌≤◌, ℤ, true, List, [], ◌∷◌, length, Option, Some, None, Result, Ok, refl, sym, subst, arith}
use Rattle.std.specs.Prelude.{pos, negsuc, ◌≤ℤ◌, not, int_lt, slice_get}
use Rattle.std.specs.List.{AllByRecursion}
use Rattle.std.specs.Int.{cast_unsigned, w32}
use Rattle.std.proofs.lemmas.Bool.Decides.{nat_tests}
use Rattle.std.proofs.lemmas.Int.{ints}
use Rattle.v8_alu.specs.Results.{signed}
use Rattle.sbx_image.specs.Rules.{block_keeps, cell_keeps, code_start, each, function_keeps, is_fuel, parts_keep, range_keeps, ranges_keep, FunctionsSoFar}
use Rattle.sbx_image.specs.Spelling.{IsTyped, IsTypedBlock, IsTypedCell, IsTypedFunction, IsTypedRange, IsTypedTerm}
use Rattle.sbx_image.specs.ImageFault.{ImageFault}
use Rattle.sbx_image.specs.Next.{Next}
use Rattle.sbx_image.specs.Next.TheVariants.{Exactly}
use Rattle.sbx_image.specs.Block.{Block}
use Rattle.sbx_image.specs.Cell.{Cell}
use Rattle.sbx_image.specs.Function.{Function}
use Rattle.sbx_image.specs.Parts.{Parts}
use Rattle.sbx_image.specs.Range.{Range}
use Rattle.sbx_image.proofs.Fields.{bind_ok, is_between}
use Rattle.sbx_image.proofs.Limits.{block_kept, cell_kept, function_kept, location_kept, parts_kept, range_kept, words_within}
use Rattle.sbx_image.proofs.Ordered.{in_order}
use Rattle.sbx_range.proofs.Words.{signed-written, written-below}
use Rattle.sbx_range.specs.Ranges.{InInterval}
use Rattle.sbx_rules.specs.Known.{is_location}
use Rattle.sbx_image.specs.Order.{address_of, block_at, function_at, no_block, no_function, or_block, or_function, words_in}
use Rattle.sbx_rules.specs.Ways.{cells_at, out_cells}
use Rattle.sbx_sound.proofs.Order.{IsOrdered}
use Rattle.sbx_sound.proofs.Onward.{HaveResults}

-- what each item keeps with its fields, each item of a list keeps
each_good : {A S : Type 0} (keeps : S → A → Result S ImageFault) (P Q : A → Type 0) (one : (s : S) (a : A) (t : S) → keeps s a ≡ Ok t → P a →
    Q a) (xs : List A) (s t : S) → each keeps s xs ≡ Ok t → AllByRecursion P xs → AllByRecursion Q xs
unfolding each
each_good keeps P Q one [] s t e h = tt
each_good keeps P Q one (x ∷ xs) s t e h =
    let first = bind_ok (keeps s x) (λ next. each keeps next xs) t e in
    (one s x first.0 first.1 h.0, each_good keeps P Q one xs first.0 t first.2 h.1)

-- ---- ranges

-- a range of words with a word
pub record IsGoodRange (r : Range) : Type 0 where
  pub low : negsuc 2147483647 ≤ℤ r.lo
  pub order : r.lo ≤ℤ r.hi
  pub high : r.hi ≤ℤ pos 2147483647

not_below : (a b : ℤ) → not (int_lt b a) ≡ true → a ≤ℤ b
not_below a b h = grind (arith, ints)

good_range : (r : Range) → range_keeps r ≡ Ok tt → IsTypedRange r → IsGoodRange r
good_range r e typed =
    let lo = typed.lo in let hi = typed.hi in
    record {
      low = omega (arith, ints);
      order = not_below r.lo r.hi (range_kept r e).ends;
      high = omega (arith, ints);
    }

good_ranges : (rs : List Range) → ranges_keep rs ≡ Ok tt → AllByRecursion IsTypedRange rs → AllByRecursion IsGoodRange rs
good_ranges rs e typed = each_good (λ _ r. range_keeps r) IsTypedRange IsGoodRange (λ s r t e h. good_range r e h) rs tt tt e typed

-- a number of a range, as a word
pub record IsWrittenIn (r : Range) (z : ℤ) : Type 0 where
  pub small : cast_unsigned w32 z < 2 ^ 32
  pub reads : signed (cast_unsigned w32 z) ≡ z

pub written_in : (r : Range) (z : ℤ) → IsGoodRange r → r.lo ≤ℤ z → z ≤ℤ r.hi → IsWrittenIn r z
written_in r z good low high =
    let l = good.low in let h = good.high in
    let least : negsuc 2147483647 ≤ℤ z = omega (arith, ints) in
    let most : z ≤ℤ pos 2147483647 = omega (arith, ints) in
    record { small = written-below z least most; reads = signed-written z least most }

pub in_written : (r : Range) (z : ℤ) → IsWrittenIn r z → r.lo ≤ℤ z → z ≤ℤ r.hi → InInterval r (cast_unsigned w32 z)
in_written r z w low high = record { low = subst (λ x. r.lo ≤ℤ x) (sym w.reads) low; high = subst (λ x. x ≤ℤ r.hi) (sym w.reads) high }

-- ---- cells, terms and blocks

pub record IsGoodCell (c : Cell) : Type 0 where
  pub location : is_location c.location ≡ true
  pub range : IsGoodRange c.range

is_low : (n : ℕ) → 1 ≤ n → n ≤ 1039 → is_location n ≡ true
is_low n low high = grind (arith, nat_tests)

good_cell : (last : ℕ) (c : Cell) (t : ℕ) → cell_keeps last c ≡ Ok t → IsTypedCell c → IsGoodCell c
good_cell last c t e typed =
    let k = cell_kept last c t e in
    let within = is_between 1 1039 c.location (location_kept last c.location k.location).0 in
    record { location = is_low c.location within.0 within.1; range = good_range c.range k.range typed }

pub record IsGoodBlock (b : Block) : Type 0 where
  pub cells : AllByRecursion IsGoodCell b.cells
  pub terms : AllByRecursion IsTypedTerm b.terms
  pub few : length b.terms ≤ 8
  pub fuel : negsuc 1099511627775 ≤ℤ b.fuel

fuel_low : (z : ℤ) → is_fuel z ≡ true → negsuc 1099511627775 ≤ℤ z
fuel_low z e = grind (arith, ints)

good_block : (end : ℕ) (next : Next) (b : Block) (t : Next) → block_keeps end next b ≡ Ok t → IsTypedBlock b → IsGoodBlock b
good_block end next b t e typed =
    let k = block_kept end next b t e in
    record {
      cells = each_good cell_keeps IsTypedCell IsGoodCell good_cell b.cells 0 k.last_cell k.cells typed.cells;
      terms = typed.terms;
      few = (is_between 0 8 (length b.terms) k.term_count).1;
      fuel = fuel_low b.fuel k.fuel;
    }

-- ---- functions

pub record IsGoodFunction (f : Function) : Type 0 where
  pub params : AllByRecursion IsGoodRange f.params
  pub few_params : length f.params ≤ 6
  pub results : AllByRecursion IsGoodRange f.results
  pub few_results : length f.results ≤ 6
  pub budget : f.budget ≤ 1099511627775
  pub blocks : AllByRecursion IsGoodBlock f.blocks

good_function : (version end : ℕ) (place : FunctionsSoFar) (f : Function) (t : FunctionsSoFar) → function_keeps version end place f ≡ Ok t → IsTypedFunction f → IsGoodFunction f
good_function version end place f t e typed =
    let k = function_kept version end place f t e in
    record {
      params = good_ranges f.params k.params typed.params;
      few_params = (is_between 0 6 (length f.params) k.param_count).1;
      results = good_ranges f.results k.results typed.results;
      few_results = (is_between 0 6 (length f.results) k.result_count).1;
      budget = (is_between 0 1099511627775 f.budget k.budget).1;
      blocks = each_good (block_keeps end) IsTypedBlock IsGoodBlock (good_block end) f.blocks (Exactly f.entry) k.next k.blocks typed.blocks;
    }

no_good_block : IsGoodBlock no_block
no_good_block = record { cells = tt; terms = tt; few = omega arith; fuel = omega (arith, ints) }

no_good_function : IsGoodFunction no_function
no_good_function = record { params = tt; few_params = omega arith; results = tt; few_results = omega arith; budget = omega arith; blocks = tt }

by_number : {A : Type 0} (P : A → Type 0) (or : Option A → A) (xs : List A) (n : ℕ) → ((x : A) → P x → P (or (Some x))) → P (or None) → AllByRecursion P xs → P (or (slice_get xs n))
by_number P or [] n some none h = none
by_number P or (x ∷ xs) zero some none h = some x h.0
by_number P or (x ∷ xs) (suc n) some none h = by_number P or xs n some none h.1

one_of : {A : Type 0} (P : A → Type 0) (xs : List A) (n : ℕ) (x : A) → slice_get xs n ≡ Some x → AllByRecursion P xs → P x
one_of P [] n x e h = absurd (cc)
one_of P (y ∷ xs) zero x e h = subst P (same y x e) h.0
  where
    same : {A : Type 0} (a b : A) → Some a ≡ Some b → a ≡ b
    same a b e = cc
one_of P (y ∷ xs) (suc n) x e h = one_of P xs n x e h.1

-- these ranges from a location on, as cells
out_good : (l : ℕ) (rs : List Range) → 1 ≤ l → l + length rs ≤ 1040 → AllByRecursion IsGoodRange rs → AllByRecursion IsGoodCell (out_cells l rs)
out_good l [] low high h = tt
out_good l (r ∷ rs) low high h =
    let more : length (r ∷ rs) ≡ suc (length rs) = refl in
    (record { location = is_low l low (omega (arith, more)); range = h.0 }, out_good (suc l) rs (omega arith) (omega (arith, more)) h.1)

module _ (parts : Parts) (kept : parts_keep parts ≡ Ok tt) (typed : IsTyped parts) where
  functions_good : AllByRecursion IsGoodFunction parts.functions
  functions_good =
      let k = parts_kept parts kept in
      each_good (function_keeps parts.version (code_start + 4 * length parts.words)) IsTypedFunction IsGoodFunction
      (good_function parts.version (code_start + 4 * length parts.words)) parts.functions (Exactly code_start, 0) k.last k.functions typed.functions

  pub function_good : (f : ℕ) → IsGoodFunction (function_at parts f)
  function_good f = by_number IsGoodFunction or_function parts.functions f (λ x h. h) no_good_function functions_good

  pub block_good : (f b : ℕ) → IsGoodBlock (block_at parts f b)
  block_good f b = by_number IsGoodBlock or_block (function_at parts f).blocks b (λ x h. h) no_good_block (function_good f).blocks

  pub cells_good : (f b : ℕ) → AllByRecursion IsGoodCell (cells_at parts f b)
  cells_good f zero = let few = (function_good f).few_params in out_good 8 (function_at parts f).params (omega arith) (omega (arith, few)) (function_good f).params
  cells_good f (suc b) = (block_good f (suc b)).cells

  pub have_results : HaveResults parts
  have_results g n r e =
      let good = one_of IsGoodRange (function_at parts g).results n r e (function_good g).results in
      let w = written_in r r.lo good (omega (arith, ints)) good.order in
      record { word = cast_unsigned w32 r.lo; small = w.small; within = in_written r r.lo w (omega (arith, ints)) good.order }

  -- ---- the order of the code

  pub ordered : IsOrdered parts
  unfolding address_of words_in
  ordered =
      let o = in_order parts kept in
      record {
        first = o.first.1;
        entries = λ f h. ((o.entries f h).0.1, (o.entries f h).1);
        blocks = λ f b h g. o.blocks f b (h, g);
        small = o.small;
      }

  -- a block has no more words than the code
  pub words_few : (f b i : ℕ) → f < length parts.functions → b < length (function_at parts f).blocks → i < words_in parts f b → i < 65536
  unfolding address_of
  words_few f b i in_f in_b in_i =
      let w = ordered.blocks f b in_f in_b in
      let some = w.some in
      let first = (w.each 0 (omega (arith, some))).2 in
      let there = w.each i in_i in
      let within = there.1 in let at = there.2 in
      let most = (words_within parts kept).1 in
      omega (arith, first, within, at, most)
