-- What a block's annotations keep in an image: few terms, which ascend and aren't 0, and ranges that aren't empty.
use Rattle.std.proofs.Common.{◌≡◌, ℕ, zero, suc, ◌+◌, ◌*◌, ◌<◌, ◌≤◌, Bool, true, false, List, [], ◌∷◌, length, get_or, Some, None, Ok, refl, ap, sym, ◌∙◌, subst, arith}
use Rattle.std.specs.Prelude.{Option, if◌then◌else◌, int_lt, ℤ, pos, ◌≤ℤ◌, slice_get, ◌==◌}
use Rattle.std.specs.List.{AllByRecursion}
use Rattle.std.proofs.lemmas.Bool.{ltb-true}
use Rattle.std.proofs.lemmas.Bool.Decides.{nat_tests}
use Rattle.std.proofs.lemmas.Int.{ints}
use Rattle.sbx_image.specs.Block.{Block}
use Rattle.sbx_image.specs.Cell.{Cell}
use Rattle.sbx_image.specs.Function.{Function}
use Rattle.sbx_image.specs.Parts.{Parts}
use Rattle.sbx_image.specs.Range.{Range}
use Rattle.sbx_image.specs.Term.{Term}
use Rattle.sbx_image.specs.Next.{Next}
use Rattle.sbx_image.specs.Next.TheVariants.{Exactly}
use Rattle.sbx_image.specs.Rules.{FunctionsSoFar, block_keeps, cell_keeps, code_start, each, function_keeps, in_order, is_coefficient, parts_keep, range_keeps, term_keeps}
use Rattle.sbx_image.proofs.Fields.{bind_ok, is_between}
use Rattle.sbx_image.proofs.Limits.{block_kept, cell_kept, each_all, function_kept, location_kept, parts_kept, range_kept, term_kept}
use Rattle.sbx_form.specs.declared.terms.FormTerm.{FormTerm}
use Rattle.sbx_form.specs.Forms.{AscendFrom}
use Rattle.std.proofs.lemmas.Option.{slice_get-get_or}
use Rattle.sbx_rules.specs.Forms.{Form}
use Rattle.sbx_rules.specs.Known.{Known, cell_entry, entry_of_cell, is_empty_range, is_location, range_at, range_of_entry, started}
use Rattle.sbx_image.specs.Order.{block_at, function_at, no_block, no_function, or_block, or_function}
use Rattle.sbx_rules.specs.Fuel.{IsPaid}
use Rattle.sbx_rules.specs.Ways.{counted, form_term, fuel_at, names_cell, out_cells, state_at}
use Rattle.sbx_fuel.specs.Blocks.{IsKeptBlock, first_of, fuel_of}
use Rattle.sbx_fuel.specs.Margins.{AreSome}
use Rattle.sbx_fuel.specs.Least.{AreNonzero, HasOnlyLocations}
use Rattle.sbx_fuel.proofs.Values.{from_less}

-- ---- ranges

abbrev IsSome : Range → Type 0
IsSome r = r.lo ≤ℤ r.hi

in_order_some : (r : Range) → in_order r.lo r.hi ≡ true → IsSome r
in_order_some r e = grind (arith, ints)

cell_some : (last : ℕ) (c : Cell) (next : ℕ) → cell_keeps last c ≡ Ok next → IsSome c.range
cell_some last c next e = in_order_some c.range (range_kept c.range (cell_kept last c next e).range).ends

abbrev AreSomeCells : List Cell → Type 0
AreSomeCells cells = AllByRecursion (λ c. IsSome c.range) cells

entry_some : (cells : List Cell) → AreSomeCells cells → (l : ℕ) (r : Range) → range_of_entry (cell_entry cells l) ≡ Some r → IsSome r
unfolding cell_entry
entry_some [] h l r e = absurd cc
entry_some (c ∷ cs) h l r e = by_test (c.location == l) (entry_some cs h.1 l r) e
  where
    by_test : (b : Bool) → (range_of_entry (cell_entry cs l) ≡ Some r → IsSome r) → range_of_entry (if b then Some (entry_of_cell c) else cell_entry cs l) ≡ Some r → IsSome r
    by_test true rest so = subst IsSome (let s : c.range ≡ r = cc in s) h.0
    by_test false rest so = rest so

started_some : (cells : List Cell) → AreSomeCells cells → AreSome (started cells)
unfolding started
started_some cells h l r e = by_test (is_location l) e
  where
    by_test : (b : Bool) → range_of_entry (if b then cell_entry cells l else None) ≡ Some r → IsSome r
    by_test true so = entry_some cells h l r so
    by_test false so = absurd cc

params_some : (l : ℕ) (params : List Range) → AllByRecursion IsSome params → AreSomeCells (out_cells l params)
params_some l [] h = tt
params_some l (r ∷ rs) h = (h.0, params_some (suc l) rs h.1)

-- ---- terms

coefficient_some : (z : ℤ) → is_coefficient z ≡ true → z ≡ pos 0 → ⊥
coefficient_some z e s = let t : is_coefficient (pos 0) ≡ true = subst (λ x. is_coefficient x ≡ true) s e in absurd cc

abbrev AreTermsFrom : ℕ → List FormTerm → Type 0
AreTermsFrom n ts = AscendFrom n ts × AreNonzero ts

terms_from : (cells : List Cell) (last : ℕ) (ts : List Term) (end : ℕ) → each term_keeps last ts ≡ Ok end → AreTermsFrom (suc last) (counted cells ts)
unfolding each
terms_from cells last [] end e = (tt, tt)
terms_from cells last (t ∷ ts) end e =
    let first = bind_ok (term_keeps last t) (λ next. each term_keeps next ts) end e in
    let kept = term_kept last t first.0 first.1 in
    let later : suc last ≤ t.location = ltb-true last t.location (location_kept last t.location kept.location).1 in
    let rest = subst (λ n. AreTermsFrom (suc n) (counted cells ts)) (sym kept.state_is) (terms_from cells first.0 ts end first.2) in
    by_test (names_cell cells t.location) later (coefficient_some t.coefficient kept.coefficient) rest
  where
    by_test : (b : Bool) → suc last ≤ t.location → (t.coefficient ≡ pos 0 → ⊥) → AreTermsFrom (suc t.location) (counted cells ts)
        → AreTermsFrom (suc last) (if b then form_term t ∷ counted cells ts else counted cells ts)
    by_test true later some rest = ((later, rest.0), (some, rest.1))
    by_test false later some rest = (from_less (suc last) (suc t.location) (counted cells ts) (omega arith) rest.0, rest.1)

-- ---- blocks and functions

-- what a block that keeps the format promises of its annotations: few terms, in order, and cells that hold some word
record KeptAnnotations (block : Block) : Type 0 where
  few : length block.terms ≤ 8
  terms : (cells : List Cell) → AreTermsFrom 0 (counted cells block.terms)
  cells : AreSomeCells block.cells

annotations : (end : ℕ) (next : Next) (block : Block) (after : Next) → block_keeps end next block ≡ Ok after → KeptAnnotations block
annotations end next block after e =
    let k = block_kept end next block after e in
    record {
      few = (is_between 0 8 (length block.terms) k.term_count).1;
      terms = λ cells. (let t = terms_from cells 0 block.terms k.last_term k.terms in (from_less 0 1 (counted cells block.terms) (omega arith) t.0, t.1));
      cells = each_all cell_keeps (λ c. IsSome c.range) cell_some block.cells 0 k.last_cell k.cells;
    }

-- the same of a function: parameters that hold some word, and its blocks
record KeptPromises (f : Function) : Type 0 where
  params : AllByRecursion IsSome f.params
  blocks : AllByRecursion KeptAnnotations f.blocks

promises : (version end : ℕ) (place : FunctionsSoFar) (f : Function) (after : FunctionsSoFar) → function_keeps version end place f ≡ Ok after → KeptPromises f
promises version end place f after e =
    let k = function_kept version end place f after e in
    record {
      params = each_all (λ _ r. range_keeps r) IsSome (λ _ r _ g. in_order_some r (range_kept r g).ends) f.params tt tt k.params;
      blocks = each_all (block_keeps end) KeptAnnotations (annotations end) f.blocks (Exactly f.entry) k.next k.blocks;
    }

all_at : {A : Type 0} (P : A → Type 0) (xs : List A) (i : ℕ) (d : A) → AllByRecursion P xs → i < length xs → P (get_or xs i d)
all_at P [] i d h within = absurd (omega arith)
all_at P (x ∷ xs) zero d h within = h.0
all_at P (x ∷ xs) (suc i) d h within = all_at P xs i d h.1 (omega arith)

is_kept : (f : Function) (b : ℕ) (block : Block) → KeptPromises f → KeptAnnotations block → IsKeptBlock f b block
is_kept f zero block h k =
    record {
      few = k.few;
      ascend = (k.terms (out_cells 8 f.params)).0;
      nonzero = (k.terms (out_cells 8 f.params)).1;
      ranges =
          started_some (out_cells 8 f.params) (params_some 8 f.params h.params);
    }
is_kept f (suc b) block h k = record { few = k.few; ascend = (k.terms block.cells).0; nonzero = (k.terms block.cells).1; ranges = started_some block.cells k.cells }

pub block_is_kept : (parts : Parts) → parts_keep parts ≡ Ok tt → (f b : ℕ) (df : Function) (db : Block) → f < length parts.functions
    → b < length (get_or parts.functions f df).blocks → IsKeptBlock (get_or parts.functions f df) b (get_or (get_or parts.functions f df).blocks b db)
block_is_kept parts e f b df db in_functions in_blocks =
    let k = parts_kept parts e in
    let all = each_all (function_keeps parts.version (code_start + 4 * length parts.words)) KeptPromises
    (promises parts.version (code_start + 4 * length parts.words)) parts.functions (Exactly code_start, 0) k.last k.functions in
    let one = all_at KeptPromises parts.functions f df all in_functions in
    is_kept (get_or parts.functions f df) b (get_or (get_or parts.functions f df).blocks b db) one (all_at KeptAnnotations (get_or parts.functions f df).blocks b db one.blocks in_blocks)

-- ---- blocks of the code

-- a function and its block are those of an image
pub record Stands (parts : Parts) (f b : ℕ) (function : Function) (block : Block) : Type 0 where
  pub function_is : function_at parts f ≡ function
  pub block_is : block_at parts f b ≡ block

is_function : (parts : Parts) (functions : List Function) (f : ℕ) (function : Function) → functions ≡ parts.functions → f < length parts.functions → function ≡ get_or functions f function
    → function_at parts f ≡ function
is_function parts functions f function same in_functions is =
    let e : slice_get functions f ≡ Some function = slice_get-get_or functions f function (subst (λ xs. f < length xs) (sym same) in_functions) ∙ ap Some (sym is) in
    ap (λ xs. or_function (slice_get xs f)) (sym same) ∙ ap or_function e

-- a block of the function is one of those that are read
pub among : (parts : Parts) (functions : List Function) (f b : ℕ) (function : Function) (blocks : List Block) → functions ≡ parts.functions
    → f < length parts.functions → function ≡ get_or functions f function → blocks ≡ function.blocks → b < length (function_at parts f).blocks → b < length blocks
among parts functions f b function blocks same in_functions is same_blocks in_blocks =
    let g = is_function parts functions f function same in_functions is in
    subst (λ xs. b < length xs) (sym same_blocks) (subst (λ k. b < length k.blocks) g in_blocks)

pub stands : (parts : Parts) (functions : List Function) (f b : ℕ) (function : Function) (blocks : List Block) (block : Block) → functions ≡ parts.functions
    → f < length parts.functions → function ≡ get_or functions f function → blocks ≡ function.blocks → b < length (function_at parts f).blocks → block ≡ get_or blocks b block
    → Stands parts f b function block
stands parts functions f b function blocks block same in_functions is same_blocks in_blocks is_block =
    let g : function_at parts f ≡ function = is_function parts functions f function same in_functions is in
    let within : b < length blocks = among parts functions f b function blocks same in_functions is same_blocks in_blocks in
    let h : slice_get blocks b ≡ Some block = slice_get-get_or blocks b block within ∙ ap Some (sym is_block) in
    record {
      function_is = g;
      block_is = ap (λ k. or_block (slice_get k.blocks b)) g ∙ (ap (λ xs. or_block (slice_get xs b)) (sym same_blocks) ∙ ap or_block h);
    }

pub stands_kept : (parts : Parts) → parts_keep parts ≡ Ok tt → (f b : ℕ) (function : Function) (block : Block) → Stands parts f b function block
    → f < length parts.functions → b < length (function_at parts f).blocks → IsKeptBlock function b block
stands_kept parts e f b function block s in_functions in_blocks =
    let there = slice_get-get_or parts.functions f no_function in_functions in
    let is : function_at parts f ≡ get_or parts.functions f no_function = ap or_function there in
    let in_one : b < length (get_or parts.functions f no_function).blocks = subst (λ k. b < length k.blocks) is in_blocks in
    let inside = slice_get-get_or (get_or parts.functions f no_function).blocks b no_block in_one in
    let k = block_is_kept parts e f b no_function no_block in_functions in_one in
    let same = sym is ∙ s.function_is in
    let same_block = sym (ap (λ g. or_block (slice_get g.blocks b)) is ∙ ap or_block inside) ∙ s.block_is in
    subst (λ g. IsKeptBlock function b g) same_block (subst (λ g. IsKeptBlock g b (get_or (get_or parts.functions f no_function).blocks b no_block)) same k)

first_is : (parts : Parts) (f b : ℕ) (function : Function) (block : Block) → Stands parts f b function block → state_at parts f b 0 ≡ first_of function b block
unfolding state_at
first_is parts f b function block s = ap (λ g. first_of g b (block_at parts f b)) s.function_is ∙ ap (λ k. first_of function b k) s.block_is

pub fuel_is : (parts : Parts) (f b : ℕ) (function : Function) (block : Block) → Stands parts f b function block → fuel_at parts f b ≡ fuel_of function b block
unfolding fuel_at
fuel_is parts f b function block s = ap (λ g. fuel_of g b (block_at parts f b)) s.function_is ∙ ap (λ k. fuel_of function b k) s.block_is

-- what is said of a block's start and fuel
pub of_image : (P : Known → Form → Type 0) (parts : Parts) (f b : ℕ) (function : Function) (block : Block) → Stands parts f b function block
    → P (first_of function b block) (fuel_of function b block) → P (state_at parts f b 0) (fuel_at parts f b)
of_image P parts f b function block s h =
    subst (λ d. P d (fuel_at parts f b)) (sym (first_is parts f b function block s)) (subst (λ g. P (first_of function b block) g) (sym (fuel_is parts f b function block s)) h)

pub of_block : (P : Known → Form → Type 0) (parts : Parts) (f b : ℕ) (function : Function) (block : Block) → Stands parts f b function block
    → P (state_at parts f b 0) (fuel_at parts f b) → P (first_of function b block) (fuel_of function b block)
of_block P parts f b function block s h =
    subst (λ d. P d (fuel_of function b block)) (first_is parts f b function block s) (subst (λ g. P (state_at parts f b 0) g) (fuel_is parts f b function block s) h)

-- ---- ranges of a state

pub none_empty : (d : Known) → HasOnlyLocations d → ((k : ℕ) → 1 ≤ k → k < 1040 → is_empty_range (range_at d k) ≡ false) → AreSome d
none_empty d only all l r e = by_location (is_location l) refl
  where
    full : (o : Option Range) → o ≡ Some r → is_empty_range o ≡ false → r.lo ≤ℤ r.hi
    full o same empty = let n : int_lt r.hi r.lo ≡ false = sym (ap is_empty_range same) ∙ empty in grind (arith, ints)

    by_location : (b : Bool) → is_location l ≡ b → r.lo ≤ℤ r.hi
    by_location true p = full (range_at d l) e (all l (low p) (high p))
      where
        low : is_location l ≡ true → 1 ≤ l
        low p = grind (arith, nat_tests)

        high : is_location l ≡ true → l < 1040
        high p = grind (arith, nat_tests)
    by_location false p = let n : range_at d l ≡ None = ap range_of_entry (only l p) in let z = sym n ∙ e in absurd cc

pub one_empty : (d : Known) (l : ℕ) → is_empty_range (range_at d l) ≡ true → AreSome d → ⊥
one_empty d l e some = by_range (range_at d l) refl e
  where
    by_range : (o : Option Range) → range_at d l ≡ o → is_empty_range o ≡ true → ⊥
    by_range None s e = absurd cc
    by_range (Some r) s e = let h = some l r s in let n : int_lt r.hi r.lo ≡ true = e in absurd (grind (arith, ints))

-- where a range is empty, nothing is asked
pub paid_by_none : (first : Known) (fuel : Form) (weight : ℕ) (now : Known) (next : Form) → (AreSome now → ⊥) → IsPaid first fuel weight now next
paid_by_none first fuel weight now next none start others a b = absurd (none (λ l r e. between (others l) r (b l r e).0 (b l r e).1))
  where
    between : (z : ℤ) (r : Range) → r.lo ≤ℤ z → z ≤ℤ r.hi → r.lo ≤ℤ r.hi
    between z r p q = omega (arith, ints)
