-- The numbers of an image bound what is left of a block's fuel from below.
use Rattle.std.proofs.Common.{◌≡◌, ℕ, zero, suc, ◌+◌, ◌*◌, ◌^◌, ◌≤◌, ℤ, Bool, true, false, List, [], ◌∷◌, length, Option, Some, None, Ok, refl, sym, ap, ◌∙◌, subst, arith}
use Rattle.std.specs.Prelude.{pos, negsuc, ◌+ℤ◌, ◌-ℤ◌, ◌*ℤ◌, ◌≤ℤ◌, ◌==◌, ◌||◌, FitsSigned, unsigned_abs, if◌then◌else◌}
use Rattle.std.specs.Int.{w32}
use Rattle.std.specs.List.{AllByRecursion}
use Rattle.std.proofs.lemmas.Int.{ints, unsigned_abs-mul}
use Rattle.std.proofs.lemmas.Nat.{mul-le}
use Rattle.v8_meaning.specs.declared.operation.Operation.{Operation}
use Rattle.v8_meaning.specs.declared.operation.Operation.TheVariants.{Restore, Save, TrapOnCondition}
use Rattle.sbx_image.specs.Rules.{parts_keep}
use Rattle.sbx_image.specs.Spelling.{IsTyped, IsTypedTerm}
use Rattle.sbx_image.specs.Cell.{Cell}
use Rattle.sbx_image.specs.Parts.{Parts}
use Rattle.sbx_image.specs.Term.{Term}
use Rattle.sbx_flat.specs.Effects.{service_of}
use Rattle.sbx_flat.specs.Runs.{weight_of, weight_of_service}
use Rattle.sbx_form.specs.Forms.{Cells, terms_value}
use Rattle.sbx_rules.specs.Entry.{Entry}
use Rattle.sbx_rules.specs.Forms.{form_of_location, form_value}
use Rattle.sbx_rules.specs.Known.{cell_entry, entry_of_cell, is_location, range_of_entry, started}
use Rattle.sbx_rules.specs.Fuel.{InCells}
use Rattle.sbx_image.specs.Order.{block_at}
use Rattle.sbx_rules.specs.Places.{callee_before, op_at}
use Rattle.sbx_rules.specs.Ways.{budget_of_callee, cells_at, counted, form_term, fuel_at, names_cell, state_at, weight_to}
use Rattle.sbx_sound.specs.Positive.{left_at}
use Rattle.sbx_sound.proofs.Limits.{IsGoodCell, IsGoodRange, block_good, cells_good, function_good}
use Rattle.sbx_sound.proofs.Tests.{equal_numbers}

-- ---- what a location starts with

-- nothing, or a range with words and the location itself
abbrev pub IsGoodEntry : ℕ → Option Entry → Type 0
IsGoodEntry l None = Unit {0}
IsGoodEntry l (Some e) = (is_location l ≡ true) × IsGoodRange e.range × (e.form ≡ Some (form_of_location l))

pub entry_good : (cells : List Cell) (l : ℕ) → AllByRecursion IsGoodCell cells → IsGoodEntry l (cell_entry cells l)
unfolding cell_entry
entry_good [] l h = tt
entry_good (c ∷ cs) l h = by_test (c.location == l) refl (entry_good cs l h.1)
  where
    by_test : (t : Bool) → (c.location == l) ≡ t → IsGoodEntry l (cell_entry cs l) → IsGoodEntry l (if t then Some (entry_of_cell c) else cell_entry cs l)
    by_test true e rest = (let same = equal_numbers c.location l e in (subst (λ k. is_location k ≡ true) same h.0.location, h.0.range, ap (λ k. Some (form_of_location k)) same))
    by_test false e rest = rest

-- a cell that is named has an entry
named_entry : (cells : List Cell) (l : ℕ) → names_cell cells l ≡ true → (e : Entry) × (cell_entry cells l ≡ Some e)
unfolding cell_entry
named_entry [] l h = absurd (cc)
named_entry (c ∷ cs) l h = by_test (c.location == l) h (named_entry cs l)
  where
    by_test : (t : Bool) → (t || names_cell cs l) ≡ true → (names_cell cs l ≡ true → (e : Entry) × (cell_entry cs l ≡ Some e)) →
        (e : Entry) × ((if t then Some (entry_of_cell c) else cell_entry cs l) ≡ Some e)
    by_test true h rest = (entry_of_cell c, refl)
    by_test false h rest = rest h

if_true : (t : Bool) (x y : Option Entry) → t ≡ true → (if t then x else y) ≡ x
if_true true x y e = refl
if_true false x y e = absurd (cc)

-- its number is that of a word
named_small : (cells : List Cell) (start : Cells) (l : ℕ) → AllByRecursion IsGoodCell cells → InCells (started cells) start → names_cell cells l ≡ true → unsigned_abs (start l) ≤ 2 ^ 31
unfolding started
named_small cells start l good begun named =
    let e = named_entry cells l named in
    let g : IsGoodEntry l (Some e.0) = subst (IsGoodEntry l) e.1 (entry_good cells l good) in
    let there : (if is_location l then cell_entry cells l else None) ≡ Some e.0 = if_true (is_location l) (cell_entry cells l) None g.0 ∙ e.1 in
    let ends = begun l e.0.range (ap range_of_entry there) in
    small (start l) e.0.range.lo e.0.range.hi g.1.low g.1.high ends.0 ends.1
  where
    small : (z lo hi : ℤ) → negsuc 2147483647 ≤ℤ lo → hi ≤ℤ pos 2147483647 → lo ≤ℤ z → z ≤ℤ hi → unsigned_abs z ≤ 2 ^ 31
    small (pos n) lo hi a b c d = omega (arith, ints)
    small (negsuc n) lo hi a b c d = omega (arith, ints)

-- ---- terms

coefficient_small : (t : Term) → IsTypedTerm t → unsigned_abs t.coefficient ≤ 2 ^ 31
coefficient_small t typed = by_sign t.coefficient typed
  where
    by_sign : (z : ℤ) → FitsSigned w32 z → unsigned_abs z ≤ 2 ^ 31
    by_sign (pos n) h = omega (arith, ints, h)
    by_sign (negsuc n) h = omega (arith, ints, h)

not_less : (z : ℤ) (n : ℕ) → unsigned_abs z ≤ n → pos 0 ≤ℤ (z +ℤ pos n)
not_less (pos k) n h = omega (arith, ints)
not_less (negsuc k) n h = omega (arith, ints)

product_low : (a b : ℤ) → unsigned_abs a ≤ 2 ^ 31 → unsigned_abs b ≤ 2 ^ 31 → pos 0 ≤ℤ ((a *ℤ b) +ℤ pos (2 ^ 31 * 2 ^ 31))
product_low a b p q =
    let m : unsigned_abs a * unsigned_abs b ≤ 2 ^ 31 * 2 ^ 31 = mul-le (unsigned_abs a) (unsigned_abs b) (2 ^ 31) (2 ^ 31) p q in
    not_less (a *ℤ b) (2 ^ 31 * 2 ^ 31) (subst (λ n. n ≤ 2 ^ 31 * 2 ^ 31) (sym (unsigned_abs-mul a b)) m)

both_low : (x y : ℤ) (m n : ℕ) → pos 0 ≤ℤ (x +ℤ pos m) → pos 0 ≤ℤ (y +ℤ pos (n * m)) → pos 0 ≤ℤ ((x +ℤ y) +ℤ pos (suc n * m))
both_low x y m n p q = let e : suc n * m ≡ m + n * m = omega arith in omega (arith, ints, e)

more_low : (y : ℤ) (m n : ℕ) → pos 0 ≤ℤ (y +ℤ pos (n * m)) → pos 0 ≤ℤ (y +ℤ pos (suc n * m))
more_low y m n q = let e : suc n * m ≡ m + n * m = omega arith in omega (arith, ints, e)

terms_low : (cells : List Cell) (start : Cells) → AllByRecursion IsGoodCell cells → InCells (started cells) start → (ts : List Term) → AllByRecursion IsTypedTerm ts
    → pos 0 ≤ℤ (terms_value start (counted cells ts) +ℤ pos (length ts * (2 ^ 31 * 2 ^ 31)))
terms_low cells start good begun [] h = omega (arith, ints)
terms_low cells start good begun (t ∷ ts) h = by_test (terms_low cells start good begun ts h.1) (names_cell cells t.location) refl
  where
    by_test : pos 0 ≤ℤ (terms_value start (counted cells ts) +ℤ pos (length ts * (2 ^ 31 * 2 ^ 31))) → (b : Bool) → names_cell cells t.location ≡ b →
        pos 0 ≤ℤ (terms_value start (if b then form_term t ∷ counted cells ts else counted cells ts) +ℤ pos (suc (length ts) * (2 ^ 31 * 2 ^ 31)))
    by_test rest true e =
        both_low (start t.location *ℤ t.coefficient) (terms_value start (counted cells ts)) (2 ^ 31 * 2 ^ 31) (length ts)
        (product_low (start t.location) t.coefficient (named_small cells start t.location good begun e) (coefficient_small t h.0)) rest
    by_test rest false e = more_low (terms_value start (counted cells ts)) (2 ^ 31 * 2 ^ 31) (length ts) rest

-- ---- weights

service_light : (o : Option ℕ) → weight_of_service o ≤ 25
service_light None = omega arith
service_light (Some zero) = omega arith
service_light (Some (suc n)) = omega arith

word_light : (op : Operation) → weight_of op ≤ 25
word_light (Save f) = omega arith
word_light (Restore f) = omega arith
word_light (TrapOnCondition t) = service_light (service_of t)
word_light _ = omega arith

-- as heavy as a word may be with the budget of a call
abbrev heaviest : ℕ
heaviest = 1099511627800

module _ (parts : Parts) (kept : parts_keep parts ≡ Ok tt) (typed : IsTyped parts) where
  callee_light : (o : Option ℕ) → budget_of_callee parts o ≤ 1099511627775
  callee_light None = omega arith
  callee_light (Some g) = (function_good parts kept typed g).budget

  weight_small : (f b i : ℕ) → weight_to parts f b i ≤ i * heaviest
  unfolding weight_to
  weight_small f b zero = omega arith
  weight_small f b (suc i) =
      let rest = weight_small f b i in
      let word = word_light (op_at parts f b i) in
      let callee = callee_light (callee_before parts f b i) in
      omega (arith, rest, word, callee)

  -- what no number of left fuel is below
  pub lowest : ℕ
  lowest = 1099511627776 + (8 * (2 ^ 31 * 2 ^ 31) + 65536 * heaviest)

  low_sum : (fuel terms : ℤ) (m n w i : ℕ) → negsuc 1099511627775 ≤ℤ fuel → pos 0 ≤ℤ (terms +ℤ pos (n * m)) → n ≤ 8 → w ≤ i * heaviest → i ≤ 65536
      → pos 0 ≤ℤ (((fuel +ℤ terms) -ℤ pos w) +ℤ pos (1099511627776 + (8 * m + 65536 * heaviest)))
  low_sum fuel terms m n w i low rest few weight words =
      let a : n * m ≤ 8 * m = mul-le n m 8 m few (omega arith) in
      omega (arith, ints, a)

  pub left_is_bounded : (f b i : ℕ) (start : Cells) → i ≤ 65536 → InCells (state_at parts f b 0) start → pos 0 ≤ℤ (left_at parts f b i start +ℤ pos lowest)
  unfolding lowest state_at fuel_at form_value
  left_is_bounded f b i start few begun =
      let block = block_good parts kept typed f b in
      let cells = cells_at parts f b in
      low_sum (block_at parts f b).fuel (terms_value start (counted cells (block_at parts f b).terms)) (2 ^ 31 * 2 ^ 31) (length (block_at parts f b).terms) (weight_to parts f b i) i
      block.fuel (terms_low cells start (cells_good parts kept typed f b) begun (block_at parts f b).terms block.terms) block.few (weight_small f b i) few
