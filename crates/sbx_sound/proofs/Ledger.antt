-- The ledger of fuel: words, edges, calls and returns keep what was used and what is left within the budget.
use Rattle.std.proofs.Common.{◌≡◌, ℕ, ◌+◌, ◌-◌, ◌*◌, ◌/◌, ◌%◌, ◌^◌, ◌≤◌, ℤ, Bool, true, false, List, [], ◌∷◌, Option, Some, None, refl, sym, ap, ◌∙◌, subst, arith}
use Rattle.std.specs.Prelude.{pos, ◌+ℤ◌, ◌-ℤ◌, ◌*ℤ◌, ◌≤ℤ◌, ◌==◌, not, int_lt, nat_le, if◌then◌else◌}
use Rattle.std.proofs.lemmas.Bool.Decides.{nat_tests}
use Rattle.std.proofs.lemmas.Int.{ints}
use Rattle.std.proofs.Math.Nat.{mul_assoc}
use Rattle.std.proofs.lemmas.Nat.{mod-mul-add, pow_pos, pow-add, shr_split}
use Rattle.v8_alu.specs.Results.{signed}
use Rattle.v8_word.specs.declared.Icc.{Icc}
use Rattle.sbx_image.specs.Parts.{Parts}
use Rattle.sbx_image.specs.Range.{Range}
use Rattle.sbx_image.specs.Cell.{Cell}
use Rattle.sbx_form.specs.declared.terms.FormTerm.{FormTerm}
use Rattle.sbx_flat.specs.Registers.{Words}
use Rattle.sbx_form.specs.Forms.{Cells, terms_value}
use Rattle.sbx_sound.proofs.Shared.{Open}
use Rattle.sbx_rules.specs.Fits.{Fits, HasAlignment, HasForm, HasInterval, Near, Relates}
use Rattle.sbx_range.specs.Ranges.{InInterval, IsAligned}
use Rattle.sbx_rules.specs.Entry.{Entry}
use Rattle.sbx_rules.specs.Known.{Known, cell_entry, entry_of_cell, form_at, form_of_entry, is_location, range_at, range_of_entry, started}
use Rattle.sbx_rules.specs.Forms.{Form, form_of_location, form_value}
use Rattle.sbx_rules.specs.Relation.{Relation}
use Rattle.sbx_rules.specs.Fuel.{InCells, IsPaid, number_now, numbers_now}
use Rattle.sbx_rules.specs.Rules.{has_cells, has_range}
use Rattle.sbx_sound.proofs.Running.{AreOpen, left_to, left_to_all}
use Rattle.sbx_sound.proofs.Tests.{and_left, and_right, equal_numbers}

-- ---- sums

-- a word of weight a
pub one_word : (w a t budget : ℕ) (fuel rest : ℤ) → (pos w +ℤ ((fuel -ℤ pos t) +ℤ rest)) ≤ℤ pos budget → (pos (w + a) +ℤ ((fuel -ℤ pos (t + a)) +ℤ rest)) ≤ℤ pos budget
one_word w a t budget fuel rest h = omega (arith, ints)

-- an edge into a block
pub one_edge : (w t budget : ℕ) (fuel next rest : ℤ) → (pos w +ℤ ((fuel -ℤ pos t) +ℤ rest)) ≤ℤ pos budget → (pos t +ℤ next) ≤ℤ fuel → (pos w +ℤ ((next -ℤ pos 0) +ℤ rest)) ≤ℤ pos budget
one_edge w t budget fuel next rest h paid = omega (arith, ints)

-- a call: the callee's budget was counted with the slot
pub one_call : (w a t callee budget : ℕ) (fuel next rest : ℤ) → (pos w +ℤ ((fuel -ℤ pos t) +ℤ rest)) ≤ℤ pos budget → next ≤ℤ pos callee →
    (pos (w + a) +ℤ ((next -ℤ pos 0) +ℤ ((fuel -ℤ pos (t + (a + callee))) +ℤ rest))) ≤ℤ pos budget
one_call w a t callee budget fuel next rest h within = omega (arith, ints)

-- a return
pub one_return : (w t budget : ℕ) (fuel caller rest : ℤ) → (pos w +ℤ ((fuel -ℤ pos t) +ℤ (caller +ℤ rest))) ≤ℤ pos budget → pos t ≤ℤ fuel → (pos w +ℤ (caller +ℤ rest)) ≤ℤ pos budget
one_return w t budget fuel caller rest h enough = omega (arith, ints)

pub within_budget : (w budget : ℕ) (left rest : ℤ) → (pos w +ℤ (left +ℤ rest)) ≤ℤ pos budget → pos 0 ≤ℤ left → pos 0 ≤ℤ rest → w ≤ budget
within_budget w budget left rest h l r = omega (arith, ints)

both_left : (a b : ℤ) → pos 0 ≤ℤ a → pos 0 ≤ℤ b → pos 0 ≤ℤ (a +ℤ b)
both_left a b p q = omega (arith, ints)

none_left : pos 0 ≤ℤ pos 0
none_left = omega (arith, ints)

pub all_left : (parts : Parts) (f : ℕ) (calls : List Open) → AreOpen parts f calls → pos 0 ≤ℤ left_to_all parts calls
all_left parts f [] h = none_left
all_left parts f (c ∷ cs) h = both_left (left_to parts c) (left_to_all parts cs) h.0.left (all_left parts c.function cs h.1)

-- ---- the numbers on an edge

same_number : (start : Cells) (f : Option Form) (w : ℕ) → HasForm start f w → number_now start f (signed w) ≡ signed w
same_number start None w h = refl
same_number start (Some f) w h = h

same_terms : (a b : Cells) (ts : List FormTerm) → ((l : ℕ) → a l ≡ b l) → terms_value a ts ≡ terms_value b ts
same_terms a b [] e = refl
same_terms a b (t ∷ ts) e = ap (λ x. (x *ℤ t.coefficient) +ℤ terms_value a ts) (e t.location) ∙ ap (λ x. (b t.location *ℤ t.coefficient) +ℤ x) (same_terms a b ts e)

same_line : (a b : Cells) (f : Form) → ((l : ℕ) → a l ≡ b l) → form_value a f ≡ form_value b f
unfolding form_value
same_line a b f e = ap (λ x. f.constant +ℤ x) (same_terms a b f.terms e)

-- the numbers that words are
abbrev pub numbers : Words → Cells
numbers words l = signed (words l)

in_range : (o : Option Range) (r : Range) (w : ℕ) → o ≡ Some r → HasInterval o w → InInterval r w
in_range o r w e h = subst (λ x. HasInterval x w) e h

pub near_in_cells : (start : Cells) (d : Known) (words : Words) (icc : Icc) (y : ℕ) → Near start d words icc y → InCells d (numbers words)
near_in_cells start d words icc y near l r e = let i = in_range (range_at d l) r (words l) e (near.intervals l) in (i.low, i.high)

-- what an edge asks, at the numbers that are there
pub edge_pays : (first now : Known) (fuel next : Form) (weight : ℕ) (start : Cells) (words : Words) (icc : Icc) (y : ℕ) → IsPaid first fuel weight now next →
    InCells first start → Near start now words icc y
    → (pos weight +ℤ form_value (numbers words) next) ≤ℤ form_value start fuel
edge_pays first now fuel next weight start words icc y paid begun near =
    let e = same_line (numbers_now start now (numbers words)) (numbers words) next (λ l. same_number start (form_at now l) (words l) (near.forms l)) in
    subst (λ x. (pos weight +ℤ x) ≤ℤ form_value start fuel) e (paid start (numbers words) begun (near_in_cells start now words icc y near))

-- ---- a block that begins

int_not_below : (a b : ℤ) → not (int_lt a b) ≡ true → b ≤ℤ a
int_not_below a b h = grind (arith, ints)

pub interval_within : (o : Option Range) (r : Range) (w : ℕ) → has_range o r ≡ true → HasInterval o w → InInterval r w
interval_within None r w h i = absurd (cc)
interval_within (Some s) r w h i =
    let low = int_not_below s.lo r.lo (and_left _ (not (int_lt r.hi s.hi)) (and_left _ (nat_le r.alignment s.alignment) h)) in
    let high = int_not_below r.hi s.hi (and_right (not (int_lt s.lo r.lo)) _ (and_left _ (nat_le r.alignment s.alignment) h)) in
    let at_least = i.low in let at_most = i.high in
    record { low = omega (arith, ints); high = omega (arith, ints) }

multiple_of : (q k : ℕ) → (q * 2 ^ k) % 2 ^ k ≡ 0
multiple_of q k =
    let z : q * 2 ^ k + 0 ≡ q * 2 ^ k = omega arith in
    ap (λ m. m % 2 ^ k) (sym z) ∙ mod-mul-add q (2 ^ k) 0 (pow_pos k)

parts_of : (n k : ℕ) → n % 2 ^ k ≡ 0 → n / 2 ^ k * 2 ^ k ≡ n
parts_of n k h = let e = shr_split n k in omega arith

-- a multiple of more is one of less
fewer_bits : (j k n : ℕ) → j ≤ k → n % 2 ^ k ≡ 0 → n % 2 ^ j ≡ 0
fewer_bits j k n le h =
    let s : k - j + j ≡ k = omega arith in
    let d : 2 ^ (k - j) * 2 ^ j ≡ 2 ^ k = sym (pow-add 2 (k - j) j) ∙ ap (λ i. 2 ^ i) s in
    let e : n / 2 ^ k * 2 ^ (k - j) * 2 ^ j ≡ n = mul_assoc (n / 2 ^ k) (2 ^ (k - j)) (2 ^ j) ∙ (ap (λ m. n / 2 ^ k * m) d ∙ parts_of n k h) in
    subst (λ m. m % 2 ^ j ≡ 0) e (multiple_of (n / 2 ^ k * 2 ^ (k - j)) j)

le_of : (a b : ℕ) → nat_le a b ≡ true → a ≤ b
le_of a b e = grind (arith, nat_tests)

pub multiple_within : (o : Option Range) (r : Range) (w : ℕ) → has_range o r ≡ true → HasAlignment o w → IsAligned r.alignment w
multiple_within None r w h i = absurd (cc)
multiple_within (Some s) r w h i = fewer_bits r.alignment s.alignment w (le_of r.alignment s.alignment (and_right _ (nat_le r.alignment s.alignment) h)) i

-- Words that fit somewhere fit where a block begins with these cells, if each cell's range holds there.
pub record Begins (d : Known) (cells : List Cell) (words : Words) : Type 0 where
  pub ranges : (l : ℕ) → HasInterval (range_at (started cells) l) (words l)
  pub multiples : (l : ℕ) → HasAlignment (range_at (started cells) l) (words l)
  pub forms : (l : ℕ) → HasForm (numbers words) (form_at (started cells) l) (words l)
  pub relation : (started cells).relation ≡ None
  pub y : (started cells).y ≡ None
  pub codes : (started cells).icc ≡ false

pub own_number : (cells : Cells) (l : ℕ) → form_value cells (form_of_location l) ≡ cells l
unfolding form_value
own_number cells l = omega (arith, ints)

-- a property of what a location starts with: nothing, or what its cell says
pub cells_have : (d : Known) (P : ℕ → Option Entry → Type 0) (cells : List Cell) (l : ℕ) → has_cells d cells ≡ true → P l None
    → ((c : Cell) → has_range (range_at d c.location) c.range ≡ true → P c.location (Some (entry_of_cell c))) → P l (cell_entry cells l)
unfolding cell_entry
cells_have d P [] l h none some = none
cells_have d P (c ∷ cs) l h none some =
    by_test (cells_have d P cs l (and_right (has_range (range_at d c.location) c.range) (has_cells d cs) h) none some) (c.location == l) refl
  where
    by_test : P l (cell_entry cs l) → (t : Bool) → (c.location == l) ≡ t → P l (if t then Some (entry_of_cell c) else cell_entry cs l)
    by_test rest true e = subst (λ k. P k (Some (entry_of_cell c))) (equal_numbers c.location l e) (some c (and_left (has_range (range_at d c.location) c.range) (has_cells d cs) h))
    by_test rest false e = rest

pub starts_have : (d : Known) (P : ℕ → Option Entry → Type 0) (cells : List Cell) (l : ℕ) → has_cells d cells ≡ true → P l None
    → ((c : Cell) → has_range (range_at d c.location) c.range ≡ true → P c.location (Some (entry_of_cell c))) → P l ((started cells).entry l)
unfolding started
starts_have d P cells l h none some = by_test (is_location l)
  where
    by_test : (t : Bool) → P l (if t then cell_entry cells l else None)
    by_test true = cells_have d P cells l h none some
    by_test false = none

pub begins : (d : Known) (cells : List Cell) (words : Words) → has_cells d cells ≡ true → ((l : ℕ) → HasInterval (range_at d l) (words l)) →
    ((l : ℕ) → HasAlignment (range_at d l) (words l)) → Begins d cells words
unfolding started
begins d cells words h ranges multiples = record {
  ranges = λ l. starts_have d (λ k e. HasInterval (range_of_entry e) (words k)) cells l h tt (λ c here. interval_within (range_at d c.location) c.range (words c.location) here (ranges c.location));
  multiples = λ l. starts_have d (λ k e. HasAlignment (range_of_entry e) (words k)) cells l h tt
      (λ c here. multiple_within (range_at d c.location) c.range (words c.location) here (multiples c.location));
  forms = λ l. starts_have d (λ k e. HasForm (numbers words) (form_of_entry e) (words k)) cells l h tt (λ c here. own_number (numbers words) c.location);
  relation = refl;
  y = refl;
  codes = refl;
}

relates_nothing : (words : Words) (icc : Icc) (r : Option Relation) → r ≡ None → Relates words icc r
relates_nothing words icc r e = subst (Relates words icc) (sym e) tt

-- where words fit, they fit the beginning of a block whose cells hold there
pub fits_begin : (start : Cells) (d : Known) (cells : List Cell) (words : Words) (icc : Icc) (y : ℕ) → has_cells d cells ≡ true → Fits start d words icc y →
    Fits (numbers words) (started cells) words icc y
fits_begin start d cells words icc y h fits =
    let near = fits.near in
    let b = begins d cells words h near.intervals fits.multiples in
    record {
      near = record {
        are_words = near.are_words;
        zero = near.zero;
        intervals = b.ranges;
        forms = b.forms;
        y_word = near.y_word;
        y_interval = subst (λ o. HasInterval o y) (sym b.y) tt;
        relates = relates_nothing words icc (started cells).relation b.relation;
      };
      multiples = b.multiples;
      y_multiple = subst (λ o. HasAlignment o y) (sym b.y) tt;
    }
