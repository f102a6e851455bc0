-- The cells of an image's regions hold the bytes of its data.
use Rattle.std.proofs.Common.{◌≡◌, ℕ, zero, suc, ◌-◌, ◌*◌, ◌<◌, ◌≤◌, inl, inr, Bool, true, false, List, [], ◌∷◌, ◌++◌, length, map, Option, None, Some, refl, sym, ap, ◌∙◌, subst, arith}
use Rattle.std.specs.Prelude.{replicate, nat_lt, slice_get, if◌then◌else◌}
use Rattle.std.specs.List.{flat_map}
use Rattle.std.proofs.lemmas.Bool.{cases_lt, le-ltb, lt-ltb}
use Rattle.std.proofs.lemmas.List.{length-append, length-map, length-replicate}
use Rattle.std.proofs.lemmas.Option.{slice_get_past}
use Rattle.sbx_image.specs.Region.{Region}
use Rattle.sbx_image.specs.Regions.{Placed, behind, byte_in, byte_of_region, data_at, data_start, or_else, pages_for, placed_from}
use Rattle.flat_plain.specs.Shows.{cell_at, or_none, region_cells}

-- ---- lists of cells

in_front : (xs ys : List (Option ℕ)) (k : ℕ) → k < length xs → slice_get (xs ++ ys) k ≡ slice_get xs k
in_front [] ys k less = absurd (omega arith)
in_front (x ∷ xs) ys zero less = refl
in_front (x ∷ xs) ys (suc k) less = in_front xs ys k (omega arith)

past_front : (xs ys : List (Option ℕ)) (k : ℕ) → length xs ≤ k → slice_get (xs ++ ys) k ≡ slice_get ys (k - length xs)
past_front [] ys k past = let e : k ≡ k - 0 = omega arith in ap (slice_get ys) e
past_front (x ∷ xs) ys zero past = absurd (omega arith)
past_front (x ∷ xs) ys (suc k) past = let e : k - length xs ≡ suc k - suc (length xs) = omega arith in past_front xs ys k (omega arith) ∙ ap (slice_get ys) e

some_byte : (bytes : List ℕ) (k : ℕ) → or_none (slice_get (map Some bytes) k) ≡ slice_get bytes k
some_byte [] k = refl
some_byte (b ∷ bytes) zero = refl
some_byte (b ∷ bytes) (suc k) = some_byte bytes k

no_byte : (n k : ℕ) → or_none (slice_get (replicate n None) k) ≡ None
no_byte zero k = refl
no_byte (suc n) zero = refl
no_byte (suc n) (suc k) = no_byte n k

cells_of_page : (r : Region) → length (region_cells r) ≡ 4096 * pages_for (length r.bytes)
cells_of_page r =
    let empty : ℕ = 4096 * pages_for (length r.bytes) - length r.bytes in
    let none : Option ℕ = None in
    let full = length-map r.bytes (λ (b : ℕ). Some b) in
    let rest = length-replicate empty none in
    length-append (map Some r.bytes) (replicate empty None) ∙ omega (arith, full, rest)

-- the cells of a region's pages hold its bytes, and nothing behind them
region_byte : (r : Region) (k : ℕ) → or_none (slice_get (region_cells r) k) ≡ slice_get r.bytes k
region_byte r k = elim (cases_lt k (length r.bytes)) [
  | inl less ↦ ap or_none (in_front (map Some r.bytes) empty k (subst (λ n. k < n) (sym full) less)) ∙ some_byte r.bytes k
  | inr past ↦ ap or_none (past_front (map Some r.bytes) empty k (subst (λ n. n ≤ k) (sym full) past))
      ∙ no_byte (4096 * pages_for (length r.bytes) - length r.bytes) (k - length (map Some r.bytes)) ∙ sym (slice_get_past r.bytes k past)
]
  where
    full : length (map Some r.bytes) ≡ length r.bytes
    full = length-map r.bytes (λ (b : ℕ). Some b)

    empty : List (Option ℕ)
    empty = replicate (4096 * pages_for (length r.bytes) - length r.bytes) None

-- ---- by address

abbrev from_cells : ℕ → List (Option ℕ) → ℕ → Option ℕ
from_cells start cells a = if nat_lt a start then None else or_none (slice_get cells (a - start))

before : (start : ℕ) (cells : List (Option ℕ)) (a : ℕ) → a < start → from_cells start cells a ≡ None
before start cells a less = ap (λ (t : Bool). if t then None else or_none (slice_get cells (a - start))) (lt-ltb a start less)

from : (start : ℕ) (cells : List (Option ℕ)) (a : ℕ) → start ≤ a → from_cells start cells a ≡ or_none (slice_get cells (a - start))
from start cells a past = ap (λ (t : Bool). if t then None else or_none (slice_get cells (a - start))) (le-ltb a start past)

none_else : (o p q : Option ℕ) → o ≡ None → p ≡ q → or_else o p ≡ q
none_else o p q e f = ap (λ x. or_else x p) e ∙ f

else_none : (o p : Option ℕ) → p ≡ None → or_else o p ≡ o
else_none None p e = e
else_none (Some b) p e = refl

module _ (start : ℕ) (r : Region) (rest : List Region) where
  abbrev here : Placed
  here = record { address = start; bytes = r.bytes; writable = r.writable }

  abbrev later : List (Option ℕ)
  later = flat_map region_cells rest

  region_from : (a : ℕ) → start ≤ a → byte_of_region here a ≡ slice_get r.bytes (a - start)
  region_from a past = ap (λ (t : Bool). if t then None else slice_get r.bytes (a - start)) (le-ltb a start past)

  region_before : (a : ℕ) → a < start → byte_of_region here a ≡ None
  region_before a less = ap (λ (t : Bool). if t then None else slice_get r.bytes (a - start)) (lt-ltb a start less)

  one_region : (a : ℕ) → from_cells (behind start r) later a ≡ byte_in (placed_from (behind start r) rest) a
      → from_cells start (region_cells r ++ later) a ≡ or_else (byte_of_region here a) (byte_in (placed_from (behind start r) rest) a)
  one_region a others = elim (cases_lt a start) [
    | inl less ↦ before start (region_cells r ++ later) a less ∙ sym (none_else _ _ None (region_before a less) (sym others ∙ before (behind start r) later a (omega arith)))
    | inr past ↦ from start (region_cells r ++ later) a past ∙ elim (cases_lt (a - start) (4096 * pages_for (length r.bytes))) [
      | inl within ↦
          ap or_none (in_front (region_cells r) later (a - start) (subst (λ n. a - start < n) (sym (cells_of_page r)) within)) ∙ region_byte r (a - start)
          ∙ sym (region_from a past) ∙ sym (else_none (byte_of_region here a) _ (sym others ∙ before (behind start r) later a (omega (arith, past, within))))
      | inr over ↦
          ap or_none (past_front (region_cells r) later (a - start) (subst (λ n. n ≤ a - start) (sym (cells_of_page r)) over))
          ∙ ap (λ n. or_none (slice_get later n)) (shift over) ∙ sym (from (behind start r) later a (omega (arith, past, over)))
          ∙ sym (none_else _ _ (from_cells (behind start r) later a) (region_from a past ∙ slice_get_past r.bytes (a - start) (omega (arith, over))) (sym others))
    ]
  ]
    where
      shift : 4096 * pages_for (length r.bytes) ≤ a - start → a - start - length (region_cells r) ≡ a - behind start r
      shift over = let e = cells_of_page r in omega (arith, e, over)

each_region : (start : ℕ) (rs : List Region) (a : ℕ) → from_cells start (flat_map region_cells rs) a ≡ byte_in (placed_from start rs) a
each_region start [] a = by_test (nat_lt a start)
  where
    by_test : (t : Bool) → (if t then None else or_none (slice_get [] (a - start))) ≡ None
    by_test true = refl
    by_test false = refl
each_region start (r ∷ rs) a = one_region start r rs a (each_region (behind start r) rs a)

pub cells_hold : (rs : List Region) (cells : List (Option ℕ)) → cells ≡ flat_map region_cells rs → (a : ℕ) → cell_at cells a ≡ data_at rs a
cells_hold rs cells is a = ap (λ x. from_cells data_start x a) is ∙ each_region data_start rs a
