-- What is in the data's pages: each region's bytes, and zeros behind them; and what may be reached there.
use Rattle.std.proofs.Common.{◌≡◌, ℕ, zero, ◌+◌, ◌-◌, ◌*◌, ◌%◌, ◌^◌, ◌≤◌, ◌<◌, ℤ, pos, Bool, true, false, not, ◌&&◌, ◌||◌, List, [], ◌∷◌, ◌++◌, length, get_or}
use Rattle.std.proofs.Common.{refl, sym, ap, subst, ◌∙◌, arith, inl, inr}
use Rattle.std.specs.Prelude.{◌≤ℤ◌, Option, None, Some, replicate, slice_get, slice_index, int_lt, nat_lt, if◌then◌else◌}
use Rattle.std.proofs.lemmas.Int.{ints}
use Rattle.std.proofs.lemmas.Bool.{cases_lt, le-ltb, ltb-false}
use Rattle.std.proofs.lemmas.List.{get_or_append_left, get_or-append_right, get_or-replicate, get_or_past, length-append, length-replicate}
use Rattle.std.proofs.lemmas.Option.{slice_get_past, slice_get_within, slice_get-get_or, get_or_from_slice_get}
use Rattle.sbx_parts.specs.declared.parts.Region.{Region}
use Rattle.v8_map.specs.declared.TheConstants.{DATA_END}
use Rattle.std.specs.List.{AllByRecursion}
use Rattle.sbx_parts.specs.Widths.{IsTypedRegion}
use Rattle.sbx_parts.specs.Regions.{AreBytes, LieApart, LiesInOne, LiesInPages, Placed, behind, byte_in, byte_of_region, data_at, data_start, holds}
use Rattle.sbx_parts.specs.Regions.{in_one_region, laid, on_pages, one_holds, or_else, page_rights, pages_for, placed, placed_from, region_holds}
use Rattle.sbx_parts.proofs.Placing.{page_count}
use Rattle.sbx_parts.proofs.Steps.{both_true}

-- ---- the bytes of the pages

pub on_pages_count : (bytes : List ℕ) → length (on_pages bytes) ≡ 4096 * pages_for (length bytes)
on_pages_count bytes =
    let zeros = 4096 * pages_for (length bytes) - length bytes in
    length-append bytes (replicate zeros 0) ∙ ap (λ n. length bytes + n) (length-replicate zeros 0) ∙ omega arith

pub on_pages_bytes : (bytes : List ℕ) (i : ℕ) → slice_index (on_pages bytes) i ≡ slice_index bytes i
on_pages_bytes bytes i =
    let zeros = 4096 * pages_for (length bytes) - length bytes in
    elim (cases_lt i (length bytes)) [
      | inl less ↦ get_or_append_left bytes (replicate zeros 0) 0 i less
      | inr past ↦ get_or-append_right bytes (replicate zeros 0) (length bytes) i 0 refl past ∙ in_zeros zeros (i - length bytes) ∙ sym (get_or_past bytes i 0 past)
    ]
  where
    in_zeros : (n k : ℕ) → (get_or (replicate n 0) k 0) ≡ zero
    in_zeros n k =
        elim (cases_lt k n) [
          | inl less ↦ get_or-replicate n k 0 0 less
          | inr past ↦ get_or_past (replicate n 0) k 0 (subst (λ m. m ≤ k) (sym (length-replicate n 0)) past)
        ]

-- the bytes of the first region's pages, and those behind them
pub laid_front : (r : Region) (rs : List Region) (i : ℕ) → i < 4096 * pages_for (length r.bytes) → slice_index (laid (r ∷ rs)) i ≡ slice_index r.bytes i
laid_front r rs i less = get_or_append_left (on_pages r.bytes) (laid rs) 0 i (subst (λ n. i < n) (sym (on_pages_count r.bytes)) less) ∙ on_pages_bytes r.bytes i

pub laid_behind : (r : Region) (rs : List Region) (i : ℕ) → 4096 * pages_for (length r.bytes) ≤ i → slice_index (laid (r ∷ rs)) i ≡ slice_index (laid rs) (i - 4096 * pages_for (length r.bytes))
laid_behind r rs i past = get_or-append_right (on_pages r.bytes) (laid rs) (4096 * pages_for (length r.bytes)) i 0 (on_pages_count r.bytes) past

pub laid_count : (rs : List Region) → length (laid rs) ≡ 4096 * length (page_rights rs)
laid_count [] = refl
laid_count (r ∷ rs) = length-append (on_pages r.bytes) (laid rs) ∙ (let a = on_pages_count r.bytes in let b = laid_count rs in let c = page_count r rs in omega (arith, a, b, c))

abbrev placed_at : ℕ → Region → Placed
placed_at start r = record { address = start; bytes = r.bytes; writable = r.writable }

-- ---- the byte at an address

is_at : (r : Placed) (a b : ℕ) → byte_of_region r a ≡ Some b → (r.address ≤ a) × (slice_get r.bytes (a - r.address) ≡ Some b)
is_at r a b e = by (nat_lt a r.address) refl e
  where
    by : (t : Bool) → nat_lt a r.address ≡ t → (if t then None else slice_get r.bytes (a - r.address)) ≡ Some b → (r.address ≤ a) × (slice_get r.bytes (a - r.address) ≡ Some b)
    by true t h = absurd cc
    by false t h = (ltb-false a r.address t, h)

lies_first : (start : ℕ) (r : Region) (rs : List Region) (a b : ℕ) → (start ≤ a) × (slice_get r.bytes (a - start) ≡ Some b) → LiesInPages start (r ∷ rs) a b
lies_first start r rs a b (from, e) =
    let less = slice_get_within r.bytes (a - start) b e in
    let count = page_count r rs in
    let within : a - start < 4096 * pages_for (length r.bytes) = omega (arith, less) in
    record { from = from; to = omega (arith, within, count, from); is = laid_front r rs (a - start) within ∙ get_or_from_slice_get r.bytes (a - start) b 0 e }

lies_later : (start : ℕ) (r : Region) (rs : List Region) (a b : ℕ) → LiesInPages (behind start r) rs a b → LiesInPages start (r ∷ rs) a b
lies_later start r rs a b l =
    let count = page_count r rs in
    let f : start + 4096 * pages_for (length r.bytes) ≤ a = l.from in
    let t : a < start + 4096 * pages_for (length r.bytes) + 4096 * length (page_rights rs) = l.to in
    let place : a - start - 4096 * pages_for (length r.bytes) ≡ a - behind start r = omega arith in
    record { from = omega (arith, f); to = omega (arith, t, count); is = laid_behind r rs (a - start) (omega (arith, f)) ∙ ap (λ i. slice_index (laid rs) i) place ∙ l.is }

lies_at : (start : ℕ) (rs : List Region) (a b : ℕ) → byte_in (placed_from start rs) a ≡ Some b → LiesInPages start rs a b
lies_at start [] a b e = absurd cc
lies_at start (r ∷ rs) a b e = by (lies_at (behind start r) rs a b) (byte_of_region (placed_at start r) a) refl e
  where
    by : (byte_in (placed_from (behind start r) rs) a ≡ Some b → LiesInPages (behind start r) rs a b) → (o : Option ℕ) →
        byte_of_region (placed_at start r) a ≡ o → or_else o (byte_in (placed_from (behind start r) rs) a) ≡ Some b → LiesInPages start (r ∷ rs) a b
    by later (Some c) first h = lies_first start r rs a b (is_at (placed_at start r) a b (first ∙ h))
    by later None first h = lies_later start r rs a b (later h)

-- each byte of the data lies so in its pages
pub data_lies_at : (rs : List Region) (a b : ℕ) → data_at rs a ≡ Some b → LiesInPages data_start rs a b
data_lies_at rs a b e = lies_at data_start rs a b e

-- ---- what is held

not_less : (x y : ℤ) → not (int_lt x y) ≡ true → y ≤ℤ x
not_less x y h = grind (arith, ints)

is_not_less : (x y : ℤ) → y ≤ℤ x → not (int_lt x y) ≡ true
is_not_less x y h = grind (arith, ints)

-- a region that holds some addresses
pub record HeldBy (low high : ℤ) (writes : Bool) (r : Placed) : Type 0 where
  pub from : pos r.address ≤ℤ low
  pub to : high ≤ℤ pos (r.address + length r.bytes)
  pub may : (not writes || r.writable) ≡ true

held_by : (low high : ℤ) (writes : Bool) (r : Placed) → region_holds low high writes r ≡ true → HeldBy low high writes r
held_by low high writes r e =
    let all = both_true (not (int_lt low (pos r.address)) && not (int_lt (pos (r.address + length r.bytes)) high)) _ e in
    let ends = both_true (not (int_lt low (pos r.address))) _ all.0 in
    record { from = not_less low (pos r.address) ends.0; to = not_less (pos (r.address + length r.bytes)) high ends.1; may = all.1 }

or_true : (t : Bool) → (t || true) ≡ true
or_true true = refl
or_true false = refl

-- what is held, of a part of it
pub fewer_held : (low high lower higher : ℤ) (writes : Bool) (rs : List Placed) → lower ≤ℤ low → high ≤ℤ higher → one_holds lower higher writes rs ≡ true → one_holds low high writes rs ≡ true
fewer_held low high lower higher writes [] l h e = absurd cc
fewer_held low high lower higher writes (r ∷ rs) l h e = by (fewer_held low high lower higher writes rs l h) (region_holds lower higher writes r) refl e
  where
    by : (one_holds lower higher writes rs ≡ true → one_holds low high writes rs ≡ true) → (t : Bool) → region_holds lower higher writes r ≡ t →
        (t || one_holds lower higher writes rs) ≡ true → (region_holds low high writes r || one_holds low high writes rs) ≡ true
    by later true held _ =
        let k = held_by lower higher writes r held in
        let from : not (int_lt low (pos r.address)) ≡ true = is_not_less low (pos r.address) (omega (arith, ints, k.from, l)) in
        let to : not (int_lt (pos (r.address + length r.bytes)) high) ≡ true = is_not_less (pos (r.address + length r.bytes)) high (omega (arith, ints, k.to, h)) in
        rw (from, to, k.may) refl
    by later false held e = rw (later e) (or_true (region_holds low high writes r))

is_byte : (r : Placed) (a : ℕ) → r.address ≤ a → a < r.address + length r.bytes → byte_of_region r a ≡ Some (slice_index r.bytes (a - r.address))
is_byte r a from to =
    let test : nat_lt a r.address ≡ false = le-ltb _ _ from in
    ap (λ (t : Bool). if t then None else slice_get r.bytes (a - r.address)) test ∙ slice_get-get_or r.bytes (a - r.address) 0 (omega (arith, from, to))

no_byte : (r : Placed) (a : ℕ) → r.address + length r.bytes ≤ a → byte_of_region r a ≡ None
no_byte r a past =
    let test : nat_lt a r.address ≡ false = le-ltb _ _ (omega (arith, past)) in
    ap (λ (t : Bool). if t then None else slice_get r.bytes (a - r.address)) test ∙ slice_get_past r.bytes (a - r.address) (omega (arith, past))

first_right : (n : ℕ) (w : Bool) (rest : List Bool) (k : ℕ) → k < n → slice_get (replicate n w ++ rest) k ≡ Some w
first_right n w rest k less =
    let inside : k < length (replicate n w) = subst (λ m. k < m) (sym (length-replicate n w)) less in
    slice_get-get_or (replicate n w ++ rest) k w (omega (arith, length-append (replicate n w) rest, inside))
    ∙ ap Some (get_or_append_left (replicate n w) rest w k inside ∙ get_or-replicate n k w w less)

later_right : (n : ℕ) (w : Bool) (rest : List Bool) (k : ℕ) (right : Bool) → n ≤ k → slice_get rest (k - n) ≡ Some right → slice_get (replicate n w ++ rest) k ≡ Some right
later_right n w rest k right past e =
    let less = slice_get_within rest (k - n) right e in
    let count = length-replicate n w in
    slice_get-get_or (replicate n w ++ rest) k right (omega (arith, length-append (replicate n w) rest, count, less, past))
    ∙ ap Some (get_or-append_right (replicate n w) rest n k right count past ∙ get_or_from_slice_get rest (k - n) right right e)

reached_first : (start : ℕ) (r : Region) (rs : List Region) (a size : ℕ) (writes : Bool) → 0 < size →
    HeldBy (pos a) (pos (a + size)) writes (placed_at start r) → LiesInOne start (r ∷ rs) a size writes
reached_first start r rs a size writes some h =
    let from : start ≤ a = omega (arith, ints, h.from) in
    let to : a + size ≤ start + length r.bytes = omega (arith, ints, h.to) in
    let count = page_count r rs in
    record {
      from = from;
      to = omega (arith, to, count);
      right = r.writable;
      may = h.may;
      pages = λ k low high. first_right (pages_for (length r.bytes)) r.writable (page_rights rs) k (omega (arith, high, to));
      bytes = λ i less.
          let within : a + i < start + length r.bytes = omega (arith, less, to) in
          let place : a + i - start < 4096 * pages_for (length r.bytes) = omega (arith, within) in
          ap (λ o. or_else o (byte_in (placed_from (behind start r) rs) (a + i))) (is_byte (placed_at start r) (a + i) (omega (arith, from)) within)
          ∙ ap Some (sym (laid_front r rs (a + i - start) place));
    }

reached_later : (start : ℕ) (r : Region) (rs : List Region) (a size : ℕ) (writes : Bool) → LiesInOne (behind start r) rs a size writes → LiesInOne start (r ∷ rs) a size writes
reached_later start r rs a size writes h =
    let p = pages_for (length r.bytes) in
    let count = page_count r rs in
    let from : start + 4096 * p ≤ a = h.from in
    let to : a + size ≤ start + 4096 * p + 4096 * length (page_rights rs) = h.to in
    record {
      from = omega (arith, from);
      to = omega (arith, to, count);
      right = h.right;
      may = h.may;
      pages = λ k low high.
          let past : p ≤ k = omega (arith, low, from) in
          later_right p r.writable (page_rights rs) k h.right past (h.pages (k - p) (omega (arith, low, past)) (omega (arith, high, past)));
      bytes = λ i less.
          let place : a + i - start - 4096 * p ≡ a + i - behind start r = omega arith in
          ap (λ o. or_else o (byte_in (placed_from (behind start r) rs) (a + i))) (no_byte (placed_at start r) (a + i) (omega (arith, from)))
          ∙ h.bytes i less ∙ ap Some (sym (laid_behind r rs (a + i - start) (omega (arith, from)) ∙ ap (λ j. slice_index (laid rs) j) place));
    }

reached_from : (start : ℕ) (rs : List Region) (a size : ℕ) (writes : Bool) → 0 < size → one_holds (pos a) (pos (a + size)) writes (placed_from start rs) ≡ true → LiesInOne start rs a size writes
reached_from start [] a size writes some e = absurd cc
reached_from start (r ∷ rs) a size writes some e = by (reached_from (behind start r) rs a size writes some) (region_holds (pos a) (pos (a + size)) writes (placed_at start r)) refl e
  where
    by : (one_holds (pos a) (pos (a + size)) writes (placed_from (behind start r) rs) ≡ true → LiesInOne (behind start r) rs a size writes)
        → (t : Bool) → region_holds (pos a) (pos (a + size)) writes (placed_at start r) ≡ t →
        (t || one_holds (pos a) (pos (a + size)) writes (placed_from (behind start r) rs)) ≡ true → LiesInOne start (r ∷ rs) a size writes
    by later true held _ = reached_first start r rs a size writes some (held_by (pos a) (pos (a + size)) writes (placed_at start r) held)
    by later false held e = reached_later start r rs a size writes (later e)

pub reached : (rs : List Region) (a size : ℕ) (writes : Bool) → 0 < size → in_one_region rs a size writes ≡ true → LiesInOne data_start rs a size writes
unfolding holds
reached rs a size writes some e = reached_from data_start rs a size writes some e

-- some addresses of an interval that is held
pub held_part : (rs : List Region) (low high lower higher : ℤ) (writes : Bool) → lower ≤ℤ low → high ≤ℤ higher → holds rs lower higher writes ≡ true → holds rs low high writes ≡ true
unfolding holds
held_part rs low high lower higher writes l h e = fewer_held low high lower higher writes (placed rs) l h e

-- where what is held lies
bounds_from : (start : ℕ) (rs : List Region) (low high : ℤ) (writes : Bool) → one_holds low high writes (placed_from start rs) ≡ true →
    (pos start ≤ℤ low) × (high ≤ℤ pos (start + 4096 * length (page_rights rs)))
bounds_from start [] low high writes e = absurd cc
bounds_from start (r ∷ rs) low high writes e = by (bounds_from (behind start r) rs low high writes) (region_holds low high writes (placed_at start r)) refl e
  where
    by : (one_holds low high writes (placed_from (behind start r) rs) ≡ true → (pos (behind start r) ≤ℤ low) × (high ≤ℤ pos (behind start r + 4096 * length (page_rights rs))))
        → (t : Bool) → region_holds low high writes (placed_at start r) ≡ t → (t || one_holds low high writes (placed_from (behind start r) rs)) ≡ true →
        (pos start ≤ℤ low) × (high ≤ℤ pos (start + 4096 * length (page_rights (r ∷ rs))))
    by later true held _ =
        let h = held_by low high writes (placed_at start r) held in
        let count = page_count r rs in
        (h.from, omega (arith, ints, h.to, count))
    by later false held e =
        let h = later e in
        let count = page_count r rs in
        (omega (arith, ints, h.0), omega (arith, ints, h.1, count))

pub held_bounds : (rs : List Region) (low high : ℤ) (writes : Bool) → holds rs low high writes ≡ true → (pos data_start ≤ℤ low) × (high ≤ℤ pos (data_start + 4096 * length (page_rights rs)))
unfolding holds
held_bounds rs low high writes e = bounds_from data_start rs low high writes e

-- ---- they lie apart

apart_from : (from start : ℕ) (rs : List Region) → from ≤ start → start % 4096 ≡ 0 → start + 4096 * length (page_rights rs) ≤ DATA_END → LieApart from (placed_from start rs)
apart_from from start [] past page room = omega (arith, past, room)
apart_from from start (r ∷ rs) past page room =
    let count = page_count r rs in
    let p = pages_for (length r.bytes) in
    let next : start + length r.bytes ≤ start + 4096 * p = omega arith in
    let page_next : (start + 4096 * p) % 4096 ≡ 0 = omega (arith, page) in
    (past, page, apart_from (start + length r.bytes) (behind start r) rs next page_next (omega (arith, room, count)))

pub lie_apart : (rs : List Region) → length (page_rights rs) ≤ 64 → LieApart data_start (placed rs)
lie_apart rs few = apart_from data_start data_start rs (omega arith) refl (omega (arith, few))

-- ---- each is a byte

pub laid_bytes : (rs : List Region) → AllByRecursion IsTypedRegion rs → AreBytes (laid rs)
laid_bytes [] all i = omega arith
laid_bytes (r ∷ rs) all i =
    elim (cases_lt i (4096 * pages_for (length r.bytes))) [
      | inl less ↦ rw (laid_front r rs i less) (all.0 i)
      | inr past ↦ rw (laid_behind r rs i past) (laid_bytes rs all.1 (i - 4096 * pages_for (length r.bytes)))
    ]

pub data_is_byte : (rs : List Region) (a b : ℕ) → AllByRecursion IsTypedRegion rs → data_at rs a ≡ Some b → b < 2 ^ 8
data_is_byte rs a b all e = let l = data_lies_at rs a b e in rw (← l.is) (laid_bytes rs all (a - data_start))
