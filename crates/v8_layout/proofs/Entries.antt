-- The entries of a loaded board's page tables, but for marks.
use Rattle.std.proofs.Common.{◌≡◌, ℕ, ◌+◌, ◌*◌, ◌/◌, ◌%◌, ◌^◌, ◌<◌, ◌≤◌, Bool, true, false, List, Some, refl, arith}
use Rattle.std.specs.Prelude.{◌==◌, nat_lt, if◌then◌else◌}
use Rattle.std.proofs.lemmas.Bool.Decides.{nat_tests}
use Rattle.v8_mmu.specs.Ram.{entry_of}
use Rattle.v8_mmu.specs.Paths.{marked}
use Rattle.v8_mmu.specs.Permissions.{acc_of}
use Rattle.v8_mmu.proofs.WalkedIs.{some_of}
use Rattle.v8_mmu.proofs.RamMore.{marked_high, marked_low}
use Rattle.v8_map.specs.declared.TheConstants.{DATA_PLACE}
use Rattle.v8_layout.specs.Layout.{Pages, HasEntry, data_acc, data_count, data_entry, is_writable, maps_after, unmarked}

unmarked_by : (x w : ℕ) → x / 2 ^ 7 ≡ w / 2 ^ 7 → x % 2 ^ 5 ≡ w % 2 ^ 5 → w % 4 ≡ 2 → (x % 4 ≡ 2) × (unmarked x ≡ unmarked w)
unmarked_by x w high low page =
    let four : x % 4 ≡ 2 = omega arith in
    (four, grind (arith, nat_tests))

-- a mark changes no other bit
pub unmarked_marked : (w : ℕ) (store : Bool) → w % 4 ≡ 2 → (marked w store % 4 ≡ 2) × (unmarked (marked w store) ≡ unmarked w)
unmarked_marked w store page = unmarked_by (marked w store) w (marked_high w store) (marked_low w store) page

-- ---- a page's entry, as the walk reads it

-- the entry at a place of RAM, which is this one but for its marks
pub record PageEntry (ram : List ℕ) (place t : ℕ) : Type 0 where
  pub word : ℕ
  pub there : entry_of ram place ≡ Some word
  pub is : unmarked word ≡ t

pub entry_from : (ram : List ℕ) (place t : ℕ) → HasEntry ram place t → PageEntry ram place t
entry_from ram place t h =
    let found = some_of (entry_of ram place) (λ w. unmarked w ≡ t) h in
    record { word = found.0; there = found.1; is = found.2 }

pub entry_back : (ram : List ℕ) (p t : ℕ) → PageEntry ram p t → HasEntry ram p t
entry_back ram p t e = rw e.there e.is

-- what the walk uses of it
pub record Like (w t : ℕ) : Type 0 where
  pub kind : w % 4 ≡ 2
  pub page : w / 256 ≡ t / 256
  pub rights : acc_of w ≡ acc_of t

pub like : (w t : ℕ) → unmarked w ≡ t → t % 4 ≡ 2 → Like w t
like w t is page = by_kind (w % 4 == 2) refl
  where
    by_kind : (b : Bool) → (w % 4 == 2) ≡ b → Like w t
    by_kind true e =
        let sum : w / 128 * 128 + w % 32 ≡ t = rw e at is in
        record { kind = grind (arith, nat_tests); page = omega arith; rights = omega arith }
    by_kind false e =
        let same : w ≡ t = rw e at is in
        record { kind = omega arith; page = omega arith; rights = omega arith }

-- an entry 0 is 0
pub no_entry : (w : ℕ) → unmarked w ≡ 0 → w ≡ 0
no_entry w is = by_kind (w % 4 == 2) refl
  where
    by_kind : (b : Bool) → (w % 4 == 2) ≡ b → w ≡ 0
    by_kind true e =
        let sum : w / 128 * 128 + w % 32 ≡ 0 = rw e at is in
        let two : w % 4 ≡ 2 = grind (arith, nat_tests) in
        omega arith
    by_kind false e = rw e at is

-- a word that is no page's entry is the same but for marks only as itself
pub unmarked_same : (x w : ℕ) → (w % 4 ≡ 2 → ⊥) → unmarked x ≡ unmarked w → x ≡ w
unmarked_same x w exact is = by_kind (w % 4 == 2) (x % 4 == 2) refl refl
  where
    by_kind : (b c : Bool) → (w % 4 == 2) ≡ b → (x % 4 == 2) ≡ c → x ≡ w
    by_kind true c e f = absurd (exact (grind (arith, nat_tests)))
    by_kind false true e f =
        let sum : x / 128 * 128 + x % 32 ≡ w = rw (e, f) at is in
        let two : x % 4 ≡ 2 = grind (arith, nat_tests) in
        absurd (exact (omega arith))
    by_kind false false e f = rw (e, f) at is

-- ---- the pages of data

-- the entry of the page i, but for marks
abbrev pub data_entry_word : Pages → ℕ → ℕ
data_entry_word g i = maps_after DATA_PLACE (data_acc g i) i

pub acc_small : (g : Pages) (i : ℕ) → data_acc g i ≤ 1
acc_small g i = by_right (is_writable g i)
  where
    by_right : (b : Bool) → (if b then 1 else 0) ≤ 1
    by_right true = omega arith
    by_right false = omega arith

pub data_entry_is : (g : Pages) (i : ℕ) → i < data_count g → data_entry g i ≡ data_entry_word g i
data_entry_is g i less = let there : nat_lt i (data_count g) ≡ true = grind (arith, nat_tests) in rw there refl

pub no_data_entry : (g : Pages) (i : ℕ) → data_count g ≤ i → data_entry g i ≡ 0
no_data_entry g i past = let none : nat_lt i (data_count g) ≡ false = grind (arith, nat_tests) in rw none refl
