-- A register file keeps its shape.
use Rattle.std.proofs.Common.{◌≡◌, ◌≢◌, ℕ, ◌^◌, ◌<◌, ◌≤◌, Bool, true, false, List, [], length, get_or, refl, sym, ◌∙◌, subst, arith}
use Rattle.std.specs.Prelude.{slice_index, slice_set, ◌==◌}
use Rattle.std.proofs.lemmas.Bool.Decides.{nat_tests}
use Rattle.std.proofs.lemmas.List.{get_or-set_same, get_or-set_other, length-set}
use Rattle.v8_windows.specs.Halves.{AreRegisters}
use Rattle.v8_windows.specs.Windows.{AreGlobals, AreRows}

-- words stay words
pub fit_written : (xs : List ℕ) (k x i : ℕ) → ((j : ℕ) → slice_index xs j < 2 ^ 32) → k < length xs → x < 2 ^ 32 → slice_index (slice_set xs k x) i < 2 ^ 32
fit_written xs k x i fit there small = by_place (i == k) refl
  where
    by_place : (t : Bool) → (i == k) ≡ t → slice_index (slice_set xs k x) i < 2 ^ 32
    by_place true e =
        let same : i ≡ k = grind (arith, nat_tests) in
        let is : slice_index (slice_set xs k x) i ≡ x = rw same (get_or-set_same xs k x 0 there) in
        rw is small
    by_place false e =
        let other : i ≢ k = grind (arith, nat_tests) in
        let is : slice_index (slice_set xs k x) i ≡ slice_index xs i = get_or-set_other xs k i x 0 other in
        rw is (fit i)

-- registers stay registers, where any but the first is written
pub registers_written : (registers : List ℕ) (r x : ℕ) → AreRegisters registers → 1 ≤ r → r < 32 → x < 2 ^ 32 → AreRegisters (slice_set registers r x)
registers_written registers r x h some bound small =
    let there : r < length registers = omega (arith, h.count) in
    let other : 0 ≢ r = omega arith in
    record {
      count = length-set registers r x ∙ h.count;
      zero = get_or-set_other registers r 0 x 0 other ∙ h.zero;
      fit = λ i. fit_written registers r x i h.fit there small;
    }

pub globals_written : (globals : List ℕ) (r x : ℕ) → AreGlobals globals → r < 8 → x < 2 ^ 32 → AreGlobals (slice_set globals r x)
globals_written globals r x h low small =
    let there : r < length globals = omega (arith, h.count) in
    record { count = length-set globals r x ∙ h.count; fit = λ i. fit_written globals r x i h.fit there small }

-- the row of window v after a write to window w
row_by : (n : ℕ) (words : List (List ℕ)) (w k x v : ℕ) (P : List ℕ → Type 0) → w < length words → P (slice_set (get_or words w []) k x) →
    P (get_or words v []) → P (get_or (slice_set words w (slice_set (get_or words w []) k x)) v [])
row_by n words w k x v P there here elsewhere = by_window (v == w) refl
  where
    by_window : (t : Bool) → (v == w) ≡ t → P (get_or (slice_set words w (slice_set (get_or words w []) k x)) v [])
    by_window true e =
        let same : w ≡ v = grind (arith, nat_tests) in
        subst (λ i. P (get_or (slice_set words w (slice_set (get_or words w []) k x)) i [])) same
        (subst P (sym (get_or-set_same words w (slice_set (get_or words w []) k x) [] there)) here)
    by_window false e =
        let other : v ≢ w = grind (arith, nat_tests) in
        subst P (sym (get_or-set_other words w v (slice_set (get_or words w []) k x) [] other)) elsewhere

pub rows_written : (n : ℕ) (words : List (List ℕ)) (w k x : ℕ) → AreRows n words → w < n → k < 16 → x < 2 ^ 32 → AreRows n (slice_set words w (slice_set (get_or words w []) k x))
rows_written n words w k x h less room small =
    let there : w < length words = omega (arith, h.count) in
    let long : length (get_or words w []) ≡ 16 = h.each w less in
    let within : k < length (get_or words w []) = omega (arith, long) in
    record {
      count = length-set words w (slice_set (get_or words w []) k x) ∙ h.count;
      each = λ v less'. row_by n words w k x v (λ row. length row ≡ 16) there (length-set (get_or words w []) k x ∙ long) (h.each v less');
      fit = λ v i. row_by n words w k x v (λ row. slice_index row i < 2 ^ 32) there (fit_written (get_or words w []) k x i (h.fit w) within small) (h.fit v i);
    }

pub ruleset shapes = (globals_written, rows_written)
