-- The windows' rows while a window's locals and ins are loaded, word by word.
--   refilled           the rows after so many words
--   are_rows           they are rows
--   loaded_word        what a place holds whose word was loaded
--   kept_word          any other place is as before
--   with_row           rows with another row for a window
use Rattle.std.proofs.Common.{◌≡◌, ◌≢◌, ℕ, zero, suc, ◌+◌, ◌-◌, ◌^◌, ◌<◌, ◌≤◌, ◌⊎◌, inl, inr, Bool, true, false, List, [], length, get_or, refl, sym, ap, ◌∙◌, subst, arith}
use Rattle.std.specs.Prelude.{slice_index, slice_set, nat_lt, ◌==◌, if◌then◌else◌}
use Rattle.std.proofs.lemmas.Bool.Decides.{nat_tests}
use Rattle.std.proofs.lemmas.List.{get_or-set_same, get_or-set_other, length-set}
use Rattle.v8_core.specs.Windows.{AreRows}
use Rattle.v8_windows.proofs.Shape.{rows_written}
use Rattle.v8_loaded.proofs.Stages.{with_cell}

-- the window and the place that word k goes to: first the locals of window m, then its ins, which are the outs of window a
abbrev pub home : ℕ → ℕ → ℕ → ℕ
home m a k = if nat_lt k 8 then m else a

abbrev pub spot : ℕ → ℕ
spot k = if nat_lt k 8 then 8 + k else k - 8

abbrev pub refilled : List (List ℕ) → ℕ → ℕ → (ℕ → ℕ) → ℕ → List (List ℕ)
refilled rows m a v zero = rows
refilled rows m a v (suc k) = with_cell (refilled rows m a v k) (home m a k) (spot k) (v k)

-- what is known of the rows, the two windows and the words
pub record Loading (n : ℕ) (rows : List (List ℕ)) (m a : ℕ) (v : ℕ → ℕ) : Type 0 where
  pub shape : AreRows n rows
  pub first : m < n
  pub second : a < n
  pub apart : m ≢ a
  pub fit : (i : ℕ) → i < 16 → v i < 2 ^ 32

pub home_low : (m a k : ℕ) → k < 8 → home m a k ≡ m
home_low m a k small = grind (arith, nat_tests)

pub home_high : (m a k : ℕ) → 8 ≤ k → home m a k ≡ a
home_high m a k big = grind (arith, nat_tests)

pub spot_low : (k : ℕ) → k < 8 → spot k ≡ 8 + k
spot_low k small = grind (arith, nat_tests)

pub spot_high : (k : ℕ) → 8 ≤ k → spot k ≡ k - 8
spot_high k big = grind (arith, nat_tests)

home_within : (n m a k : ℕ) → m < n → a < n → home m a k < n
home_within n m a k p q =
    let side : (k < 8) ⊎ (8 ≤ k) = search arith in
    elim side [
      | inl small ↦ subst (λ x. x < n) (sym (home_low m a k small)) p
      | inr big ↦ subst (λ x. x < n) (sym (home_high m a k big)) q
    ]

spot_within : (k : ℕ) → k < 16 → spot k < 16
spot_within k few =
    let side : (k < 8) ⊎ (8 ≤ k) = search arith in
    elim side [
      | inl small ↦ let e = spot_low k small in omega arith
      | inr big ↦ let e = spot_high k big in omega arith
    ]

pub are_rows : (n : ℕ) (rows : List (List ℕ)) (m a : ℕ) (v : ℕ → ℕ) (k : ℕ) → Loading n rows m a v → k ≤ 16 →
    AreRows n (refilled rows m a v k)
are_rows n rows m a v zero l few = l.shape
are_rows n rows m a v (suc k) l few =
    rows_written n (refilled rows m a v k) (home m a k) (spot k) (v k) (are_rows n rows m a v k l (omega arith))
    (home_within n m a k l.first l.second) (spot_within k (omega arith)) (l.fit k (omega arith))

-- the word itself
cell_on : (n : ℕ) (rows : List (List ℕ)) (u j x : ℕ) → AreRows n rows → u < n → j < 16 →
    slice_index (get_or (with_cell rows u j x) u []) j ≡ x
cell_on n rows u j x shape less small =
    let count = shape.count in
    let long = shape.each u less in
    ap (λ (xs : List ℕ). slice_index xs j) (get_or-set_same rows u (slice_set (get_or rows u []) j x) [] (omega (arith, count)))
    ∙ get_or-set_same (get_or rows u []) j x 0 (omega (arith, long))

-- any other
cell_off : (n : ℕ) (rows : List (List ℕ)) (w i x u j : ℕ) → AreRows n rows → w < n → (u ≢ w) ⊎ (j ≢ i) →
    slice_index (get_or (with_cell rows w i x) u []) j ≡ slice_index (get_or rows u []) j
cell_off n rows w i x u j shape less apart =
    let row = slice_set (get_or rows w []) i x in
    elim apart [
      | inl other ↦ ap (λ (xs : List ℕ). slice_index xs j) (get_or-set_other rows w u row [] other)
      | inr other ↦ by_window (u == w) refl other
    ]
  where
    by_window : (t : Bool) → (u == w) ≡ t → j ≢ i →
        slice_index (get_or (with_cell rows w i x) u []) j ≡ slice_index (get_or rows u []) j
    by_window true e other =
        let same : u ≡ w = grind (arith, nat_tests) in
        let count = shape.count in
        ap (λ q. slice_index (get_or (with_cell rows w i x) q []) j) same
        ∙ ap (λ (xs : List ℕ). slice_index xs j) (get_or-set_same rows w (slice_set (get_or rows w []) i x) [] (omega (arith, count)))
        ∙ get_or-set_other (get_or rows w []) i j x 0 other
        ∙ ap (λ q. slice_index (get_or rows q []) j) (sym same)
    by_window false e other =
        let beside : u ≢ w = grind (arith, nat_tests) in
        ap (λ (xs : List ℕ). slice_index xs j) (get_or-set_other rows w u (slice_set (get_or rows w []) i x) [] beside)

pub kept_word : (n : ℕ) (rows : List (List ℕ)) (m a : ℕ) (v : ℕ → ℕ) (k u j : ℕ) → Loading n rows m a v → k ≤ 16 →
    ((i : ℕ) → i < k → (u ≢ home m a i) ⊎ (j ≢ spot i)) →
    slice_index (get_or (refilled rows m a v k) u []) j ≡ slice_index (get_or rows u []) j
kept_word n rows m a v zero u j l few apart = refl
kept_word n rows m a v (suc k) u j l few apart =
    cell_off n (refilled rows m a v k) (home m a k) (spot k) (v k) u j (are_rows n rows m a v k l (omega arith)) (home_within n m a k l.first l.second) (apart k (omega arith))
    ∙ kept_word n rows m a v k u j l (omega arith) (λ i less. apart i (omega arith))

-- two words go to two places
two_places : (m a i k : ℕ) → m ≢ a → i < k → k < 16 → (home m a i ≢ home m a k) ⊎ (spot i ≢ spot k)
two_places m a i k apart less few =
    let side : (k < 8) ⊎ (8 ≤ k) = search arith in
    let low_side : (i < 8) ⊎ (8 ≤ i) = search arith in
    elim side [
      | inl small ↦ inr (λ e. let p = spot_low i (omega arith) in let q = spot_low k small in omega arith)
      | inr big ↦ elim low_side [
        | inl low ↦ inl (λ e. apart (sym (home_low m a i low) ∙ e ∙ home_high m a k big))
        | inr high ↦ inr (λ e. let p = spot_high i high in let q = spot_high k big in omega arith)
      ]
    ]

pub loaded_word : (n : ℕ) (rows : List (List ℕ)) (m a : ℕ) (v : ℕ → ℕ) (k i : ℕ) → Loading n rows m a v → k ≤ 16 →
    i < k →
    slice_index (get_or (refilled rows m a v k) (home m a i) []) (spot i) ≡ v i
loaded_word n rows m a v zero i l few less = absurd (omega arith)
loaded_word n rows m a v (suc k) i l few less =
    let split : (i < k) ⊎ (i ≡ k) = search arith in
    let shape = are_rows n rows m a v k l (omega arith) in
    let within = home_within n m a k l.first l.second in
    elim split [
      | inl before ↦
          cell_off n (refilled rows m a v k) (home m a k) (spot k) (v k) (home m a i) (spot i) shape within (two_places m a i k l.apart before (omega arith))
          ∙ loaded_word n rows m a v k i l (omega arith) before
      | inr same ↦
          ap (λ q. slice_index (get_or (refilled rows m a v (suc k)) (home m a q) []) (spot q)) same
          ∙ cell_on n (refilled rows m a v k) (home m a k) (spot k) (v k) shape within (spot_within k (omega arith))
          ∙ ap v (sym same)
    ]

-- another row for window w
pub with_row : (n : ℕ) (rows : List (List ℕ)) (w : ℕ) (row : List ℕ) → AreRows n rows → w < n → length row ≡ 16 →
    ((j : ℕ) → slice_index row j < 2 ^ 32) → AreRows n (slice_set rows w row)
with_row n rows w row shape less long fit =
    record {
      count = length-set rows w row ∙ shape.count;
      each = λ u small. by_window u (λ xs. length xs ≡ 16) (u == w) refl long (shape.each u small);
      fit = λ u j. by_window u (λ xs. slice_index xs j < 2 ^ 32) (u == w) refl (fit j) (shape.fit u j);
    }
  where
    by_window : (u : ℕ) (P : List ℕ → Type 0) (t : Bool) → (u == w) ≡ t → P row → P (get_or rows u []) →
        P (get_or (slice_set rows w row) u [])
    by_window u P true e here elsewhere =
        let same : w ≡ u = grind (arith, nat_tests) in
        let count = shape.count in
        subst (λ i. P (get_or (slice_set rows w row) i [])) same (subst P (sym (get_or-set_same rows w row [] (omega (arith, count)))) here)
    by_window u P false e here elsewhere =
        let other : u ≢ w = grind (arith, nat_tests) in
        subst P (sym (get_or-set_other rows w u row [] other)) elsewhere
