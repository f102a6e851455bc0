-- Rows of windows, from their outs and locals.
use Rattle.std.proofs.Common.{◌≡◌, ◌≢◌, ℕ, zero, suc, ◌-◌, ◌^◌, ◌<◌, ◌≤◌, ◌⊎◌, inl, inr, Bool, true, false, List, [], ◌∷◌, ◌++◌, length, get_or, replicate, refl, sym, ap, ◌∙◌, subst, arith, lit<}
use Rattle.std.specs.Prelude.{slice_index, slice_set, ◌==◌}
use Rattle.std.proofs.lemmas.Bool.Decides.{nat_tests}
use Rattle.std.proofs.lemmas.List.{get_or-set_same, get_or-set_other, length-set, length-append, get_or_append_left, get_or-append_right, get_or_past}
use Rattle.std.proofs.lemmas.List.{get_or-replicate, length-replicate, set-append_left, set-append_right, set-get_or}
use Rattle.v8_windows.specs.Halves.{rows_of, IsHalf, AreHalves}
use Rattle.v8_windows.specs.Windows.{AreRows}

pub length-rows : (outs locals : List (List ℕ)) → length outs ≡ length locals → length (rows_of outs locals) ≡ length outs
unfolding rows_of
length-rows [] locals e = refl
length-rows (x ∷ outs) [] e = absurd (omega (arith, e))
length-rows (x ∷ outs) (y ∷ locals) e = ap suc (length-rows outs locals (omega (arith, e)))

-- the row of a window
pub row_is : (outs locals : List (List ℕ)) (w : ℕ) → length outs ≡ length locals → get_or (rows_of outs locals) w [] ≡ get_or outs w [] ++ get_or locals w []
unfolding rows_of
row_is [] [] w e = refl
row_is [] (y ∷ locals) w e = absurd (omega (arith, e))
row_is (x ∷ outs) [] w e = absurd (omega (arith, e))
row_is (x ∷ outs) (y ∷ locals) zero e = refl
row_is (x ∷ outs) (y ∷ locals) (suc w) e = row_is outs locals w (omega (arith, e))

-- a row in the place of another
pub rows_set : (outs locals : List (List ℕ)) (w : ℕ) (a b : List ℕ) → length outs ≡ length locals → slice_set (rows_of outs locals) w (a ++ b) ≡ rows_of (slice_set outs w a) (slice_set locals w b)
unfolding rows_of
rows_set [] [] w a b e = refl
rows_set [] (y ∷ locals) w a b e = absurd (omega (arith, e))
rows_set (x ∷ outs) [] w a b e = absurd (omega (arith, e))
rows_set (x ∷ outs) (y ∷ locals) zero a b e = refl
rows_set (x ∷ outs) (y ∷ locals) (suc w) a b e = ap (λ rows. (x ++ y) ∷ rows) (rows_set outs locals w a b (omega (arith, e)))

-- rows of zeros
pub rows_new : (n : ℕ) → rows_of (replicate n (replicate 8 0)) (replicate n (replicate 8 0)) ≡ replicate n (replicate 16 0)
unfolding rows_of
rows_new zero = refl
rows_new (suc n) = ap (λ rows. replicate 16 0 ∷ rows) (rows_new n)

-- what lies past the last half
half_past : (n w : ℕ) (halves : List (List ℕ)) → AreHalves n halves → n ≤ w → get_or halves w [] ≡ []
half_past n w halves h past = get_or_past halves w [] (omega (arith, h.count))

half_fits : (n w k : ℕ) (halves : List (List ℕ)) → AreHalves n halves → slice_index (get_or halves w []) k < 2 ^ 32
half_fits n w k halves h =
    let split : (w < n) ⊎ (n ≤ w) = search arith in
    elim split [
      | inl less ↦ (h.each w less).fit k
      | inr past ↦ rw (half_past n w halves h past) (lit< tt)
    ]

-- the rows of halves are rows
pub rows_are : (n : ℕ) (outs locals : List (List ℕ)) → AreHalves n outs → AreHalves n locals → AreRows n (rows_of outs locals)
rows_are n outs locals h l =
    let same : length outs ≡ length locals = omega (arith, h.count, l.count) in
    record {
      count = length-rows outs locals same ∙ h.count;
      each = λ w less. ap length (row_is outs locals w same) ∙ long w less;
      fit = λ w k. subst (λ (row : List ℕ). slice_index row k < 2 ^ 32) (sym (row_is outs locals w same)) (fits w k);
    }
  where
    long : (w : ℕ) → w < n → length (get_or outs w [] ++ get_or locals w []) ≡ 16
    long w less =
        let a = (h.each w less).count in
        let b = (l.each w less).count in
        omega (arith, length-append (get_or outs w []) (get_or locals w []), a, b)

    fits : (w k : ℕ) → slice_index (get_or outs w [] ++ get_or locals w []) k < 2 ^ 32
    fits w k =
        let split : (k < length (get_or outs w [])) ⊎ (length (get_or outs w []) ≤ k) = search arith in
        elim split [
          | inl low ↦
              let is : slice_index (get_or outs w [] ++ get_or locals w []) k ≡ slice_index (get_or outs w []) k = get_or_append_left (get_or outs w []) (get_or locals w []) 0 k low in
              rw is (half_fits n w k outs h)
          | inr high ↦
              let is : slice_index (get_or outs w [] ++ get_or locals w []) k ≡ slice_index (get_or locals w []) (k - length (get_or outs w [])) =
              get_or-append_right (get_or outs w []) (get_or locals w []) (length (get_or outs w [])) k 0 refl high in
              rw is (half_fits n w (k - length (get_or outs w [])) locals l)
        ]

-- a half in the place of another
pub halves_set : (n w : ℕ) (halves : List (List ℕ)) (half : List ℕ) → AreHalves n halves → IsHalf half → w < n → AreHalves n (slice_set halves w half)
halves_set n w halves half h fine there = record { count = length-set halves w half ∙ h.count; each = λ v less. by_window v less (v == w) refl }
  where
    by_window : (v : ℕ) → v < n → (t : Bool) → (v == w) ≡ t → IsHalf (get_or (slice_set halves w half) v [])
    by_window v less true e =
        let same : w ≡ v = grind (arith, nat_tests) in
        let within : w < length halves = omega (arith, h.count) in
        subst (λ i. IsHalf (get_or (slice_set halves w half) i [])) same (subst IsHalf (sym (get_or-set_same halves w half [] within)) fine)
    by_window v less false e =
        let other : v ≢ w = grind (arith, nat_tests) in
        subst IsHalf (sym (get_or-set_other halves w v half [] other)) (h.each v less)

-- halves of zeros
pub halves_new : (n : ℕ) → AreHalves n (replicate n (replicate 8 0))
halves_new n = record { count = length-replicate n (replicate 8 0); each = λ w less. subst IsHalf (sym (get_or-replicate n w (replicate 8 0) [] less)) (record { count = refl; fit = zeros }) }
  where
    zeros : (k : ℕ) → slice_index (replicate 8 0) k < 2 ^ 32
    zeros k =
        let split : (k < 8) ⊎ (8 ≤ k) = search arith in
        elim split [
          | inl less ↦ let is : slice_index (replicate 8 0) k ≡ 0 = get_or-replicate {A = ℕ} 8 k 0 0 less in rw is (lit< tt)
          | inr past ↦ let is : slice_index (replicate 8 0) k ≡ 0 = get_or_past (replicate 8 0) k 0 past in rw is (lit< tt)
        ]

-- a word of a row, among the outs and among the locals
pub row_set_out : (outs locals : List (List ℕ)) (w k x : ℕ) → length outs ≡ length locals → k < length (get_or outs w []) →
    slice_set (rows_of outs locals) w (slice_set (get_or (rows_of outs locals) w []) k x) ≡ rows_of (slice_set outs w (slice_set (get_or outs w []) k x)) locals
row_set_out outs locals w k x same low =
    ap (λ row. slice_set (rows_of outs locals) w (slice_set row k x)) (row_is outs locals w same)
    ∙ ap (slice_set (rows_of outs locals) w) (set-append_left (get_or outs w []) (get_or locals w []) k x low)
    ∙ rows_set outs locals w (slice_set (get_or outs w []) k x) (get_or locals w []) same
    ∙ ap (rows_of (slice_set outs w (slice_set (get_or outs w []) k x))) (set-get_or locals w [])

pub row_set_local : (outs locals : List (List ℕ)) (w k x : ℕ) → length outs ≡ length locals → length (get_or outs w []) ≡ 8 → 8 ≤ k →
    slice_set (rows_of outs locals) w (slice_set (get_or (rows_of outs locals) w []) k x) ≡ rows_of outs (slice_set locals w (slice_set (get_or locals w []) (k - 8) x))
row_set_local outs locals w k x same long high =
    ap (λ row. slice_set (rows_of outs locals) w (slice_set row k x)) (row_is outs locals w same)
    ∙ ap (slice_set (rows_of outs locals) w) (set-append_right (get_or outs w []) (get_or locals w []) 8 k x long high)
    ∙ rows_set outs locals w (get_or outs w []) (slice_set (get_or locals w []) (k - 8) x) same
    ∙ ap (λ o. rows_of o (slice_set locals w (slice_set (get_or locals w []) (k - 8) x))) (set-get_or outs w [])
