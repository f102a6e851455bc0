-- The words of the window that the trap entered, as the handler leaves them.
--   row_1, row_3, row_4, row_5     after the words that write one
--   low_kept                       the outs, PC and nPC are there still
--   long, fit                      sixteen words
--   turned                         the new mask
use Rattle.std.proofs.Common.{◌≡◌, ℕ, ◌-◌, ◌%◌, ◌^◌, ◌<◌, ◌≤◌, List, length, ap, ◌∙◌, arith}
use Rattle.std.specs.Prelude.{slice_index, slice_set, bit_or, bit_xor}
use Rattle.std.proofs.lemmas.List.{get_or-set_same, get_or-set_other, length-set}
use Rattle.std.proofs.lemmas.Nat.{or_lt}
use Rattle.v8_core.specs.Results.{shifted_left, shifted_right}
use Rattle.v8_core.specs.Windows.{above}
use Rattle.v8_loaded.proofs.Windows.{left_bit}
use Rattle.v8_loaded.proofs.Stages.{fit_written}

abbrev pub row_1 : List ℕ → ℕ → List ℕ
row_1 row mask = slice_set row 11 mask

abbrev pub row_3 : List ℕ → ℕ → List ℕ
row_3 row mask = slice_set (row_1 row mask) 12 (shifted_left (slice_index (row_1 row mask) 11) 1)

abbrev pub row_4 : ℕ → List ℕ → ℕ → List ℕ
row_4 n row mask = slice_set (row_3 row mask) 13 (shifted_right (slice_index (row_3 row mask) 11) (n - 1))

abbrev pub row_5 : ℕ → List ℕ → ℕ → List ℕ
row_5 n row mask = slice_set (row_4 n row mask) 12 (bit_or (slice_index (row_4 n row mask) 13) (slice_index (row_4 n row mask) 12))

pub low_kept : (n : ℕ) (row : List ℕ) (mask j : ℕ) → j < 11 → slice_index (row_5 n row mask) j ≡ slice_index row j
low_kept n row mask j small =
    get_or-set_other (row_4 n row mask) 12 j (bit_or (slice_index (row_4 n row mask) 13) (slice_index (row_4 n row mask) 12)) 0 (omega arith)
    ∙ get_or-set_other (row_3 row mask) 13 j (shifted_right (slice_index (row_3 row mask) 11) (n - 1)) 0 (omega arith)
    ∙ get_or-set_other (row_1 row mask) 12 j (shifted_left (slice_index (row_1 row mask) 11) 1) 0 (omega arith)
    ∙ get_or-set_other row 11 j mask 0 (omega arith)

pub long_3 : (row : List ℕ) (mask : ℕ) → length row ≡ 16 → length (row_3 row mask) ≡ 16
long_3 row mask sixteen = length-set (row_1 row mask) 12 (shifted_left (slice_index (row_1 row mask) 11) 1)
    ∙ length-set row 11 mask ∙ sixteen

pub long_4 : (n : ℕ) (row : List ℕ) (mask : ℕ) → length row ≡ 16 → length (row_4 n row mask) ≡ 16
long_4 n row mask sixteen = length-set (row_3 row mask) 13 (shifted_right (slice_index (row_3 row mask) 11) (n - 1))
    ∙ long_3 row mask sixteen

pub long : (n : ℕ) (row : List ℕ) (mask : ℕ) → length row ≡ 16 → length (row_5 n row mask) ≡ 16
long n row mask sixteen = length-set (row_4 n row mask) 12 (bit_or (slice_index (row_4 n row mask) 13) (slice_index (row_4 n row mask) 12))
    ∙ long_4 n row mask sixteen

-- the mask, and the two parts of the new one
mask_read : (row : List ℕ) (mask : ℕ) → length row ≡ 16 → slice_index (row_1 row mask) 11 ≡ mask
mask_read row mask sixteen = get_or-set_same row 11 mask 0 (omega arith)

mask_read_3 : (row : List ℕ) (mask : ℕ) → length row ≡ 16 → slice_index (row_3 row mask) 11 ≡ mask
mask_read_3 row mask sixteen = get_or-set_other (row_1 row mask) 12 11 (shifted_left (slice_index (row_1 row mask) 11) 1) 0 (omega arith)
    ∙ mask_read row mask sixteen

left_part : (n : ℕ) (row : List ℕ) (mask : ℕ) → length row ≡ 16 →
    slice_index (row_4 n row mask) 12 ≡ shifted_left mask 1
left_part n row mask sixteen =
    let size : length (row_1 row mask) ≡ 16 = length-set row 11 mask ∙ sixteen in
    get_or-set_other (row_3 row mask) 13 12 (shifted_right (slice_index (row_3 row mask) 11) (n - 1)) 0 (omega arith)
    ∙ get_or-set_same (row_1 row mask) 12 (shifted_left (slice_index (row_1 row mask) 11) 1) 0 (omega (arith, size))
    ∙ ap (λ x. shifted_left x 1) (mask_read row mask sixteen)

right_part : (n : ℕ) (row : List ℕ) (mask : ℕ) → length row ≡ 16 →
    slice_index (row_4 n row mask) 13 ≡ shifted_right mask (n - 1)
right_part n row mask sixteen =
    let size = long_3 row mask sixteen in
    get_or-set_same (row_3 row mask) 13 (shifted_right (slice_index (row_3 row mask) 11) (n - 1)) 0 (omega (arith, size))
    ∙ ap (λ x. shifted_right x (n - 1)) (mask_read_3 row mask sixteen)

joined : (n : ℕ) (row : List ℕ) (mask : ℕ) → length row ≡ 16 →
    slice_index (row_5 n row mask) 12 ≡ bit_or (shifted_right mask (n - 1)) (shifted_left mask 1)
joined n row mask sixteen =
    let size = long_4 n row mask sixteen in
    get_or-set_same (row_4 n row mask) 12 (bit_or (slice_index (row_4 n row mask) 13) (slice_index (row_4 n row mask) 12)) 0 (omega (arith, size))
    ∙ ap (λ x. bit_or x (slice_index (row_4 n row mask) 12)) (right_part n row mask sixteen)
    ∙ ap (λ x. bit_or (shifted_right mask (n - 1)) x) (left_part n row mask sixteen)

pub turned : (n m : ℕ) (row : List ℕ) → 4 ≤ n → n ≤ 32 → m < n → length row ≡ 16 →
    bit_xor (slice_index (row_5 n row (2 ^ m)) 12) 0 % 2 ^ n ≡ 2 ^ above n m
turned n m row few many within sixteen = ap (λ x. bit_xor x 0 % 2 ^ n) (joined n row (2 ^ m) sixteen)
    ∙ left_bit n m few many within

-- ---- words stay words

shifted_fits : (x k : ℕ) → x < 2 ^ 32 → shifted_right x k < 2 ^ 32
shifted_fits x k small = omega arith

pub fit : (n : ℕ) (row : List ℕ) (mask j : ℕ) → length row ≡ 16 → mask < 2 ^ 32 → ((i : ℕ) →
    slice_index row i < 2 ^ 32) → slice_index (row_5 n row mask) j < 2 ^ 32
fit n row mask j sixteen small each =
    let size : length (row_1 row mask) ≡ 16 = length-set row 11 mask ∙ sixteen in
    let size_3 = long_3 row mask sixteen in
    let size_4 = long_4 n row mask sixteen in
    let fit_1 : (i : ℕ) → slice_index (row_1 row mask) i < 2 ^ 32 = fit_written row 11 mask each (omega arith) small in
    let fit_3 : (i : ℕ) → slice_index (row_3 row mask) i < 2 ^ 32 = fit_written (row_1 row mask) 12 (shifted_left (slice_index (row_1 row mask) 11) 1) fit_1 (omega (arith, size)) (omega arith) in
    let fit_4 : (i : ℕ) → slice_index (row_4 n row mask) i < 2 ^ 32 =
    fit_written (row_3 row mask) 13 (shifted_right (slice_index (row_3 row mask) 11) (n - 1)) fit_3 (omega (arith, size_3))
    (shifted_fits (slice_index (row_3 row mask) 11) (n - 1) (fit_3 11)) in
    fit_written (row_4 n row mask) 12 (bit_or (slice_index (row_4 n row mask) 13) (slice_index (row_4 n row mask) 12)) fit_4 (omega (arith, size_4))
    (or_lt 32 (slice_index (row_4 n row mask) 13) (slice_index (row_4 n row mask) 12) (fit_4 13) (fit_4 12)) j
