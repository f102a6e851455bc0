-- The words of the trap's window, and %g1, as the overflow handler changes them; and its new mask.
use Rattle.std.proofs.Common.{◌≡◌, ℕ, ◌-◌, ◌%◌, ◌^◌, ◌<◌, ◌≤◌, List, length, ap, ◌∙◌, arith}
use Rattle.std.specs.Prelude.{slice_index, slice_set, bit_or, bit_xor}
use Rattle.std.proofs.lemmas.List.{get_or-set_same, get_or-set_other, length-set, set-set, set-get_or}
use Rattle.v8_core.specs.Results.{shifted_left, shifted_right}
use Rattle.v8_core.specs.Windows.{below}
use Rattle.v8_loaded.proofs.Windows.{right_bit}
use Rattle.v8_loaded.proofs.Stages.{fit_written}

-- after rd %wim,%l3 and or %g0,%g1,%l4
abbrev pub row_3 : List ℕ → List ℕ → ℕ → List ℕ
row_3 globals row mask = slice_set (slice_set row 11 mask) 12 (slice_index globals 1)

-- after srl %l3,1,%g1
abbrev pub globals_4 : List ℕ → List ℕ → ℕ → List ℕ
globals_4 globals row mask = slice_set globals 1 (shifted_right (slice_index (row_3 globals row mask) 11) 1)

-- after sll %l3,n-1,%l5
abbrev pub row_5 : ℕ → List ℕ → List ℕ → ℕ → List ℕ
row_5 n globals row mask = slice_set (row_3 globals row mask) 13 (shifted_left (slice_index (row_3 globals row mask) 11) (n - 1))

-- after or %l5,%g1,%g1
abbrev pub globals_6 : ℕ → List ℕ → List ℕ → ℕ → List ℕ
globals_6 n globals row mask = slice_set (globals_4 globals row mask) 1 (bit_or (slice_index (row_5 n globals row mask) 13) (slice_index (globals_4 globals row mask) 1))

-- after or %g0,%l4,%g1
abbrev pub globals_7 : ℕ → List ℕ → List ℕ → ℕ → List ℕ
globals_7 n globals row mask = slice_set (globals_6 n globals row mask) 1 (slice_index (row_5 n globals row mask) 12)

row_3_mask : (globals row : List ℕ) (mask : ℕ) → length row ≡ 16 → slice_index (row_3 globals row mask) 11 ≡ mask
row_3_mask globals row mask sixteen =
    get_or-set_other (slice_set row 11 mask) 12 11 (slice_index globals 1) 0 (omega arith)
    ∙ get_or-set_same row 11 mask 0 (omega arith)

row_3_long : (globals row : List ℕ) (mask : ℕ) → length row ≡ 16 → length (row_3 globals row mask) ≡ 16
row_3_long globals row mask sixteen = length-set (slice_set row 11 mask) 12 (slice_index globals 1)
    ∙ length-set row 11 mask ∙ sixteen

pub row_5_long : (n : ℕ) (globals row : List ℕ) (mask : ℕ) → length row ≡ 16 → length (row_5 n globals row mask) ≡ 16
row_5_long n globals row mask sixteen = length-set (row_3 globals row mask) 13 (shifted_left (slice_index (row_3 globals row mask) 11) (n - 1))
    ∙ row_3_long globals row mask sixteen

-- the mask that is written is the bit of the window below
pub new_mask : (n w : ℕ) (globals row : List ℕ) → 4 ≤ n → n ≤ 32 → w < n → length globals ≡ 8 → length row ≡ 16 →
    bit_xor (slice_index (globals_6 n globals row (2 ^ w)) 1) 0 % 2 ^ n ≡ 2 ^ below n w
new_mask n w globals row few many within eight sixteen =
    let mask = 2 ^ w in
    let long = row_3_long globals row mask sixteen in
    let held = row_3_mask globals row mask sixteen in
    let left : slice_index (row_5 n globals row mask) 13 ≡ shifted_left mask (n - 1) =
    get_or-set_same (row_3 globals row mask) 13 (shifted_left (slice_index (row_3 globals row mask) 11) (n - 1)) 0 (omega arith)
    ∙ ap (λ x. shifted_left x (n - 1)) held in
    let right : slice_index (globals_4 globals row mask) 1 ≡ shifted_right mask 1 =
    get_or-set_same globals 1 (shifted_right (slice_index (row_3 globals row mask) 11) 1) 0 (omega arith)
    ∙ ap (λ x. shifted_right x 1) held in
    let long_4 : length (globals_4 globals row mask) ≡ 8 = length-set globals 1 (shifted_right (slice_index (row_3 globals row mask) 11) 1)
    ∙ eight in
    let joined : slice_index (globals_6 n globals row mask) 1 ≡ bit_or (shifted_left mask (n - 1)) (shifted_right mask 1) =
    get_or-set_same (globals_4 globals row mask) 1 (bit_or (slice_index (row_5 n globals row mask) 13) (slice_index (globals_4 globals row mask) 1)) 0 (omega arith)
    ∙ ap (λ x. bit_or x (slice_index (globals_4 globals row mask) 1)) left
    ∙ ap (λ y. bit_or (shifted_left mask (n - 1)) y) right in
    ap (λ x. bit_xor x 0 % 2 ^ n) joined ∙ right_bit n w few many within

-- below register 19 the trap's window is as the trap left it
pub row_5_low : (n : ℕ) (globals row : List ℕ) (mask j : ℕ) → j < 11 →
    slice_index (row_5 n globals row mask) j ≡ slice_index row j
row_5_low n globals row mask j small =
    get_or-set_other (row_3 globals row mask) 13 j (shifted_left (slice_index (row_3 globals row mask) 11) (n - 1)) 0 (omega arith)
    ∙ get_or-set_other (slice_set row 11 mask) 12 j (slice_index globals 1) 0 (omega arith)
    ∙ get_or-set_other row 11 j mask 0 (omega arith)

row_5_global : (n : ℕ) (globals row : List ℕ) (mask : ℕ) → length row ≡ 16 →
    slice_index (row_5 n globals row mask) 12 ≡ slice_index globals 1
row_5_global n globals row mask sixteen =
    let long : length (slice_set row 11 mask) ≡ 16 = length-set row 11 mask ∙ sixteen in
    get_or-set_other (row_3 globals row mask) 13 12 (shifted_left (slice_index (row_3 globals row mask) 11) (n - 1)) 0 (omega arith)
    ∙ get_or-set_same (slice_set row 11 mask) 12 (slice_index globals 1) 0 (omega arith)

-- %g1 is back
pub globals_back : (n : ℕ) (globals row : List ℕ) (mask : ℕ) → length row ≡ 16 → globals_7 n globals row mask ≡ globals
globals_back n globals row mask sixteen =
    ap (λ x. slice_set (globals_6 n globals row mask) 1 x) (row_5_global n globals row mask sixteen)
    ∙ set-set (globals_4 globals row mask) 1 (bit_or (slice_index (row_5 n globals row mask) 13) (slice_index (globals_4 globals row mask) 1)) (slice_index globals 1)
    ∙ set-set globals 1 (shifted_right (slice_index (row_3 globals row mask) 11) 1) (slice_index globals 1)
    ∙ set-get_or globals 1 0

-- words stay words
pub row_5_fits : (n : ℕ) (globals row : List ℕ) (mask : ℕ) → length row ≡ 16 → mask < 2 ^ 32 →
    slice_index globals 1 < 2 ^ 32 → ((j : ℕ) → slice_index row j < 2 ^ 32) → (i : ℕ) →
    slice_index (row_5 n globals row mask) i < 2 ^ 32
row_5_fits n globals row mask sixteen small global fit i =
    let long : length (slice_set row 11 mask) ≡ 16 = length-set row 11 mask ∙ sixteen in
    let one = fit_written row 11 mask fit (omega arith) small in
    let two = fit_written (slice_set row 11 mask) 12 (slice_index globals 1) one (omega arith) global in
    let long_3 = row_3_long globals row mask sixteen in
    fit_written (row_3 globals row mask) 13 (shifted_left (slice_index (row_3 globals row mask) 11) (n - 1)) two (omega arith) (omega arith) i
