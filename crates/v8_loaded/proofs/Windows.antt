-- The windows below and above a window, for 4 to 32 windows, and the mask of one bit.
--   above_below, below_above          the one undoes the other
--   below_within, above_within        they are windows
--   below_differs, above_differs, two_above_differs, three_above_differs     none of these is the window itself
--   below_is_not_above                nor are these two the same
--   right_bit, left_bit               the mask of one bit as the handlers turn it is that of the window below, or above
--   mask_word, mask_within            that mask is a word, and has no bit beyond the windows'
--   masked, not_masked                it forbids its window, and no other
use Rattle.std.proofs.Common.{◌≡◌, ◌≢◌, ℕ, ◌-◌, ◌%◌, ◌^◌, ◌<◌, ◌≤◌, Bool, true, false, refl, arith}
use Rattle.std.specs.Prelude.{◌==◌, bit_or, bit_xor, not, if◌then◌else◌, nat_lt}
use Rattle.std.proofs.lemmas.Bool.Decides.{nat_tests}
use Rattle.v8_core.specs.Results.{shifted_left, shifted_right}
use Rattle.v8_core.specs.Windows.{below, above, is_masked}
use Rattle.v8_loaded.proofs.Upto.{all_below, all_below_at, each_window}

equals : (a b : ℕ) → (a == b) ≡ true → a ≡ b
equals a b e = grind (arith, nat_tests)

differs : (a b : ℕ) → not (a == b) ≡ true → a ≢ b
differs a b e same = grind (arith, nat_tests)

less : (a b : ℕ) → nat_lt a b ≡ true → a < b
less a b e = grind (arith, nat_tests)

pub above_below : (n w : ℕ) → 4 ≤ n → n ≤ 32 → w < n → above n (below n w) ≡ w
above_below n w few many within = equals (above n (below n w)) w (each_window (λ k x. above k (below k x) == x) refl n w few many within)

pub below_above : (n w : ℕ) → 4 ≤ n → n ≤ 32 → w < n → below n (above n w) ≡ w
below_above n w few many within = equals (below n (above n w)) w (each_window (λ k x. below k (above k x) == x) refl n w few many within)

pub below_within : (n w : ℕ) → 4 ≤ n → n ≤ 32 → w < n → below n w < n
below_within n w few many within = less (below n w) n (each_window (λ k x. nat_lt (below k x) k) refl n w few many within)

pub above_within : (n w : ℕ) → 4 ≤ n → n ≤ 32 → w < n → above n w < n
above_within n w few many within = less (above n w) n (each_window (λ k x. nat_lt (above k x) k) refl n w few many within)

pub below_differs : (n w : ℕ) → 4 ≤ n → n ≤ 32 → w < n → below n w ≢ w
below_differs n w few many within = differs (below n w) w (each_window (λ k x. not (below k x == x)) refl n w few many within)

pub above_differs : (n w : ℕ) → 4 ≤ n → n ≤ 32 → w < n → above n w ≢ w
above_differs n w few many within = differs (above n w) w (each_window (λ k x. not (above k x == x)) refl n w few many within)

pub two_above_differs : (n w : ℕ) → 4 ≤ n → n ≤ 32 → w < n → above n (above n w) ≢ w
two_above_differs n w few many within = differs (above n (above n w)) w (each_window (λ k x. not (above k (above k x) == x)) refl n w few many within)

-- with three windows it would be
pub three_above_differs : (n w : ℕ) → 4 ≤ n → n ≤ 32 → w < n → above n (above n (above n w)) ≢ w
three_above_differs n w few many within = differs (above n (above n (above n w))) w (each_window (λ k x. not (above k (above k (above k x)) == x)) refl n w few many within)

pub below_is_not_above : (n w : ℕ) → 4 ≤ n → n ≤ 32 → w < n → below n w ≢ above n w
below_is_not_above n w few many within = differs (below n w) (above n w) (each_window (λ k x. not (below k x == above k x)) refl n w few many within)

-- ---- the mask

-- one place to the right, as the overflow handler's srl, sll, or and wr make it
abbrev pub turned_right : ℕ → ℕ → ℕ
turned_right n mask = bit_xor (bit_or (shifted_left mask (n - 1)) (shifted_right mask 1)) 0 % 2 ^ n

-- one place to the left, as the underflow handler's sll, srl, or and wr make it
abbrev pub turned_left : ℕ → ℕ → ℕ
turned_left n mask = bit_xor (bit_or (shifted_right mask (n - 1)) (shifted_left mask 1)) 0 % 2 ^ n

pub right_bit : (n w : ℕ) → 4 ≤ n → n ≤ 32 → w < n → turned_right n (2 ^ w) ≡ 2 ^ below n w
right_bit n w few many within = equals (turned_right n (2 ^ w)) (2 ^ below n w) (each_window (λ k x. turned_right k (2 ^ x) == 2 ^ below k x) refl n w few many within)

pub left_bit : (n w : ℕ) → 4 ≤ n → n ≤ 32 → w < n → turned_left n (2 ^ w) ≡ 2 ^ above n w
left_bit n w few many within = equals (turned_left n (2 ^ w)) (2 ^ above n w) (each_window (λ k x. turned_left k (2 ^ x) == 2 ^ above k x) refl n w few many within)

pub mask_word : (w : ℕ) → w < 32 → 2 ^ w < 2 ^ 32
mask_word w small = less (2 ^ w) (2 ^ 32) (all_below_at 32 (λ x. nat_lt (2 ^ x) (2 ^ 32)) refl w small)

pub mask_within : (n w : ℕ) → 4 ≤ n → n ≤ 32 → w < n → 2 ^ w < 2 ^ n
mask_within n w few many within = less (2 ^ w) (2 ^ n) (each_window (λ k x. nat_lt (2 ^ x) (2 ^ k)) refl n w few many within)

pub masked : (w : ℕ) → w < 32 → is_masked (2 ^ w) w ≡ true
masked w small = all_below_at 32 (λ x. is_masked (2 ^ x) x) refl w small

abbrev passes_others : ℕ → Bool
passes_others x = all_below 32 (λ y. if x == y then true else not (is_masked (2 ^ x) y))

no_mask : (x y : ℕ) → x ≢ y → (if x == y then true else not (is_masked (2 ^ x) y)) ≡ true → is_masked (2 ^ x) y ≡ false
no_mask x y other here =
    let apart : (x == y) ≡ false = grind (arith, nat_tests) in
    let free : not (is_masked (2 ^ x) y) ≡ true = rw apart at here in
    grind (arith, nat_tests, free)

pub not_masked : (x y : ℕ) → x < 32 → y < 32 → x ≢ y → is_masked (2 ^ x) y ≡ false
not_masked x y a b other =
    let row : passes_others x ≡ true = all_below_at 32 passes_others refl x a in
    no_mask x y other (all_below_at 32 (λ k. if x == k then true else not (is_masked (2 ^ x) k)) row y b)
