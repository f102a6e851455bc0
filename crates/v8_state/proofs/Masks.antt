use Rattle.std.proofs.Common.{ℕ, ◌≡◌, ◌≤◌, ◌<◌, ◌%◌, ◌^◌, arith}
use Rattle.std.proofs.Math.Nat.{mod-eq_of_lt}
use Rattle.std.proofs.Math.Pow.{pow_mono}

-- the mask of window 1, where there are four windows
pub second_window : (n : ℕ) → 4 ≤ n → 2 % 2 ^ n ≡ 2
second_window n h =
    let most : 2 ^ 4 ≤ 2 ^ n = pow_mono h in
    let lt : 2 < 2 ^ n = omega arith in
    mod-eq_of_lt lt
