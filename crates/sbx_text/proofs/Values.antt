-- The value of digits as they are read from the left.
use Rattle.std.proofs.Common.{◌≡◌, ℕ, suc, ◌+◌, ◌*◌, ◌≤◌, ◌<◌, List, [], ◌∷◌, drop, length, refl, get_or, arith, ◌∙◌, ap}
use Rattle.std.proofs.Math.Nat.{mul-le-mul_left}
use Rattle.std.proofs.Math.Seq.{drop-cons}
use Rattle.std.specs.Str.Parse.{digits_value_after}
use Rattle.std.specs.Char.{digit_value}

-- more digits never make the value less
pub grows : (radix n : ℕ) (ds : List ℕ) → 1 ≤ radix → n ≤ digits_value_after radix n ds
grows radix n [] h = omega arith
grows radix n (d ∷ ds) h =
    let more : n * 1 ≤ n * radix = mul-le-mul_left n h in
    let rest : n * radix + digit_value d ≤ digits_value_after radix (n * radix + digit_value d) ds = grows radix (n * radix + digit_value d) ds h in
    omega arith

-- one digit more
pub one_more : (radix n i d : ℕ) (ds : List ℕ) → i < length ds → d ≡ get_or ds i 0
    → digits_value_after radix n (drop i ds) ≡ digits_value_after radix (n * radix + digit_value d) (drop (i + 1) ds)
one_more radix n i d ds h e =
    let k : i + 1 ≡ suc i = omega arith in
    ap (digits_value_after radix n) (drop-cons ds i 0 h) ∙ rw (k, e) refl
