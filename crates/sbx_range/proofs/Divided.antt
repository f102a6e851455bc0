-- Quotients lie in their ranges.
use Rattle.std.proofs.Common.{◌≡◌, ℕ, ◌+◌, ◌-◌, ◌*◌, ◌/◌, ◌^◌, ◌<◌, ◌≤◌, true, sym, ap, ◌∙◌, subst, arith}
use Rattle.std.specs.Prelude.{◌&&◌, ℤ, pos, negsuc, ◌≤ℤ◌, int_lt, int_div, min}
use Rattle.std.specs.Int.{cast_signed, w64}
use Rattle.std.proofs.lemmas.Nat.{le-div}
use Rattle.std.proofs.Math.Nat.{div-mul-le_self, div-le_self, mul-le-mul_left}
use Rattle.std.proofs.lemmas.Int.{ints}
use Rattle.v8_alu.specs.Icc.{Icc}
use Rattle.v8_alu.specs.Outcomes.{divided}
use Rattle.v8_alu.specs.Results.{signed, dividend, quotient, signed_quotient, nearest_word}
use Rattle.v8_alu.specs.declared.Division.{Division}
use Rattle.v8_alu.specs.declared.Division.TheVariants.{Udiv, UdivCc, Sdiv, SdivCc}
use Rattle.sbx_image.specs.Range.{Range}
use Rattle.sbx_range.specs.Ranges.{InInterval, range, is_natural, is_zero}
use Rattle.sbx_range.specs.Rows.{range_divide, divides_naturals}
use Rattle.sbx_range.proofs.Words.{signed-natural, natural-word, is_zero-word, in_all, by_test, both_true}

nearest-word : (z : ℤ) → nearest_word z < 2 ^ 32
nearest-word (pos n) = omega (arith, ints)
nearest-word (negsuc n) = omega (arith, ints)

-- a quotient is a word, whatever the divisor
pub divided-word : (op : Division) (x y : ℕ) (icc : Icc) (high : ℕ) → (divided op x y icc high).value < 2 ^ 32
unfolding divided
divided-word Udiv x y icc high = omega arith
divided-word UdivCc x y icc high = omega arith
divided-word Sdiv x y icc high = nearest-word (signed_quotient high x y)
divided-word SdivCc x y icc high = nearest-word (signed_quotient high x y)

-- without Y, of numbers that are not negative, all four divisions give the plain quotient
unsigned-plain : (x y : ℕ) → x < 2 ^ 31 → min (quotient 0 x y) (2 ^ 32 - 1) ≡ x / y
unsigned-plain x y small =
    let e = div-le_self x y in
    let d : dividend 0 x ≡ x = omega arith in
    let q : quotient 0 x y ≡ x / y = ap (λ n. n / y) d in
    omega arith

signed-plain : (x y : ℕ) → x < 2 ^ 31 → y < 2 ^ 31 → nearest_word (signed_quotient 0 x y) ≡ x / y
signed-plain x y small tiny =
    let e = div-le_self x y in
    let read_x : cast_signed w64 (0 * 2 ^ 32 + x) ≡ pos x = omega (arith, ints) in
    let read_y : signed y ≡ pos y = signed-natural y tiny in
    let q : signed_quotient 0 x y ≡ pos (x / y) = ap (λ z. int_div z (signed y)) read_x ∙ ap (int_div (pos x)) read_y in
    ap nearest_word q ∙ (omega (arith, ints))

divided-plain : (op : Division) (x y : ℕ) (icc : Icc) → x < 2 ^ 31 → y < 2 ^ 31 → (divided op x y icc 0).value ≡ x / y
unfolding divided
divided-plain Udiv x y icc small tiny = unsigned-plain x y small
divided-plain UdivCc x y icc small tiny = unsigned-plain x y small
divided-plain Sdiv x y icc small tiny = signed-plain x y small tiny
divided-plain SdivCc x y icc small tiny = signed-plain x y small tiny

positive : (z : ℤ) → int_lt (pos 0) z ≡ true → pos 1 ≤ℤ z
positive z h = grind (arith, ints)

div-less : (a b m n : ℕ) → a ≤ b → 0 < n → n ≤ m → a / m ≤ b / n
div-less a b m n ab some nm =
    let e = div-mul-le_self a m in
    let f : a / m * n ≤ a / m * m = mul-le-mul_left {m = n} {n = m} (a / m) nm in
    le-div (a / m) b n some (omega arith)

between-quotients : (l h m n : ℤ) (x y : ℕ) → is_natural l ≡ true → pos 1 ≤ℤ m → 0 < y → l ≤ℤ pos x → pos x ≤ℤ h → m ≤ℤ pos y → pos y ≤ℤ n
    → (int_div l n ≤ℤ pos (x / y)) × (pos (x / y) ≤ℤ int_div h m)
between-quotients (pos l) (pos h) (pos m) (pos n) x y t one some lx xh my yn =
    let low : l / n ≤ x / y = div-less l x n y (omega (arith, ints)) some (omega (arith, ints)) in
    let high : x / y ≤ h / m = div-less x h y m (omega (arith, ints)) (omega (arith, ints)) (omega (arith, ints)) in
    (omega (arith, ints), omega (arith, ints))
between-quotients (negsuc l) h m n x y t one some lx xh my yn = absurd (cc)
between-quotients (pos l) (negsuc h) m n x y t one some lx xh my yn = absurd (omega (arith, ints))
between-quotients (pos l) (pos h) (negsuc m) n x y t one some lx xh my yn = absurd (omega (arith, ints))
between-quotients (pos l) (pos h) (pos m) (negsuc n) x y t one some lx xh my yn = absurd (omega (arith, ints))

from-one : (m : ℤ) → pos 1 ≤ℤ m → is_natural m ≡ true
from-one m h = grind (arith, ints)

some-divisor : (m : ℤ) (y : ℕ) → pos 1 ≤ℤ m → m ≤ℤ pos y → 0 < y
some-divisor m y h g = omega (arith, ints)

naturals : (op : Division) (a b : Range) (x y : ℕ) (icc : Icc) → x < 2 ^ 32 → y < 2 ^ 32 → is_natural a.lo ≡ true → int_lt (pos 0) b.lo ≡ true → InInterval a x → InInterval b y
    → InInterval (range (int_div a.lo b.hi) (int_div a.hi b.lo) 0) (divided op x y icc 0).value
naturals op a b x y icc p q t v s u =
    let one = positive b.lo v in
    let small = natural-word a.lo x p t s.low in
    let tiny = natural-word b.lo y q (from-one b.lo one) u.low in
    let rx : signed x ≡ pos x = signed-natural x small in
    let ry : signed y ≡ pos y = signed-natural y tiny in
    let lx : a.lo ≤ℤ pos x = rw (← rx) s.low in
    let hx : pos x ≤ℤ a.hi = rw (← rx) s.high in
    let ly : b.lo ≤ℤ pos y = rw (← ry) u.low in
    let hy : pos y ≤ℤ b.hi = rw (← ry) u.high in
    let less = div-le_self x y in
    let read : signed (x / y) ≡ pos (x / y) = signed-natural (x / y) (omega arith) in
    let h = between-quotients a.lo a.hi b.lo b.hi x y t one (some-divisor b.lo y one ly) lx hx ly hy in
    let at : InInterval (range (int_div a.lo b.hi) (int_div a.hi b.lo) 0) (x / y) = record { low = rw read h.0; high = rw read h.1 } in
    subst (InInterval (range (int_div a.lo b.hi) (int_div a.hi b.lo) 0)) (sym (divided-plain op x y icc small tiny)) at

pub in_range_divide : (op : Division) (above a b : Range) (high x y : ℕ) (icc : Icc) → high < 2 ^ 32 → x < 2 ^ 32 → y < 2 ^ 32 → InInterval above high → InInterval a x → InInterval b y
    → InInterval (range_divide above a b) (divided op x y icc high).value
unfolding range_divide
in_range_divide op above a b high x y icc r p q v s u =
    by_test (divides_naturals above a b) (λ r. InInterval r (divided op x y icc high).value) _ _
    (λ t. let both = both_true (is_zero above && is_natural a.lo) (int_lt (pos 0) b.lo && int_lt (pos 0) b.hi) t in
    let first = both_true (is_zero above) (is_natural a.lo) both.0 in
    let second = both_true (int_lt (pos 0) b.lo) (int_lt (pos 0) b.hi) both.1 in
    let none : high ≡ 0 = is_zero-word above high r first.0 v in
    let F : ℕ → Type 0 = λ n. InInterval (range (int_div a.lo b.hi) (int_div a.hi b.lo) 0) (divided op x y icc n).value in
    subst F (sym none) (naturals op a b x y icc p q first.1 second.0 s u))
    (λ _. in_all 0 (divided op x y icc high).value (divided-word op x y icc high))
