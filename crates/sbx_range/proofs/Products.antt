-- Products lie in their ranges.
use Rattle.std.proofs.Common.{◌≡◌, ℕ, suc, ◌*◌, ◌^◌, ◌<◌, ◌≤◌, true, arith, inl, inr, ◌⊎◌}
use Rattle.std.specs.Prelude.{ℤ, pos, negsuc, ◌*ℤ◌, ◌≤ℤ◌}
use Rattle.std.specs.Int.{cast_unsigned, w64, int_min, int_max}
use Rattle.std.proofs.Math.Nat.{mul-le-mul_right}
use Rattle.std.proofs.lemmas.Nat.{mod_below, mul-le}
use Rattle.std.proofs.lemmas.Int.{ints, clamps}
use Rattle.v8_alu.specs.Results.{signed, signed_product, low_word}
use Rattle.sbx_image.specs.Range.{Range}
use Rattle.sbx_range.specs.Ranges.{InInterval, is_natural, both_natural}
use Rattle.sbx_range.specs.Rows.{product_alignment, range_smul, range_umul, least_product, greatest_product, least_of, greatest_of}
use Rattle.sbx_range.proofs.Words.{signed-word, signed-natural, in_fit, in_all, by_test, both_true}
use Rattle.sbx_range.proofs.Bitwise.{are_natural}

pub mul-le_z : (a b : ℤ) (n : ℕ) → a ≤ℤ b → (a *ℤ pos n) ≤ℤ (b *ℤ pos n)
mul-le_z (pos a) (pos b) n h = let e = mul-le-mul_right {m = a} {n = b} n (omega (arith, ints)) in omega (arith, ints)
mul-le_z (pos a) (negsuc b) n h = absurd (omega (arith, ints))
mul-le_z (negsuc a) (pos b) n h = omega (arith, ints)
mul-le_z (negsuc a) (negsuc b) n h = let e = mul-le-mul_right {m = b} {n = a} n (omega (arith, ints)) in omega (arith, ints)

mul-le_z_turned : (a b : ℤ) (n : ℕ) → a ≤ℤ b → (b *ℤ negsuc n) ≤ℤ (a *ℤ negsuc n)
mul-le_z_turned a b n h = let e = mul-le_z a b (suc n) h in omega (arith, ints)

mul_comm_z : (a b : ℤ) → a *ℤ b ≡ b *ℤ a
mul_comm_z a b = omega (arith, ints)

between : (a b p : ℤ) → ((a ≤ℤ p) × (p ≤ℤ b)) ⊎ ((b ≤ℤ p) × (p ≤ℤ a)) → (int_min a b ≤ℤ p) × (p ≤ℤ int_max a b)
between a b p (inl t) = let l = t.0 in let h = t.1 in (omega (arith, ints, clamps), omega (arith, ints, clamps))
between a b p (inr t) = let l = t.0 in let h = t.1 in (omega (arith, ints, clamps), omega (arith, ints, clamps))

-- a product lies between those at the ends of its first factor
pub between-first : (l h x y : ℤ) → l ≤ℤ x → x ≤ℤ h → (int_min (l *ℤ y) (h *ℤ y) ≤ℤ (x *ℤ y)) × ((x *ℤ y) ≤ℤ int_max (l *ℤ y) (h *ℤ y))
between-first l h x (pos n) low high =
    between (l *ℤ pos n) (h *ℤ pos n) (x *ℤ pos n) (inl (mul-le_z l x n low, mul-le_z x h n high))
between-first l h x (negsuc n) low high =
    between (l *ℤ negsuc n) (h *ℤ negsuc n) (x *ℤ negsuc n) (inr (mul-le_z_turned x h n high, mul-le_z_turned l x n low))

between-second : (l h x y : ℤ) → l ≤ℤ y → y ≤ℤ h → (int_min (x *ℤ l) (x *ℤ h) ≤ℤ (x *ℤ y)) × ((x *ℤ y) ≤ℤ int_max (x *ℤ l) (x *ℤ h))
between-second l h x y low high = rw (mul_comm_z x y, mul_comm_z x l, mul_comm_z x h) (between-first l h y x low high)

four : (a b c d p q r : ℤ) → int_min p q ≤ℤ r → r ≤ℤ int_max p q → int_min a b ≤ℤ p → p ≤ℤ int_max a b → int_min c d ≤ℤ q → q ≤ℤ int_max c d → (least_of a b c d ≤ℤ r) × (r ≤ℤ greatest_of a b c d)
unfolding least_of greatest_of
four a b c d p q r h1 h2 h3 h4 h5 h6 = (omega (arith, ints, clamps), omega (arith, ints, clamps))

pub product-between : (l h m n x y : ℤ) → l ≤ℤ x → x ≤ℤ h → m ≤ℤ y → y ≤ℤ n
    → (least_of (l *ℤ m) (l *ℤ n) (h *ℤ m) (h *ℤ n) ≤ℤ (x *ℤ y)) × ((x *ℤ y) ≤ℤ greatest_of (l *ℤ m) (l *ℤ n) (h *ℤ m) (h *ℤ n))
product-between l h m n x y lx xh my yn =
    let f = between-first l h x y lx xh in
    let g = between-second m n l y my yn in
    let k = between-second m n h y my yn in
    four (l *ℤ m) (l *ℤ n) (h *ℤ m) (h *ℤ n) (l *ℤ y) (h *ℤ y) (x *ℤ y) f.0 f.1 g.0 g.1 k.0 k.1

-- the low word of a product that is a signed word
low_word-written : (z : ℤ) → negsuc 2147483647 ≤ℤ z → z ≤ℤ pos 2147483647 → signed (low_word (cast_unsigned w64 z)) ≡ z
low_word-written (pos n) l h = omega (arith, ints)
low_word-written (negsuc n) l h =
    let d = signed-word (low_word (cast_unsigned w64 (negsuc n))) (omega arith) in
    let small : n ≤ 2147483647 = omega (arith, ints) in
    grind (arith, ints)

pub in_range_smul : (a b : Range) (x y : ℕ) → InInterval a x → InInterval b y → InInterval (range_smul a b) (low_word (signed_product x y))
unfolding range_smul least_product greatest_product
in_range_smul a b x y s u =
    let m = product-between a.lo a.hi b.lo b.hi (signed x) (signed y) s.low s.high u.low u.high in
    in_fit _ _ (signed x *ℤ signed y) _ _ (mod_below _ (2 ^ 32) (omega arith)) m.0 m.1 (low_word-written (signed x *ℤ signed y))

-- ---- UMUL

product-low : (l m : ℤ) (x y : ℕ) → is_natural l ≡ true → is_natural m ≡ true → l ≤ℤ pos x → m ≤ℤ pos y → (l *ℤ m) ≤ℤ pos (x * y)
product-low (pos l) (pos m) x y t u lx my = let e = mul-le l m x y (omega (arith, ints)) (omega (arith, ints)) in omega (arith, ints)
product-low (pos l) (negsuc m) x y t u lx my = absurd (cc)
product-low (negsuc l) m x y t u lx my = absurd (cc)

product-high : (g h : ℤ) (x y : ℕ) → pos x ≤ℤ g → pos y ≤ℤ h → pos (x * y) ≤ℤ (g *ℤ h)
product-high (pos g) (pos h) x y xg yh = let e = mul-le x y g h (omega (arith, ints)) (omega (arith, ints)) in omega (arith, ints)
product-high (pos g) (negsuc h) x y xg yh = absurd (omega (arith, ints))
product-high (negsuc g) h x y xg yh = absurd (omega (arith, ints))

small-product : (n : ℕ) → pos n ≤ℤ pos 2147483647 → signed (low_word n) ≡ pos n
small-product n h = omega (arith, ints)

pub in_range_umul : (a b : Range) (x y : ℕ) → x < 2 ^ 32 → y < 2 ^ 32 → InInterval a x → InInterval b y → InInterval (range_umul a b) (low_word (x * y))
unfolding range_umul
in_range_umul a b x y p q s u =
    let word = mod_below (x * y) (2 ^ 32) (omega arith) in
    by_test (both_natural a b) (λ r. InInterval r (low_word (x * y))) _ _
    (λ t. let both = both_true (is_natural a.lo) (is_natural b.lo) t in
    let n = are_natural a b x y p q t s u in
    let rx : signed x ≡ pos x = signed-natural x n.first in
    let ry : signed y ≡ pos y = signed-natural y n.second in
    let lx : a.lo ≤ℤ pos x = rw (← rx) s.low in
    let hx : pos x ≤ℤ a.hi = rw (← rx) s.high in
    let ly : b.lo ≤ℤ pos y = rw (← ry) u.low in
    let hy : pos y ≤ℤ b.hi = rw (← ry) u.high in
    in_fit _ _ (pos (x * y)) _ _ word
    (product-low a.lo b.lo x y both.0 both.1 lx ly) (product-high a.hi b.hi x y hx hy) (λ l h. small-product (x * y) h))
    (λ _. in_all (product_alignment a b) (low_word (x * y)) word)
