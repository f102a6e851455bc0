-- Shifts lie in their ranges.
use Rattle.std.proofs.Common.{◌≡◌, ℕ, suc, ◌+◌, ◌-◌, ◌*◌, ◌/◌, ◌%◌, ◌^◌, ◌<◌, ◌≤◌, Bool, true, false, ◌||◌, refl, sym, ap, ◌∙◌, subst, arith, inl, inr, ◌⊎◌}
use Rattle.std.specs.Prelude.{◌==◌, if◌then◌else◌, ℤ, pos, negsuc, ◌+ℤ◌, ◌*ℤ◌, ◌≤ℤ◌, min}
use Rattle.std.proofs.lemmas.Nat.{pow_pos, le-div, shr_le, shr_below}
use Rattle.std.proofs.Math.Nat.{div-mul-le_self, one-le-mul}
use Rattle.std.proofs.lemmas.Bool.Decides.{nat_tests, Decides-eqb}
use lib.Pow.{pow_mono}
use Rattle.std.proofs.lemmas.Int.{ints}
use Rattle.v8_alu.specs.Results.{signed, shifted_left, shifted_right, shifted_right_signed}
use Rattle.sbx_image.specs.Range.{Range}
use Rattle.sbx_range.specs.Ranges.{InInterval, fit, is_single, is_natural}
use Rattle.sbx_range.specs.Rows.{count_of, halved, halved_range, range_sll, range_srl, range_sra}
use Rattle.sbx_range.proofs.Words.{signed-word, signed-low, signed-high, signed-natural, signed-written, written-below, natural-word, single-word, in_fit, in_all, by_test}
use Rattle.sbx_range.proofs.Products.{mul-le_z}

div-le : (a b n : ℕ) → 0 < n → a ≤ b → a / n ≤ b / n
div-le a b n some h = let g = div-mul-le_self a n in le-div (a / n) b n some (omega arith)

-- rounding down keeps the order
pub halved-le : (a b : ℤ) (k : ℕ) → a ≤ℤ b → halved a k ≤ℤ halved b k
halved-le (pos a) (pos b) k h = let e = div-le a b (2 ^ k) (pow_pos k) (omega (arith, ints)) in omega (arith, ints)
halved-le (pos a) (negsuc b) k h = absurd (omega (arith, ints))
halved-le (negsuc a) (pos b) k h = omega (arith, ints)
halved-le (negsuc a) (negsuc b) k h = let e = div-le b a (2 ^ k) (pow_pos k) (omega (arith, ints)) in omega (arith, ints)

-- and moves no number past the words
pub halved-word : (a : ℤ) (k : ℕ) → negsuc 2147483647 ≤ℤ a → a ≤ℤ pos 2147483647 → (negsuc 2147483647 ≤ℤ halved a k) × (halved a k ≤ℤ pos 2147483647)
halved-word (pos a) k l h = let e = shr_le a k in (omega (arith, ints), omega (arith, ints))
halved-word (negsuc a) k l h = let e = shr_le a k in (omega (arith, ints), omega (arith, ints))

-- ---- SRA

-- the word that SRA gives, and its reading
pub sra-word : (x y : ℕ) → x < 2 ^ 32 → shifted_right_signed x y < 2 ^ 32
sra-word x y p = let w = halved-word (signed x) (y % 32) (signed-low x p) (signed-high x p) in written-below (halved (signed x) (y % 32)) w.0 w.1

pub signed-sra : (x y : ℕ) → x < 2 ^ 32 → signed (shifted_right_signed x y) ≡ halved (signed x) (y % 32)
signed-sra x y p = let w = halved-word (signed x) (y % 32) (signed-low x p) (signed-high x p) in signed-written _ w.0 w.1

pub in_range_sra : (a b : Range) (x y : ℕ) → x < 2 ^ 32 → y < 2 ^ 32 → InInterval a x → InInterval b y → InInterval (range_sra a b) (shifted_right_signed x y)
unfolding range_sra
in_range_sra a b x y p q s u =
    let P : Range → Type 0 = λ r. InInterval r (shifted_right_signed x y) in
    let same : signed (shifted_right_signed x y) ≡ halved (signed x) (y % 32) = signed-sra x y p in
    by_test (is_single b) P _ _
    (λ t. let e : count_of b ≡ y % 32 = ap (λ n. n % 32) (single-word b y q t u) in
    record { low = rw (same, e) (halved-le a.lo (signed x) (y % 32) s.low); high = rw (same, e) (halved-le (signed x) a.hi (y % 32) s.high) })
    (λ _. by_test (is_natural a.lo) P _ _
    (λ t. let small = natural-word a.lo x p t s.low in
    let r : signed x ≡ pos x = signed-natural x small in
    let high : signed x ≤ℤ a.hi = s.high in
    let e : halved (signed x) (y % 32) ≡ pos (x / 2 ^ (y % 32)) = ap (λ z. halved z (y % 32)) r in
    let less = shr_le x (y % 32) in
    record { low = rw (same, e) (omega (arith, ints)); high = rw (same, e) (omega (arith, ints)) })
    (λ _. in_all 0 _ (sra-word x y p)))

-- ---- SLL: a signed number times p, where the product is a signed word

times-natural : (n x p : ℕ) → x ≡ n → x * p < 2 ^ 31 → signed ((x * p) % 2 ^ 32) ≡ pos (n * p)
times-natural n x p e b =
    let whole : (x * p) % 2 ^ 32 ≡ n * p = rw (← e) (omega arith) in
    signed-natural ((x * p) % 2 ^ 32) (omega arith) ∙ ap pos whole

times-negative : (n x p : ℕ) → x + suc n ≡ 2 ^ 32 → 1 ≤ p → suc n * p ≤ 2 ^ 31 → (x * p) % 2 ^ 32 + suc n * p ≡ 2 ^ 32
times-negative n x p e one b =
    let d = ap (λ k. k * p) e in
    omega arith

signed-times-z : (z : ℤ) (x p : ℕ) → x < 2 ^ 32 → signed x ≡ z → 1 ≤ p → negsuc 2147483647 ≤ℤ (z *ℤ pos p) → (z *ℤ pos p) ≤ℤ pos 2147483647 → signed ((x * p) % 2 ^ 32) ≡ z *ℤ pos p
signed-times-z (pos n) x p b e one low high =
    let c = signed-word x b in
    let same : x ≡ n = grind (arith, ints) in
    let le : n * p ≤ 2147483647 = omega (arith, ints) in
    let small : x * p < 2 ^ 31 = rw same (omega arith) in
    times-natural n x p same small
signed-times-z (negsuc n) x p b e one low high =
    let c = signed-word x b in
    let same : x + suc n ≡ 2 ^ 32 = grind (arith, ints) in
    let le : suc n * p ≤ 2 ^ 31 = omega (arith, ints) in
    let some : 1 ≤ suc n * p = one-le-mul (omega arith) one in
    let t = times-negative n x p same one le in
    let d = signed-word ((x * p) % 2 ^ 32) (omega arith) in
    let g : (signed ((x * p) % 2 ^ 32) +ℤ pos (2 ^ 32)) ≡ pos ((x * p) % 2 ^ 32) = elim d [ inl w ↦ absurd (let f = w.1 in omega arith) | inr w ↦ w.0 ] in
    omega (arith, ints)

pub in_range_sll : (a b : Range) (x y : ℕ) → x < 2 ^ 32 → y < 2 ^ 32 → InInterval a x → InInterval b y → InInterval (range_sll a b) (shifted_left x y)
unfolding range_sll
in_range_sll a b x y p q s u =
    let P : Range → Type 0 = λ r. InInterval r (shifted_left x y) in
    by_test (is_single b) P _ _
    (λ t. let e : count_of b ≡ y % 32 = ap (λ n. n % 32) (single-word b y q t u) in
    let n = 2 ^ (y % 32) in
    let some : 1 ≤ 2 ^ (y % 32) = pow_pos (y % 32) in
    let at : InInterval (fit (a.lo *ℤ pos n) (a.hi *ℤ pos n) (min 3 (a.alignment + (y % 32)))) (shifted_left x y) =
    in_fit (a.lo *ℤ pos n) (a.hi *ℤ pos n) (signed x *ℤ pos n) (min 3 (a.alignment + (y % 32))) (shifted_left x y) (omega arith)
    (mul-le_z a.lo (signed x) n s.low) (mul-le_z (signed x) a.hi n s.high) (signed-times-z (signed x) x n p refl some) in
    let F : ℕ → Type 0 = λ k. InInterval (fit (a.lo *ℤ pos (2 ^ k)) (a.hi *ℤ pos (2 ^ k)) (min 3 (a.alignment + k))) (shifted_left x y) in
    subst F (sym e) at)
    (λ _. in_all a.alignment (shifted_left x y) (omega arith))

-- ---- SRL

srl-natural : (a : Range) (x k : ℕ) → x < 2 ^ 31 → InInterval a x → InInterval (halved_range a k) (x / 2 ^ k)
srl-natural a x k small s =
    let less = shr_le x k in
    let r : signed x ≡ pos x = signed-natural x small in
    let after : signed (x / 2 ^ k) ≡ pos (x / 2 ^ k) = signed-natural (x / 2 ^ k) (omega arith) in
    let e : halved (signed x) k ≡ signed (x / 2 ^ k) = ap (λ z. halved z k) r ∙ sym after in
    record { low = rw e at (halved-le a.lo (signed x) k s.low); high = rw e at (halved-le (signed x) a.hi k s.high) }

halved-none : (z : ℤ) → halved z 0 ≡ z
halved-none (pos a) = omega (arith, ints)
halved-none (negsuc a) = omega (arith, ints)

srl-none : (a : Range) (x k : ℕ) → k ≡ 0 → InInterval a x → InInterval (halved_range a k) (x / 2 ^ k)
srl-none a x k e s =
    let G : ℕ → Type 0 = λ k. InInterval (halved_range a k) (x / 2 ^ k) in
    let w : x / 2 ^ 0 ≡ x = omega arith in
    subst G (sym e) (record { low = rw (halved-none a.lo, w) s.low; high = rw (halved-none a.hi, w) s.high })

shr-small : (x k : ℕ) → x < 2 ^ 32 → 1 ≤ k → k < 32 → (x / 2 ^ k ≤ 2 ^ (32 - k) - 1) × (x / 2 ^ k < 2 ^ 31)
shr-small x k p some top =
    let e : 32 - k + k ≡ 32 = omega arith in
    let F : ℕ → Type 0 = λ n. x < 2 ^ n in
    let b : x / 2 ^ k < 2 ^ (32 - k) = shr_below x (32 - k) k (subst F (sym e) p) in
    let m : 2 ^ (32 - k) ≤ 2 ^ 31 = pow_mono {i = 32 - k} {j = 31} (omega arith) in
    (omega arith, omega arith)

or-cases : (t u : Bool) → t || u ≡ true → (t ≡ true) ⊎ (u ≡ true)
or-cases true u h = inl refl
or-cases false u h = inr h

not-zero : (t : Bool) (k : ℕ) → t || (k == 0) ≡ false → 1 ≤ k
not-zero true k h = absurd (cc)
not-zero false k h = grind (arith, nat_tests)

-- the row by a count that is known
abbrev srl_by : Range → ℕ → Range
srl_by a k = if is_natural a.lo || k == 0 then halved_range a k else fit (pos 0) (pos (2 ^ (32 - k) - 1)) (a.alignment - k)

srl-by : (a : Range) (x k : ℕ) → x < 2 ^ 32 → k < 32 → InInterval a x → InInterval (srl_by a k) (x / 2 ^ k)
srl-by a x k p top s =
    by_test (is_natural a.lo || k == 0) (λ r. InInterval r (x / 2 ^ k)) (halved_range a k) (fit (pos 0) (pos (2 ^ (32 - k) - 1)) (a.alignment - k))
    (λ t. elim (or-cases (is_natural a.lo) (k == 0) t) [
      | inl n ↦ srl-natural a x k (natural-word a.lo x p n s.low) s
      | inr z ↦ (let e : k ≡ 0 = (Decides-eqb k 0).0 z in srl-none a x k e s)
    ])
    (λ f. let some : 1 ≤ k = not-zero (is_natural a.lo) k f in
    let b = shr-small x k p some top in
    let small : x / 2 ^ k < 2 ^ 31 = b.1 in
    let after : signed (x / 2 ^ k) ≡ pos (x / 2 ^ k) = signed-natural (x / 2 ^ k) small in
    let most = b.0 in
    in_fit (pos 0) (pos (2 ^ (32 - k) - 1)) (pos (x / 2 ^ k)) (a.alignment - k) (x / 2 ^ k) (omega arith) (omega (arith, ints)) (omega (arith, ints)) (λ l h. after))

pub in_range_srl : (a b : Range) (x y : ℕ) → x < 2 ^ 32 → y < 2 ^ 32 → InInterval a x → InInterval b y → InInterval (range_srl a b) (shifted_right x y)
unfolding range_srl
in_range_srl a b x y p q s u =
    let P : Range → Type 0 = λ r. InInterval r (shifted_right x y) in
    let less = shr_le x (y % 32) in
    by_test (is_single b) P _ _
    (λ t. let e : count_of b ≡ y % 32 = ap (λ n. n % 32) (single-word b y q t u) in
    let F : ℕ → Type 0 = λ k. InInterval (srl_by a k) (shifted_right x y) in
    subst F (sym e) (srl-by a x (y % 32) p (omega arith) s))
    (λ _. by_test (is_natural a.lo) P _ _
    (λ t. let small = natural-word a.lo x p t s.low in
    let r : signed x ≡ pos x = signed-natural x small in
    let after : signed (shifted_right x y) ≡ pos (x / 2 ^ (y % 32)) = signed-natural (x / 2 ^ (y % 32)) (omega arith) in
    let high : signed x ≤ℤ a.hi = s.high in
    record { low = rw after (omega (arith, ints)); high = rw after (omega (arith, ints)) })
    (λ _. in_all 0 (shifted_right x y) (omega arith)))
