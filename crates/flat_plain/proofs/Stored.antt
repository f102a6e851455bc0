-- Numbers of several bytes in memory, by one byte more.
use Rattle.std.proofs.Common.{◌≡◌, ◌≢◌, ℕ, zero, suc, ◌+◌, ◌*◌, ◌-◌, ◌/◌, ◌%◌, ◌^◌, ◌<◌, ◌≤◌, ◌⊎◌, inl, inr, Bool, true, false, Option, Some, None, refl, sym, ap, ◌∙◌, subst, arith}
use Rattle.std.specs.Prelude.{◌==◌, ◌&&◌, nat_lt, nat_le, if◌then◌else◌, IsSome}
use Rattle.std.proofs.lemmas.Bool.Decides.{nat_tests}
use Rattle.std.proofs.lemmas.Nat.{pow-add, shr-shr}
use Rattle.std.proofs.Math.Pow.{pow_mono}
use Rattle.sbx_flat.specs.Memory.{Bytes, byte_of, followed_by, number_at, with_number}
use Rattle.flat_plain.specs.Shows.{if_some}

-- one more byte
pub more_bits : (count front byte : ℕ) → count ≢ 0 → front < 2 ^ (8 * (count - 1)) → byte < 256 → front * 256 + byte < 2 ^ (8 * count)
more_bits count front byte some small low =
    let e : 8 * count ≡ 8 * (count - 1) + 8 = omega arith in
    let p : 2 ^ (8 * count) ≡ 2 ^ (8 * (count - 1)) * 2 ^ 8 = ap (λ k. 2 ^ k) e ∙ pow-add 2 (8 * (count - 1)) 8 in
    omega (arith, p)

pub few_bits : (count : ℕ) → count ≤ 8 → 2 ^ (8 * count) ≤ 2 ^ 64
few_bits count few = pow_mono {i = 8 * count} {j = 64} (omega arith)

last_some : (front last : Option ℕ) → IsSome (followed_by front last) → IsSome last
last_some None last h = absurd (cc)
last_some (Some n) None h = absurd (cc)
last_some (Some n) (Some byte) h = refl

written_some : (o : Option ℕ) (v : ℕ) → IsSome o → if_some o v ≡ Some v
written_some None v h = absurd (cc)
written_some (Some w) v h = refl

is_within : (low high a : ℕ) → low ≤ a → a < high → (nat_le low a && nat_lt a high) ≡ true
is_within low high a from less = grind (arith, nat_tests)

is_apart : (low high a : ℕ) → (a < low) ⊎ (high ≤ a) → (nat_le low a && nat_lt a high) ≡ false
is_apart low high a (inl less) = grind (arith, nat_tests)
is_apart low high a (inr past) = grind (arith, nat_tests)

module _ (bytes mid new : Bytes) (address c n : ℕ) (there : IsSome (number_at bytes address (suc c))) (front : (a : ℕ) →
    mid a ≡ with_number bytes address c (n / 256) a) (last : (a : ℕ) → new a ≡ (if a == address + c then if_some (mid a) (n % 256) else mid a)) where
  -- outside of the number
  apart : (count m a : ℕ) → (nat_le address a && nat_lt a (address + count)) ≡ false → with_number bytes address count m a ≡ bytes a
  apart count m a e = ap (λ (b : Bool). if b then Some (byte_of count m (a - address)) else bytes a) e

  inside : (count m a : ℕ) → (nat_le address a && nat_lt a (address + count)) ≡ true → with_number bytes address count m a ≡ Some (byte_of count m (a - address))
  inside count m a e = ap (λ (b : Bool). if b then Some (byte_of count m (a - address)) else bytes a) e

  same_byte : (k : ℕ) → k < c → byte_of c (n / 256) k ≡ byte_of (suc c) n k
  same_byte k less =
      let e : 8 + 8 * (c - 1 - k) ≡ 8 * (suc c - 1 - k) = omega arith in
      ap (λ q. q % 2 ^ 8) (shr-shr n 8 (8 * (c - 1 - k)) ∙ ap (λ j. n / 2 ^ j) e)

  at_last : (a : ℕ) → a ≡ address + c → new a ≡ with_number bytes address (suc c) n a
  at_last a e =
      let here : (a == address + c) ≡ true = grind (arith, nat_tests) in
      let outside : (nat_le address a && nat_lt a (address + c)) ≡ false = is_apart address (address + c) a (inr (omega arith)) in
      let within : (nat_le address a && nat_lt a (address + suc c)) ≡ true = is_within address (address + suc c) a (omega arith) (omega arith) in
      let byte : IsSome (bytes a) = subst (λ k. IsSome (bytes k)) (sym e) (last_some (number_at bytes address c) (bytes (address + c)) there) in
      let none : 8 * (suc c - 1 - (a - address)) ≡ 0 = omega arith in
      let low_byte : n % 256 ≡ n / 2 ^ 0 % 2 ^ 8 = omega arith in
      last a ∙ ap (λ (b : Bool). if b then if_some (mid a) (n % 256) else mid a) here
      ∙ ap (λ o. if_some o (n % 256)) (front a ∙ apart c (n / 256) a outside)
      ∙ written_some (bytes a) (n % 256) byte
      ∙ ap Some low_byte
      ∙ ap (λ j. Some (n / 2 ^ j % 2 ^ 8)) (sym none)
      ∙ sym (inside (suc c) n a within)

  elsewhere : (a : ℕ) → a ≢ address + c → new a ≡ mid a
  elsewhere a e = let no : (a == address + c) ≡ false = grind (arith, nat_tests) in last a ∙ ap (λ (b : Bool). if b then if_some (mid a) (n % 256) else mid a) no

  before : (a : ℕ) → address ≤ a → a < address + c → new a ≡ with_number bytes address (suc c) n a
  before a low high =
      let within : (nat_le address a && nat_lt a (address + c)) ≡ true = is_within address (address + c) a low high in
      let still_within : (nat_le address a && nat_lt a (address + suc c)) ≡ true = is_within address (address + suc c) a low (omega arith) in
      elsewhere a (λ e. omega arith) ∙ front a ∙ inside c (n / 256) a within ∙ ap Some (same_byte (a - address) (omega arith)) ∙ sym (inside (suc c) n a still_within)

  outside_of : (a : ℕ) → (a < address) ⊎ (address + c < a) → new a ≡ with_number bytes address (suc c) n a
  outside_of a out =
      let none : (nat_le address a && nat_lt a (address + c)) ≡ false =
      elim out [ inl low ↦ is_apart address (address + c) a (inl low) | inr high ↦ is_apart address (address + c) a (inr (omega arith)) ] in
      let still_none : (nat_le address a && nat_lt a (address + suc c)) ≡ false =
      elim out [ inl low ↦ is_apart address (address + suc c) a (inl low) | inr high ↦ is_apart address (address + suc c) a (inr (omega arith)) ] in
      let other : a ≢ address + c = elim out [ inl low ↦ λ e. omega arith | inr high ↦ λ e. omega arith ] in
      elsewhere a other ∙ front a ∙ apart c (n / 256) a none ∙ sym (apart (suc c) n a still_none)

  by_place : (a : ℕ) → (a < address) ⊎ (address ≤ a) → (a < address + c) ⊎ (address + c ≤ a) → (a ≡ address + c) ⊎ (a ≢ address + c) → new a ≡ with_number bytes address (suc c) n a
  by_place a (inl low) q r = outside_of a (inl low)
  by_place a (inr from) (inl high) r = before a from high
  by_place a (inr from) (inr past) (inl same) = at_last a same
  by_place a (inr from) (inr past) (inr other) = outside_of a (inr (omega arith))

  stores_more : (a : ℕ) → new a ≡ with_number bytes address (suc c) n a
  stores_more a = by_place a (search arith) (search arith) (search arith)

pub stored : (bytes mid new : Bytes) (address count place n : ℕ) → count ≢ 0 → place ≡ address + count - 1 → IsSome (number_at bytes address count) →
    ((a : ℕ) → mid a ≡ with_number bytes address (count - 1) (n / 256) a) → ((a : ℕ) → new a ≡ (if a == place then if_some (mid a) (n % 256) else mid a)) →
    (a : ℕ) → new a ≡ with_number bytes address count n a
stored bytes mid new address zero place n some at there front last a = absurd (some refl)
stored bytes mid new address (suc c) place n some at there front last a =
    let p : place ≡ address + c = omega arith in
    let e : suc c - 1 ≡ c = omega arith in
    stores_more bytes mid new address c n there (λ x. front x ∙ ap (λ k. with_number bytes address k (n / 256) x) e)
    (λ x. last x ∙ ap (λ (k : ℕ). if x == k then if_some (mid x) (n % 256) else mid x) p) a

-- memory that is read alike everywhere
pub number_same : (f g : Bytes) (address count : ℕ) → ((a : ℕ) → f a ≡ g a) → number_at f address count ≡ number_at g address count
number_same f g address zero same = refl
number_same f g address (suc c) same = ap (λ o. followed_by o (f (address + c))) (number_same f g address c same) ∙ ap (followed_by (number_at g address c)) (same (address + c))

pub written_same : (f g : Bytes) (address count n a : ℕ) → f a ≡ g a → with_number f address count n a ≡ with_number g address count n a
written_same f g address count n a same = ap (λ o. if nat_le address a && nat_lt a (address + count) then Some (byte_of count n (a - address)) else o) same
