-- A double word is two words.
use Rattle.std.proofs.Common.{◌≡◌, ℕ, zero, suc, ◌+◌, ◌-◌, ◌*◌, ◌^◌, ◌<◌, ◌≤◌, Bool, true, false, List, Some}
use Rattle.std.proofs.Common.{slice_index, refl, ap, ◌∙◌, arith}
use Rattle.std.specs.Prelude.{◌&&◌, nat_le, nat_lt, if◌then◌else◌}
use Rattle.std.proofs.lemmas.Bool.Decides.{nat_tests}
use Rattle.sbx_flat.specs.Memory.{Bytes, byte_of, with_number}
use Rattle.native_lang.specs.Memory.{number_in}

pub number_halves : (bytes : List ℕ) (place : ℕ) → number_in bytes place 8 ≡ number_in bytes place 4 * 2 ^ 32 + number_in bytes (place + 4) 4
number_halves bytes place =
    let at : (i : ℕ) → slice_index bytes (place + 4 + i) ≡ slice_index bytes (place + (4 + i)) = λ i. let e : place + 4 + i ≡ place + (4 + i) = omega arith in ap (slice_index bytes) e in
    joined (slice_index bytes (place + 0)) (slice_index bytes (place + 1)) (slice_index bytes (place + 2)) (slice_index bytes (place + 3))
    _ _ _ _ _ _ _ _ (at 0) (at 1) (at 2) (at 3)
  where
    joined : (a b c d e f g h i j k l : ℕ) → i ≡ e → j ≡ f → k ≡ g → l ≡ h →
        (((((((0 * 2 ^ 8 + a) * 2 ^ 8 + b) * 2 ^ 8 + c) * 2 ^ 8 + d) * 2 ^ 8 + e) * 2 ^ 8 + f) * 2 ^ 8 + g) * 2 ^ 8 + h ≡
        ((((0 * 2 ^ 8 + a) * 2 ^ 8 + b) * 2 ^ 8 + c) * 2 ^ 8 + d) * 2 ^ 32 + ((((0 * 2 ^ 8 + i) * 2 ^ 8 + j) * 2 ^ 8 + k) * 2 ^ 8 + l)
    joined a b c d e f g h i j k l p q r s = omega (arith, p, q, r, s)

module _ (high low : ℕ) (small : low < 2 ^ 32) where
  high_byte : (k : ℕ) → k < 4 → byte_of 8 (high * 2 ^ 32 + low) k ≡ byte_of 4 high k
  high_byte zero less = omega (arith, small)
  high_byte (suc zero) less = omega (arith, small)
  high_byte (suc (suc zero)) less = omega (arith, small)
  high_byte (suc (suc (suc zero))) less = omega (arith, small)
  high_byte (suc (suc (suc (suc k)))) less = absurd (omega arith)

  low_byte : (k : ℕ) → k < 4 → byte_of 8 (high * 2 ^ 32 + low) (k + 4) ≡ byte_of 4 low k
  low_byte zero less = omega (arith, small)
  low_byte (suc zero) less = omega (arith, small)
  low_byte (suc (suc zero)) less = omega (arith, small)
  low_byte (suc (suc (suc zero))) less = omega (arith, small)
  low_byte (suc (suc (suc (suc k)))) less = absurd (omega arith)

  pub written_halves : (memory : Bytes) (address : ℕ) →
      with_number memory address 8 (high * 2 ^ 32 + low) ≡ with_number (with_number memory address 4 high) (address + 4) 4 low
  written_halves memory address = λ i a. at a i
    where
      by : (x y : Bool) (a : ℕ) → (nat_le address a && nat_lt a (address + 4)) ≡ x → (nat_le (address + 4) a && nat_lt a (address + 4 + 4)) ≡ y →
          (if nat_le address a && nat_lt a (address + 8) then Some (byte_of 8 (high * 2 ^ 32 + low) (a - address)) else memory a) ≡
          (if y then Some (byte_of 4 low (a - (address + 4))) else (if x then Some (byte_of 4 high (a - address)) else memory a))
      by true true a e f = absurd (grind (arith, nat_tests))
      by true false a e f =
          let from : address ≤ a = grind (arith, nat_tests) in
          let to : a < address + 4 = grind (arith, nat_tests) in
          let test : (nat_le address a && nat_lt a (address + 8)) ≡ true = grind (arith, nat_tests) in
          ap (λ (b : Bool). if b then Some (byte_of 8 (high * 2 ^ 32 + low) (a - address)) else memory a) test
          ∙ ap Some (high_byte (a - address) (omega (arith, from, to)))
      by false true a e f =
          let from : address + 4 ≤ a = grind (arith, nat_tests) in
          let to : a < address + 4 + 4 = grind (arith, nat_tests) in
          let test : (nat_le address a && nat_lt a (address + 8)) ≡ true = grind (arith, nat_tests) in
          let k : a - address ≡ a - (address + 4) + 4 = omega (arith, from) in
          ap (λ (b : Bool). if b then Some (byte_of 8 (high * 2 ^ 32 + low) (a - address)) else memory a) test
          ∙ ap (λ n. Some (byte_of 8 (high * 2 ^ 32 + low) n)) k ∙ ap Some (low_byte (a - (address + 4)) (omega (arith, from, to)))
      by false false a e f =
          let test : (nat_le address a && nat_lt a (address + 8)) ≡ false = grind (arith, nat_tests) in
          ap (λ (b : Bool). if b then Some (byte_of 8 (high * 2 ^ 32 + low) (a - address)) else memory a) test

      at : (a : ℕ) → with_number memory address 8 (high * 2 ^ 32 + low) a ≡ with_number (with_number memory address 4 high) (address + 4) 4 low a
      at a = by (nat_le address a && nat_lt a (address + 4)) (nat_le (address + 4) a && nat_lt a (address + 4 + 4)) a refl refl
