-- The bytes of the data stay there, and they and those of the input stay bytes.
use Rattle.std.proofs.Common.{◌≡◌, ℕ, zero, suc, ◌+◌, ◌-◌, ◌*◌, ◌^◌, ◌<◌, Bool, true, false, List, ◌∷◌, Option, Some, refl, sym, ap, ◌∙◌, subst, arith}
use Rattle.std.specs.Prelude.{◌&&◌, nat_lt, nat_le, if◌then◌else◌}
use Rattle.std.specs.List.{AllByRecursion}
use Rattle.std.proofs.lemmas.Nat.{mod_below, pow-add}
use Rattle.sbx_flat.specs.Memory.{Bytes, byte_of, followed_by, number_at, with_number}
use Rattle.sbx_image.specs.Region.{Region}
use Rattle.sbx_image.specs.Regions.{data_at}
use Rattle.sbx_image.specs.Spelling.{IsTypedRegion}
use Rattle.sbx_image.proofs.Within.{data_is_byte}
use Rattle.sbx_flat.specs.Runs.{AreBytes}
use Rattle.sbx_sound.proofs.Shared.{AreStored}

-- ---- at the start

pub stored_at_start : (regions : List Region) (input : List ℕ) → AllByRecursion IsTypedRegion regions → AreBytes input → AreStored regions (data_at regions) input
stored_at_start regions input are are_input = record {
  of_data = λ a b is. (b, is, data_is_byte regions a b are is);
  of_input = are_input;
}

-- ---- after a store, and after a byte of the input

either_byte : (t : Bool) (b : ℕ) (old : Option ℕ) → b < 2 ^ 8 → (byte : ℕ) × (old ≡ Some byte) × (byte < 2 ^ 8) → (byte : ℕ) × ((if t then Some b else old) ≡ Some byte) × (byte < 2 ^ 8)
either_byte true b old small h = (b, refl, small)
either_byte false b old small h = h

pub stored_after_store : (regions : List Region) (a size v : ℕ) (memory : Bytes) (input : List ℕ) → AreStored regions memory input → AreStored regions (with_number memory a size v) input
stored_after_store regions a size v memory input stored = record {
  of_data = λ x b is. either_byte (nat_le a x && nat_lt x (a + size)) (byte_of size v (x - a)) (memory x) (mod_below _ (2 ^ 8) (omega arith)) (stored.of_data x b is);
  of_input = stored.of_input;
}

pub bytes_after_first : (byte : ℕ) (rest : List ℕ) → AreBytes (byte ∷ rest) → AreBytes rest
bytes_after_first byte rest are i = are (suc i)

-- ---- a number within the data

-- a number that is there, and below what so many bytes hold
pub record IsThere (memory : Bytes) (a size : ℕ) : Type 0 where
  pub number : ℕ
  pub is : number_at memory a size ≡ Some number
  pub small : number < 2 ^ (8 * size)

one_more : (n byte size : ℕ) → n < 2 ^ (8 * size) → byte < 2 ^ 8 → n * 2 ^ 8 + byte < 2 ^ (8 * suc size)
one_more n byte size small byte_small =
    let split : 2 ^ (8 * size + 8) ≡ 2 ^ (8 * size) * 2 ^ 8 = pow-add 2 (8 * size) 8 in
    let width : 8 * suc size ≡ 8 * size + 8 = omega arith in
    subst (λ e. n * 2 ^ 8 + byte < 2 ^ e) (sym width) (subst (λ x. n * 2 ^ 8 + byte < x) (sym split) (below (2 ^ (8 * size)) small))
  where
    below : (top : ℕ) → n < top → n * 2 ^ 8 + byte < top * 2 ^ 8
    below top h = omega (arith, h, byte_small)

-- each of so many bytes from an address on is one of the data
abbrev pub AreOfData : List Region → ℕ → ℕ → Type 0
AreOfData regions a size = (i : ℕ) → i < size → (b : ℕ) × (data_at regions (a + i) ≡ Some b)

pub number_is_there : (regions : List Region) (memory : Bytes) (input : List ℕ) → AreStored regions memory input → (a size : ℕ) → AreOfData regions a size → IsThere memory a size
number_is_there regions memory input stored a zero all = record { number = 0; is = refl; small = omega arith }
number_is_there regions memory input stored a (suc size) all =
    let before = number_is_there regions memory input stored a size (λ i less. all i (omega arith)) in
    let byte = all size (omega arith) in
    let last = stored.of_data (a + size) byte.0 byte.1 in
    record {
      number = before.number * 2 ^ 8 + last.0;
      is = ap (λ n. followed_by n (memory (a + size))) before.is ∙ ap (followed_by (Some before.number)) last.1;
      small = one_more before.number last.0 size before.small last.2;
    }
