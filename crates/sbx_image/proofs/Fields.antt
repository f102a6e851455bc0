-- A field that is read is the field that was spelled, and what was spelled is read again.
use Rattle.std.proofs.Common.{◌≡◌, ℕ, ◌+◌, ◌^◌, ◌<◌, ◌≤◌, ℤ, Bool, true, false, cond, ltb, List, [], ◌∷◌, ◌++◌, length, take, drop, Ok, Err, refl, sym, ap, subst, ◌∙◌, append_assoc, arith, inl, inr}
use Rattle.std.specs.Prelude.{FitsSigned}
use Rattle.std.specs.Int.{Width, w8, w16, w32, w64, byte_len, from_be_bytes, to_be_bytes, cast_signed, cast_unsigned}
use Rattle.std.proofs.lemmas.Bool.{cases_lt, ltb-false, le-ltb}
use Rattle.std.proofs.lemmas.List.{take_at, drop_at, take-append-drop, length-append, length-take, get_or-drop, get_or-take, get_or_past}
use Rattle.std.proofs.lemmas.Int.{of_z-to_z, to_z-of_z}
use Rattle.std.proofs.Math.Facts.{Fits-of_z, Fits-lt-pow}
use Rattle.std.proofs.Math.Nat.{mod-eq_of_lt}
use Rattle.std.proofs.lemmas.Nat.{be_bytes_2, be_bytes_4, be_bytes_8, from_be_bytes-to_be_bytes_2, from_be_bytes-to_be_bytes_4, from_be_bytes-to_be_bytes_8}
use Rattle.sbx_parts.specs.declared.fault.ImageFault.{ImageFault}
use Rattle.sbx_parts.specs.declared.fault.ImageFault.TheVariants as fault
use Rattle.sbx_parts.specs.Rules.{between}
pub use Rattle.sbx_parts.proofs.Steps.{bind_ok, wanted, wanted_last, wants_true, both_true, is_between, ok_is}
use Rattle.sbx_image.specs.Reading.{number_at, number_in, signed_at, bytes_at}
use Rattle.sbx_image.specs.Spelling.{IsBytes, signed}

IsBytes-drop : (n : ℕ) (bytes : List ℕ) → IsBytes bytes → IsBytes (drop n bytes)
IsBytes-drop n bytes h i = rw get_or-drop (h (n + i))

IsBytes-take : (n : ℕ) (bytes : List ℕ) → IsBytes bytes → IsBytes (take n bytes)
IsBytes-take n bytes h i =
    elim (cases_lt i n) [
      | inl lt ↦ rw (get_or-take n bytes i 0 lt) (h i)
      | inr le ↦ rw (get_or_past (take n bytes) i 0 (omega (arith, length-take n bytes))) (omega arith)
    ]

guard_ok : {A : Type 0} (b : Bool) (d : ImageFault) (x y : A) → cond b (Err d) (Ok x) ≡ Ok y → (b ≡ false) × (x ≡ y)
guard_ok true d x y e = absurd cc
guard_ok false d x y e = (refl, cc)

-- what a reader took from the front
pub record Takes (bytes text rest : List ℕ) : Type 0 where
  pub parts : bytes ≡ text ++ rest
  pub rest_fits : IsBytes rest

pub Takes-then : (a x b y c : List ℕ) → Takes a x b → Takes b y c → Takes a (x ++ y) c
Takes-then a x b y c p q = record { parts = p.parts ∙ ap (λ (t : List ℕ). x ++ t) q.parts ∙ sym (append_assoc x y c); rest_fits = q.rest_fits }

-- ---- numbers

pub record IsWide (w : Width) (limit : ℕ) : Type 0 where
  pub len : (n : ℕ) → length (to_be_bytes w n) ≡ byte_len w
  pub back : (bytes : List ℕ) → length bytes ≡ byte_len w → IsBytes bytes → to_be_bytes w (from_be_bytes w bytes) ≡ bytes
  pub again : (n : ℕ) → n < limit → from_be_bytes w (to_be_bytes w n) ≡ n
  pub below : (bytes : List ℕ) → IsBytes bytes → from_be_bytes w bytes < limit

byte_back : (bytes : List ℕ) → length bytes ≡ 1 → IsBytes bytes → to_be_bytes w8 (from_be_bytes w8 bytes) ≡ bytes
byte_back [] len fits = absurd cc
byte_back (x ∷ []) len fits = ap (λ (n : ℕ). n ∷ []) (mod-eq_of_lt (fits 0))
byte_back (x ∷ y ∷ rest) len fits = absurd (omega (arith, len))

byte_again : (n : ℕ) → n < 2 ^ 8 → from_be_bytes w8 (to_be_bytes w8 n) ≡ n
byte_again n lt = mod-eq_of_lt lt

pub wide8 : IsWide w8 (2 ^ 8)
wide8 = record {
  len = λ n. refl;
  back = byte_back;
  again = λ n lt. byte_again n lt;
  below = λ bytes fits. omega (arith, fits 0);
}

pub wide16 : IsWide w16 (2 ^ 16)
wide16 = record {
  len = λ n. refl;
  back = λ bytes len fits. be_bytes_2 bytes _ len fits refl;
  again = λ n lt. from_be_bytes-to_be_bytes_2 n lt;
  below = λ bytes fits. omega (arith, fits 0, fits 1);
}

pub wide32 : IsWide w32 (2 ^ 32)
wide32 = record {
  len = λ n. refl;
  back = λ bytes len fits. be_bytes_4 bytes _ len fits refl;
  again = λ n lt. from_be_bytes-to_be_bytes_4 n lt;
  below = λ bytes fits. omega (arith, fits 0, fits 1, fits 2, fits 3);
}

pub wide64 : IsWide w64 (2 ^ 64)
wide64 = record {
  len = λ n. refl;
  back = λ bytes len fits. be_bytes_8 bytes _ len fits refl;
  again = λ n lt. from_be_bytes-to_be_bytes_8 n lt;
  below = λ bytes fits. omega (arith, fits 0, fits 1, fits 2, fits 3, fits 4, fits 5, fits 6, fits 7);
}

pub number_takes : (w : Width) (limit : ℕ) (wide : IsWide w limit) (bytes : List ℕ) (x : ℕ × List ℕ) → IsBytes bytes → number_at w bytes ≡ Ok x → Takes bytes (to_be_bytes w x.0) x.1 × (x.0 < limit)
number_takes w limit wide bytes (n, rest) fits e =
    let g = guard_ok (ltb (length bytes) (byte_len w)) fault.Short (from_be_bytes w (take (byte_len w) bytes), drop (byte_len w) bytes) (n, rest) e in
    let long : byte_len w ≤ length bytes = ltb-false _ _ g.0 in
    let n-is : from_be_bytes w (take (byte_len w) bytes) ≡ n = ap (λ (p : ℕ × List ℕ). p.0) g.1 in
    let rest-is : drop (byte_len w) bytes ≡ rest = ap (λ (p : ℕ × List ℕ). p.1) g.1 in
    let front : to_be_bytes w n ≡ take (byte_len w) bytes =
    rw (← n-is) (wide.back (take (byte_len w) bytes) (omega (arith, length-take (byte_len w) bytes)) (IsBytes-take (byte_len w) bytes fits)) in (
      record { parts = rw (front, ← rest-is) (sym (take-append-drop (byte_len w) bytes)); rest_fits = rw (← rest-is) (IsBytes-drop (byte_len w) bytes fits) },
      rw (← n-is) (wide.below (take (byte_len w) bytes) (IsBytes-take (byte_len w) bytes fits)),
    )

pub number_again : (w : Width) (limit : ℕ) (wide : IsWide w limit) (n : ℕ) (rest : List ℕ) → n < limit → number_at w (to_be_bytes w n ++ rest) ≡ Ok (n, rest)
number_again w limit wide n rest lt =
    let len = wide.len n in
    let long : ltb (length (to_be_bytes w n ++ rest)) (byte_len w) ≡ false = le-ltb _ _ (omega (arith, length-append (to_be_bytes w n) rest)) in
    rw (long, take_at (to_be_bytes w n) rest (byte_len w) len, drop_at (to_be_bytes w n) rest (byte_len w) len, wide.again n lt) refl

pub number_in_takes : (w : Width) (limit : ℕ) (wide : IsWide w limit) (low high : ℕ) (bad : ImageFault) (bytes : List ℕ) (x : ℕ × List ℕ) → IsBytes bytes →
    number_in w low high bad bytes ≡ Ok x → Takes bytes (to_be_bytes w x.0) x.1 × (between low high x.0 ≡ true)
number_in_takes w limit wide low high bad bytes x fits e =
    let a = bind_ok _ _ _ e in
    let b = wanted _ _ _ _ a.2 in
    let t = number_takes w limit wide bytes a.0 fits a.1 in
    subst (λ (y : ℕ × List ℕ). Takes bytes (to_be_bytes w y.0) y.1 × (between low high y.0 ≡ true)) (ok_is a.0 x b.1) (t.0, b.0)

-- ---- signed numbers

pub record IsSigned (w : Width) (limit : ℕ) : Type 0 where
  pub back : (n : ℕ) → n < limit → cast_unsigned w (cast_signed w n) ≡ n
  pub again : (z : ℤ) → FitsSigned w z → cast_signed w (cast_unsigned w z) ≡ z
  pub below : (z : ℤ) → FitsSigned w z → cast_unsigned w z < limit

pub signed32 : IsSigned w32 (2 ^ 32)
signed32 = record { back = λ n lt. of_z-to_z w32 n lt; again = λ z fits. to_z-of_z w32 z fits; below = λ z fits. Fits-lt-pow (Fits-of_z fits) }

pub signed64 : IsSigned w64 (2 ^ 64)
signed64 = record { back = λ n lt. of_z-to_z w64 n lt; again = λ z fits. to_z-of_z w64 z fits; below = λ z fits. Fits-lt-pow (Fits-of_z fits) }

pub signed_takes : (w : Width) (limit : ℕ) (wide : IsWide w limit) (sign : IsSigned w limit) (bytes : List ℕ) (x : ℤ × List ℕ) → IsBytes bytes →
    signed_at w bytes ≡ Ok x → Takes bytes (signed w x.0) x.1
signed_takes w limit wide sign bytes x fits e =
    let a = bind_ok _ _ _ e in
    let t = number_takes w limit wide bytes a.0 fits a.1 in
    let back : signed w (cast_signed w a.0.0) ≡ to_be_bytes w a.0.0 = ap (to_be_bytes w) (sign.back a.0.0 t.1) in
    subst (λ (y : ℤ × List ℕ). Takes bytes (signed w y.0) y.1) (ok_is (cast_signed w a.0.0, a.0.1) x a.2) (rw back t.0)

pub signed_again : (w : Width) (limit : ℕ) (wide : IsWide w limit) (sign : IsSigned w limit) (z : ℤ) (rest : List ℕ) → FitsSigned w z → signed_at w (signed w z ++ rest) ≡ Ok (z, rest)
signed_again w limit wide sign z rest fits = rw (number_again w limit wide (cast_unsigned w z) rest (sign.below z fits), sign.again z fits) refl

-- ---- bytes as they are

pub bytes_take : (count : ℕ) (bytes : List ℕ) (x : List ℕ × List ℕ) → IsBytes bytes → bytes_at count bytes ≡ Ok x → Takes bytes x.0 x.1 × (length x.0 ≡ count)
bytes_take count bytes x fits e =
    let g = guard_ok (ltb (length bytes) count) fault.Short (take count bytes, drop count bytes) x e in
    let long : count ≤ length bytes = ltb-false _ _ g.0 in
    subst (λ (y : List ℕ × List ℕ). Takes bytes y.0 y.1 × (length y.0 ≡ count)) g.1
    (record { parts = sym (take-append-drop count bytes); rest_fits = IsBytes-drop count bytes fits }, omega (arith, length-take count bytes))

pub bytes_again : (bytes rest : List ℕ) → bytes_at (length bytes) (bytes ++ rest) ≡ Ok (bytes, rest)
bytes_again bytes rest =
    let long : ltb (length (bytes ++ rest)) (length bytes) ≡ false = le-ltb _ _ (omega (arith, length-append bytes rest)) in
    rw (long, take_at bytes rest (length bytes) refl, drop_at bytes rest (length bytes) refl) refl

-- ---- from bytes that begin so

pub number_reads : (w : Width) (limit : ℕ) (wide : IsWide w limit) (n : ℕ) (bytes rest : List ℕ) → bytes ≡ to_be_bytes w n ++ rest → n < limit → number_at w bytes ≡ Ok (n, rest)
number_reads w limit wide n bytes rest e lt = ap (number_at w) e ∙ number_again w limit wide n rest lt

pub signed_reads : (w : Width) (limit : ℕ) (wide : IsWide w limit) (sign : IsSigned w limit) (z : ℤ) (bytes rest : List ℕ) → bytes ≡ signed w z ++ rest →
    FitsSigned w z → signed_at w bytes ≡ Ok (z, rest)
signed_reads w limit wide sign z bytes rest e fits = ap (signed_at w) e ∙ signed_again w limit wide sign z rest fits

pub number_in_reads : (w : Width) (limit : ℕ) (wide : IsWide w limit) (low high : ℕ) (bad : ImageFault) (n : ℕ) (bytes rest : List ℕ) →
    bytes ≡ to_be_bytes w n ++ rest → high < limit → between low high n ≡ true → number_in w low high bad bytes ≡ Ok (n, rest)
number_in_reads w limit wide low high bad n bytes rest e room h =
    let lt : n < limit = omega (arith, (is_between low high n h).1, room) in
    rw (number_reads w limit wide n bytes rest e lt, h) refl
