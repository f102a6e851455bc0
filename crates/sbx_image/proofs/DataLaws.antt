-- The one region of version 1: as a length and as bytes.
use Rattle.std.proofs.Common.{◌≡◌, ℕ, zero, suc, ◌+◌, Bool, true, false, ltb, ◌&&◌, List, [], ◌∷◌, length, refl, sym, ap, subst, ◌∙◌, arith}
use Rattle.std.proofs.lemmas.Bool.{lt-ltb}
use Rattle.sbx_parts.specs.declared.parts.Region.{Region}
use Rattle.sbx_image.specs.declared.heads.Shape.{Shape}
use Rattle.sbx_parts.specs.Regions.{byte_count}
use Rattle.sbx_parts.specs.Rules.{is_one_region, is_data_length}
use Rattle.sbx_parts.proofs.Steps.{both_true}
use Rattle.sbx_image.specs.Reading.{shape_of}
use Rattle.sbx_image.proofs.RegionLaws.{shape_of_region, shapes_of}

-- the first items of equal lists
first_is : (s t : Shape) (u v : List Shape) → s ∷ u ≡ t ∷ v → s ≡ t
first_is s t u v e = cc

pub both_are : (a b : Bool) → a ≡ true → b ≡ true → (a && b) ≡ true
both_are true true h k = refl
both_are true false h k = absurd cc
both_are false b h k = absurd cc

-- what is read of version 1 is its one region, and its length is kept
pub one_is_read : (n : ℕ) (rs : List Region) → shapes_of rs ≡ shape_of n → is_data_length n ≡ true → (is_one_region rs ≡ true) × (byte_count rs ≡ n)
one_is_read zero [] e whole = (refl, refl)
one_is_read zero (r ∷ rs) e whole = absurd cc
one_is_read (suc n) [] e whole = absurd cc
one_is_read (suc n) (r ∷ []) e whole =
    let same = first_is (shape_of_region r) (record { bytes = suc n; writable = true }) [] [] e in
    let is : length r.bytes ≡ suc n = ap (λ (s : Shape). s.bytes) same in
    let may : r.writable ≡ true = ap (λ (s : Shape). s.writable) same in
    let some : ltb 0 (length r.bytes) ≡ true = lt-ltb 0 (length r.bytes) (omega (arith, is)) in
    let eights : is_data_length (length r.bytes) ≡ true = subst (λ (k : ℕ). is_data_length k ≡ true) (sym is) whole in
    (both_are _ _ may (both_are _ _ some eights), omega (arith, is))
one_is_read (suc n) (r ∷ s ∷ rest) e whole = absurd cc

-- what version 1 keeps is read again
pub one_again : (rs : List Region) → is_one_region rs ≡ true → shape_of (byte_count rs) ≡ shapes_of rs
one_again [] e = refl
one_again (r ∷ []) e =
    let writable = both_true r.writable _ e in
    let some = both_true (ltb 0 (length r.bytes)) _ writable.1 in
    ap shape_of (single (length r.bytes)) ∙ by (length r.bytes) some.0 ∙ ap (λ w. record { bytes = length r.bytes; writable = w } ∷ []) (sym writable.0)
  where
    single : (n : ℕ) → n + 0 ≡ n
    single n = omega arith

    by : (n : ℕ) → ltb 0 n ≡ true → shape_of n ≡ record { bytes = n; writable = true } ∷ []
    by zero h = absurd cc
    by (suc n) h = refl
one_again (r ∷ s ∷ rest) e = absurd cc

pub count_keeps : (rs : List Region) → is_one_region rs ≡ true → is_data_length (byte_count rs) ≡ true
count_keeps [] e = refl
count_keeps (r ∷ []) e =
    let writable = both_true r.writable _ e in
    let some = both_true (ltb 0 (length r.bytes)) _ writable.1 in
    ap is_data_length (single (length r.bytes)) ∙ some.1
  where
    single : (n : ℕ) → n + 0 ≡ n
    single n = omega arith
count_keeps (r ∷ s ∷ rest) e = absurd cc
