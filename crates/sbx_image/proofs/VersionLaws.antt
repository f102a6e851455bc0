-- The regions of each version: what is read of their lengths and bytes keeps the rules.
use Rattle.std.proofs.Common.{◌≡◌, ℕ, suc, ◌+◌, ◌≤◌, Bool, true, false, ltb, leb, List, [], ◌∷◌, length, Ok, refl, sym, ap, subst, ◌∙◌, arith}
use Rattle.std.specs.Prelude.{if◌then◌else◌}
use Rattle.std.specs.List.{flat_map}
use Rattle.std.proofs.lemmas.Bool.{leb-true, le-leb}
use Rattle.sbx_parts.specs.declared.parts.Region.{Region}
use Rattle.sbx_image.specs.declared.heads.Shape.{Shape}
use Rattle.sbx_parts.specs.Regions.{byte_count, pages_for}
use Rattle.sbx_parts.specs.Rules.{between, each, is_data_length, is_one_region, region_keeps}
use Rattle.sbx_parts.proofs.Steps.{both_true, is_between}
use Rattle.sbx_image.specs.Reading.{shape_of}
use Rattle.sbx_image.specs.Spelling.{shape_text}
use Rattle.sbx_image.proofs.DataLaws.{one_is_read}
use Rattle.sbx_image.proofs.RegionLaws.{regions_keep, shape_code, shape_keeps, shapes_of, shapes_spelled}

-- the lengths that were read, where there is one region at most or up to 8
abbrev pub LengthsRead : Bool → ℕ → List Shape → Type 0
LengthsRead true n shapes = shapes ≡ shape_of n
LengthsRead false n shapes = (length shapes ≡ n) × (pages : ℕ) × (each shape_keeps 0 shapes ≡ Ok pages)

-- the regions that they are the lengths of
pub record RegionsRead (one : Bool) (n : ℕ) (shapes : List Shape) (rs : List Region) : Type 0 where
  pub kept : (if one then is_one_region rs else leb (length rs) 8) ≡ true
  pub count : n ≡ (if one then byte_count rs else length rs)
  pub pages : ℕ
  pub lengths : each region_keeps 0 rs ≡ Ok pages
  pub spelled : (if one then [] else flat_map shape_code shapes) ≡ (if one then [] else flat_map shape_text rs)

-- one region of 262,144 bytes or fewer takes 64 pages at most
one_keeps : (rs : List Region) → is_one_region rs ≡ true → (pages : ℕ) × (each region_keeps 0 rs ≡ Ok pages)
unfolding each region_keeps
one_keeps [] e = (0, refl)
one_keeps (r ∷ []) e =
    let may = both_true r.writable _ e in
    let some = both_true (ltb 0 (length r.bytes)) _ may.1 in
    let whole = both_true (leb (length r.bytes) 262144) _ some.1 in
    let few : length r.bytes ≤ 262144 = leb-true _ _ whole.0 in
    let within : leb (0 + pages_for (length r.bytes)) 64 ≡ true = le-leb _ _ (omega (arith, few)) in
    (0 + pages_for (length r.bytes), rw (some.0, some.1, within) refl)
one_keeps (r ∷ s ∷ rest) e = absurd cc

same_length : (rs : List Region) → length (shapes_of rs) ≡ length rs
same_length [] = refl
same_length (r ∷ rs) = ap suc (same_length rs)

pub regions_read : (one : Bool) (n : ℕ) (shapes : List Shape) (rs : List Region) → LengthsRead one n shapes → shapes_of rs ≡ shapes →
    (if one then is_data_length n else between 0 8 n) ≡ true → RegionsRead one n shapes rs
regions_read true n shapes rs read same keeps =
    let one = one_is_read n rs (same ∙ read) keeps in
    let lengths = one_keeps rs one.0 in
    record { kept = one.0; count = sym one.1; pages = lengths.0; lengths = lengths.1; spelled = refl }
regions_read false n shapes rs read same keeps =
    let count : length rs ≡ n = sym (same_length rs) ∙ ap length same ∙ read.0 in
    record {
      kept = le-leb _ _ (omega (arith, count, (is_between 0 8 n keeps).1));
      count = sym count;
      pages = read.1;
      lengths = regions_keep rs 0 read.1 (subst (λ (ts : List Shape). each shape_keeps 0 ts ≡ Ok read.1) (sym same) read.2);
      spelled = ap (flat_map shape_code) (sym same) ∙ shapes_spelled rs;
    }
