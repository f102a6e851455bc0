-- Regions as lengths and kinds, and as bytes: what is read of them keeps the rules and is spelled so.
use Rattle.std.proofs.Common.{◌≡◌, ℕ, zero, suc, ◌+◌, ◌^◌, ◌≤◌, List, [], ◌∷◌, ◌++◌, length, Result, Ok, refl, sym, ap, subst, ◌∙◌, arith}
use Rattle.std.specs.Prelude.{◌==◌}
use Rattle.std.specs.Int.{w16, w32, to_be_bytes}
use Rattle.std.specs.List.{flat_map}
use Rattle.std.proofs.lemmas.List.Concat.{flat_map-cons}
use Rattle.sbx_parts.specs.declared.fault.ImageFault.{ImageFault}
use Rattle.sbx_parts.specs.declared.fault.ImageFault.TheVariants as fault
use Rattle.sbx_parts.specs.declared.parts.Region.{Region}
use Rattle.sbx_image.specs.declared.heads.Shape.{Shape}
use Rattle.sbx_parts.specs.Regions.{pages_for}
use Rattle.sbx_parts.specs.Rules.{◌>>=◌, wants, each, is_length_behind, region_keeps}
use Rattle.sbx_image.specs.Reading.{shape_at, regions_at}
use Rattle.sbx_image.specs.Spelling.{IsBytes, right_code, region_text, shape_text}
use Rattle.sbx_image.proofs.Fields.{bind_ok, wanted, is_between, ok_is, Takes, Takes-then, wide16, wide32, number_takes, number_in_takes, bytes_take}

-- a region's length and kind
abbrev pub shape_of_region : Region → Shape
shape_of_region r = record { bytes = length r.bytes; writable = r.writable }

abbrev pub shapes_of : List Region → List Shape
shapes_of [] = []
shapes_of (r ∷ rs) = shape_of_region r ∷ shapes_of rs

abbrev pub shape_code : Shape → List ℕ
shape_code s = to_be_bytes w32 s.bytes ++ to_be_bytes w16 (right_code s.writable)

abbrev pub shape_keeps : ℕ → Shape → Result ℕ ImageFault
shape_keeps pages s = do
  _ ← wants (is_length_behind pages s.bytes) fault.Limit
  Ok (pages + pages_for s.bytes)

-- a kind of 0 or 1 is what its right is spelled as
pub right_again : (n : ℕ) → n ≤ 1 → right_code (n == 1) ≡ n
right_again zero le = refl
right_again (suc zero) le = refl
right_again (suc (suc n)) le = absurd (omega (arith, le))

pub shape_takes : (pages : ℕ) (bytes : List ℕ) (x : Shape × (ℕ × List ℕ)) → IsBytes bytes → shape_at (pages, bytes) ≡ Ok x → Takes bytes (shape_code x.0) x.1.1 × (shape_keeps pages x.0 ≡ Ok x.1.0)
unfolding shape_at
shape_takes pages bytes x fits e =
    let size = bind_ok _ _ _ e in
    let within = wanted (is_length_behind pages size.0.0) fault.Limit _ _ size.2 in
    let kind = bind_ok _ _ _ within.1 in
    let t0 = number_takes w32 (2 ^ 32) wide32 bytes size.0 fits size.1 in
    let t1 = number_in_takes w16 (2 ^ 16) wide16 0 1 fault.Limit size.0.1 kind.0 t0.0.rest_fits kind.1 in
    let again : right_code (kind.0.0 == 1) ≡ kind.0.0 = right_again kind.0.0 (is_between 0 1 kind.0.0 t1.1).1 in
    let spelled : Takes size.0.1 (to_be_bytes w16 (right_code (kind.0.0 == 1))) kind.0.1 = subst (λ (n : ℕ). Takes size.0.1 (to_be_bytes w16 n) kind.0.1) (sym again) t1.0 in
    let made : Shape × (ℕ × List ℕ) = (record { bytes = size.0.0; writable = kind.0.0 == 1 }, (pages + pages_for size.0.0, kind.0.1)) in
    subst (λ (y : Shape × (ℕ × List ℕ)). Takes bytes (shape_code y.0) y.1.1 × (shape_keeps pages y.0 ≡ Ok y.1.0)) (ok_is made x kind.2)
    (Takes-then _ _ _ _ _ t0.0 spelled, rw within.0 refl)

-- the regions' bytes, each as long as its length
pub regions_take : (shapes : List Shape) (bytes : List ℕ) (x : List Region × List ℕ) → IsBytes bytes → regions_at shapes bytes ≡ Ok x →
    Takes bytes (flat_map region_text x.0) x.1 × (shapes_of x.0 ≡ shapes)
unfolding regions_at
regions_take [] bytes x fits e =
    subst (λ (y : List Region × List ℕ). Takes bytes (flat_map region_text y.0) y.1 × (shapes_of y.0 ≡ [])) (ok_is ([], bytes) x e) (record { parts = refl; rest_fits = fits }, refl)
regions_take (s ∷ shapes) bytes x fits e =
    let own = bind_ok _ _ _ e in
    let others = bind_ok _ _ _ own.2 in
    let first = bytes_take s.bytes bytes own.0 fits own.1 in
    let second = regions_take shapes own.0.1 others.0 first.0.rest_fits others.1 in
    let both = Takes-then _ _ _ _ _ first.0 second.0 in
    let region : Region = record { bytes = own.0.0; writable = s.writable } in
    let made : List Region × List ℕ = (region ∷ others.0.0, others.0.1) in
    let same : shape_of_region region ≡ s = ap (λ (n : ℕ). record { bytes = n; writable = s.writable }) first.1 in
    subst (λ (y : List Region × List ℕ). Takes bytes (flat_map region_text y.0) y.1 × (shapes_of y.0 ≡ s ∷ shapes)) (ok_is made x others.2)
    (rw flat_map-cons both, ap (λ (t : Shape). t ∷ shapes_of others.0.0) same ∙ ap (λ (ts : List Shape). s ∷ ts) second.1)

-- what the lengths keep, the regions keep, and are spelled as
pub regions_keep : (rs : List Region) (pages state : ℕ) → each shape_keeps pages (shapes_of rs) ≡ Ok state → each region_keeps pages rs ≡ Ok state
unfolding each region_keeps
regions_keep [] pages state e = e
regions_keep (r ∷ rs) pages state e =
    let first = bind_ok (shape_keeps pages (shape_of_region r)) (λ next. each shape_keeps next (shapes_of rs)) state e in
    rw first.1 (regions_keep rs first.0 state first.2)

pub shapes_spelled : (rs : List Region) → flat_map shape_code (shapes_of rs) ≡ flat_map shape_text rs
unfolding shape_text
shapes_spelled [] = refl
shapes_spelled (r ∷ rs) =
    flat_map-cons shape_code (shape_of_region r) (shapes_of rs) ∙ ap (λ (t : List ℕ). shape_code (shape_of_region r) ++ t) (shapes_spelled rs)
    ∙ sym (flat_map-cons shape_text r rs)
