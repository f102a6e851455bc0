-- The regions' lengths and bytes as loops go over them, and how many bytes the lengths come to.
use Rattle.std.proofs.Common.{◌≡◌, ℕ, zero, suc, ◌+◌, ◌*◌, ◌≤◌, ◌<◌, false, ltb, List, [], ◌∷◌, ◌++◌, length, drop, get_or, Result, Ok, Err, refl, sym, ap, subst, ◌∙◌, append_assoc, arith}
use Rattle.std.specs.Prelude.{◌==◌}
use Rattle.std.specs.Int.{w16, w32}
use Rattle.std.proofs.lemmas.Bool.{leb-true}
use Rattle.std.proofs.lemmas.List.{append-nil, drop_more, drop_all}
use Rattle.sbx_parts.specs.declared.fault.ImageFault.{ImageFault}
use Rattle.sbx_parts.specs.declared.fault.ImageFault.TheVariants as fault
use Rattle.sbx_parts.specs.declared.parts.Region.{Region}
use Rattle.sbx_image.specs.declared.heads.Shape.{Shape}
use Rattle.sbx_parts.specs.Regions.{pages_for}
use Rattle.sbx_parts.specs.Rules.{◌>>=◌, is_data_length, is_length_behind}
use Rattle.sbx_parts.proofs.Steps.{bind_ok, wanted, both_true, ok_is}
use Rattle.sbx_image.specs.Reading.{number_at, number_in, bytes_at, items_at, shape_at, shape_bytes, regions_at}

-- a length that no list has, which a loop never reads
abbrev pub no_shape : Shape
no_shape = record { bytes = 0; writable = false }

-- ---- counting bytes, as a loop does

pub bytes_behind : (shapes : List Shape) (i : ℕ) → i < length shapes → shape_bytes (drop i shapes) ≡ (get_or shapes i no_shape).bytes + shape_bytes (drop (i + 1) shapes)
bytes_behind shapes i lt = ap shape_bytes (drop_more shapes i no_shape lt)

pub no_bytes_behind : (shapes : List Shape) (i : ℕ) → length shapes ≤ i → shape_bytes (drop i shapes) ≡ 0
no_bytes_behind shapes i le = ap shape_bytes (drop_all i shapes le)

-- ---- reading regions, as a loop does

-- what was read before, and what is still read
abbrev pub behind_front : List Region → Result (List Region × List ℕ) ImageFault → Result (List Region × List ℕ) ImageFault
behind_front front read = read >>= λ x. Ok (front ++ x.0, x.1)

regroup : (front : List Region) (r : Region) (read : Result (List Region × List ℕ) ImageFault) → behind_front front (read >>= λ x. Ok (r ∷ x.0, x.1)) ≡ behind_front (front ++ r ∷ []) read
regroup front r (Ok x) = ap (λ (rs : List Region). Ok (rs, x.1)) (simp append_assoc)
regroup front r (Err e) = refl

next_is : (front : List Region) (shapes : List Shape) (i : ℕ) (rest : List ℕ) → i < length shapes →
    behind_front front (regions_at (drop i shapes) rest) ≡ behind_front front (regions_at (get_or shapes i no_shape ∷ drop (i + 1) shapes) rest)
next_is front shapes i rest lt = ap (λ (ss : List Shape). behind_front front (regions_at ss rest)) (drop_more shapes i no_shape lt)

own_read : (front : List Region) (s : Shape) (shapes : List Shape) (rest own after : List ℕ) → bytes_at s.bytes rest ≡ Ok (own, after)
    → behind_front front (regions_at (s ∷ shapes) rest) ≡ behind_front (front ++ record { bytes = own; writable = s.writable } ∷ []) (regions_at shapes after)
unfolding regions_at
own_read front s shapes rest own after h = rw h (regroup front (record { bytes = own; writable = s.writable }) (regions_at shapes after))

own_fails : (e : ImageFault) (front : List Region) (s : Shape) (shapes : List Shape) (rest : List ℕ) → bytes_at s.bytes rest ≡ Err e → behind_front front (regions_at (s ∷ shapes) rest) ≡ Err e
unfolding regions_at
own_fails e front s shapes rest h = rw h refl

pub goes_on : (front : List Region) (shapes : List Shape) (i : ℕ) (rest own after : List ℕ) (total : Result (List Region × List ℕ) ImageFault) →
    i < length shapes → bytes_at (get_or shapes i no_shape).bytes rest ≡ Ok (own, after)
    → behind_front front (regions_at (drop i shapes) rest) ≡ total →
    behind_front (front ++ record { bytes = own; writable = (get_or shapes i no_shape).writable } ∷ []) (regions_at (drop (i + 1) shapes) after) ≡ total
goes_on front shapes i rest own after total lt h so_far =
    sym (own_read front (get_or shapes i no_shape) (drop (i + 1) shapes) rest own after h) ∙ sym (next_is front shapes i rest lt) ∙ so_far

pub ends : (e : ImageFault) (front : List Region) (shapes : List Shape) (i : ℕ) (rest : List ℕ) (total : Result (List Region × List ℕ) ImageFault) →
    i < length shapes → bytes_at (get_or shapes i no_shape).bytes rest ≡ Err e
    → behind_front front (regions_at (drop i shapes) rest) ≡ total → total ≡ Err e
ends e front shapes i rest total lt h so_far =
    sym so_far ∙ next_is front shapes i rest lt ∙ own_fails e front (get_or shapes i no_shape) (drop (i + 1) shapes) rest h

pub is_done : (front : List Region) (shapes : List Shape) (i : ℕ) (rest : List ℕ) (total : Result (List Region × List ℕ) ImageFault) → length shapes ≤ i →
    behind_front front (regions_at (drop i shapes) rest) ≡ total → total ≡ Ok (front, rest)
unfolding regions_at
is_done front shapes i rest total le so_far =
    let none : regions_at (drop i shapes) rest ≡ Ok ([], rest) = ap (λ (ss : List Shape). regions_at ss rest) (drop_all i shapes le) in
    sym so_far ∙ ap (behind_front front) none ∙ ap (λ (rs : List Region). Ok (rs, rest)) (append-nil front)

-- ---- how many bytes they come to

-- a region's pages hold its bytes
length_within : (pages : ℕ) (bytes : List ℕ) (x : Shape × (ℕ × List ℕ)) → shape_at (pages, bytes) ≡ Ok x → (x.1.0 ≤ 64) × (4096 * pages + x.0.bytes ≤ 4096 * x.1.0)
unfolding shape_at
length_within pages bytes x e =
    let size = bind_ok (number_at w32 bytes) _ x e in
    let within = wanted (is_length_behind pages size.0.0) fault.Limit _ _ size.2 in
    let kind = bind_ok (number_in w16 0 1 fault.Limit size.0.1) _ x within.1 in
    let some = both_true (ltb 0 size.0.0) _ within.0 in
    let tests = both_true (is_data_length size.0.0) _ some.1 in
    let few : pages + pages_for size.0.0 ≤ 64 = leb-true _ _ tests.1 in
    let made : Shape × (ℕ × List ℕ) = (record { bytes = size.0.0; writable = kind.0.0 == 1 }, (pages + pages_for size.0.0, kind.0.1)) in
    subst (λ (y : Shape × (ℕ × List ℕ)). (y.1.0 ≤ 64) × (4096 * pages + y.0.bytes ≤ 4096 * y.1.0)) (ok_is made x kind.2) (few, omega arith)

lengths_within : (n pages : ℕ) (bytes : List ℕ) (x : List Shape × (ℕ × List ℕ)) → pages ≤ 64 → items_at shape_at n (pages, bytes) ≡ Ok x →
    (x.1.0 ≤ 64) × (4096 * pages + shape_bytes x.0 ≤ 4096 * x.1.0)
unfolding items_at
lengths_within zero pages bytes x le e =
    subst (λ (y : List Shape × (ℕ × List ℕ)). (y.1.0 ≤ 64) × (4096 * pages + shape_bytes y.0 ≤ 4096 * y.1.0)) (ok_is ([], (pages, bytes)) x e) (le, omega arith)
lengths_within (suc n) pages bytes x le e =
    let first = bind_ok _ _ _ e in
    let others = bind_ok _ _ _ first.2 in
    let own = length_within pages bytes first.0 first.1 in
    let behind = lengths_within n first.0.1.0 first.0.1.1 others.0 own.0 others.1 in
    let made : List Shape × (ℕ × List ℕ) = (first.0.0 ∷ others.0.0, others.0.1) in
    subst (λ (y : List Shape × (ℕ × List ℕ)). (y.1.0 ≤ 64) × (4096 * pages + shape_bytes y.0 ≤ 4096 * y.1.0)) (ok_is made x others.2) (behind.0, omega (arith, own.1, behind.1))

-- 64 pages hold all of them
pub lengths_few : (n : ℕ) (bytes : List ℕ) (x : List Shape × (ℕ × List ℕ)) → items_at shape_at n (0, bytes) ≡ Ok x → shape_bytes x.0 ≤ 262144
lengths_few n bytes x e = let all = lengths_within n 0 bytes x (omega arith) e in omega (arith, all.0, all.1)
