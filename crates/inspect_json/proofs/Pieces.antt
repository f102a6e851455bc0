-- The pieces of an image's object.
use Rattle.std.proofs.Common.{◌≡◌, ℕ, suc, ◌+◌, ◌<◌, ◌≤◌, List, [], ◌∷◌, ◌++◌, codes, length, map, get_or, drop, refl, sym, ap, ◌∙◌, append_assoc, add-one, drop-cons}
use Rattle.std.proofs.lemmas.List.{drop_all}
use Rattle.json.specs.Token.{Token, begin_object, end_array, end_object}
use Rattle.json.specs.Tree.{items_tokens, json_tokens}
use Rattle.sbx_image.specs.Parts.{Parts}
use Rattle.sbx_image.specs.Function.{Function}
use Rattle.sbx_image.specs.Region.{Region}
use Rattle.sbx_image.specs.Regions.{behind, byte_count, placed, placed_from}
use Rattle.sbx_image.specs.Services.{Services}
use Rattle.inspect_json.specs.Objects.{array_of, items_of, member_tokens}
use Rattle.inspect_json.specs.Images.{function_json, image_json, region_json, size_tokens}

pub whole_image : (parts : Parts) (s : Services) (version pages words bytes : ℕ) (rs : List Region) (fs : List Function) → version ≡ parts.version → s ≡ parts.services
    → pages ≡ parts.stack_pages → words ≡ length parts.words → bytes ≡ byte_count parts.regions → rs ≡ parts.regions → fs ≡ parts.functions
    → (begin_object ∷ []) ++ (size_tokens version s.0 pages words bytes ++ (member_tokens (codes "regions") (array_of (map region_json (placed rs)))
    ++ (member_tokens (codes "functions") (array_of (map function_json fs)) ++ (end_object ∷ [])))) ≡ json_tokens (image_json parts)
whole_image parts s version pages words bytes rs fs p q r t v w u = rw (p, q, r, t, v, w, u) refl

-- one region more
pub region_more : (done total : List Token) (start next i : ℕ) (rs : List Region) (r : Region) → i < length rs → r ≡ get_or rs i r → next ≡ behind start r
    → done ++ items_tokens (items_of (map region_json (placed_from start (drop i rs)))) ≡ total
    → (done ++ json_tokens (region_json (record { address = start; bytes = r.bytes; writable = r.writable })))
    ++ items_tokens (items_of (map region_json (placed_from next (drop (i + 1) rs)))) ≡ total
region_more done total start next i rs r lt is after so_far =
    let front : drop i rs ≡ r ∷ drop (i + 1) rs = rw add-one (drop-cons rs i r lt ∙ ap (λ (y : Region). y ∷ drop (suc i) rs) (sym is)) in
    rw after (append_assoc done (json_tokens (region_json (record { address = start; bytes = r.bytes; writable = r.writable })))
    (items_tokens (items_of (map region_json (placed_from (behind start r) (drop (i + 1) rs)))))
    ∙ ap (λ (ys : List Region). done ++ items_tokens (items_of (map region_json (placed_from start ys)))) (sym front) ∙ so_far)

-- no region is left
pub regions_told : (done total : List Token) (start i : ℕ) (rs : List Region) → length rs ≤ i
    → done ++ items_tokens (items_of (map region_json (placed_from start (drop i rs)))) ≡ total → done ++ end_array ∷ [] ≡ total
regions_told done total start i rs le so_far =
    ap (λ (ys : List Region). done ++ items_tokens (items_of (map region_json (placed_from start ys)))) (sym (drop_all i rs le)) ∙ so_far
