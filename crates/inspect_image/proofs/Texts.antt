-- Texts of numbered items.
use Rattle.std.proofs.Common.{◌≡◌, refl, ℕ, suc, ◌+◌, ◌<◌, List, ◌∷◌, ◌++◌, length, get_or, drop, sym, ap, ◌∙◌, add-one, append_assoc, drop-cons}
use Rattle.std.specs.List.{flat_map}
use Rattle.sbx_image.specs.Parts.{Parts}
use Rattle.sbx_image.specs.Function.{Function}
use Rattle.sbx_image.specs.Region.{Region}
use Rattle.sbx_image.specs.Regions.{behind, byte_count, placed_from}
use Rattle.sbx_image.specs.Services.{Services}
use Rattle.inspect_image.specs.Images.{functions_text, image_text, numbered, region_lines, regions_text, services_line, sizes_lines}

-- one item more of a numbered list
pub numbered_more : {A : Type 0} (text : ℕ → A → List ℕ) (mid new total : List ℕ) (n i : ℕ) (xs : List A) (x : A) → i < length xs → x ≡ get_or xs i x
    → new ≡ mid ++ text n x → mid ++ numbered text n (drop i xs) ≡ total → new ++ numbered text (n + 1) (drop (i + 1) xs) ≡ total
numbered_more {A} text mid new total n i xs x lt is step so_far =
    let front : drop i xs ≡ x ∷ drop (i + 1) xs = rw add-one (drop-cons xs i x lt ∙ ap (λ (y : A). y ∷ drop (suc i) xs) (sym is)) in
    rw step (append_assoc mid (text n x) (numbered text (n + 1) (drop (i + 1) xs)) ∙ ap (λ (ys : List A). mid ++ numbered text n ys) (sym front) ∙ so_far)

-- the lines of one region more
pub region_more : (mid new total : List ℕ) (start next i : ℕ) (rs : List Region) (r : Region) → i < length rs → r ≡ get_or rs i r → next ≡ behind start r
    → new ≡ mid ++ region_lines (record { address = start; bytes = r.bytes; writable = r.writable })
    → mid ++ flat_map region_lines (placed_from start (drop i rs)) ≡ total → new ++ flat_map region_lines (placed_from next (drop (i + 1) rs)) ≡ total
region_more mid new total start next i rs r lt is after step so_far =
    let front : drop i rs ≡ r ∷ drop (i + 1) rs = rw add-one (drop-cons rs i r lt ∙ ap (λ (y : Region). y ∷ drop (suc i) rs) (sym is)) in
    rw (step, after)
    (append_assoc mid (region_lines (record { address = start; bytes = r.bytes; writable = r.writable })) (flat_map region_lines (placed_from (behind start r) (drop (i + 1) rs)))
    ∙ ap (λ (ys : List Region). mid ++ flat_map region_lines (placed_from start ys)) (sym front) ∙ so_far)

-- the pieces of an image's text
pub pieces : (parts : Parts) (s : Services) (pages words bytes version : ℕ) (rs : List Region) (fs : List Function) (a b c d e : List ℕ) → s ≡ parts.services → pages ≡ parts.stack_pages
    → words ≡ length parts.words → bytes ≡ byte_count parts.regions → version ≡ parts.version → rs ≡ parts.regions → fs ≡ parts.functions
    → b ≡ a ++ services_line s.0 → c ≡ b ++ sizes_lines pages words bytes → d ≡ c ++ regions_text version rs → e ≡ d ++ functions_text version fs → e ≡ a ++ image_text parts
pieces parts s pages words bytes version rs fs a b c d e p q r t v w u x y z k =
    let one : e ≡ (((a ++ services_line s.0) ++ sizes_lines pages words bytes) ++ regions_text version rs) ++ functions_text version fs = rw (k, z, y, x) refl in
    one ∙ rw (p, q, r, t, v, w, u) (simp append_assoc)

-- five texts that are put one behind another
pub five_put : (a b c d e g h l p r t : List ℕ) → b ≡ a ++ h → c ≡ b ++ l → d ≡ c ++ p → e ≡ d ++ r → g ≡ e ++ t → g ≡ a ++ ((((h ++ l) ++ p) ++ r) ++ t)
five_put a b c d e g h l p r t first second third fourth fifth = fifth ∙ rw (fourth, third, second, first) (simp append_assoc)
