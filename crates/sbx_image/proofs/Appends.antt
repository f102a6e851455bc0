-- One piece after another.
use Rattle.std.proofs.Common.{◌≡◌, ℕ, List, ◌++◌, length, Result, Ok, Err, refl, ap, ◌∙◌, append_assoc}
use Rattle.std.specs.Prelude.{OnOk}
use Rattle.std.specs.Int.{w16, w32, to_be_bytes}
use Rattle.sbx_parts.specs.declared.parts.Parts.{Parts}
use Rattle.sbx_image.specs.Spelling.{data_count_text, header_text}

pub then_put : (old text now more next : List ℕ) → now ≡ old ++ text → next ≡ now ++ more → next ≡ old ++ (text ++ more)
then_put old text now more next first second = second ∙ ap (λ (x : List ℕ). x ++ more) first ∙ append_assoc old text more

pub on_ok : {A B : Type 0} (r : Result A B) (P Q : Type 0) → OnOk r P → (P → Q) → OnOk r Q
on_ok (Ok x) P Q p f = f p
on_ok (Err e) P Q p f = tt

-- a header, of numbers that are those of its parts
pub header_is : (p : Parts) (version services words pages functions : ℕ) → version ≡ p.version → services ≡ p.services.0 → words ≡ length p.words →
    pages ≡ p.stack_pages → functions ≡ length p.functions
    → to_be_bytes w32 0x53425838 ++ to_be_bytes w16 version ++ to_be_bytes w16 services ++ to_be_bytes w32 words ++ data_count_text p ++ to_be_bytes w16 pages
    ++ to_be_bytes w16 functions ≡ header_text p
unfolding header_text
header_is p version services words pages functions v s w k f = rw (v, s, w, k, f) refl
