-- The bytes of the regions' pages, laid one behind the other with zeros owed.
use Rattle.std.proofs.Common.{◌≡◌, ℕ, zero, suc, ◌+◌, ◌-◌, ◌*◌, ◌%◌, ◌<◌, ◌≤◌, List, [], ◌∷◌, ◌++◌, length, get_or, drop, Some, refl, sym, ap, ◌∙◌, append_assoc, arith}
use Rattle.std.specs.Prelude.{replicate, slice_index}
use Rattle.std.proofs.lemmas.List.{append-nil, drop_all, drop_more, length-append}
use Rattle.sbx_image.specs.Region.{Region}
use Rattle.sbx_image.specs.Parts.{Parts}
use Rattle.sbx_image.specs.Rules.{parts_keep}
use Rattle.sbx_image.specs.Regions.{data_at, laid, on_pages, pages_for}
use Rattle.sbx_image.proofs.Limits.{data_within}
use Rattle.sbx_image.proofs.Within.{data_lies_at, laid_count}
use Rattle.std.specs.Prelude.{Ok}

zeros : (n k : ℕ) → k ≡ (4096 - n % 4096) % 4096 → k ≡ 4096 * pages_for n - n
zeros n k is = omega (arith, is)

-- a region behind the zeros that were owed
pub owed_then : (old pushed new own bytes : List ℕ) (owed left : ℕ) → own ≡ bytes → pushed ≡ old ++ replicate owed 0 → new ≡ pushed ++ own →
    left ≡ (4096 - length own % 4096) % 4096 → new ++ replicate left 0 ≡ (old ++ replicate owed 0) ++ on_pages bytes
owed_then old pushed new own bytes owed left same zeros_first extends is =
    let count : left ≡ 4096 * pages_for (length bytes) - length bytes = zeros (length own) left is ∙ ap (λ (l : List ℕ). 4096 * pages_for (length l) - length l) same in
    ap (λ (l : List ℕ). l ++ replicate left 0) (extends ∙ ap (λ (l : List ℕ). l ++ own) zeros_first ∙ ap (λ (l : List ℕ). (old ++ replicate owed 0) ++ l) same)
    ∙ append_assoc (old ++ replicate owed 0) bytes (replicate left 0)
    ∙ ap (λ (n : ℕ). (old ++ replicate owed 0) ++ (bytes ++ replicate n 0)) count

ahead : {A : Type 0} (xs : List A) (i : ℕ) (x : A) → i < length xs → x ≡ get_or xs i x → drop i xs ≡ x ∷ drop (i + 1) xs
ahead xs i x lt is = drop_more xs i x lt ∙ ap (λ y. y ∷ drop (i + 1) xs) (sym is)

module _ (rs : List Region) (i : ℕ) where
  pub laid_more : (r : Region) (old new : List ℕ) → i < length rs → r ≡ get_or rs i r → new ≡ old ++ on_pages r.bytes → old ++ laid (drop i rs) ≡ laid rs →
      new ++ laid (drop (i + 1) rs) ≡ laid rs
  laid_more r old new lt is own so_far =
      ap (λ (l : List ℕ). l ++ laid (drop (i + 1) rs)) own ∙ append_assoc old (on_pages r.bytes) (laid (drop (i + 1) rs))
      ∙ ap (λ (l : List ℕ). old ++ l) (sym (ap laid (ahead rs i r lt is))) ∙ so_far

  pub laid_all : (bytes : List ℕ) → length rs ≤ i → bytes ++ laid (drop i rs) ≡ laid rs → bytes ≡ laid rs
  laid_all bytes done so_far = sym (append-nil bytes) ∙ ap (λ (l : List Region). bytes ++ laid l) (sym (drop_all i rs done)) ∙ so_far

-- ---- what they hold

zeros_read : (n k : ℕ) → slice_index (replicate n 0) k ≡ 0
zeros_read zero k = refl
zeros_read (suc n) zero = refl
zeros_read (suc n) (suc k) = zeros_read n k

zeros_behind : (l : List ℕ) (n k : ℕ) → slice_index (l ++ replicate n 0) k ≡ slice_index l k
zeros_behind [] n k = zeros_read n k
zeros_behind (x ∷ l) n zero = refl
zeros_behind (x ∷ l) n (suc k) = zeros_behind l n k

pub few_laid : (parts : Parts) (bytes : List ℕ) (owed : ℕ) → parts_keep parts ≡ Ok tt → bytes ++ replicate owed 0 ≡ laid parts.regions → length bytes ≤ 524288
few_laid parts bytes owed kept laid_there =
    let both = length-append bytes (replicate owed 0) in
    let all = ap (λ (l : List ℕ). length l) laid_there ∙ laid_count parts.regions in
    let few = (data_within parts kept).pages in
    omega (arith, both, all, few)

pub laid_at : (parts : Parts) (bytes : List ℕ) (owed a byte : ℕ) → bytes ++ replicate owed 0 ≡ laid parts.regions → data_at parts.regions a ≡ Some byte →
    slice_index bytes (a - 0x80000) ≡ byte
laid_at parts bytes owed a byte laid_there e =
    sym (zeros_behind bytes owed (a - 0x80000)) ∙ ap (λ (l : List ℕ). slice_index l (a - 0x80000)) laid_there ∙ (data_lies_at parts.regions a byte e).is
