-- Rows of bytes and lines of points, one more.
use Rattle.std.proofs.Common.{◌≡◌, ℕ, suc, ◌+◌, ◌%◌, ◌^◌, ◌<◌, List, [], ◌∷◌, ◌++◌, sym, ap, ◌∙◌, append_assoc, append-nil, add-one, arith}
use Rattle.std.specs.Prelude.{codes}
use Rattle.std.specs.Fmt.{decimal}
use Rattle.native_text.specs.Programs.{bytes_text, joined, resumes_text, rows_text}

row_text : List ℕ → List ℕ
row_text row = codes "    " ++ bytes_text row ++ codes "\n"

rows_text-more : (rows : List (List ℕ)) (row : List ℕ)
    → rows_text (rows ++ row ∷ []) ≡ rows_text rows ++ (codes "    " ++ bytes_text row ++ codes "\n")
rows_text-more [] row = append-nil (codes "    " ++ bytes_text row ++ codes "\n")
rows_text-more (first ∷ rows) row =
    ap (λ (t : List ℕ). (codes "    " ++ bytes_text first ++ codes "\n") ++ t) (rows_text-more rows row)
    ∙ sym (append_assoc (codes "    " ++ bytes_text first ++ codes "\n") (rows_text rows) (codes "    " ++ bytes_text row ++ codes "\n"))

joined-more : (rows : List (List ℕ)) (row : List ℕ) → joined (rows ++ row ∷ []) ≡ joined rows ++ row
joined-more [] row = append-nil row
joined-more (first ∷ rows) row = ap (λ (t : List ℕ). first ++ t) (joined-more rows row) ∙ sym (append_assoc first (joined rows) row)

regrouped : (old rows begin row end : List ℕ) → (((old ++ rows) ++ begin) ++ row) ++ end ≡ old ++ (rows ++ (begin ++ row ++ end))
regrouped old rows begin row end = simp append_assoc

pub row-more : (rows : List (List ℕ)) (row rest left all old a b c d : List ℕ)
    → a ≡ old ++ rows_text rows → joined rows ++ left ≡ all → left ≡ row ++ rest
    → b ≡ a ++ codes "    " → c ≡ b ++ bytes_text row → d ≡ c ++ codes "\n"
    → let more : List (List ℕ) = rows ++ row ∷ [] in (d ≡ old ++ rows_text more) × (joined more ++ rest ≡ all)
row-more rows row rest left all old a b c d begun whole first p q r = (
  r ∙ rw (q, p, begun) (regrouped old (rows_text rows) (codes "    ") (bytes_text row) (codes "\n")) ∙ ap (λ (t : List ℕ). old ++ t) (sym (rows_text-more rows row)),
  ap (λ (t : List ℕ). t ++ rest) (joined-more rows row) ∙ append_assoc (joined rows) row rest ∙ ap (λ (t : List ℕ). joined rows ++ t) (sym first) ∙ whole,
)

pub resume-more : (k : ℕ) (old a b c d : List ℕ) → k + 1 < 2 ^ 32
    → a ≡ old ++ resumes_text k → b ≡ a ++ codes "    RESUME(" → c ≡ b ++ decimal ((k + 1) % 2 ^ 32) → d ≡ c ++ codes ");\n"
    → d ≡ old ++ resumes_text (k + 1)
resume-more k old a b c d small begun p q r =
    let small' : (k + 1) % 2 ^ 32 ≡ suc k = omega arith in
    rw (add-one, r, q, small', p, begun) (simp append_assoc)
