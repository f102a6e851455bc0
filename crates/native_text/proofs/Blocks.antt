-- The lines of a block, one part after another.
use Rattle.std.proofs.Common.{◌≡◌, ℕ, Bool, true, false, List, [], ◌∷◌, ◌++◌, refl, sym, ap, ◌∙◌, append_assoc, append-nil}
use Rattle.std.specs.Prelude.{codes, ◌==◌, if◌then◌else◌}
use Rattle.std.specs.Fmt.{decimal}
use Rattle.native_text.specs.Terms.{Ending, Onto, Chosen, Ended, Sought}
use Rattle.native_text.specs.Lines.{CodeLine, Label, Head, Jump, head_lines, ending_lines, next_number}
use Rattle.native_text.specs.Spelling.{line_text, lines_text, points, codes_kept, all_points, label_text}

-- whether codes are kept behind lines
abbrev pub all_codes : Bool → List CodeLine → Bool
all_codes has [] = has
all_codes has (line ∷ lines) = all_codes (codes_kept has line) lines

pub lines_text-append : (n : ℕ) (has : Bool) (xs ys : List CodeLine)
    → lines_text n has (xs ++ ys) ≡ lines_text n has xs ++ lines_text (all_points n xs) (all_codes has xs) ys
lines_text-append n has [] ys = refl
lines_text-append n has (x ∷ xs) ys =
    ap (λ (t : List ℕ). line_text n has x ++ t) (lines_text-append (points n x) (codes_kept has x) xs ys)
    ∙ sym (append_assoc (line_text n has x) (lines_text (points n x) (codes_kept has x) xs) (lines_text (all_points (points n x) xs) (all_codes (codes_kept has x) xs) ys))

pub all_points-append : (n : ℕ) (xs ys : List CodeLine) → all_points n (xs ++ ys) ≡ all_points (all_points n xs) ys
all_points-append n [] ys = refl
all_points-append n (x ∷ xs) ys = all_points-append (points n x) xs ys

jump-points : (n next label : ℕ) (b : Bool) → all_points n (if b then [] else Jump label ∷ []) ≡ n
jump-points n next label true = refl
jump-points n next label false = refl

-- the end of a block has no point
pub ending-points : (n next : ℕ) (e : Ending) → all_points n (ending_lines next e) ≡ n
ending-points n next (Onto label) = jump-points n next label (label == next)
ending-points n next (Chosen e first second) = jump-points n next second (second == next)
ending-points n next (Ended e) = refl
ending-points n next (Sought x arms) = refl

head-codes : (is_head : Bool) → all_codes false (head_lines is_head) ≡ false
head-codes true = refl
head-codes false = refl

regrouped : (old label colon h a e : List ℕ)
    → ((((old ++ label) ++ colon) ++ h) ++ a) ++ e ≡ old ++ ((label ++ colon) ++ (h ++ (a ++ e)))
regrouped old label colon h a e = simp append_assoc

-- a block is its label, its head, its statements and its end
pub block-text : (n m label : ℕ) (is_head : Bool) (actions ending : List CodeLine) (old named labelled headed acted ended : List ℕ)
    → named ≡ old ++ label_text label
    → labelled ≡ named ++ codes ":;\n"
    → headed ≡ labelled ++ lines_text n false (head_lines is_head)
    → m ≡ all_points n (head_lines is_head)
    → acted ≡ headed ++ lines_text m false actions
    → ((m : ℕ) (has : Bool) → ended ≡ acted ++ lines_text m has ending)
    → ended ≡ old ++ lines_text n false (Label label ∷ head_lines is_head ++ actions ++ ending)
block-text n m label is_head actions ending old named labelled headed acted ended q l h p a e =
    let m' : ℕ = all_points n (head_lines is_head) in
    let h-text : List ℕ = lines_text n false (head_lines is_head) in
    let a-text : List ℕ = lines_text m' false actions in
    let e-text : List ℕ = lines_text (all_points m' actions) (all_codes false actions) ending in
    let front : lines_text n false (head_lines is_head ++ actions ++ ending) ≡ h-text ++ (a-text ++ e-text) =
    ap (λ (ls : List CodeLine). lines_text n false ls) (append_assoc (head_lines is_head) actions ending)
    ∙ lines_text-append n false (head_lines is_head) (actions ++ ending)
    ∙ ap (λ (t : List ℕ). h-text ++ t)
    (ap (λ (b : Bool). lines_text m' b (actions ++ ending)) (head-codes is_head) ∙ lines_text-append m' false actions ending) in
    let so : ended ≡ ((((old ++ label_text label) ++ codes ":;\n") ++ h-text) ++ a-text) ++ e-text =
    e (all_points m' actions) (all_codes false actions) ∙ ap (λ (t : List ℕ). t ++ e-text) (rw (a, p, h, l, q) refl) in
    so ∙ regrouped old (label_text label) (codes ":;\n") h-text a-text e-text
    ∙ ap (λ (t : List ℕ). old ++ ((label_text label ++ codes ":;\n") ++ t)) (sym front)

pub head-text : (n : ℕ) (old pointed new : List ℕ) → pointed ≡ old ++ codes "    " ++ codes "HEAD(" ++ decimal (next_number n) ++ codes ", "
    → new ≡ pointed ++ codes "NO_CODES);\n" → new ≡ old ++ lines_text n false (Head ∷ [])
head-text n old pointed new p e = e ∙ rw p (simp (append_assoc, append-nil))

pub block-points : (n label next : ℕ) (is_head : Bool) (actions : List CodeLine) (ending : Ending)
    → all_points n (Label label ∷ head_lines is_head ++ actions ++ ending_lines next ending) ≡ all_points (all_points n (head_lines is_head)) actions
block-points n label next is_head actions ending =
    let m : ℕ = all_points n (head_lines is_head) in
    ap (λ (ls : List CodeLine). all_points n ls) (append_assoc (head_lines is_head) actions (ending_lines next ending))
    ∙ all_points-append n (head_lines is_head) (actions ++ ending_lines next ending) ∙ all_points-append m actions (ending_lines next ending)
    ∙ ending-points (all_points m actions) next ending
