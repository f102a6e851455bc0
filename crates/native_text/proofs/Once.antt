-- A text is that of one file at most.
use Rattle.std.proofs.Common.{◌≡◌, ℕ, ◌+◌, ◌<◌, ◌≤◌, Bool, false, List, [], ◌∷◌, ◌++◌, Some, None, refl, sym, ap, ◌∙◌, append_assoc, arith, lit<}
use Rattle.std.specs.Prelude.{codes, if◌then◌else◌}
use Rattle.std.specs.Fmt.{decimal}
use Rattle.std.specs.Char.{is_ascii_digit}
use Rattle.std.proofs.lemmas.Fmt.{decimal_digit}
use Rattle.std.proofs.lemmas.Bool.{eq-eqb, false≢true}
use Rattle.native_text.specs.Lines.{CodeLine}
use Rattle.native_text.specs.Spelling.{all_points, codes_kept, line_text, lines_text, points}
use Rattle.native_text.specs.Programs.{CodeFile, bytes_text, file_text, resumes_text, rows_text}
use Rattle.native_text.specs.Words.{AreWords, AreWordLines, AreWordRows, IsWord, IsWordFile}
use Rattle.native_text.proofs.Letters.{Stops, figure, number, read_number, strip}
use Rattle.native_text.proofs.Written.{line_depth, line_read, no_code, read_code}

same_some : {A : Type 0} (a b : A) → Some a ≡ Some b → a ≡ b
same_some a b e = cc

same_cons : {A : Type 0} (x y : A) (xs ys : List A) → x ≡ y → xs ≡ ys → x ∷ xs ≡ y ∷ ys
same_cons x y xs ys e q = ap (λ z. z ∷ xs) e ∙ ap (λ zs. y ∷ zs) q

-- ---- letters and numbers at the front of two texts that are the same

strip-own : (p t : List ℕ) → strip p (p ++ t) ≡ Some t
strip-own [] t = refl
strip-own (c ∷ cs) t = ap (λ (b : Bool). if b then strip cs (cs ++ t) else None) (eq-eqb c c refl) ∙ strip-own cs t

cut : (p t u : List ℕ) → p ++ t ≡ p ++ u → t ≡ u
cut p t u e = same_some t u (sym (strip-own p t) ∙ ap (strip p) e ∙ strip-own p u)

number-cut : (m n : ℕ) (t u : List ℕ) → IsWord m → IsWord n → Stops t → Stops u → decimal m ++ t ≡ decimal n ++ u → (m ≡ n) × (t ≡ u)
number-cut m n t u v w s r e =
    let p : (m, t) ≡ (n, u) = same_some (m, t) (n, u) (sym (number m t v s) ∙ ap read_number e ∙ number n u w r) in
    (ap (λ (q : ℕ × List ℕ). q.0) p, ap (λ (q : ℕ × List ℕ). q.1) p)

-- no number begins with another letter than a figure
no_number : (c n : ℕ) (t u : List ℕ) → is_ascii_digit c ≡ false → IsWord n → c ∷ t ≡ decimal n ++ u → ⊥
no_number c n t u e w same =
    let f = figure n w in
    let q : c ∷ t ≡ f.0 ∷ (f.1 ++ u) = same ∙ ap (λ (l : List ℕ). l ++ u) f.2 in
    let d : c ≡ f.0 = cc in
    false≢true (sym e ∙ ap is_ascii_digit d ∙ f.3)

-- ---- bytes

apart : (a b c t : List ℕ) → ((a ++ b) ++ c) ++ t ≡ a ++ (b ++ (c ++ t))
apart a b c t = simp append_assoc

first_byte : (x : ℕ) (xs t : List ℕ) → bytes_text (x ∷ xs) ++ t ≡ decimal x ++ (codes "," ++ (bytes_text xs ++ t))
first_byte x xs t = apart (decimal x) (codes ",") (bytes_text xs) t

bytes-cut : (xs ys : List ℕ) (c d : ℕ) (t u : List ℕ) → AreWords xs → AreWords ys → is_ascii_digit c ≡ false → is_ascii_digit d ≡ false
    → bytes_text xs ++ (c ∷ t) ≡ bytes_text ys ++ (d ∷ u) → (xs ≡ ys) × (c ∷ t ≡ d ∷ u)
bytes-cut [] [] c d t u v w s r e = (refl, e)
bytes-cut [] (y ∷ ys) c d t u v w s r e = absurd (no_number c y t _ s w.0 (e ∙ first_byte y ys (d ∷ u)))
bytes-cut (x ∷ xs) [] c d t u v w s r e = absurd (no_number d x u _ r v.0 (sym e ∙ first_byte x xs (c ∷ t)))
bytes-cut (x ∷ xs) (y ∷ ys) c d t u v w s r e =
    let first = number-cut x y (codes "," ++ (bytes_text xs ++ (c ∷ t))) (codes "," ++ (bytes_text ys ++ (d ∷ u))) v.0 w.0 refl refl
    (sym (first_byte x xs (c ∷ t)) ∙ e ∙ first_byte y ys (d ∷ u)) in
    let more = bytes-cut xs ys c d t u v.1 w.1 s r (cut (codes ",") (bytes_text xs ++ (c ∷ t)) (bytes_text ys ++ (d ∷ u)) first.1) in
    (same_cons x y xs ys first.0 more.0, more.1)

-- ---- rows, and the zero behind them

abbrev last_row : List ℕ → List ℕ
last_row t = codes "    0};\n" ++ t

row_apart : (i b l r t : List ℕ) → (((i ++ b) ++ l) ++ r) ++ t ≡ i ++ (b ++ (l ++ (r ++ t)))
row_apart i b l r t = simp append_assoc

first_row : (row : List ℕ) (rows : List (List ℕ)) (t : List ℕ)
    → rows_text (row ∷ rows) ++ t ≡ codes "    " ++ (bytes_text row ++ (codes "\n" ++ (rows_text rows ++ t)))
first_row row rows t = row_apart (codes "    ") (bytes_text row) (codes "\n") (rows_text rows) t

-- the last row is none of bytes
zero_read : (t : List ℕ) → read_number (codes "0};\n" ++ t) ≡ Some (0, codes "};\n" ++ t)
zero_read t = ap (λ (l : List ℕ). read_number (l ++ (codes "};\n" ++ t))) (sym (decimal_digit 0 (omega arith))) ∙ number 0 (codes "};\n" ++ t) (omega arith) refl

first_of_list : List ℕ → ℕ
first_of_list [] = 0
first_of_list (c ∷ cs) = c

firsts : (c d : ℕ) (t u : List ℕ) → c ∷ t ≡ d ∷ u → c ≡ d
unfolding first_of_list
firsts c d t u e = ap first_of_list e

other : (c d : ℕ) → c < d → c ≡ d → ⊥
other c d l e = absurd (omega arith)

no_comma : (x : ℕ) (t u : List ℕ) → IsWord x → codes "0};\n" ++ t ≡ decimal x ++ (codes "," ++ u) → ⊥
no_comma x t u w e =
    let p : (0, codes "};\n" ++ t) ≡ (x, codes "," ++ u) =
    same_some _ _ (sym (zero_read t) ∙ ap read_number e ∙ number x (codes "," ++ u) w refl) in
    other 44 125 (lit< tt) (sym (firsts 125 44 _ _ (ap (λ (q : ℕ × List ℕ). q.1) p)))

no_row : (row : List ℕ) (t u : List ℕ) → AreWords row → codes "0};\n" ++ t ≡ bytes_text row ++ (codes "\n" ++ u) → ⊥
no_row [] t u w e = other 10 48 (lit< tt) (sym (firsts 48 10 _ _ e))
no_row (x ∷ xs) t u w e = no_comma x t (bytes_text xs ++ (codes "\n" ++ u)) w.0 (e ∙ first_byte x xs (codes "\n" ++ u))

rows-cut : (xs ys : List (List ℕ)) (t u : List ℕ) → AreWordRows xs → AreWordRows ys
    → rows_text xs ++ last_row t ≡ rows_text ys ++ last_row u → (xs ≡ ys) × (t ≡ u)
rows-cut [] [] t u v w e = (refl, cut (codes "    0};\n") t u e)
rows-cut [] (y ∷ ys) t u v w e =
    absurd (no_row y t (rows_text ys ++ last_row u) w.0 (cut (codes "    ") (codes "0};\n" ++ t) _ (e ∙ first_row y ys (last_row u))))
rows-cut (x ∷ xs) [] t u v w e =
    absurd (no_row x u (rows_text xs ++ last_row t) v.0 (cut (codes "    ") (codes "0};\n" ++ u) _ (sym e ∙ first_row x xs (last_row t))))
rows-cut (x ∷ xs) (y ∷ ys) t u v w e =
    let first = bytes-cut x y 10 10 (rows_text xs ++ last_row t) (rows_text ys ++ last_row u) v.0 w.0 refl refl
    (cut (codes "    ") _ _ (sym (first_row x xs (last_row t)) ∙ e ∙ first_row y ys (last_row u))) in
    let more = rows-cut xs ys t u v.1 w.1 (cut (codes "\n") _ _ first.1) in
    (same_cons x y xs ys first.0 more.0, more.1)

-- ---- lines

abbrev Within : ℕ → List CodeLine → Type 0
Within k [] = Unit {0}
Within k (line ∷ lines) = (line_depth line ≤ k) × Within k lines

abbrev lines_depth : List CodeLine → ℕ
lines_depth [] = 0
lines_depth (line ∷ lines) = line_depth line + lines_depth lines

within : (k : ℕ) (lines : List CodeLine) → lines_depth lines ≤ k → Within k lines
within k [] h = tt
within k (line ∷ lines) h = (omega arith, within k lines (omega arith))

pub lines_cut : (k n : ℕ) (has : Bool) (xs ys : List CodeLine) (t u : List ℕ) → Within k xs → Within k ys → AreWordLines xs → AreWordLines ys
    → read_code k t ≡ None → read_code k u ≡ None → lines_text n has xs ++ t ≡ lines_text n has ys ++ u → (xs ≡ ys) × (t ≡ u)
lines_cut k n has [] [] t u c d v w s r e = (refl, e)
lines_cut k n has [] (y ∷ ys) t u c d v w s r e =
    let some : read_code k t ≡ Some (y, lines_text (points n y) (codes_kept has y) ys ++ u) =
    ap (read_code k) (e ∙ append_assoc (line_text n has y) (lines_text (points n y) (codes_kept has y) ys) u) ∙ line_read k n has y _ d.0 w.0 in
    absurd (cc (s, some))
lines_cut k n has (x ∷ xs) [] t u c d v w s r e =
    let some : read_code k u ≡ Some (x, lines_text (points n x) (codes_kept has x) xs ++ t) =
    ap (read_code k) (sym e ∙ append_assoc (line_text n has x) (lines_text (points n x) (codes_kept has x) xs) t) ∙ line_read k n has x _ c.0 v.0 in
    absurd (cc (r, some))
lines_cut k n has (x ∷ xs) (y ∷ ys) t u c d v w s r e =
    let xt : List ℕ = lines_text (points n x) (codes_kept has x) xs ++ t in
    let yu : List ℕ = lines_text (points n y) (codes_kept has y) ys ++ u in
    let both : (x, xt) ≡ (y, yu) =
    same_some (x, xt) (y, yu) (sym (line_read k n has x xt c.0 v.0)
    ∙ ap (read_code k) (sym (append_assoc (line_text n has x) (lines_text (points n x) (codes_kept has x) xs) t) ∙ e
    ∙ append_assoc (line_text n has y) (lines_text (points n y) (codes_kept has y) ys) u)
    ∙ line_read k n has y yu d.0 w.0) in
    let head : x ≡ y = ap (λ (q : CodeLine × List ℕ). q.0) both in
    let left : xt ≡ yu = ap (λ (q : CodeLine × List ℕ). q.1) both in
    let back : yu ≡ lines_text (points n x) (codes_kept has x) ys ++ u =
    ap (λ (z : CodeLine). lines_text (points n z) (codes_kept has z) ys ++ u) (sym head) in
    let more = lines_cut k (points n x) (codes_kept has x) xs ys t u c.1 d.1 v.1 w.1 s r (left ∙ back) in
    (same_cons x y xs ys head more.0, more.1)

-- ---- files

abbrev run_ends : List ℕ
run_ends = codes "RUN_ENDS\n\n#define GP_STEPS\n#include \"geyserpan_native.h\"\n\nSTEP_BEGINS\n"

abbrev behind_lines : List CodeLine → List ℕ
behind_lines lines =
    run_ends ++ (resumes_text (all_points 0 lines) ++ (codes "STEP_RESUMES\n" ++ (lines_text 0 false lines ++ codes "STEP_ENDS\n")))

file_parts : (c d m s v u l n w i b j h o r z g x q p y k : List ℕ)
    → (((((c ++ ((((d ++ m) ++ s) ++ (v ++ u)) ++ l)) ++ ((((d ++ n) ++ s) ++ (w ++ u)) ++ l)) ++ i) ++ b) ++ j ++ (((h ++ o) ++ r) ++ z))
    ++ ((((((g ++ x) ++ q) ++ p) ++ y) ++ x) ++ k)
    ≡ (c ++ d ++ m ++ s) ++ (v ++ ((u ++ l ++ d ++ n ++ s) ++ (w ++ ((u ++ l ++ i) ++ (b ++ ((j ++ h ++ o) ++ (r ++ (z ++ (g ++ (x ++ (q ++ (p ++ (y ++ (x ++ k))))))))))))))
file_parts c d m s v u l n w i b j h o r z g x q p y k = simp append_assoc

abbrev define : List ℕ
define = codes "#define "

abbrev comment : List ℕ
comment = codes "/* An accepted image as C, by Geyserpan's `native`. */\n"

abbrev before_data : List ℕ
before_data = comment ++ define ++ codes "GP_DATA_BYTES" ++ codes " "

abbrev before_stack : List ℕ
before_stack = codes "u" ++ codes "\n" ++ define ++ codes "GP_STACK_BYTES" ++ codes " "

abbrev before_image : List ℕ
before_image = codes "u" ++ codes "\n" ++ codes "#define GP_IMAGE {"

abbrev before_rows : List ℕ
before_rows = codes "}\n#include \"geyserpan_native.h\"\n" ++ codes "static const uint8_t gp_start[]" ++ codes " = {\n"

abbrev from_rows : CodeFile → List ℕ
from_rows f = rows_text f.rows ++ (codes "    0};\n" ++ (codes "\nRUN_BEGINS\n" ++ (lines_text 0 false f.lines ++ behind_lines f.lines)))

abbrev from_image : CodeFile → List ℕ
from_image f = bytes_text f.image ++ (before_rows ++ from_rows f)

abbrev from_stack : CodeFile → List ℕ
from_stack f = decimal f.stack_bytes ++ (before_image ++ from_image f)

abbrev from_data : CodeFile → List ℕ
from_data f = decimal f.data_bytes ++ (before_stack ++ from_stack f)

laid_out : (f : CodeFile) → file_text f ≡ before_data ++ from_data f
laid_out f =
    file_parts comment define (codes "GP_DATA_BYTES") (codes " ") (decimal f.data_bytes) (codes "u") (codes "\n") (codes "GP_STACK_BYTES")
    (decimal f.stack_bytes) (codes "#define GP_IMAGE {") (bytes_text f.image) (codes "}\n#include \"geyserpan_native.h\"\n")
    (codes "static const uint8_t gp_start[]") (codes " = {\n") (rows_text f.rows) (codes "    0};\n") (codes "\nRUN_BEGINS\n")
    (lines_text 0 false f.lines) run_ends (resumes_text (all_points 0 f.lines)) (codes "STEP_RESUMES\n") (codes "STEP_ENDS\n")

no_line : (k : ℕ) (lines : List CodeLine) → read_code k (behind_lines lines) ≡ None
no_line k lines =
    no_code k (codes "\n\n#define GP_STEPS\n#include \"geyserpan_native.h\"\n\nSTEP_BEGINS\n"
    ++ (resumes_text (all_points 0 lines) ++ (codes "STEP_RESUMES\n" ++ (lines_text 0 false lines ++ codes "STEP_ENDS\n"))))

same_file : (f g : CodeFile) → f.data_bytes ≡ g.data_bytes → f.stack_bytes ≡ g.stack_bytes → f.image ≡ g.image → f.rows ≡ g.rows → f.lines ≡ g.lines → f ≡ g
same_file f g a b c d e =
    ap (λ n. record f { data_bytes = n }) a ∙ ap (λ n. record f { data_bytes = g.data_bytes; stack_bytes = n }) b
    ∙ ap (λ n. record f { data_bytes = g.data_bytes; stack_bytes = g.stack_bytes; image = n }) c
    ∙ ap (λ n. record { data_bytes = g.data_bytes; stack_bytes = g.stack_bytes; image = g.image; rows = n; lines = f.lines }) d
    ∙ ap (λ n. record { data_bytes = g.data_bytes; stack_bytes = g.stack_bytes; image = g.image; rows = g.rows; lines = n }) e

-- a text is that of one file at most
pub file_once : (f g : CodeFile) → IsWordFile f → IsWordFile g → file_text f ≡ file_text g → f ≡ g
file_once f g v w e =
    let e0 : from_data f ≡ from_data g = cut before_data (from_data f) (from_data g) (sym (laid_out f) ∙ e ∙ laid_out g) in
    let e1 = number-cut f.data_bytes g.data_bytes (before_stack ++ from_stack f) (before_stack ++ from_stack g) v.data_bytes w.data_bytes refl refl e0 in
    let e2 = number-cut f.stack_bytes g.stack_bytes (before_image ++ from_image f) (before_image ++ from_image g) v.stack_bytes w.stack_bytes refl refl
    (cut before_stack (from_stack f) (from_stack g) e1.1) in
    let e3 = bytes-cut f.image g.image 125 125 _ _ v.image w.image refl refl (cut before_image (from_image f) (from_image g) e2.1) in
    let e4 = rows-cut f.rows g.rows _ _ v.rows w.rows (cut before_rows (from_rows f) (from_rows g) e3.1) in
    let k : ℕ = lines_depth f.lines + lines_depth g.lines in
    let e5 = lines_cut k 0 false f.lines g.lines (behind_lines f.lines) (behind_lines g.lines) (within k f.lines (omega arith)) (within k g.lines (omega arith))
    v.lines w.lines (no_line k f.lines) (no_line k g.lines) (cut (codes "\nRUN_BEGINS\n") _ _ e4.1) in
    same_file f g e1.0 e2.0 e3.0 e4.0 e5.0
