-- The numbers of lines and rows that are put together are words.
use Rattle.std.proofs.Common.{◌≡◌, ℕ, ◌+◌, ◌<◌, Bool, true, false, List, [], ◌∷◌, ◌++◌, length, drop, get_or, sym, ap, subst, ◌∙◌}
use Rattle.native_lang.specs.declared.program.ProgramBlock.{ProgramBlock}
use Rattle.native_text.specs.Lines.{CodeLine, Label, block_lines, body_lines, head_lines, next_number}
use Rattle.native_text.specs.Words.{AreWordLines, AreWordRows, AreWords, IsWord}
use Rattle.native_text.proofs.Bodies.{front_of}

lines-words : (xs ys : List CodeLine) → AreWordLines xs → AreWordLines ys → AreWordLines (xs ++ ys)
lines-words [] ys v w = w
lines-words (x ∷ xs) ys v w = (v.0, lines-words xs ys v.1 w)

head-words : (is_head : Bool) → AreWordLines (head_lines is_head)
head-words true = (tt, tt)
head-words false = tt

pub block-words : (label : ℕ) (is_head : Bool) (actions ending : List CodeLine) → IsWord label → AreWordLines actions → AreWordLines ending
    → AreWordLines (Label label ∷ head_lines is_head ++ actions ++ ending)
block-words label is_head actions ending small v w =
    (small, lines-words (head_lines is_head ++ actions) ending (lines-words (head_lines is_head) actions (head-words is_head) v) w)

pub rows-words : (rows : List (List ℕ)) (row : List ℕ) → AreWordRows rows → AreWords row → AreWordRows (rows ++ row ∷ [])
rows-words [] row v w = (w, tt)
rows-words (first ∷ rows) row v w = (v.0, rows-words rows row v.1 w)

-- one block more: with the words of the blocks that are left the body's are whole
pub body-words-more : (marks : List Bool) (blocks : List ProgramBlock) (i label : ℕ) (is_head : Bool) (block : ProgramBlock)
    → i < length blocks → block ≡ get_or blocks i block → is_head ≡ get_or marks label false
    → AreWordLines (block_lines label is_head block) → AreWordLines (body_lines marks (next_number label) (drop (i + 1) blocks))
    → AreWordLines (body_lines marks label (drop i blocks))
body-words-more marks blocks i label is_head block lt is head v w =
    let rest : List ProgramBlock = drop (i + 1) blocks in
    let first : body_lines marks label (drop i blocks) ≡ block_lines label is_head block ++ body_lines marks (next_number label) rest =
    ap (λ bs. body_lines marks label bs) (front_of blocks i block lt is)
    ∙ ap (λ (h : Bool). block_lines label h block ++ body_lines marks (next_number label) rest) (sym head) in
    subst AreWordLines (sym first) (lines-words (block_lines label is_head block) (body_lines marks (next_number label) rest) v w)
