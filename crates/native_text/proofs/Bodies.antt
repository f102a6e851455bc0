-- The lines of a body, block after block.
use Rattle.std.proofs.Common.{◌≡◌, ℕ, suc, ◌+◌, ◌<◌, Bool, false, List, [], ◌∷◌, ◌++◌, length, drop, get_or, refl, sym, ap, ◌∙◌, append_assoc, add-one, drop-cons}
use Rattle.native_lang.specs.declared.program.ProgramBlock.{ProgramBlock}
use Rattle.native_text.specs.Lines.{CodeLine, block_lines, body_lines, next_number}
use Rattle.native_text.specs.Spelling.{lines_text, all_points}
use Rattle.native_text.specs.Programs.{bodies_text, twice_text}
use Rattle.native_text.proofs.Blocks.{all_codes, lines_text-append, all_points-append}

-- a body begins with a label, where no codes are kept
from_label : (marks : List Bool) (n label : ℕ) (has : Bool) (blocks : List ProgramBlock)
    → lines_text n has (body_lines marks label blocks) ≡ lines_text n false (body_lines marks label blocks)
from_label marks n label has [] = refl
from_label marks n label has (block ∷ blocks) = refl

pub block-first : (marks : List Bool) (n label : ℕ) (is_head : Bool) (block : ProgramBlock) (blocks : List ProgramBlock)
    → lines_text n false (block_lines label is_head block ++ body_lines marks (next_number label) blocks)
    ≡ lines_text n false (block_lines label is_head block)
    ++ lines_text (all_points n (block_lines label is_head block)) false (body_lines marks (next_number label) blocks)
block-first marks n label is_head block blocks =
    let lines : List CodeLine = block_lines label is_head block in
    let m : ℕ = all_points n lines in
    lines_text-append n false lines (body_lines marks (next_number label) blocks)
    ∙ ap (λ (t : List ℕ). lines_text n false lines ++ t) (from_label marks m (next_number label) (all_codes false lines) blocks)

pub front_of : {X : Type 0} (xs : List X) (i : ℕ) (x : X) → i < length xs → x ≡ get_or xs i x → drop i xs ≡ x ∷ drop (i + 1) xs
front_of xs i x lt is = rw add-one (drop-cons xs i x lt ∙ ap (λ y. y ∷ drop (suc i) xs) (sym is))

-- one block more: the text
pub body-text-more : (marks : List Bool) (blocks : List ProgramBlock) (i n m label : ℕ) (is_head : Bool) (block : ProgramBlock) (whole old new : List ℕ)
    → i < length blocks → block ≡ get_or blocks i block → is_head ≡ get_or marks label false
    → old ++ lines_text n false (body_lines marks label (drop i blocks)) ≡ whole
    → new ≡ old ++ lines_text n false (block_lines label is_head block) → m ≡ all_points n (block_lines label is_head block)
    → new ++ lines_text m false (body_lines marks (next_number label) (drop (i + 1) blocks)) ≡ whole
body-text-more marks blocks i n m label is_head block whole old new lt is head so_far text points =
    let rest : List ProgramBlock = drop (i + 1) blocks in
    let first : lines_text n false (body_lines marks label (drop i blocks))
    ≡ lines_text n false (block_lines label is_head block) ++ lines_text m false (body_lines marks (next_number label) rest) =
    ap (λ bs. lines_text n false (body_lines marks label bs)) (front_of blocks i block lt is)
    ∙ ap (λ (h : Bool). lines_text n false (block_lines label h block ++ body_lines marks (next_number label) rest)) (sym head)
    ∙ block-first marks n label is_head block rest
    ∙ ap (λ (p : ℕ). lines_text n false (block_lines label is_head block) ++ lines_text p false (body_lines marks (next_number label) rest)) (sym points) in
    ap (λ (t : List ℕ). t ++ lines_text m false (body_lines marks (next_number label) rest)) text
    ∙ append_assoc old (lines_text n false (block_lines label is_head block)) (lines_text m false (body_lines marks (next_number label) rest))
    ∙ ap (λ (t : List ℕ). old ++ t) (sym first) ∙ so_far

-- and the points
pub body-points-more : (marks : List Bool) (blocks : List ProgramBlock) (i n m label whole : ℕ) (is_head : Bool) (block : ProgramBlock)
    → i < length blocks → block ≡ get_or blocks i block → is_head ≡ get_or marks label false
    → all_points n (body_lines marks label (drop i blocks)) ≡ whole
    → m ≡ all_points n (block_lines label is_head block)
    → all_points m (body_lines marks (next_number label) (drop (i + 1) blocks)) ≡ whole
body-points-more marks blocks i n m label whole is_head block lt is head so_far points =
    let rest : List ProgramBlock = drop (i + 1) blocks in
    let first : all_points n (body_lines marks label (drop i blocks)) ≡ all_points m (body_lines marks (next_number label) rest) =
    ap (λ bs. all_points n (body_lines marks label bs)) (front_of blocks i block lt is)
    ∙ ap (λ (h : Bool). all_points n (block_lines label h block ++ body_lines marks (next_number label) rest)) (sym head)
    ∙ all_points-append n (block_lines label is_head block) (body_lines marks (next_number label) rest)
    ∙ ap (λ (p : ℕ). all_points p (body_lines marks (next_number label) rest)) (sym points) in
    sym first ∙ so_far

-- seven parts, one after another
pub seven_parts : (a b c d e f g p q r s t u v w : List ℕ)
    → q ≡ p ++ a → r ≡ q ++ b → s ≡ r ++ c → t ≡ s ++ d → u ≡ t ++ e → v ≡ u ++ f → w ≡ v ++ g
    → w ≡ p ++ (a ++ b ++ c ++ d ++ e ++ f ++ g)
seven_parts a b c d e f g p q r s t u v w h1 h2 h3 h4 h5 h6 h7 = rw (h7, h6, h5, h4, h3, h2, h1) (simp append_assoc)

-- the body that was made stands twice behind the head
pub whole-text : (lines : List CodeLine) (begin head front body whole : List ℕ) (points : ℕ)
    → begin ≡ [] → front ≡ begin ++ head → body ≡ lines_text 0 false lines → points ≡ all_points 0 lines
    → whole ≡ front ++ twice_text body points → whole ≡ head ++ bodies_text lines
whole-text lines begin head front body whole points none h b p w =
    w ∙ ap (λ (t : List ℕ). t ++ twice_text body points) (h ∙ ap (λ (t : List ℕ). t ++ head) none)
    ∙ ap (λ (t : List ℕ). head ++ twice_text t points) b ∙ ap (λ (n : ℕ). head ++ twice_text (lines_text 0 false lines) n) p
