-- The lines of a body are read as its blocks.
use Rattle.std.proofs.Common.{◌≡◌, ℕ, suc, ◌+◌, ◌^◌, ◌<◌, Bool, true, false, List, [], ◌∷◌, ◌++◌, length, map, Option, Some, refl, sym, ap, ◌∙◌, append_assoc, arith}
use Rattle.std.proofs.lemmas.Bool.{eqb-true}
use Rattle.std.specs.Prelude.{◌==◌, if◌then◌else◌, get_or}
use Rattle.std.specs.Option.{option_and_then}
use Rattle.native_lang.specs.declared.stmt.Stmt.{Stmt}
use Rattle.native_lang.specs.declared.program.ProgramBlock.{ProgramBlock}
use Rattle.native_text.specs.Terms.{Action, Term, action_of, Ending, Onto, Chosen, Ended, Sought, TextBlock, blocks_from, blocks_of, ending_of}
use Rattle.native_text.specs.Lines.{CodeLine, Label, Does, Jump, Branch, action_lines, block_lines, body_lines, ending_lines, head_lines, next_number}
use Rattle.native_text.specs.Pauses.{IsMarked, pauses}
use Rattle.native_text.specs.Reading.{AreRead, Behind, read_line, read_lines}

read_lines-append : (xs ys : List CodeLine) (b : Option Behind) → read_lines (xs ++ ys) b ≡ read_lines xs (read_lines ys b)
read_lines-append [] ys b = refl
read_lines-append (x ∷ xs) ys b = ap (λ (r : Option Behind). option_and_then (read_line x) r) (read_lines-append xs ys b)

abbrev behind : Ending → List TextBlock → Behind
behind ending blocks = record { pauses = false; actions = []; ending = ending; blocks = blocks }

-- a jump that is left out is one to the next label
jump_read : (next label : ℕ) (blocks : List TextBlock) (b : Bool) → (label == next) ≡ b
    → read_lines (if b then [] else Jump label ∷ []) (Some (behind (Onto next) blocks)) ≡ Some (behind (Onto label) blocks)
jump_read next label blocks true e = ap (λ (k : ℕ). Some (behind (Onto k) blocks)) (sym (eqb-true label next e))
jump_read next label blocks false e = refl

branch_read : (next second : ℕ) (e : Term) (first : ℕ) (blocks : List TextBlock) (b : Bool) → (second == next) ≡ b
    → read_lines (Branch e first ∷ (if b then [] else Jump second ∷ [])) (Some (behind (Onto next) blocks)) ≡ Some (behind (Chosen e first second) blocks)
branch_read next second e first blocks true q = ap (λ (k : ℕ). Some (behind (Chosen e first k) blocks)) (sym (eqb-true second next q))
branch_read next second e first blocks false q = refl

ending_read : (next : ℕ) (ending : Ending) (blocks : List TextBlock)
    → read_lines (ending_lines next ending) (Some (behind (Onto next) blocks)) ≡ Some (behind ending blocks)
ending_read next (Onto label) blocks = jump_read next label blocks (label == next) refl
ending_read next (Chosen e first second) blocks = branch_read next second e first blocks (second == next) refl
ending_read next (Ended e) blocks = refl
ending_read next (Sought x arms) blocks = refl

actions_read : (statements : List Stmt) (ending : Ending) (blocks : List TextBlock)
    → read_lines (action_lines statements) (Some (behind ending blocks))
    ≡ Some (record { pauses = false; actions = map action_of statements; ending = ending; blocks = blocks })
actions_read [] ending blocks = refl
actions_read (s ∷ statements) ending blocks =
    ap (λ (r : Option Behind). option_and_then (read_line (Does (action_of s))) r) (actions_read statements ending blocks)

head_read : (is_head : Bool) (actions : List Action) (ending : Ending) (blocks : List TextBlock)
    → read_lines (head_lines is_head) (Some (record { pauses = false; actions = actions; ending = ending; blocks = blocks }))
    ≡ Some (record { pauses = is_head; actions = actions; ending = ending; blocks = blocks })
head_read true actions ending blocks = refl
head_read false actions ending blocks = refl

block_read : (label next : ℕ) (is_head : Bool) (block : ProgramBlock) (blocks : List TextBlock) → next_number label ≡ next
    → read_lines (block_lines label is_head block) (Some (behind (Onto next) blocks))
    ≡ Some (behind (Onto label) (record { label = label; pauses = is_head; actions = map action_of block.statements.items; ending = ending_of block.end } ∷ blocks))
block_read label next is_head block blocks is =
    let ending : Ending = ending_of block.end in
    let acts : List CodeLine = action_lines block.statements.items in
    let all : Behind = record { pauses = false; actions = map action_of block.statements.items; ending = ending; blocks = blocks } in
    let start : Option Behind = Some (behind (Onto next) blocks) in
    let e1 : read_lines (ending_lines (next_number label) ending) start ≡ Some (behind ending blocks) =
    ap (λ (k : ℕ). read_lines (ending_lines k ending) start) is ∙ ending_read next ending blocks in
    let e2 : read_lines (acts ++ ending_lines (next_number label) ending) start ≡ Some all =
    read_lines-append acts (ending_lines (next_number label) ending) start
    ∙ ap (λ (r : Option Behind). read_lines acts r) e1 ∙ actions_read block.statements.items ending blocks in
    let headed : Behind = record { pauses = is_head; actions = map action_of block.statements.items; ending = ending; blocks = blocks } in
    let e3 : read_lines (head_lines is_head ++ acts ++ ending_lines (next_number label) ending) start ≡ Some headed =
    ap (λ (ls : List CodeLine). read_lines ls start) (append_assoc (head_lines is_head) acts (ending_lines (next_number label) ending))
    ∙ read_lines-append (head_lines is_head) (acts ++ ending_lines (next_number label) ending) start
    ∙ ap (λ (r : Option Behind). read_lines (head_lines is_head) r) e2 ∙ head_read is_head (map action_of block.statements.items) ending blocks in
    ap (λ (r : Option Behind). option_and_then (read_line (Label label)) r) e3

-- blocks whose labels are marked where they may pause
body_read : (marks : List Bool) (may : ℕ → Bool) (label count : ℕ) (blocks : List ProgramBlock) → count < 2 ^ 32
    → ((k : ℕ) → k < count → get_or marks k false ≡ may k) → count ≡ label + length blocks
    → read_lines (body_lines marks label blocks) (Some (behind (Onto count) [])) ≡ Some (behind (Onto label) (blocks_from may label blocks))
body_read marks may label count [] few marked is =
    let last : count ≡ label = omega arith in
    ap (λ (k : ℕ). Some (behind (Onto k) [])) last
body_read marks may label count (block ∷ blocks) few marked is =
    let more : length (block ∷ blocks) ≡ suc (length blocks) = refl in
    let next : next_number label ≡ label + 1 = omega arith in
    let start : Option Behind = Some (behind (Onto count) []) in
    let rest : read_lines (body_lines marks (next_number label) blocks) start ≡ Some (behind (Onto (label + 1)) (blocks_from may (label + 1) blocks)) =
    ap (λ (k : ℕ). read_lines (body_lines marks k blocks) start) next ∙ body_read marks may (label + 1) count blocks few marked (omega arith) in
    let is_head : Bool = get_or marks label false in
    let may_pause : is_head ≡ may label = marked label (omega arith) in
    read_lines-append (block_lines label is_head block) (body_lines marks (next_number label) blocks) start
    ∙ ap (λ (r : Option Behind). read_lines (block_lines label is_head block) r) rest
    ∙ block_read label (label + 1) is_head block (blocks_from may (label + 1) blocks) next
    ∙ ap (λ (h : Bool). Some (behind (Onto label) (record { label = label; pauses = h; actions = map action_of block.statements.items; ending = ending_of block.end } ∷ blocks_from may (label + 1) blocks)))
    may_pause

blocks_count : (may : ℕ → Bool) (label : ℕ) (blocks : List ProgramBlock) → length (blocks_from may label blocks) ≡ length blocks
blocks_count may label [] = refl
blocks_count may label (block ∷ blocks) = ap suc (blocks_count may (label + 1) blocks)

-- the lines of all blocks are read as they are
pub are_read : (marks : List Bool) (blocks : List ProgramBlock) → IsMarked marks blocks → length blocks < 2 ^ 32
    → AreRead (body_lines marks 0 blocks) (blocks_of blocks)
are_read marks blocks marked few =
    ap (λ (k : ℕ). read_lines (body_lines marks 0 blocks) (Some (behind (Onto k) []))) (blocks_count (pauses blocks) 0 blocks)
    ∙ body_read marks (pauses blocks) 0 (length blocks) blocks few marked (omega arith)
