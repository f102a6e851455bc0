-- The lines of a program's body.
use Rattle.std.specs.Prelude.{ℕ, ◌+◌, ◌%◌, ◌^◌, ◌==◌, Bool, List, [], ◌∷◌, ◌++◌, map, if◌then◌else◌, get_or, false}
use Rattle.native_lang.specs.declared.stmt.Stmt.{Stmt}
use Rattle.native_lang.specs.declared.program.Arm.{Arm}
use Rattle.native_lang.specs.declared.program.ProgramBlock.{ProgramBlock}
use Rattle.native_text.specs.Terms.{Term, Action, action_of, Ending, Onto, Chosen, Ended, Sought, ending_of}

-- a line of C; a switch is one, with its cases
pub data CodeLine : Type 0 where
  Label : ℕ → CodeLine
  Head : CodeLine
  Does : Action → CodeLine
  Jump : ℕ → CodeLine
  Branch : Term → ℕ → CodeLine
  Leave : Term → CodeLine
  Switch : ℕ → List Arm → CodeLine

-- a jump to the label that stands next is left out
abbrev pub jump_lines : ℕ → ℕ → List CodeLine
jump_lines next label = if label == next then [] else Jump label ∷ []

abbrev pub ending_lines : ℕ → Ending → List CodeLine
ending_lines next (Onto label) = jump_lines next label
ending_lines next (Chosen e first second) = Branch e first ∷ jump_lines next second
ending_lines next (Ended e) = Leave e ∷ []
ending_lines next (Sought x arms) = Switch x arms ∷ []

abbrev pub action_lines : List Stmt → List CodeLine
action_lines statements = map (λ s. Does (action_of s)) statements

abbrev pub head_lines : Bool → List CodeLine
head_lines is_head = if is_head then Head ∷ [] else []

-- numbers of labels and points are words
abbrev pub next_number : ℕ → ℕ
next_number n = (n + 1) % 2 ^ 32

abbrev pub block_lines : ℕ → Bool → ProgramBlock → List CodeLine
block_lines label is_head block =
    Label label ∷ head_lines is_head ++ action_lines block.statements.items
    ++ ending_lines (next_number label) (ending_of block.end)

-- the blocks from a label on, of which some are marked as heads
abbrev pub body_lines : List Bool → ℕ → List ProgramBlock → List CodeLine
body_lines marks label [] = []
body_lines marks label (block ∷ blocks) =
    block_lines label (get_or marks label false) block ++ body_lines marks (next_number label) blocks
