-- What the lines of a body say, as C reads them.
use Rattle.std.specs.Prelude.{◌≡◌, ℕ, ◌^◌, ◌<◌, List, [], ◌∷◌, length, Bool, true, false, Option, Some, None}
use Rattle.std.specs.Option.{option_and_then}
use Rattle.native_lang.specs.declared.program.NativeProgram.{NativeProgram}
use Rattle.native_text.specs.declared.programs.ImageNote.{ImageNote}
use Rattle.native_text.specs.Terms.{Term, Action, Ending, Onto, Chosen, Ended, Sought, TextBlock, blocks_of}
use Rattle.native_text.specs.Lines.{CodeLine, Label, Head, Does, Jump, Branch, Leave, Switch}
use Rattle.native_text.specs.Programs.{CodeFile, IsPadded, file_text, joined}
use Rattle.native_text.specs.Words.{IsWordFile}

-- what stands behind a line: statements and their end up to the next label, before them perhaps a pause, and the blocks
-- from that label on
pub record Behind : Type 0 where
  pub pauses : Bool
  pub actions : List Action
  pub ending : Ending
  pub blocks : List TextBlock

-- a label ends the block before it, which goes on there
abbrev pub labelled : ℕ → Behind → Behind
labelled label b =
    record {
      pauses = false;
      actions = [];
      ending = Onto label;
      blocks = (record { label = label; pauses = b.pauses; actions = b.actions; ending = b.ending }) ∷ b.blocks;
    }

-- what stands behind a jump, up to the next label, is never run
abbrev pub ended : Ending → Behind → Behind
ended ending b = record b { pauses = false; actions = []; ending = ending }

-- a pause stands before all statements
abbrev pub acted : Action → Behind → Bool → Option Behind
acted action b false = Some (record b { actions = action ∷ b.actions })
acted action b true = None

-- a jump on a condition goes on to the one behind it, or to the label that stands next
abbrev pub branched : Term → ℕ → Behind → Bool → List Action → Ending → Option Behind
branched e first b false [] (Onto second) = Some (ended (Chosen e first second) b)
branched e first b _ _ _ = None

abbrev pub read_line : CodeLine → Behind → Option Behind
read_line (Label label) b = Some (labelled label b)
read_line Head b = Some (record b { pauses = true })
read_line (Does action) b = acted action b b.pauses
read_line (Jump label) b = Some (ended (Onto label) b)
read_line (Branch e first) b = branched e first b b.pauses b.actions b.ending
read_line (Leave e) b = Some (ended (Ended e) b)
read_line (Switch x arms) b = Some (ended (Sought x arms) b)

-- lines are read from the last one on, behind which something is read already
abbrev pub read_lines : List CodeLine → Option Behind → Option Behind
read_lines [] b = b
read_lines (line ∷ lines) b = option_and_then (read_line line) (read_lines lines b)

-- a jump to a label alone, and blocks behind it
abbrev pub onto : ℕ → List TextBlock → Behind
onto label blocks = record { pauses = false; actions = []; ending = Onto label; blocks = blocks }

-- a body's first line is label 0; behind its last line there is no label, and what falls through goes on at the number
-- of one block more, which is no block's
abbrev pub read_body : ℕ → List CodeLine → Option Behind
read_body count lines = read_lines lines (Some (onto count []))

abbrev pub AreRead : List CodeLine → List TextBlock → Type 0
AreRead lines blocks = read_body (length blocks) lines ≡ Some (onto 0 blocks)

-- a file is of a program: its first bytes with zeros behind them are the data, and its lines are read as the blocks
pub record IsFileOf (f : CodeFile) (program : NativeProgram) (note : ImageNote) : Type 0 where
  pub data_bytes : f.data_bytes ≡ length program.data.items
  pub stack_bytes : f.stack_bytes ≡ note.stack_bytes
  pub image : f.image ≡ note.image.now
  pub start : IsPadded (joined f.rows) program.data.items
  pub blocks : length program.blocks.items < 2 ^ 32 → AreRead f.lines (blocks_of program.blocks.items)

-- a text is that of a file of a program, and of no other file whose numbers are words
abbrev pub ReadsBack : List ℕ → NativeProgram → ImageNote → Type 0
ReadsBack text program note =
    (f : CodeFile) × IsWordFile f × (text ≡ file_text f) × IsFileOf f program note
    × ((g : CodeFile) → IsWordFile g → text ≡ file_text g → f ≡ g)
