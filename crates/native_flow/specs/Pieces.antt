-- Runs in pieces: bytes of the input come one piece after another, and some steps are made between.
use Rattle.std.specs.Prelude.{◌≡◌, ℕ, zero, suc, ◌+◌, ◌*◌, ◌≤◌, Bool, true, false, List, [], ◌∷◌, ◌++◌}
use Rattle.std.specs.Prelude.{Option, Some, None, slice_get, if◌then◌else◌}
use Rattle.sbx_image.specs.Parts.{Parts}
use Rattle.sbx_flat.specs.Runs.{AreBytes, Behaves, budget}
use Rattle.sbx_flat.specs.Traffic.{traffic}
use Rattle.sbx_flat.specs.declared.path.Place.{Place}
use Rattle.sbx_flat.specs.declared.path.Traffic.{Traffic}
use Rattle.native_lang.specs.Runs.{Turn, Goes, Over, Lost, onward, run, start, step}
use Rattle.native_lang.specs.World.{World}
use Rattle.native_lang.specs.declared.program.NativeProgram.{NativeProgram}
use Rattle.native_lang.specs.declared.program.ProgramBlock.{ProgramBlock}
use Rattle.native_lang.specs.declared.stmt.Stmt.{Stmt}
use Rattle.native_lang.specs.declared.stmt.Stmt.TheVariants.{Get}
use Rattle.native_ends.specs.Answers.{longest}

-- ---- a run in pieces

-- bytes come behind those that are left
abbrev pub given : List ℕ → Turn → Turn
given bytes (Goes label at w) = Goes label at (record w { input = w.input ++ bytes })
given bytes (Over word w) = Over word (record w { input = w.input ++ bytes })
given bytes Lost = Lost

abbrev pub statement_at : Option ProgramBlock → ℕ → Option Stmt
statement_at None at = None
statement_at (Some block) at = slice_get block.statements.items at

abbrev pub wants : Option Stmt → List ℕ → Bool
wants (Some (Get x)) [] = true
wants _ _ = false

-- a run waits before a Get, where no byte is left
abbrev pub waits : NativeProgram → Turn → Bool
waits p (Goes label at w) = wants (statement_at (slice_get p.blocks.items label) at) w.input
waits p (Over word w) = false
waits p Lost = false

-- so many steps on n windows, but none where the run waits
abbrev pub paced : NativeProgram → ℕ → ℕ → Turn → Turn
paced p n zero turn = turn
paced p n (suc k) turn = paced p n k (if waits p turn then turn else onward (step p n) turn)

-- bytes that come, and how many steps are made with them
pub record Piece : Type 0 where
  pub bytes : List ℕ
  pub steps : ℕ

abbrev pub in_pieces : NativeProgram → ℕ → List Piece → Turn → Turn
in_pieces p n [] turn = turn
in_pieces p n (piece ∷ pieces) turn = in_pieces p n pieces (paced p n piece.steps (given piece.bytes turn))

abbrev pub bytes_of_all : List Piece → List ℕ
bytes_of_all [] = []
bytes_of_all (piece ∷ pieces) = piece.bytes ++ bytes_of_all pieces

-- from the program's start, before any byte has come
abbrev pub come_to : NativeProgram → ℕ → List Piece → Turn
come_to p n pieces = in_pieces p n pieces (Goes 0 0 (start p []))

-- ---- what it has given

abbrev pub AreFirstOf : List ℕ → List ℕ → Type 0
AreFirstOf bytes all = (rest : List ℕ) × (all ≡ bytes ++ rest)

-- It has put out the first bytes of this output. Where it is over it has put out all of it, with this exit word and
-- these counts. It isn't lost.
abbrev pub IsOnItsWay : (output : List ℕ) (status : ℕ) (counts : Traffic) → Turn → Type 0
IsOnItsWay output status counts (Goes label at w) = AreFirstOf w.output output
IsOnItsWay output status counts (Over word w) = (w.output ≡ output) × (word ≡ status) × (w.counts ≡ counts)
IsOnItsWay output status counts Lost = ⊥

abbrev pub IsOver : Turn → Type 0
IsOver (Goes label at w) = ⊥
IsOver (Over word w) = Unit {0}
IsOver Lost = ⊥

-- Whatever bytes come later, it is on its way to what each flat run of the image gives on all of them. Where none come
-- any more, so it is after so many steps that don't wait: each Get then finds the input's end. It is over after as
-- many as a run takes at most.
pub record GoesAs (parts : Parts) (program : NativeProgram) (n : ℕ) (pieces : List Piece)
    (later : List ℕ) : Type 0 where
  pub output : List ℕ
  pub status : ℕ
  pub path : List Place
  pub behaves : Behaves parts (bytes_of_all pieces ++ later) output status path
  pub so_far : IsOnItsWay output status (traffic parts n path) (come_to program n pieces)
  pub at_end : later ≡ [] → (k : ℕ) → IsOnItsWay output status (traffic parts n path)
      (onward (run program n k) (come_to program n pieces))
  pub ends : later ≡ [] → (k : ℕ) → (longest program.blocks.items + 4) * (budget parts + 1) ≤ k →
      IsOver (onward (run program n k) (come_to program n pieces))

-- So it is with all pieces, on two windows or more.
abbrev pub RunsInPieces : Parts → NativeProgram → Type 0
RunsInPieces parts program = (n : ℕ) (pieces : List Piece) (later : List ℕ) → 2 ≤ n →
    AreBytes (bytes_of_all pieces ++ later) → GoesAs parts program n pieces later
