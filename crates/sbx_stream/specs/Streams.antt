-- What a run of an accepted image over a reader and a writer gives.
use Rattle.std.specs.Prelude.{ℕ, ◌≡◌, ◌≢◌, Bool, true, false, List, [], ◌++◌, None}
use Rattle.sbx_image.specs.Parts.{Parts}
use Rattle.v8_board.specs.Contains.{Contains}
use Rattle.v8_board.specs.Seen.{Seen, State}
use Rattle.v8_board.specs.Start.{IsNew, IsStart}
use Rattle.v8_loaded.specs.States.{IsState}
use Rattle.v8_board.specs.Marks.{page_use_of}
use Rattle.v8_board.specs.Runs.{IsRun, outcome_of}
use Rattle.sbx_flat.specs.Runs.{AreBytes, Behaves, budget}
use Rattle.sbx_flat.specs.declared.path.Place.{Place}
use Rattle.sbx_port.specs.Following.{beyond}
use Rattle.sbx_port.specs.Ports.{unknown}
use Rattle.sbx_port.specs.declared.carrying.StreamFault.{StreamFault}
use Rattle.sbx_port.specs.declared.carrying.StreamFault.TheVariants as streams
use Rattle.sbx_run.specs.RunFault.{RunFault}
use Rattle.sbx_run.specs.RunFault.TheVariants.{Memory, Reader, Writer}
use Rattle.sbx_raw.specs.Runs.{IsBegun}
use Rattle.sbx_run.specs.Answer.{IsFlatEnd, KeepsToItsOwn, told_of}
use Rattle.sbx_run.specs.declared.runner.Finished.{Finished}

-- ---- a run that ended

-- What `run_accepted` answers on this input, but that the output was written: the board run of the image from the start
-- that loading makes of a new board, with the budget as its limit, put these bytes out, and it exits as each flat run
-- does.
pub record IsAnswerWritten (parts : Parts) (n : ℕ) (input : List ℕ) (finished : Finished)
    (written : List ℕ) : Type 0 where
  pub start : State n
  pub end : State n
  pub begun : IsBegun n parts input start
  pub run : IsRun n (budget parts) start end
  pub kept : Contains n parts end
  pub told : told_of finished ≡ outcome_of n end
  pub put_out : end.world.memory.device.output ≡ written
  pub pages : finished.pages ≡ page_use_of end.world.memory.ram
  pub flat : IsFlatEnd parts n input written finished.status (told_of finished)
  pub own : KeepsToItsOwn n parts input [] start end finished.turns

-- It is so on every input that begins with the bytes read, or on these alone where their end was met.
abbrev pub IsStreamed : Parts → ℕ → Finished → List ℕ → Bool → List ℕ → Type 0
IsStreamed parts n finished read met written = (j : List ℕ) → AreBytes (beyond met j) →
    IsAnswerWritten parts n (read ++ beyond met j) finished written

-- ---- a run that a fault ended

-- what a fault says: want of memory, that nothing was read or written; a reader's, that the input's end wasn't met; a
-- writer's, that there is more to be written
abbrev pub Says : RunFault → List ℕ → Bool → List ℕ → List ℕ → Type 0
Says (Memory want) read met written rest = (read ≡ []) × (met ≡ false) × (written ≡ [])
Says Reader read met written rest = met ≡ false
Says Writer read met written rest = rest ≢ []

-- On every such input what was written are the first bytes of the image's output.
abbrev pub IsFront : Parts → RunFault → List ℕ → Bool → List ℕ → Type 0
IsFront parts fault read met written =
    (j : List ℕ) → AreBytes (beyond met j) →
    (rest : List ℕ) × (status : ℕ) × (path : List Place)
    × Behaves parts (read ++ beyond met j) (written ++ rest) status path × Says fault read met written rest

-- The board run of the image from the start that loading makes of a new board, with the budget as its limit: what was
-- written are the first bytes that it puts out, each of its turns is one that containment allows, and at its end what
-- was loaded is as it was.
pub record IsContainedRun (parts : Parts) (n : ℕ) (input written : List ℕ) : Type 0 where
  pub start : State n
  pub end : State n
  pub begun : IsBegun n parts input start
  pub run : IsRun n (budget parts) start end
  pub kept : Contains n parts end
  pub rest : List ℕ
  pub put_out : end.world.memory.device.output ≡ written ++ rest

-- The run that a stream's fault ended is so on every such input. Where memory was refused there was none.
abbrev pub IsContainedBeyond : Parts → ℕ → RunFault → List ℕ → Bool → List ℕ → Type 0
IsContainedBeyond parts n (Memory want) read met written = written ≡ []
IsContainedBeyond parts n Reader read met written = (j : List ℕ) → AreBytes (beyond met j) → IsContainedRun parts n (read ++ beyond met j) written
IsContainedBeyond parts n Writer read met written = (j : List ℕ) → AreBytes (beyond met j) →
    IsContainedRun parts n (read ++ beyond met j) written

-- ---- on the way

-- a new board into which an image was loaded, and which waits for its input
pub record IsReady (n : ℕ) (parts : Parts) (board : Seen n) : Type 0 where
  pub made : State n
  pub new : IsNew n unknown [] made
  pub loaded : IsStart n parts made board.state
  pub state : IsState n board.state.mmu board.state.world
  pub contained : Contains n parts board.state
  pub served : board.failed ≡ 0

-- a stream's fault as a run's
abbrev pub named : StreamFault → RunFault
named streams.Reader = Reader
named streams.Writer = Writer
