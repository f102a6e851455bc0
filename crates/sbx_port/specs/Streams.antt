-- Runs whose input is read, and whose output is written, byte by byte.
use Rattle.std.specs.Prelude.{ℕ, ◌≡◌, ◌≢◌, ◌<◌, ◌≤◌, Bool, true, false, List, [], ◌∷◌, ◌++◌, Option, Some, None}
use Rattle.std.specs.Io.KnownBytes.{Appends, Consumes, IsAtEnd}
use Rattle.v8_core.specs.Ram.{AreBytes}
use Rattle.v8_board.specs.Seen.{State, ending_of}
use Rattle.v8_board.specs.Runs.{IsRun, Turns}
use Rattle.sbx_port.specs.declared.carrying.StreamFault.{StreamFault}
use Rattle.sbx_port.specs.declared.carrying.StreamFault.TheVariants.{Reader, Writer}
use Rattle.sbx_port.specs.Following.{beyond, with_input}
use Rattle.sbx_port.specs.Ports.{unknown}

-- ---- what was read and written

-- these are all the bytes that a reader had, where those are known
abbrev pub IsAll : Option (List ℕ) → List ℕ → Type 0
IsAll None read = Unit {0}
IsAll (Some bytes) read = bytes ≡ read

-- The bytes that were read, whether their end was met, and those that were written; and this holds of them.
abbrev pub Streamed : Option (List ℕ) → Option (List ℕ) → Option (List ℕ) → Option (List ℕ) →
    (List ℕ → Bool → List ℕ → Type 0) → Type 0
Streamed reader reader_now writer writer_now P =
    (read : List ℕ) × (met : Bool) × (written : List ℕ) × P read met written × AreBytes read
    × Consumes reader reader_now read × (met ≡ true → IsAll reader read) × Appends writer writer_now written

-- ---- runs of a board

-- the second board is the first, but for what the device's port carries: it has put out these bytes
pub record StandsBeside (n : ℕ) (written : List ℕ) (s t : State n) : Type 0 where
  pub cpu : s.world.cpu ≡ t.world.cpu
  pub ram : s.world.memory.ram ≡ t.world.memory.ram
  pub stopped : s.world.memory.device.stopped ≡ t.world.memory.device.stopped
  pub mmu : s.mmu ≡ t.mmu
  pub counts : s.counts ≡ t.counts
  pub output : t.world.memory.device.output ≡ written

-- From this start the run is one on every input that begins with the bytes read, or on these alone where their end was
-- met: this board stands beside its end, and what was written is its output.
abbrev pub RunsAs : (n : ℕ) → State n → ℕ → State n → List ℕ → Bool → List ℕ → Type 0
RunsAs n start limit now read met written =
    (j : List ℕ) → (end : State n) × IsRun n limit (with_input start (read ++ beyond met j)) end
    × StandsBeside n written now end

-- what a fault says: a reader's, that the input's end wasn't met; a writer's, that there is more to be written
abbrev pub Says : StreamFault → Bool → List ℕ → Type 0
Says Reader met rest = met ≡ false
Says Writer met rest = rest ≢ []

-- On every such input what was written are the first bytes of the run's output.
abbrev pub RunsOn : (n : ℕ) → State n → ℕ → StreamFault → List ℕ → Bool → List ℕ → Type 0
RunsOn n start limit fault read met written =
    (j : List ℕ) → (end : State n) × IsRun n limit (with_input start (read ++ beyond met j)) end
    × (rest : List ℕ) × (end.world.memory.device.output ≡ written ++ rest) × Says fault met rest

-- ---- on the way

-- what a reader gave a board that waits: its end, or a byte
abbrev pub IsFed : (n : ℕ) → Bool → State n → State n → Option (List ℕ) → Option (List ℕ) → Type 0
IsFed n true s t before now = (t ≡ with_input s []) × Consumes before now [] × IsAtEnd now
IsFed n false s t before now = (b : ℕ) × (b < 256) × (t ≡ with_input s (b ∷ unknown)) × Consumes before now (b ∷ [])

-- turns of which there may be so many: as many as are told, or fewer where the machine has ended
pub record IsSlice (n left : ℕ) (s : State n) (told : ℕ) (t : State n) : Type 0 where
  pub turns : Turns n s t
  pub few : turns.count ≤ told
  pub within : told ≤ left
  pub all : ending_of n t.world ≡ None → turns.count ≡ told

-- what was written where a stream failed: all that was put out, before a byte that is lacking was read; or nothing of
-- it
abbrev pub IsHalted : StreamFault → Bool → Option (List ℕ) → Option (List ℕ) → List ℕ → Type 0
IsHalted Reader lacks before now output = (lacks ≡ true) × Appends before now output
IsHalted Writer lacks before now output = (output ≢ []) × Appends before now []

-- a board that waits for a byte does so once between two turns
abbrev pub waits : List ℕ → ℕ
waits (b ∷ []) = 1
waits (b ∷ c ∷ input) = 0
waits [] = 0
