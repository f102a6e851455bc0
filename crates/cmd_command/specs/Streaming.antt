-- What a run over a reader and a writer gives, and what it leaves where it stops.
use Rattle.std.specs.Prelude.{◌≡◌, ℕ, List, [], ◌++◌, Bool, false, Result, Ok, Err, Option, IfSome, ◌==◌, if◌then◌else◌}
use Rattle.std.specs.Io.KnownBytes.{Appends}
use Rattle.sbx_image.specs.Parts.{Parts}
use Rattle.sbx_image.specs.Reading.{reading}
use Rattle.sbx_flat.specs.Runs.{AreBytes, Behaves}
use Rattle.sbx_flat.specs.declared.path.Place.{Place}
use Rattle.sbx_port.specs.Following.{beyond}
use Rattle.sbx_port.specs.Streams.{Streamed}
use Rattle.sbx_rules.specs.Verdicts.{Checked}
use Rattle.sbx_stream.specs.Finished.{Finished}
use Rattle.sbx_stream.specs.RunFault.{RunFault}
use Rattle.sbx_stream.specs.Streams.{IsAnswerWritten, IsFront, IsStreamed}
use Rattle.cmd_stops.specs.declared.stops.CommandStop.{CommandStop}
use Rattle.cmd_stops.specs.declared.stops.CommandStop.TheVariants.{Source, Image, Refused, File, Input, Output, Memory}
use Rattle.cmd_stops.specs.declared.stops.CommandStop.TheVariants.{NoRoom}

-- 0 where the exit word is 0, else 1
abbrev pub status_of_word : ℕ → ℕ
status_of_word word = if word == 0 then 0 else 1

-- ---- a run that ended

-- what `run_stream` says on so many windows
abbrev pub RunGives : ℕ → Parts → Option (List ℕ) → Option (List ℕ) → Option (List ℕ) → Option (List ℕ) →
    Result Finished RunFault → Type 0
RunGives windows parts reader reader_now writer writer_now (Ok finished) =
    Streamed reader reader_now writer writer_now (IsStreamed parts windows finished)
RunGives windows parts reader reader_now writer writer_now (Err fault) =
    Streamed reader reader_now writer writer_now (IsFront parts fault)

-- The input gave these bytes, and the output grew by what the image puts out on them and on whatever comes after them,
-- or on them alone where their end was met. The status is that of its exit word. Both are those of each run of the flat
-- machine, whatever the count of windows is: that is a part of an answer.
abbrev pub RanOn : ℕ → Parts → Option (List ℕ) → Option (List ℕ) → Option (List ℕ) → Option (List ℕ) → ℕ → Type 0
RanOn windows parts reader reader_now writer writer_now status =
    (finished : Finished) × Streamed reader reader_now writer writer_now (IsStreamed parts windows finished)
    × (status ≡ status_of_word finished.status)

-- it is so of the image that the bytes of the file spell
abbrev pub RanOf : ℕ → List ℕ → Option (List ℕ) → Option (List ℕ) → Option (List ℕ) → Option (List ℕ) → ℕ → Type 0
RanOf windows bytes reader reader_now writer writer_now status =
    (parts : Parts) × (reading bytes ≡ Ok parts) × RanOn windows parts reader reader_now writer writer_now status

-- the same where the bytes of the file are known
abbrev pub Ran : ℕ → Option (List ℕ) → Option (List ℕ) → Option (List ℕ) → Option (List ℕ) → Option (List ℕ) → ℕ →
    Type 0
Ran windows file reader reader_now writer writer_now status =
    IfSome file (λ bytes. RanOf windows bytes reader reader_now writer writer_now status)

-- Of an input whose bytes are known whole: the output grew by what the image of the file's bytes puts out on it, on so
-- many windows.
abbrev pub RanOnWhole : ℕ → List ℕ → List ℕ → Option (List ℕ) → Option (List ℕ) → ℕ → Type 0
RanOnWhole windows bytes input writer writer_now status =
    (parts : Parts) × (finished : Finished) × (written : List ℕ) × (reading bytes ≡ Ok parts)
    × IsAnswerWritten parts windows input finished written
    × Appends writer writer_now written × (status ≡ status_of_word finished.status)

-- ---- a run that stopped

-- On every input that begins with the bytes read, or on these alone where their end was met, what was written are the
-- first bytes of the image's output.
abbrev pub HasFront : Parts → List ℕ → Bool → List ℕ → Type 0
HasFront parts read met written =
    (j : List ℕ) → AreBytes (beyond met j) →
    (rest : List ℕ) × (status : ℕ) × (path : List Place)
    × Behaves parts (read ++ beyond met j) (written ++ rest) status path

-- nothing was read or written
abbrev pub HasNothing : List ℕ → Bool → List ℕ → Type 0
HasNothing read met written = (read ≡ []) × (met ≡ false) × (written ≡ [])

-- What a stop of a run says of it. Only a run's own streams stop it: the input before its end was met, or the output.
-- Want of memory comes before anything is read or written.
abbrev pub LeavesOn : Parts → CommandStop → List ℕ → Bool → List ℕ → Type 0
LeavesOn parts Input read met written = (met ≡ false) × HasFront parts read met written
LeavesOn parts Output read met written = HasFront parts read met written
LeavesOn parts (Memory want) read met written = HasNothing read met written
LeavesOn parts (Source fault) read met written = ⊥
LeavesOn parts (Image fault) read met written = ⊥
LeavesOn parts (Refused refusal) read met written = ⊥
LeavesOn parts File read met written = ⊥
LeavesOn parts (NoRoom full) read met written = ⊥

-- the image that the bytes of the file spell is accepted, and it is so of that image
abbrev pub OfAccepted : (Parts → Type 0) → Option (List ℕ) → Type 0
OfAccepted P file = IfSome file (λ bytes. (parts : Parts) × (reading bytes ≡ Ok parts) × Checked parts × P parts)

-- What a stop leaves. The input and the output are told of an accepted image alone; where any other stop is told,
-- nothing was read or written.
abbrev pub Leaves : Option (List ℕ) → CommandStop → List ℕ → Bool → List ℕ → Type 0
Leaves file Input read met written = OfAccepted (λ parts. (met ≡ false) × HasFront parts read met written) file
Leaves file Output read met written = OfAccepted (λ parts. HasFront parts read met written) file
Leaves file (Memory want) read met written = HasNothing read met written
Leaves file (Source fault) read met written = HasNothing read met written
Leaves file (Image fault) read met written = HasNothing read met written
Leaves file (Refused refusal) read met written = HasNothing read met written
Leaves file File read met written = HasNothing read met written
Leaves file (NoRoom full) read met written = ⊥

-- of what was read of the input, and written to the output
abbrev pub Left : Option (List ℕ) → Option (List ℕ) → Option (List ℕ) → Option (List ℕ) → Option (List ℕ) →
    CommandStop →
    Type 0
Left file reader reader_now writer writer_now stop = Streamed reader reader_now writer writer_now (Leaves file stop)
