-- What a run over a reader and a writer gives, and where it stands.
use Rattle.std.specs.Prelude.{ℕ, ◌≡◌, ◌≢◌, ◌<◌, ◌≤◌, ◌^◌, Bool, false, List, [], ◌∷◌, ◌++◌}
use Rattle.std.specs.Prelude.{Option, Some, None, Result, Ok, Err}
use Rattle.std.specs.Io.KnownBytes.{Consumes, IsAtEnd}
use Rattle.sbx_image.specs.Parts.{Parts}
use Rattle.sbx_flat.specs.Runs.{AreBytes, Behaves, budget}
use Rattle.sbx_flat.specs.declared.path.Place.{Place}
use Rattle.sbx_port.specs.Streams.{Streamed}
use Rattle.sbx_raw.specs.declared.fault.RunFault.{RunFault}
use Rattle.sbx_raw.specs.declared.fault.RunFault.TheVariants.{Memory, Reader, Writer}
use Rattle.engine_runs.specs.Going.{IsAllOf, IsUnderWay, beyond}
use Rattle.engine_runs.specs.declared.flat_run.FlatRun.{FlatRun}
use Rattle.engine_stream.specs.declared.flow.FlatEnded.{FlatEnded}
use Rattle.engine_stream.specs.declared.flow.RunEnd.{RunEnd}
use Rattle.engine_stream.specs.declared.flow.RunEnd.TheVariants.{Ended, Fault}

-- ---- what is promised

-- On every input that begins with the bytes read, or on these alone where their end was met, what was written is all of
-- the image's output, this is the exit word, and the counts are those of its path on n windows. The turns are within
-- the budget.
abbrev pub IsFlowed : Parts → ℕ → FlatEnded → List ℕ → Bool → List ℕ → Type 0
IsFlowed parts n flowed read met written = IsAllOf parts n read met written flowed.status flowed.counts
    × (flowed.counts.turns ≤ budget parts)

-- what a fault says: a reader's, that the input's end wasn't met; a writer's, that there is more to be written
abbrev pub Says : RunFault → Bool → List ℕ → Type 0
Says (Memory want) met rest = Unit {0}
Says Reader met rest = met ≡ false
Says Writer met rest = rest ≢ []

-- On every such input what was written are the first bytes of the image's output.
abbrev pub IsCutOff : Parts → RunFault → List ℕ → Bool → List ℕ → Type 0
IsCutOff parts fault read met written =
    (j : List ℕ) → AreBytes (beyond met j) →
    (rest : List ℕ) × (status : ℕ) × (path : List Place)
    × Behaves parts (read ++ beyond met j) (written ++ rest) status path × Says fault met rest

-- ---- on the way

-- what a read gave: a byte, or the end
abbrev pub IsRead : Option (List ℕ) → Option (List ℕ) → Option ℕ → Type 0
IsRead before now (Some byte) = Consumes before now (byte ∷ [])
IsRead before now None = Consumes before now [] × IsAtEnd now

-- The run has read these bytes and written those, and whether their end was met is known so.
abbrev pub Flows : Parts → ℕ → Bool → FlatRun → List ℕ → Bool → List ℕ → Type 0
Flows parts n met course read told written = IsUnderWay parts n read written told course × (told ≡ met)

-- whatever was read and written before, the streams stand so now
abbrev pub StreamsOn : Bool → FlatRun → Option (List ℕ) → Option (List ℕ) → Bool → FlatRun → Option (List ℕ) →
    Option (List ℕ) → Type 0
StreamsOn met old reader writer now_met new reader_now writer_now =
    (parts : Parts) (n : ℕ) (first written_first : Option (List ℕ)) →
    Streamed first reader written_first writer (Flows parts n met old) →
    Streamed first reader_now written_first writer_now (Flows parts n now_met new)

-- or they stop: at an exit word all is as it was; where a fault ended the run what was written are the first bytes of
-- its output
abbrev pub StopsSo : RunEnd → Bool → FlatRun → Option (List ℕ) → Option (List ℕ) → FlatRun → Option (List ℕ) →
    Option (List ℕ) → Type 0
StopsSo (Ended word) met old reader writer new reader_now writer_now =
    (new.engine.exit ≡ Some word) × StreamsOn met old reader writer met new reader_now writer_now
StopsSo (Fault fault) met old reader writer new reader_now writer_now =
    (parts : Parts) (n : ℕ) (first written_first : Option (List ℕ)) →
    Streamed first reader written_first writer (Flows parts n met old) →
    Streamed first reader_now written_first writer_now (IsCutOff parts fault)

-- What a run halted for is done, by a step within the turns that are counted, and whether the end was met is known; or
-- they stop.
abbrev pub Exchanges : Bool → FlatRun → Option (List ℕ) → Option (List ℕ) → FlatRun → Option (List ℕ) →
    Option (List ℕ) → Result Bool RunEnd → Type 0
Exchanges met old reader writer new reader_now writer_now (Ok now_met) =
    StreamsOn met old reader writer now_met new reader_now writer_now
    × ((old.tally.traffic.turns < new.tally.traffic.turns) × (new.tally.traffic.turns ≤ 2 ^ 62))
Exchanges met old reader writer new reader_now writer_now (Err end) =
    StopsSo end met old reader writer new reader_now writer_now
