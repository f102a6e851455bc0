-- What a run of an admitted image gives, on the machine that the words name.
use Rattle.std.specs.Prelude.{◌≡◌, ℕ, Bool, true, false, List, Result, Ok, Err, Option}
use Rattle.sbx_image.specs.Parts.{Parts}
use Rattle.sbx_port.specs.Streams.{Streamed}
use Rattle.sbx_stream.specs.Finished.{Finished}
use Rattle.sbx_stream.specs.RunFault.{RunFault}
use Rattle.cmd_command.specs.Streaming.{RunGives}
use Rattle.engine_stream.specs.Flows.{IsCutOff, IsFlowed}
use Rattle.engine_stream.specs.declared.flow.FlatEnded.{FlatEnded}
use Rattle.host.specs.declared.running.EndCounts.{EndCounts}

-- what is told of a run on a board, and on the flat machine
abbrev pub told_of : Finished → EndCounts
told_of f = record { status = f.status; turns = f.turns; overflows = f.overflows; underflows = f.underflows }

abbrev pub told_of_flow : FlatEnded → EndCounts
told_of_flow f =
    record {
      status = f.status;
      turns = f.counts.turns;
      overflows = f.counts.overflows;
      underflows =
          f.counts.underflows;
    }

-- On the flat machine: what was written is the image's output on the bytes read, and on whatever comes behind them,
-- with its exit word and the counts of its path on so many windows, within its budget; where a fault ended it, the
-- first bytes of that output.
abbrev pub EngineGives : ℕ → Parts → Option (List ℕ) → Option (List ℕ) → Option (List ℕ) → Option (List ℕ) →
    Result FlatEnded RunFault → Type 0
EngineGives windows parts reader reader_now writer writer_now (Ok flowed) =
    Streamed reader reader_now writer writer_now (IsFlowed parts windows flowed)
EngineGives windows parts reader reader_now writer writer_now (Err fault) =
    Streamed reader reader_now writer writer_now (IsCutOff parts fault)

-- what is told is what one of the two gave
abbrev pub RunsSo : Bool → ℕ → Parts → Option (List ℕ) → Option (List ℕ) → Option (List ℕ) → Option (List ℕ) →
    Result EndCounts RunFault → Type 0
RunsSo true windows parts reader reader_now writer writer_now (Ok told) =
    (flowed : FlatEnded) × (told ≡ told_of_flow flowed)
    × EngineGives windows parts reader reader_now writer writer_now (Ok flowed)
RunsSo true windows parts reader reader_now writer writer_now (Err fault) =
    EngineGives windows parts reader reader_now writer writer_now (Err fault)
RunsSo false windows parts reader reader_now writer writer_now (Ok told) =
    (finished : Finished) × (told ≡ told_of finished)
    × RunGives windows parts reader reader_now writer writer_now (Ok finished)
RunsSo false windows parts reader reader_now writer writer_now (Err fault) =
    RunGives windows parts reader reader_now writer writer_now (Err fault)
