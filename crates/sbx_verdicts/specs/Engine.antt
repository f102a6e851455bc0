-- What it means that a run on the fast flat machine is the one of a line.
use Rattle.std.specs.Prelude.{◌≡◌}
use Rattle.sbx_image.specs.Parts.{Parts}
use Rattle.engine_runs.specs.Answer.{IsAnswer}
use Rattle.engine_runs.specs.declared.runs.FlatFinished.{FlatFinished}
use Rattle.sbx_verdicts.specs.declared.runs.Counts.{Counts}
use Rattle.sbx_verdicts.specs.declared.runs.Run.{Run}

abbrev pub counts_told : FlatFinished → Counts
counts_told finished =
    record { turns = finished.turns; overflows = finished.overflows; underflows = finished.underflows }

-- exit word, output and counts are the line's
pub record IsRun (finished : FlatFinished) (run : Run) : Type 0 where
  pub status : finished.status ≡ run.status
  pub output : finished.output.items ≡ run.output.items
  pub counts : counts_told finished ≡ run.counts

-- the run of the image on the line's input, counted for the line's windows, is the line's
abbrev pub EngineRunsSo : Parts → Run → Type 0
EngineRunsSo parts run = (finished : FlatFinished) × IsAnswer parts run.windows run.input.items finished
    × IsRun finished run
