-- What it means that a run is the one of a line.
use Rattle.std.specs.Prelude.{◌≡◌, ℕ, List, Some}
use Rattle.sbx_image.specs.Parts.{Parts}
use Rattle.sbx_flat.specs.declared.path.Place.{Place}
use Rattle.sbx_flat.specs.declared.path.Traffic.{Traffic}
use Rattle.sbx_flat.specs.Runs.{FlatRun}
use Rattle.sbx_flat.specs.States.{State}
use Rattle.sbx_flat.specs.Traffic.{traffic}
use Rattle.sbx_run.specs.declared.runner.Finished.{Finished}
use Rattle.sbx_run.specs.Answer.{IsAnswer}
use Rattle.sbx_verdicts.specs.declared.runs.Counts.{Counts}
use Rattle.sbx_verdicts.specs.declared.runs.Run.{Run}

-- ---- on a board

abbrev pub counts_told : Finished → Counts
counts_told finished =
    record { turns = finished.turns; overflows = finished.overflows; underflows = finished.underflows }

-- exit word, output and counts are the line's
pub record IsRun (finished : Finished) (run : Run) : Type 0 where
  pub status : finished.status ≡ run.status
  pub output : finished.output.items ≡ run.output.items
  pub counts : counts_told finished ≡ run.counts

-- the run of the image on the line's windows and input is the line's
abbrev pub BoardRunsSo : Parts → Run → Type 0
BoardRunsSo parts run = (finished : Finished) × IsAnswer parts run.windows run.input.items finished × IsRun finished run

-- ---- on the flat machine

-- There is a flat run on the line's input, along this path, that ends with the line's exit word and output.
pub record ExitsSo (parts : Parts) (run : Run) (path : List Place) : Type 0 where
  pub state : State
  pub flat : FlatRun parts run.input.items path state
  pub status : state.exit ≡ Some run.status
  pub output : state.output ≡ run.output.items

abbrev pub counts_of : Traffic → Counts
counts_of t = record { turns = t.turns; overflows = t.overflows; underflows = t.underflows }

-- turns, overflows and underflows of a path on a machine with n windows
abbrev pub comes_to : Parts → ℕ → List Place → Counts
comes_to parts n path = counts_of (traffic parts n path)

-- and what its path comes to on as many windows are the line's counts
abbrev pub FlatRunsSo : Parts → Run → Type 0
FlatRunsSo parts run = (path : List Place) × ExitsSo parts run path × (comes_to parts run.windows path ≡ run.counts)
