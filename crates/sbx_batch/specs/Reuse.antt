-- What runs of an image on boards that were used before have in common: the pages.
use Rattle.std.specs.Prelude.{ℕ, ◌≡◌, List}
use Rattle.v8_board.specs.Marks.{page_use_of}
use Rattle.v8_board.specs.Runs.{IsRun}
use Rattle.v8_board.specs.Seen.{State}
use Rattle.v8_board.specs.Start.{IsStart}
use Rattle.sbx_image.specs.Parts.{Parts}
use Rattle.sbx_flat.specs.Runs.{AreBytes, budget}
use Rattle.sbx_sound.specs.Law.{IsFormed}
use Rattle.sbx_sound.specs.Verdicts.{Checked}
use Rattle.sbx_shows.specs.WholeRuns.{IsAnyBoard, IsImage}

-- A board with this input to give, whatever else it held, that the image was loaded into and ran on, up to the image's
-- budget.
pub record Ran (n : ℕ) (parts : Parts) (input : List ℕ) (end : State n) : Type 0 where
  pub made : State n
  pub start : State n
  pub any : IsAnyBoard n input made
  pub loaded : IsStart n parts made start
  pub run : IsRun n (budget parts) start end

-- Two of them tell the same pages.
abbrev pub RunsUseTheSamePages : Type 0
RunsUseTheSamePages =
    (n : ℕ) (parts : Parts) (input : List ℕ) (one other : State n) →
    IsImage parts → IsFormed parts → Checked parts → AreBytes input →
    Ran n parts input one → Ran n parts input other →
    page_use_of one.world.memory.ram ≡ page_use_of other.world.memory.ram
