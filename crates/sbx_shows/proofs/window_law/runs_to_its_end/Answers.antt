use Rattle.sbx_shows.proofs.Ending.{runs_to_its_end}
use Rattle.sbx_shows.proofs.window_law.runs_to_its_end.Goals as goal

pub returns : goal.returns
returns c = runs_to_its_end
