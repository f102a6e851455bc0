use Rattle.sbx_shows.proofs.Retries.{saves_overflow}
use Rattle.sbx_shows.proofs.laws.saves_overflow.Goals as goal

pub returns : goal.returns
returns c = saves_overflow
