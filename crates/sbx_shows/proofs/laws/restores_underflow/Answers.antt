use Rattle.sbx_shows.proofs.Retries.{restores_underflow}
use Rattle.sbx_shows.proofs.laws.restores_underflow.Goals as goal

pub returns : goal.returns
returns c = restores_underflow
