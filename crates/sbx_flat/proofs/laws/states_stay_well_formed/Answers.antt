use Rattle.sbx_flat.proofs.Stays.{runs_well_formed, starts_well_formed, stays_well_formed}
use Rattle.sbx_flat.proofs.laws.states_stay_well_formed.Goals as goal

pub returns-clause-starts : goal.returns-clause-starts
returns-clause-starts c parts input s some bytes all start = starts_well_formed parts input s some bytes all start

pub returns-clause-steps : goal.returns-clause-steps
returns-clause-steps c parts s next h step = stays_well_formed parts s next h step

pub returns-clause-runs : goal.returns-clause-runs
returns-clause-runs c parts input path s some bytes all run = runs_well_formed parts input path s some bytes all run
