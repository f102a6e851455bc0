use Rattle.inspect_check.proofs.Among.{found_is_fault}
use Rattle.inspect_check.proofs.laws.found_faults_are_faults.Goals as goal

pub returns : goal.returns
returns c = found_is_fault
