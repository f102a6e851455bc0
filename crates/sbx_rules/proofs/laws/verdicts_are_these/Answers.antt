use Rattle.sbx_rules.proofs.Examples.{verdicts_are_these}
use Rattle.sbx_rules.proofs.laws.verdicts_are_these.Goals as goal

pub returns : goal.returns
returns c = verdicts_are_these
