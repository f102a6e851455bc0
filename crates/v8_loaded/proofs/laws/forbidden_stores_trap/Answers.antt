use Rattle.v8_loaded.proofs.Forbidden.{forbidden_stores_trap}
use Rattle.v8_loaded.proofs.laws.forbidden_stores_trap.Goals as goal

pub returns : goal.returns
returns c = forbidden_stores_trap
