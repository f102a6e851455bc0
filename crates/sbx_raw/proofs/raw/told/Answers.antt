use Rattle.std.proofs.Common.{refl}
use Rattle.sbx_raw.proofs.raw.told.Goals as goal

pub returns : goal.returns
returns g c = record { outcome = refl; output = c.take_output.ensures.taken; pages = c.page_use-pages.ensures; fault_status = c.fault_status-fault_status.ensures }
