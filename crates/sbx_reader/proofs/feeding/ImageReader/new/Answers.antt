use Rattle.sbx_reader.proofs.Resuming.{starts_at_front}
use Rattle.sbx_reader.proofs.feeding.ImageReader.new.Goals as goal

pub invariant_of-result : goal.invariant_of-result
invariant_of-result c kept = rw c.new.ensures.items starts_at_front
