use Rattle.sbx_parts.proofs.Limits.{data_within}
use Rattle.sbx_image.proofs.image.Image.region_start.Goals as goal

pub start_of-requires : goal.start_of-requires
start_of-requires c = rw c.as_slice.ensures (data_within c.self.inside.parts c.self.invariant).pages
