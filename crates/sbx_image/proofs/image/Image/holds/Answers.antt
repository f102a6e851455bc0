use Rattle.sbx_parts.proofs.Limits.{data_within}
use Rattle.sbx_image.proofs.image.Image.holds.Goals as goal

pub holds-requires : goal.holds-requires
holds-requires c = rw c.as_slice.ensures (data_within c.self.inside.parts c.self.invariant).pages
