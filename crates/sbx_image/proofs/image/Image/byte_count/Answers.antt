use Rattle.sbx_parts.proofs.Limits.{data_within}
use Rattle.sbx_image.proofs.image.Image.byte_count.Goals as goal

pub byte_count-requires : goal.byte_count-requires
byte_count-requires c = rw c.as_slice.ensures (data_within c.self.inside.parts c.self.invariant).bytes

pub returns-clause-few : goal.returns-clause-few
returns-clause-few c = rw (c.byte_count.ensures, c.as_slice.ensures) (data_within c.self.inside.parts c.self.invariant).bytes
