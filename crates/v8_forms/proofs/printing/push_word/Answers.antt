use Rattle.std.proofs.Common.{append_assoc}
use Rattle.v8_forms.proofs.printing.push_word.Goals as goal

pub returns : goal.returns
returns c = record { bytes = rw (c.push_hexadecimal.ensures.bytes, c.push_str.ensures.bytes) (simp append_assoc) }
