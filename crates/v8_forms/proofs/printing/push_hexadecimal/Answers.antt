use Rattle.std.proofs.Common.{append_assoc}
use Rattle.v8_forms.proofs.printing.push_hexadecimal.Goals as goal

pub returns-clause-bytes : goal.returns-clause-bytes
returns-clause-bytes c =
    rw (
      c.push_digit-8.ensures.bytes,
      c.push_digit-7.ensures.bytes,
      c.push_digit-6.ensures.bytes,
      c.push_digit-5.ensures.bytes,
      c.push_digit-4.ensures.bytes,
      c.push_digit-3.ensures.bytes,
      c.push_digit-2.ensures.bytes,
      c.push_digit.ensures.bytes,
    )
    (simp append_assoc)
