use Rattle.std.proofs.Common.{◌^◌, ◌<◌, ◌≤◌, append_assoc, arith}
use Rattle.v8_forms.proofs.Decimal.{more_digits}
use Rattle.v8_forms.proofs.printing.+push_digits.Goals as goal

pub returns-else-n-lt10-clause-bytes : goal.returns-else-n-lt10-clause-bytes
returns-else-n-lt10-clause-bytes t c =
    let ten : 10 ≤ c.args.n = omega arith in
    let small : c.args.n < 2 ^ 64 = omega arith in
    rw (c.push_digit-else-n-lt10.ensures.bytes, c.push_digits.ensures.bytes, more_digits c.args.n ten small) (simp append_assoc)
