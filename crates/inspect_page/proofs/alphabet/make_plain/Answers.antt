use Rattle.std.proofs.Common.{◌<◌, ◌≢◌, length, arith, get_or-set_other, get_or-set_same, below_more}
use Rattle.inspect_page.proofs.alphabet.make_plain.Goals as goal

pub loop-byte-preserved : goal.loop-byte-preserved
loop-byte-preserved c =
    below_more _ _
    (λ k h. let ne : k ≢ c.loop-byte.byte-index = omega arith in
    rw get_or-set_other (c.loop-byte.invariant k h))
    (let lt : c.loop-byte.byte-index < length c.loop-byte.text = omega arith in
    rw get_or-set_same c.plain.ensures)
