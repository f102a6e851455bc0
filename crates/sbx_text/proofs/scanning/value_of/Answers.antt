use Rattle.std.proofs.Common.{◌≡◌, ℕ, List, ap, ◌+◌, ◌*◌, ◌<◌, ◌≤◌, length, drop, get_or, refl, arith, sym, ◌∙◌}
use Rattle.std.specs.Char.{digit_value}
use Rattle.std.specs.Str.Parse.{digits_value, digits_value_after}
use Rattle.sbx_text.proofs.Values.{grows, one_more}
use Rattle.sbx_text.proofs.scanning.value_of.Goals as goal

pub returns-then-value-ge1099511627776 : goal.returns-then-value-ge1099511627776
returns-then-value-ge1099511627776 c =
    let digits : List ℕ = c.args.digits.now in
    let i : ℕ = c.loop-byte.byte-index in
    let next : ℕ = c.loop-byte.value * c.args.radix + digit_value (get_or digits i 0) in
    let inside : i < length digits = omega arith in
    let more = one_more c.args.radix c.loop-byte.value i (get_or digits i 0) digits inside refl in
    let least : next ≤ digits_value_after c.args.radix next (drop (i + 1) digits) = grows c.args.radix next (drop (i + 1) digits) c.requires.least in
    let whole : digits_value_after c.args.radix next (drop (i + 1) digits) ≡ digits_value c.args.radix digits = sym more ∙ c.loop-byte.invariant.1 in
    let factor : c.from.result ≡ c.args.radix = c.from.ensures in
    let product : c.loop-byte.value * c.from.result ≡ c.loop-byte.value * c.args.radix = ap (λ n. c.loop-byte.value * n) factor in
    omega arith
