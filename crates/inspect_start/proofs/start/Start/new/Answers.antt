use Rattle.std.proofs.Common.{◌≡◌, arith}
use Rattle.inspect_start.proofs.Blank.{blank_is}
use Rattle.inspect_start.proofs.start.Start.new.Goals as goal

pub returns-clause-blank : goal.returns-clause-blank
returns-clause-blank c = blank_is (λ x y. y ≡ x) (λ y e. e) c.in_ok-vec.field-0.items c.in_ok-vec.ensures.items (omega (arith, c.in_ok-vec.ensures.len))
