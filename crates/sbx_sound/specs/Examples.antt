-- Images that are safe as the rules say: a loop that puts out what it gets, and a call of a leaf.
use Rattle.std.specs.Prelude.{pos}
use Rattle.sbx_flat.specs.Runs.{FlatSafe}
use Rattle.sbx_rules.specs.Examples.{adding, echo}

-- Two images that keep the rules, and so are safe: one with a loop, one with a call.
pub record ExamplesAreSafe : Type 0 where
  pub a_loop : FlatSafe echo
  pub a_call : FlatSafe (adding (pos 254) (pos 255) 39)
