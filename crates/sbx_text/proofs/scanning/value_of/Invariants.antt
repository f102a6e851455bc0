use Rattle.std.proofs.Common.{◌≡◌, ◌<◌, ◌^◌, drop}
use Rattle.std.specs.Str.Parse.{digits_value, digits_value_after}
use Rattle.sbx_text.proofs.scanning.value_of.Given as goal

-- the value so far is small, and going on from it gives the whole value
abbrev pub invariant-loop-byte : goal.invariant-loop-byte
invariant-loop-byte l = (l.value < 2 ^ 40) × (digits_value_after l.radix l.value (drop l.byte-index l.digits) ≡ digits_value l.radix l.digits)
