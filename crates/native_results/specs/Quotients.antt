-- What a division makes of a bench.
use Rattle.std.specs.Prelude.{Bool, true, false}
use Rattle.v8_alu.specs.declared.Division.{Division}
use Rattle.v8_alu.specs.declared.Division.TheVariants.{Sdiv, SdivCc, UdivCc}
use Rattle.native_results.specs.Bench.{Bench}
use Rattle.native_results.specs.Codes.{coded}
use Rattle.native_results.specs.declared.codes.CodesBy.TheVariants.{Logic}

abbrev pub has_signs : Division → Bool
has_signs Sdiv = true
has_signs SdivCc = true
has_signs _ = false

abbrev pub sets_codes : Division → Bool
sets_codes UdivCc = true
sets_codes SdivCc = true
sets_codes _ = false

-- V tells whether the quotient was saturated
abbrev pub with_quotient_codes : Bool → Bench → Bench
with_quotient_codes false k = k
with_quotient_codes true k = record (coded Logic k) { v = k.nowhere }
