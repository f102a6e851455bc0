use Rattle.std.proofs.Common.{◌≡◌, ◌*◌, ◌<◌, ◌≤◌, length}
use Rattle.std.specs.Prelude.{IfSome}
use Rattle.sbx_domain.specs.Known.{known}
use Rattle.sbx_rules.specs.Places.{callee_before, op_before}
use Rattle.sbx_rules.specs.Ways.{weight_to}
use Rattle.inspect_known.proofs.Entering.{Knows}
use Rattle.inspect_known.proofs.enter.enter.Given as goal

abbrev pub invariant-loop-number : goal.invariant-loop-number
invariant-loop-number l =
    record {
      known : Knows l.image l.function l.block l.number l.end (known l.state);
      weight : l.weight ≡ weight_to l.image l.function l.block l.number;
      bound : l.weight ≤ 1099511627800 * l.number;
      before : l.before ≡ op_before l.image l.function l.block l.number;
      called : l.called ≡ callee_before l.image l.function l.block l.number;
      called_is : IfSome l.called (λ g. g < length l.image.functions);
    }
