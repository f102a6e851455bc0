use Rattle.std.proofs.Common.{◌≡◌, ℕ, ◌*◌, ◌<◌, ◌≤◌, length}
use Rattle.std.specs.Prelude.{IfSome}
use Rattle.sbx_rules.specs.declared.cause.Cause.{Cause}
use Rattle.sbx_rules.specs.Known.{known}
use Rattle.sbx_rules.specs.Places.{callee_before, op_before}
use Rattle.sbx_rules.specs.Rules.{Holds}
use Rattle.sbx_rules.specs.Ways.{state_at, weight_to}
use Rattle.sbx_pass.proofs.block.first_fault_in_block.Given as goal

abbrev pub invariant-loop-number : goal.invariant-loop-number
invariant-loop-number l =
    record {
      none : (j : ℕ) (cause : Cause) → j < l.number → Holds l.image l.function l.block j cause → ⊥;
      known : l.number < l.count → known l.here ≡ state_at l.image l.function l.block l.number;
      weight : l.weight ≡ weight_to l.image l.function l.block l.number;
      bound : l.weight ≤ 1099511627800 * l.number;
      before : l.before ≡ op_before l.image l.function l.block l.number;
      called : l.called ≡ callee_before l.image l.function l.block l.number;
      called_is : IfSome l.called (λ g. g < length l.image.functions);
    }
