use Rattle.std.proofs.Common.{sym, ap, ◌∙◌}
use Rattle.v8_meaning.specs.declared.operation.Operation.{Operation}
use Rattle.sbx_flat.specs.Traffic.{after_operation}
use Rattle.flat_plain.proofs.paths.performed.Goals as goal

pub returns-in-Save-clause-value : goal.returns-in-Save-clause-value
returns-in-Save-clause-value c = c.saved.ensures.value c.in-Save.field-0 ∙ sym (ap (λ (op : Operation). after_operation c.args.n op c.args.traffic) c.in-Save.is)

pub returns-in-Restore-clause-value : goal.returns-in-Restore-clause-value
returns-in-Restore-clause-value c = c.restored.ensures.value c.in-Restore.field-0 ∙ sym (ap (λ (op : Operation). after_operation c.args.n op c.args.traffic) c.in-Restore.is)
