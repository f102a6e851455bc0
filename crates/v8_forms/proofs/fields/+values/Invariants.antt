use Rattle.std.specs.Prelude.{length}
use Rattle.v8_forms.proofs.fields.+values.Given as goal

abbrev pub decreases-values : goal.decreases-values
decreases-values l = length l.parts.now
