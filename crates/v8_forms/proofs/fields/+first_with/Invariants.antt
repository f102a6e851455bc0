use Rattle.std.specs.Prelude.{length}
use Rattle.v8_forms.proofs.fields.+first_with.Given as goal

abbrev pub decreases-first_with : goal.decreases-first_with
decreases-first_with l = length l.rows.now
