use Rattle.std.proofs.Common.{add-one, append-nil, string_bytes, sym, arith}
use Rattle.std.proofs.lemmas.Grind.{common_steps}
use Rattle.inspect_machine.specs.Changed.{changes_text}
use Rattle.inspect_machine.proofs.changed.push_changes.Goals as goal

pub loop-number-init : goal.loop-number-init
unfolding changes_text
loop-number-init g c = sym (append-nil (string_bytes c.args.text.now))

pub loop-number-preserved : goal.loop-number-preserved
unfolding changes_text
loop-number-preserved g c = rw add-one (grind (arith, common_steps, c.in_ok-push_change.ensures))
