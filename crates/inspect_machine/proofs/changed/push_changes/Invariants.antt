use Rattle.std.proofs.Common.{◌≡◌, ◌++◌, string_bytes}
use Rattle.inspect_machine.specs.Changed.{changes_text}
use Rattle.inspect_machine.proofs.changed.push_changes.Given as goal

-- the words so far were told
abbrev pub invariant-loop-number : goal.invariant-loop-number
invariant-loop-number g l = string_bytes l.text ≡ string_bytes l.initial.text ++ changes_text (g.B.Bus.state l.first).held.ram (g.B.Bus.state l.now).held.ram l.number
