use Rattle.std.proofs.Common.{◌≡◌, drop, map}
use Rattle.inspect_start.specs.Names.{beside}
use Rattle.inspect_start.proofs.names.beside.Given as goal

-- the first of those that are left is the first of all
abbrev pub invariant-loop-text : goal.invariant-loop-text
invariant-loop-text g l = beside l.name (map (λ x. (x.0.now, x.1)) (drop l.text-index l.rows)) ≡ beside l.name (map (λ x. (x.0.now, x.1)) l.rows)
