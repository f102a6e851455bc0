use Rattle.std.proofs.Common.{◌≡◌, ◌++◌, map, take}
use Rattle.inspect_names.specs.Findings.{fault_place, finding_place}
use Rattle.inspect_names.proofs.findings.push_each.Given as goal

-- the places so far
abbrev pub invariant-loop-fault : goal.invariant-loop-fault
invariant-loop-fault l = map finding_place l.found.items ≡ map finding_place l.fn.found.items ++ map fault_place (take l.fault-index l.faults)
