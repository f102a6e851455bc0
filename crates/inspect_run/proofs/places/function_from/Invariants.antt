use Rattle.std.proofs.Common.{◌≡◌, drop}
use Rattle.inspect_run.specs.Places.{function_from, last_from}
use Rattle.inspect_run.proofs.places.function_from.Given as goal

-- the functions that are left lead to the same place
abbrev pub invariant-loop-function : goal.invariant-loop-function
invariant-loop-function l = (l.number ≡ l.function-index)
    × (last_from l.number l.place (drop l.function-index l.functions) l.address ≡ function_from l.functions l.address)
