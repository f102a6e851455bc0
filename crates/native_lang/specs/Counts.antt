-- What is counted: turns, and windows on a machine that has n of them.
use Rattle.std.specs.Prelude.{ℕ, ◌+◌, ◌-◌, ◌==◌, ◌<◌, ◌≤◌, if◌then◌else◌}
use Rattle.sbx_flat.specs.declared.path.Traffic.{Traffic}

-- counts: k turns
abbrev pub makes : ℕ → Traffic → Traffic
makes k t = record t { turns = t.turns + k }

-- a SAVE and a RESTORE on N windows, 1 or 25 turns each: saved and restored of the flat machine's traffic
abbrev pub enters : ℕ → Traffic → Traffic
enters n t =
    if t.windows == n - 1 then record t { overflows = t.overflows + 1; turns = t.turns + 25 }
    else record t { windows = t.windows + 1; turns = t.turns + 1 }

abbrev pub leaves : Traffic → Traffic
leaves t =
    if t.windows == 1 then record t { underflows = t.underflows + 1; turns = t.turns + 25 }
    else record t { windows = t.windows - 1; turns = t.turns + 1 }

-- windows are taken from 1 to n - 1, and each trap made turns
pub record Counted (n : ℕ) (t : Traffic) : Type 0 where
  pub some : 1 ≤ t.windows
  pub free : t.windows < n
  pub overflows : t.overflows ≤ t.turns
  pub underflows : t.underflows ≤ t.turns
