-- What is told of a machine, where the bytes of its binary and of its file are known.
use Rattle.std.specs.Prelude.{◌≡◌, ℕ, List, Option, Result, Ok, Err}
use Rattle.cmd_command.specs.Stops.{stop_of_run}
use Rattle.sbx_raw.specs.Fronts.{Wrote}
use Rattle.sbx_raw.specs.declared.fault.RunFault.{RunFault}
use Rattle.inspect_start.specs.declared.start.Start.{Start}
use Rattle.inspect_start.specs.Starts.{IsFit}
use Rattle.inspect_start.specs.Files.{IsFault, Spells}
use Rattle.inspect_machine.specs.Told.{BeginsTold, IsOwnFault, IsTold}
use Rattle.inspect.specs.declared.machine.MachineFault.{MachineFault}
use Rattle.inspect.specs.declared.machine.MachineFault.TheVariants as faults

-- The output grew by a text that tells the run from the start that the bytes spell, of a binary from an address on and
-- of a file. Where the file isn't right that is told, and nothing is written. Where the run stops, by want of memory or
-- of the output, it grew by such a text's first bytes.
abbrev pub MachineOf : ℕ → ℕ → ℕ → List ℕ → List ℕ → Option (List ℕ) → Option (List ℕ) →
    Result (Unit {0}) MachineFault → Type 0
MachineOf windows limit at binary file old new (Ok done) =
    (start : Start) × Spells windows at binary file start × IsFit windows start
    × Wrote old new (IsTold windows start limit)
MachineOf windows limit at binary file old new (Err (faults.Start fault)) = IsFault windows at binary file fault
    × (new ≡ old)
MachineOf windows limit at binary file old new (Err (faults.Stop stop)) =
    (start : Start) × Spells windows at binary file start × IsFit windows start
    × (fault : RunFault) × IsOwnFault fault × (stop ≡ stop_of_run fault)
    × Wrote old new (BeginsTold windows start limit)
