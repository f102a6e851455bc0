-- What a command line may ask for.
use Rattle.std.specs.Prelude.{◌≤◌}
use Rattle.cmd_jobs.specs.declared.jobs.Job.{Job}
use Rattle.cmd_jobs.specs.declared.jobs.Job.TheVariants.{Asm, Verify, Run, List, Trace}

-- its numbers are in their ranges
abbrev pub IsInRange : Job → Type 0
IsInRange (Asm source object) = Unit {0}
IsInRange (Verify image) = Unit {0}
IsInRange (Run image windows) = (4 ≤ windows) × (windows ≤ 32)
IsInRange (List image) = Unit {0}
IsInRange (Trace image windows limit) = (4 ≤ windows) × (windows ≤ 32) × (limit ≤ 9999999999)
