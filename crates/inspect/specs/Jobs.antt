-- What a command line may ask for.
use Rattle.std.specs.Prelude.{◌≤◌}
use Rattle.inspect.specs.declared.words.InspectJob.{InspectJob}
use Rattle.inspect.specs.declared.words.InspectJob.TheVariants.{Image, Run, Trace, States, Data, Machine, Why}

-- its numbers are in their ranges
abbrev pub IsInRange : InspectJob → Type 0
IsInRange (Image image form) = Unit {0}
IsInRange (Run image windows limit form) = (4 ≤ windows) × (windows ≤ 32) × (limit ≤ 9999999999)
IsInRange (Trace image windows limit) = (4 ≤ windows) × (windows ≤ 32) × (limit ≤ 9999999999)
IsInRange (States image windows limit) = (4 ≤ windows) × (windows ≤ 32) × (limit ≤ 9999999999)
IsInRange (Data image windows limit) = (4 ≤ windows) × (windows ≤ 32) × (limit ≤ 9999999999)
IsInRange (Machine file setting) = (4 ≤ setting.windows) × (setting.windows ≤ 32) × (setting.limit ≤ 9999999999)
IsInRange (Why image form) = Unit {0}
