-- The raw run that was made is the one that is told of.
use Rattle.std.proofs.Common.{ap}
use Rattle.sbx_bench.specs.declared.ways.Told.TheVariants.{Output}
use Rattle.sbx_bench.proofs.ways.raw.Goals as goal

pub returns-in-Ok : goal.returns-in-Ok
returns-in-Ok c = (c.in-Ok.raw, c.in-Ok.ensures.run, ap (Output c.in-Ok.raw.outcome.turns) c.len.ensures)
