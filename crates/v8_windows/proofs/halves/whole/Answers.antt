use Rattle.std.proofs.Common.{arith}
use Rattle.v8_windows.proofs.Eights.{whole_listed}
use Rattle.v8_windows.proofs.halves.whole.Goals as goal

pub returns : goal.returns
returns c = whole_listed c.args.globals.now c.args.outs.now c.args.locals.now c.args.ins.now (omega arith) (omega arith) (omega arith) (omega arith)
