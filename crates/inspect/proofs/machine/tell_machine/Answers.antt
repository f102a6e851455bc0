use Rattle.std.proofs.Common.{Ok, Err, refl}
use Rattle.inspect.specs.declared.machine.MachineFault.TheVariants as faults
use Rattle.inspect.proofs.Stated.{machine_on}
use Rattle.inspect.proofs.machine.tell_machine.Goals as goal

pub returns-in-Ok-machine_windows : goal.returns-in-Ok-machine_windows
returns-in-Ok-machine_windows g c =
    machine_on c.count-windows.result c.args.setting.now.windows c.args.setting.now.limit c.args.setting.now.at c.args.binary.now c.args.file.now
    (g.O.Write.contents c.args.out.now) (g.O.Write.contents c.machine_windows.new.out) (Ok tt) c.count-windows.ensures.value
    (c.in-Ok.start, c.in-Ok.ensures.spelled, c.in-Ok.ensures.fit, c.in-Ok-machine_windows.ensures)

pub returns-in-Err : goal.returns-in-Err
returns-in-Err g c =
    machine_on c.count-windows.result c.args.setting.now.windows c.args.setting.now.limit c.args.setting.now.at c.args.binary.now c.args.file.now
    (g.O.Write.contents c.args.out.now) (g.O.Write.contents c.args.out.now) (Err (faults.Start c.in-Err.fault)) c.count-windows.ensures.value
    (c.in-Err.ensures.fault, refl)

pub returns : goal.returns
returns g c =
    machine_on c.count-windows.result c.args.setting.now.windows c.args.setting.now.limit c.args.setting.now.at c.args.binary.now c.args.file.now
    (g.O.Write.contents c.args.out.now) (g.O.Write.contents c.machine_windows.new.out) (Err (faults.Stop c.from.result)) c.count-windows.ensures.value
    (c.in-Ok.start, c.in-Ok.ensures.spelled, c.in-Ok.ensures.fit, c.in-Err-machine_windows.fault, c.in-Err-machine_windows.ensures.0, c.from.ensures, c.in-Err-machine_windows.ensures.1)
