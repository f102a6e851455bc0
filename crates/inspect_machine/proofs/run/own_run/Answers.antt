use Rattle.std.proofs.Common.{◌≡◌, ◌∙◌, [], false, None, refl}
use Rattle.std.proofs.lemmas.Result.{err_from_is_err_and}
use Rattle.v8_memory.specs.Board.{seen}
use Rattle.inspect_states.specs.Told.{device_of}
use Rattle.inspect_machine.proofs.Told.{begun_lines, not_begun, starts, told_all}
use Rattle.inspect_machine.proofs.run.own_run.Goals as goal

pub returns-in_err-first : goal.returns-in_err-first
returns-in_err-first g c =
    let p = err_from_is_err_and c.from_residual.result c.from_residual.ensures.1 in
    rw (p.1, p.2) (not_begun g.row.N c.args.start.now c.args.limit (g.W.Write.contents c.args.out.now) c.in_err-first.field-0.0 c.in_err-first.ensures.fault)

pub returns-in_err-known : goal.returns-in_err-known
returns-in_err-known g c =
    let p = err_from_is_err_and c.from_residual-in_err-known.result c.from_residual-in_err-known.ensures.1 in
    rw (p.1, p.2) (not_begun g.row.N c.args.start.now c.args.limit (g.W.Write.contents c.args.out.now) c.in_err-known.field-0.0 c.in_err-known.ensures.fault)

pub returns-in_err-memory : goal.returns-in_err-memory
returns-in_err-memory g c =
    let p = err_from_is_err_and c.from_residual-in_err-memory.result c.from_residual-in_err-memory.ensures.1 in
    rw (p.1, p.2) (not_begun g.row.N c.args.start.now c.args.limit (g.W.Write.contents c.args.out.now) c.in_err-memory.field-0.0 c.in_err-memory.ensures.fault)

pub returns-in-Ok : goal.returns-in-Ok
returns-in-Ok g c =
    let ram : c.machine_of-machine.result.bus.ram ≡ c.args.start.now.ram.items =
    rw c.machine_of-machine.ensures.bus (c.in_ok-memory.ensures.ram ∙ c.as_slice-3.ensures.value) in
    let device : device_of c.machine_of-machine.result.bus ≡ seen [] false [] None =
    rw c.machine_of-machine.ensures.bus c.in_ok-memory.ensures.device in
    let start = starts g.row.N c.args.start.now c.machine_of-machine.result.cpu c.machine_of-machine.result.bus.ram (device_of c.machine_of-machine.result.bus)
    c.machine_of-machine.ensures.cpu ram device in
    let known : c.new-teller.result.memory.ram ≡ c.args.start.now.ram.items =
    rw c.new-teller.ensures.memory (c.in_ok-known.ensures.ram ∙ c.as_slice-2.ensures.value) in
    let last : c.bus.result.now.ram ≡ c.tell_states.new.machine.bus.ram = rw c.bus.ensures refl in
    told_all g.row.N c.args.start.now c.args.limit c.mmu_of-regs.result _ _ _ _ _ _ _ _ _ c.tell_changes.result c.mmu_of-regs.ensures start
    c.new-teller.ensures.registers known (c.in_ok-first.ensures.ram ∙ c.as_slice.ensures.value) last c.in-Ok.ensures.whole
    c.tell_changes.ensures.whole c.tell_changes.ensures.part c.tell_changes.ensures.fault

pub returns : goal.returns
returns g c =
    let ram : c.machine_of-machine.result.bus.ram ≡ c.args.start.now.ram.items =
    rw c.machine_of-machine.ensures.bus (c.in_ok-memory.ensures.ram ∙ c.as_slice-3.ensures.value) in
    let device : device_of c.machine_of-machine.result.bus ≡ seen [] false [] None =
    rw c.machine_of-machine.ensures.bus c.in_ok-memory.ensures.device in
    let start = starts g.row.N c.args.start.now c.machine_of-machine.result.cpu c.machine_of-machine.result.bus.ram (device_of c.machine_of-machine.result.bus)
    c.machine_of-machine.ensures.cpu ram device in
    let known : c.new-teller.result.memory.ram ≡ c.args.start.now.ram.items =
    rw c.new-teller.ensures.memory (c.in_ok-known.ensures.ram ∙ c.as_slice-2.ensures.value) in
    begun_lines g.row.N c.args.start.now c.args.limit c.mmu_of-regs.result _ _ _ c.in-Err.fault c.run_fault.result _ _ c.mmu_of-regs.ensures start
    c.new-teller.ensures.registers known c.in-Err.ensures.fault c.run_fault.ensures c.in-Err.ensures.part
