use Rattle.std.proofs.Common.{◌≡◌, ◌∙◌, [], false, None, sym}
use Rattle.std.proofs.lemmas.Result.{err_from_is_err_and}
use Rattle.v8_memory.specs.Board.{seen}
use Rattle.inspect_states.specs.Told.{device_of}
use Rattle.inspect_states.proofs.OfImages.{begins_stated, loaded_by, not_begun, stated}
use Rattle.inspect_states.proofs.run.states_of.Goals as goal

pub returns-in_err-known : goal.returns-in_err-known
returns-in_err-known g c =
    let p = err_from_is_err_and c.from_residual.result c.from_residual.ensures.1 in
    rw (p.1, p.2) (λ parts begun. not_begun g.row.N parts c.args.input.now c.args.limit (g.W.Write.contents c.args.out.now) c.in_err-known.field-0.0 c.in_err-known.ensures.fault)

pub returns-in_err-memory : goal.returns-in_err-memory
returns-in_err-memory g c =
    let p = err_from_is_err_and c.from_residual-in_err-memory.result c.from_residual-in_err-memory.ensures.1 in
    rw (p.1, p.2) (λ parts begun. not_begun g.row.N parts c.args.input.now c.args.limit (g.W.Write.contents c.args.out.now) c.in_err-memory.field-0.0 c.in_err-memory.ensures.fault)

pub returns-in-Ok : goal.returns-in-Ok
returns-in-Ok g c = λ parts begun.
    let ram : c.machine_of-machine.result.bus.ram ≡ c.args.board.now.state.world.memory.ram =
    rw c.machine_of-machine.ensures.bus c.in_ok-memory.ensures.ram in
    let device : device_of c.machine_of-machine.result.bus ≡ seen c.args.input.now false [] None =
    rw c.machine_of-machine.ensures.bus c.in_ok-memory.ensures.device in
    let known : c.new-teller.result.memory.ram ≡ c.machine_of-machine.result.bus.ram =
    rw (c.new-teller.ensures.memory, c.machine_of-machine.ensures.bus) (c.in_ok-known.ensures.ram ∙ sym c.in_ok-memory.ensures.ram) in
    stated g.row.N parts c.args.input.now c.args.limit c.regs-regs.result _ _ _ _ _ _
    (loaded_by g.row.N parts c.args.input.now c.args.board.now.state c.regs-regs.result _ c.regs-regs.ensures begun c.machine_of-machine.ensures.cpu ram device)
    c.new-teller.ensures.registers known c.in-Ok.ensures.whole

pub returns : goal.returns
returns g c = λ parts begun.
    let ram : c.machine_of-machine.result.bus.ram ≡ c.args.board.now.state.world.memory.ram =
    rw c.machine_of-machine.ensures.bus c.in_ok-memory.ensures.ram in
    let device : device_of c.machine_of-machine.result.bus ≡ seen c.args.input.now false [] None =
    rw c.machine_of-machine.ensures.bus c.in_ok-memory.ensures.device in
    let known : c.new-teller.result.memory.ram ≡ c.machine_of-machine.result.bus.ram =
    rw (c.new-teller.ensures.memory, c.machine_of-machine.ensures.bus) (c.in_ok-known.ensures.ram ∙ sym c.in_ok-memory.ensures.ram) in
    begins_stated g.row.N parts c.args.input.now c.args.limit c.regs-regs.result _ _ _ c.in-Err.fault c.run_fault.result _ _
    (loaded_by g.row.N parts c.args.input.now c.args.board.now.state c.regs-regs.result _ c.regs-regs.ensures begun c.machine_of-machine.ensures.cpu ram device)
    c.new-teller.ensures.registers known c.in-Err.ensures.fault c.run_fault.ensures c.in-Err.ensures.part
