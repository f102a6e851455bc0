use Rattle.std.proofs.lemmas.Grind.{common_steps}
use Rattle.std.proofs.Common.{◌≡◌, length, ap, ◌∙◌, lit<, refl, rules, arith}
use Rattle.v8_core.specs.Ram.{AreBytes}
use Rattle.v8_contained.specs.declared.Memory.{Memory}
use Rattle.v8_board.proofs.Contained.{blank_bytes, boots_state}
use Rattle.v8_board.proofs.Sizes.{first_fits}
use Rattle.v8_board.proofs.board.Board.new.Goals as goal

pub invariant_of-result : goal.invariant_of-result
invariant_of-result g c = grind (arith, common_steps)

pub returns-clause-made : goal.returns-clause-made
returns-clause-made g c =
    record {
      cpu = c.new-2.ensures.cpu;
      ram = rw c.new-2.ensures.bus c.in_ok-new.ensures.ram;
      device = search rules;
      mmu = rw c.new-2.ensures.mmu refl;
      counts = refl;
    }

pub returns-clause-state : goal.returns-clause-state
returns-clause-state g c =
    let blank = c.in_ok-new.ensures.ram in
    let size : length c.new-2.result.bus.ram ≡ 0x100000 = rw c.new-2.ensures.bus blank.size in
    let bytes : AreBytes c.new-2.result.bus.ram = rw c.new-2.ensures.bus (blank_bytes c.in_ok-new.field-0.ram blank) in
    boots_state g.row.N _ c.new-2.result.cpu c.new-2.result.bus.ram c.new-2.result.mmu _ c.new-2.ensures.cpu (lit< tt) c.new-2.ensures.file
    size bytes (rw c.new-2.ensures.mmu refl)

pub returns-clause-failed : goal.returns-clause-failed
returns-clause-failed g c = ap g.P.Port.failed (ap (λ (m : Memory g.row.P.Denot). m.port) c.new-2.ensures.bus ∙ c.in_ok-new.ensures.port)

pub returns-clause-calls : goal.returns-clause-calls
returns-clause-calls g c = ap g.P.Port.calls (ap (λ (m : Memory g.row.P.Denot). m.port) c.new-2.ensures.bus ∙ c.in_ok-new.ensures.port)

pub new-requires-2 : goal.new-requires-2
new-requires-2 g c = search (first_fits)
