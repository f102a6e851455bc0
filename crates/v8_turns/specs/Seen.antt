-- What a line tells of a machine's state registers.
use Rattle.std.specs.Prelude.{ℕ}
use Rattle.v8_core.specs.Parts.{Parts}
use Rattle.v8_core.specs.Registers.{psr_of, tbr_of}
use Rattle.v8_turns.specs.declared.state.Control.{Control}

-- PC, nPC, PSR, WIM, TBR, Y and the fault status of a machine of n windows
abbrev pub control_of : {B : Type 0} → (n : ℕ) → Parts n B → Control
control_of n m = record {
  pc = m.cpu.control.pc;
  npc = m.cpu.control.npc;
  psr = psr_of n m.cpu;
  wim = m.cpu.regs.mask;
  tbr = tbr_of m.cpu.control;
  y = m.cpu.control.y;
  status = m.cpu.control.status;
}
