-- A machine as a start sets it.
use Rattle.std.specs.Prelude.{ℕ, ◌≡◌, ◌/◌, ◌%◌, ◌^◌, fold}
use Rattle.v8_core.specs.Control.{Control}
use Rattle.v8_core.specs.Cpu.{Cpu}
use Rattle.v8_core.specs.MmuRegs.{MmuRegs}
use Rattle.v8_core.specs.Registers.{cleared, psr_window, started_with, trap_base, with_psr}
use Rattle.v8_core.specs.Windows.{Windows, with_reg}
use Rattle.inspect_start.specs.declared.start.ControlValue.{ControlValue as Said}
use Rattle.inspect_start.specs.declared.start.Register.{Register}
use Rattle.inspect_start.specs.declared.start.Start.{Start}
use Rattle.inspect_states.specs.Registers.{entered}

-- a register written in its window, a number of five bits, where there is that window
abbrev pub with_register : (n : ℕ) → Windows → Register → Windows
with_register n v r = with_reg n (entered n v (psr_window r.window)) r.register r.word

-- the annul flag, the fault status and error mode are as before
abbrev pub SameRest : Control → Control → Type 0
SameRest old new = (new.annul ≡ old.annul) × (new.status ≡ old.status) × (new.error ≡ old.error)

-- PC, nPC, TBR and Y; no annulled instruction, no fault status, no error mode
abbrev pub control_of : Said → Control
control_of c = record (started_with c.y) { pc = c.pc; npc = c.npc; base = trap_base c.tbr; tt = c.tbr / 2 ^ 4 % 2 ^ 8 }

-- and WIM, of a processor with these registers, and PSR with its window
abbrev pub with_control : (n : ℕ) → Windows → Said → Cpu n
with_control n regs c =
    with_psr n (record { regs = record regs { mask = c.wim % 2 ^ n }; control = control_of c }) c.psr

-- the processor that a start sets: registers that it doesn't name are 0
abbrev pub started : (n : ℕ) → Start → Cpu n
started n s = with_control n (fold (with_register n) (cleared n) s.registers.items) s.control

-- these are the registers of its MMU
abbrev pub IsMmuOf : Start → MmuRegs → Type 0
IsMmuOf s mmu = (mmu.table ≡ s.control.table) × (mmu.context ≡ s.control.context)
