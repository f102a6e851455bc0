-- What the state of a board is, whatever runs there.
use Rattle.std.specs.Prelude.{ℕ, ◌≡◌, ◌%◌, ◌^◌, ◌<◌, length}
use Rattle.v8_core.specs.Ram.{AreBytes}
use Rattle.v8_core.specs.Walked.{root_of}
use Rattle.v8_core.specs.MmuRegs.{MmuRegs}
use Rattle.v8_core.specs.Windows.{IsFile}
use Rattle.v8_core.specs.Cpu.{Cpu}
use Rattle.v8_core.specs.Accesses.{World}
use Rattle.v8_map.specs.declared.TheConstants.{RAM, CONTEXT_TABLE}
use Rattle.v8_memory.specs.Board.{Device}

-- A register file and a word in Y, places that hold instructions, a processor interrupt level, and a trap table at a
-- page's start.
pub record IsSound (n : ℕ) (cpu : Cpu n) : Type 0 where
  pub file : IsFile n cpu.regs
  pub y_word : cpu.control.y < 2 ^ 32
  pub pil : cpu.control.pil < 16
  pub table : cpu.control.base % 4096 ≡ 0
  pub pc_word : cpu.control.pc < 2 ^ 32
  pub pc_whole : cpu.control.pc % 4 ≡ 0
  pub npc_word : cpu.control.npc < 2 ^ 32
  pub npc_whole : cpu.control.npc % 4 ≡ 0

-- Such a processor, 1 MiB of bytes, and the context table's root as a board has it from its boot on.
pub record IsState (n : ℕ) (mmu : MmuRegs) (x : World n Device) : Type 0 where
  pub cpu : IsSound n x.cpu
  pub size : length x.memory.ram ≡ RAM
  pub bytes : AreBytes x.memory.ram
  pub root : root_of mmu ≡ CONTEXT_TABLE
