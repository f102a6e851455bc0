-- What a call of a service does on a LEON3 whose input and output lie in RAM: the turn of the trap, and those of the
-- words of its vector and its routine (chapter 7).
use Rattle.std.specs.Prelude.{ℕ, ◌≡◌, ◌+◌, ◌*◌, ◌/◌, ◌%◌, ◌^◌, ◌<◌, true, false, List, slice_index, Some, None}
use Rattle.std.specs.Prelude.{IsSomeAnd}
use Rattle.v8_core.specs.Cpu.{Cpu}
use Rattle.v8_core.specs.MmuRegs.{MmuRegs}
use Rattle.v8_core.specs.Operations.{operation_of}
use Rattle.v8_core.specs.Ram.{entry_of, with_byte}
use Rattle.v8_core.specs.Table.{meaning}
use Rattle.v8_core.specs.Walked.{root_of}
use Rattle.v8_core.specs.Windows.{IsFile, reg_of, with_reg}
use Rattle.v8_core.specs.Accesses.{World}
use Rattle.v8_core.specs.Steps.{world_after}
use Rattle.v8_map.specs.declared.TheConstants.{CODE_PLACE, CODE_START, CODE_TABLE, CONTEXT_TABLE, PAGE, PROGRAM_TABLE}
use Rattle.v8_map.specs.declared.TheConstants.{REGION_TABLE, TRAP_TABLE}
use Rattle.v8_loaded.specs.Board.{Device, board}
use Rattle.v8_loaded.specs.Layout.{user_runs}
use Rattle.v8_routines.specs.Services.{MayReturn, calls, returned_from, scratched, service_register}
use Rattle.leon_services.specs.Mailbox.{HasMailbox, HasServices, IsMailbox, IsPage, IsTable, Leaves, Mailbox}
use Rattle.leon_services.specs.Mailbox.{buffer_place}

-- User code about to run `ta k`, which is the code word i, where RAM begins at b. The next place may be any place of a
-- word, so the call may stand in a delay slot.
pub record Calls (n b : ℕ) (mmu : MmuRegs) (x : World n Device) (i k : ℕ) : Type 0 where
  pub file : IsFile n x.cpu.regs
  pub user : x.cpu.control.s ≡ false
  pub traps : x.cpu.control.et ≡ true
  pub straight : x.cpu.control.annul ≡ false
  pub sane : x.cpu.control.error ≡ None
  pub level : x.cpu.control.pil < 16
  pub table : x.cpu.control.base ≡ TRAP_TABLE
  pub place : x.cpu.control.pc ≡ CODE_START + 4 * i
  pub within : i < 2 ^ 16
  pub npc_word : x.cpu.control.npc < 2 ^ 32
  pub npc_whole : x.cpu.control.npc % 4 ≡ 0
  pub root : root_of mmu ≡ b + CONTEXT_TABLE
  pub running : x.memory.device.stopped ≡ None
  pub services : HasServices b x.memory.ram
  pub program : IsTable x.memory.ram (b + REGION_TABLE) (b + PROGRAM_TABLE)
  pub code : IsTable x.memory.ram (b + PROGRAM_TABLE + 4) (b + CODE_TABLE)
  pub page : IsPage x.memory.ram (b + CODE_TABLE + 4 * (i / 1024)) (b + CODE_PLACE + PAGE * (i / 1024)) user_runs
  pub word : IsSomeAnd (entry_of x.memory.ram (b + CODE_PLACE + 4 * i)) (λ w. operation_of (meaning w) ≡ calls k)

-- ---- after the call

-- After so many turns the processor is this one, and RAM is this one with this mailbox. Nothing else has changed.
pub record Comes (n b : ℕ) (mmu : MmuRegs) (x : World n Device) (turns : ℕ) (cpu : Cpu n) (ram : List ℕ)
    (m : Mailbox) : Type 0 where
  pub processor : (world_after board n mmu turns x).cpu ≡ cpu
  pub device : (world_after board n mmu turns x).memory.device ≡ x.memory.device
  pub memory : Leaves b ram (world_after board n mmu turns x).memory.ram m

-- After so many turns the processor has halted, in error mode, and RAM has this mailbox. Nothing else has changed.
pub record Halts (n b : ℕ) (mmu : MmuRegs) (x : World n Device) (turns : ℕ) (m : Mailbox) : Type 0 where
  pub halted : (world_after board n mmu turns x).cpu.control.error ≡ Some 0x80
  pub device : (world_after board n mmu turns x).memory.device ≡ x.memory.device
  pub memory : Leaves b x.memory.ram (world_after board n mmu turns x).memory.ram m

-- back behind the call, as from the vectors of the sandbox machine
abbrev pub returned : (n : ℕ) → Cpu n → ℕ → Cpu n
returned n c t =
    record { regs = scratched n c.regs c.control.pc c.control.npc; control = returned_from c.control t }

-- and %o0 has this word
abbrev pub answered : (n : ℕ) → Cpu n → ℕ → ℕ → Cpu n
answered n c t v =
    record {
      regs = with_reg n (scratched n c.regs c.control.pc c.control.npc) service_register v;
      control =
          returned_from c.control t;
    }

-- %o0, and its low byte
abbrev pub asked : (n : ℕ) → Cpu n → ℕ
asked n c = reg_of n c.regs service_register

abbrev pub asked_byte : (n : ℕ) → Cpu n → ℕ
asked_byte n c = asked n c % 2 ^ 8

-- the next byte of input, and RAM with a byte as the next one of output
abbrev pub next_input : ℕ → List ℕ → Mailbox → ℕ
next_input b ram m = slice_index ram (buffer_place b m.input)

abbrev pub with_output : ℕ → List ℕ → Mailbox → ℕ → List ℕ
with_output b ram m byte = with_byte ram (buffer_place b m.output) byte

-- the mailbox of a run that has ended by this status at the call
abbrev pub ended : (n : ℕ) → Cpu n → ℕ → Mailbox → Mailbox
ended n c status m = record m { status = status; word = asked n c; pc = c.control.pc; npc = c.control.npc }

-- ---- the laws

abbrev pub ExitLaw : Type 0
ExitLaw = (n b : ℕ) (mmu : MmuRegs) (x : World n Device) (i : ℕ) (m : Mailbox) → Calls n b mmu x i 0 →
    HasMailbox b x.memory.ram m → Halts n b mmu x 9 (ended n x.cpu 1 m)

abbrev pub GetLaw : Type 0
GetLaw = (n b : ℕ) (mmu : MmuRegs) (x : World n Device) (i : ℕ) (m : Mailbox) → Calls n b mmu x i 1 →
    MayReturn n x → HasMailbox b x.memory.ram m → IsMailbox m → m.input < m.input_end →
    Comes n b mmu x 22 (answered n x.cpu 0x81 (next_input b x.memory.ram m)) x.memory.ram
    (record m { input = m.input + 1 })

abbrev pub GetEndLaw : Type 0
GetEndLaw = (n b : ℕ) (mmu : MmuRegs) (x : World n Device) (i : ℕ) (m : Mailbox) → Calls n b mmu x i 1 →
    MayReturn n x → HasMailbox b x.memory.ram m → IsMailbox m → m.input ≡ m.input_end →
    Comes n b mmu x 19 (answered n x.cpu 0x81 0xFFFFFFFF) x.memory.ram m

abbrev pub PutLaw : Type 0
PutLaw = (n b : ℕ) (mmu : MmuRegs) (x : World n Device) (i : ℕ) (m : Mailbox) → Calls n b mmu x i 2 →
    MayReturn n x → HasMailbox b x.memory.ram m → IsMailbox m → m.output < m.output_end →
    Comes n b mmu x 23 (returned n x.cpu 0x82) (with_output b x.memory.ram m (asked_byte n x.cpu))
    (record m { output = m.output + 1 })

abbrev pub FullLaw : Type 0
FullLaw = (n b : ℕ) (mmu : MmuRegs) (x : World n Device) (i : ℕ) (m : Mailbox) → Calls n b mmu x i 2 →
    HasMailbox b x.memory.ram m → IsMailbox m → m.output ≡ m.output_end → Halts n b mmu x 16 (ended n x.cpu 3 m)
