-- What a call of a service does: the turn of the trap, and those of the words of its vector (chapter 7 and the trap
-- table).
use Rattle.std.specs.Prelude.{ℕ, ◌≡◌, ◌+◌, ◌%◌, ◌^◌, Bool, true, false, List, [], ◌∷◌, ◌++◌, Some}
use Rattle.v8_core.specs.Cond.TheVariants.{Always}
use Rattle.v8_core.specs.Operand.TheVariants.{Immediate}
use Rattle.v8_core.specs.Operands.{following}
use Rattle.v8_core.specs.Operation.{Operation}
use Rattle.v8_core.specs.Operation.TheVariants.{TrapOnCondition}
use Rattle.v8_core.specs.Windows.{Windows, below, can_enter, reg_of, with_reg, with_word, trapped}
use Rattle.v8_core.specs.Stop.TheVariants.{Exit}
use Rattle.v8_core.specs.MmuRegs.{MmuRegs}
use Rattle.v8_core.specs.Control.{Control}
use Rattle.v8_core.specs.declared.turn.Event.{Event}
use Rattle.v8_core.specs.declared.turn.Event.TheVariants.{Ran, Trapped, Stopped}
use Rattle.v8_core.specs.Accesses.{World, world}
use Rattle.v8_map.specs.declared.TheConstants.{TRAP_TABLE, DEVICE}
use Rattle.v8_loaded.specs.Layout.{Pages}
use Rattle.v8_loaded.specs.Board.{Device, gets}
pub use Rattle.v8_loaded.specs.Places.{code_marked, table_marked, device_marked}
pub use Rattle.v8_loaded.specs.Turns.{ReachesDevice, Touches, TurnsTo, Leads}
pub use Rattle.v8_loaded.specs.Users.{AsksFor, RunsUser, in_vector}

-- `ta k`
abbrev pub calls : ℕ → Operation
calls k = TrapOnCondition (record { cond = Always; rs1 = 0; operand2 = Immediate k })

-- the code word i is `ta k`
abbrev pub Calls : List ℕ → ℕ → ℕ → Type 0
Calls words i k = AsksFor words i (calls k)

-- ---- what stays behind

-- %o0
abbrev pub service_register : ℕ
service_register = 8

-- the device's first address
abbrev pub device_address : ℕ
device_address = DEVICE

-- %l1, %l2 and %l3 of the window below: PC, nPC and the device's address
abbrev pub scratched : ℕ → Windows → ℕ → ℕ → Windows
scratched n v pc npc =
    with_word (with_word (with_word v (below n v.current) 9 pc) (below n v.current) 10 npc)
    (below n v.current) 11 device_address

-- the RAM after two words of a vector, the second of which reaches the device
abbrev pub vector_marked : ℕ → Bool → List ℕ → List ℕ
vector_marked i store ram = device_marked store (table_marked (table_marked (code_marked i ram)))

-- back at the instruction after the call: of the state registers tt and PS have changed
abbrev pub returned_from : Control → ℕ → Control
returned_from c t = record c { pc = c.npc; npc = following c.npc; tt = t; ps = c.s }

-- the registers in the vector once the device's address is set
abbrev pub vector_registers : ℕ → Windows → ℕ → ℕ → Windows
vector_registers n v pc npc = with_word (trapped n v pc npc) (below n v.current) 11 device_address

-- ---- the services

-- the machine has stopped with %o0 as its exit status
abbrev pub exited : (n : ℕ) → World n Device → ℕ → World n Device
exited n x i =
    world n (in_vector n x.cpu 0x80 (vector_registers n x.cpu.regs x.cpu.control.pc x.cpu.control.npc)
    (TRAP_TABLE + 0x808) (TRAP_TABLE + 0x80C))
    (vector_marked i true x.memory.ram) (record x.memory.device {
      stopped =
          Some (Exit (reg_of n x.cpu.regs service_register));
    })

-- %o0 has the next byte of input, or all ones at its end
abbrev pub got : (n : ℕ) → World n Device → ℕ → World n Device
got n x i =
    world n (record {
      regs = with_reg n
          (scratched n x.cpu.regs x.cpu.control.pc x.cpu.control.npc) service_register (gets x.memory.device).0;
      control = returned_from x.cpu.control 0x81;
    }) (table_marked (table_marked (vector_marked i false x.memory.ram))) (gets x.memory.device).1

-- the low byte of %o0 was put out
abbrev pub put : (n : ℕ) → World n Device → ℕ → World n Device
put n x i =
    world n (record {
      regs = scratched n x.cpu.regs x.cpu.control.pc x.cpu.control.npc;
      control = returned_from x.cpu.control 0x82;
    }) (table_marked (table_marked (vector_marked i true x.memory.ram)))
    (record x.memory.device { output = x.memory.device.output ++ (reg_of n x.cpu.regs service_register % 2 ^ 8) ∷ [] })

-- ---- the laws

-- the current window is one that RETT may come back to
abbrev pub MayReturn : (n : ℕ) → World n Device → Type 0
MayReturn n x = can_enter x.cpu.regs x.cpu.regs.current ≡ true

abbrev pub exit_events : ℕ → List Event
exit_events status = Trapped 0x80 ∷ Ran ∷ Stopped (Exit status) ∷ []

abbrev pub ExitLaw : Type 0
ExitLaw = (n : ℕ) (g : Pages) (words : List ℕ) (mmu : MmuRegs) (x : World n Device) (i : ℕ) →
    RunsUser n g words mmu x i → Calls words i 0 →
    Leads n g mmu x (exit_events (reg_of n x.cpu.regs service_register)) (exited n x i)

-- the trap t, and four words
abbrev pub served_events : ℕ → List Event
served_events t = Trapped t ∷ Ran ∷ Ran ∷ Ran ∷ Ran ∷ []

abbrev pub GetLaw : Type 0
GetLaw = (n : ℕ) (g : Pages) (words : List ℕ) (mmu : MmuRegs) (x : World n Device) (i : ℕ) →
    RunsUser n g words mmu x i → MayReturn n x → Calls words i 1 →
    Leads n g mmu x (served_events 0x81) (got n x i)

abbrev pub PutLaw : Type 0
PutLaw = (n : ℕ) (g : Pages) (words : List ℕ) (mmu : MmuRegs) (x : World n Device) (i : ℕ) →
    RunsUser n g words mmu x i → MayReturn n x → Calls words i 2 →
    Leads n g mmu x (served_events 0x82) (put n x i)
