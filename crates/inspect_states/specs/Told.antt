-- What is told of the states of an image's run.
use Rattle.std.specs.Prelude.{ℕ, ◌≡◌, ◌⊎◌, List, [], Option, Result, Ok, Err}
use Rattle.sbx_put.specs.Fronts.{Wrote}
use Rattle.sbx_image.specs.Parts.{Parts}
use Rattle.v8_core.specs.Accesses.{World}
use Rattle.v8_core.specs.Cpu.{Cpu}
use Rattle.v8_core.specs.MmuRegs.{MmuRegs}
use Rattle.v8_core.specs.PortFault.{PortFault}
use Rattle.v8_core.specs.PortFault.TheVariants as ports
use Rattle.v8_core.specs.Registers.{cleared, started_with}
use Rattle.v8_memory.specs.Board.{Device, board, seen}
use Rattle.v8_memory.specs.declared.memory.Memory.{Memory}
use Rattle.v8_board.specs.Seen.{State}
use Rattle.v8_board.specs.Start.{IsNew, IsStart, no_counts}
use Rattle.sbx_raw.specs.Ports.{Held}
use Rattle.sbx_raw.specs.declared.fault.RunFault.{RunFault}
use Rattle.sbx_raw.specs.declared.fault.RunFault.TheVariants as runs
use Rattle.inspect_states.specs.Lines.{Known, known_of}
use Rattle.inspect_states.specs.Runs.{BeginsStates, IsStates}

-- what the device of a board's memory is seen as
abbrev pub device_of : Memory Held → Device
device_of m = seen m.port.input m.ended m.port.output m.stopped

-- a processor whose registers are all 0, as a board boots it when it is made
abbrev pub unbooted : (n : ℕ) → Cpu n
unbooted n = record { regs = cleared n; control = started_with 0 }

-- the start that loading an image makes of a new board of n windows with this input
pub record IsLoaded (n : ℕ) (p : Parts) (input : List ℕ) (start : State n) : Type 0 where
  pub made : State n
  pub new : IsNew n input [] made
  pub loaded : IsStart n p made start

-- a state in which no turn was counted yet
abbrev pub start_of : (n : ℕ) → MmuRegs → World n Device → State n
start_of n mmu w = record { world = w; mmu = mmu; counts = no_counts }

-- before the first line every register is told as 0, and RAM as it is
abbrev pub nothing_told : (n : ℕ) → List ℕ → Known
nothing_told n ram = known_of (cleared n) ram

-- The text tells the states of the image's run on the input, of at most so many turns.
pub record IsStated (n : ℕ) (p : Parts) (input : List ℕ) (limit : ℕ) (text : List ℕ) : Type 0 where
  pub start : State n
  pub begun : IsLoaded n p input start
  pub end : World n Device
  pub told : IsStates board n start.mmu limit start.world end (nothing_told n start.world.memory.ram) text

-- The bytes are the first ones of such a text.
pub record BeginsStated (n : ℕ) (p : Parts) (input : List ℕ) (limit : ℕ) (bytes : List ℕ) : Type 0 where
  pub start : State n
  pub begun : IsLoaded n p input start
  pub told : BeginsStates board n start.mmu limit start.world (nothing_told n start.world.memory.ram) bytes

-- what was written where there is a fault: such bytes, or none where there was no memory to begin
abbrev pub Leaves : (n : ℕ) → Parts → List ℕ → ℕ → RunFault → List ℕ → Type 0
Leaves n p input limit (runs.Memory want) bytes = (bytes ≡ []) ⊎ BeginsStated n p input limit bytes
Leaves n p input limit runs.Reader bytes = ⊥
Leaves n p input limit runs.Writer bytes = BeginsStated n p input limit bytes

-- what was written of the states of an image's run: a text that tells them, or at a fault its first bytes
abbrev pub Stated : (n : ℕ) → Parts → List ℕ → ℕ → Option (List ℕ) → Option (List ℕ) → Result (Unit {0}) RunFault →
    Type 0
Stated n p input limit old new (Ok done) = Wrote old new (IsStated n p input limit)
Stated n p input limit old new (Err fault) = Wrote old new (Leaves n p input limit fault)

-- the fault of a run whose port or writer has this one
abbrev pub run_fault : PortFault → RunFault
run_fault (ports.Memory want) = runs.Memory want
run_fault ports.Reader = runs.Reader
run_fault ports.Writer = runs.Writer
