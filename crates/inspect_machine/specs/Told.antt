-- What is told of a machine of one's own.
use Rattle.std.specs.Prelude.{ℕ, ◌≡◌, ◌⊎◌, false, List, [], ◌++◌, None, Option, Result, Ok, Err}
use Rattle.want.specs.Wants.{refused}
use Rattle.sbx_put.specs.Fronts.{Begins, Wrote}
use Rattle.v8_core.specs.Accesses.{World, world}
use Rattle.v8_core.specs.MmuRegs.{MmuRegs}
use Rattle.v8_memory.specs.Board.{Device, board, seen}
use Rattle.sbx_raw.specs.declared.fault.RunFault.{RunFault}
use Rattle.sbx_raw.specs.declared.fault.RunFault.TheVariants as runs
use Rattle.inspect_start.specs.declared.start.Start.{Start}
use Rattle.inspect_states.specs.Runs.{BeginsStates, IsStates}
use Rattle.inspect_states.specs.Told.{nothing_told}
use Rattle.inspect_machine.specs.Bare.{IsMmuOf, started}
use Rattle.inspect_machine.specs.Changed.{WORDS, changes_text}

-- where a machine of n windows starts: with the processor and the RAM of the start, and a device that has no input to
-- give
abbrev pub start_of : (n : ℕ) → Start → World n Device
start_of n s = world n (started n s) s.ram.items (seen [] false [] None)

-- The text tells the states of a run from the start, of at most so many turns, and then the words of RAM that it
-- changed.
pub record IsTold (n : ℕ) (s : Start) (limit : ℕ) (text : List ℕ) : Type 0 where
  pub mmu : MmuRegs
  pub regs : IsMmuOf s mmu
  pub end : World n Device
  pub lines : List ℕ
  pub told : IsStates board n mmu limit (start_of n s) end (nothing_told n s.ram.items) lines
  pub is : text ≡ lines ++ changes_text s.ram.items end.memory.ram WORDS

-- the bytes are the first ones of the lines of such states
abbrev pub BeginsLines : (n : ℕ) → Start → ℕ → List ℕ → Type 0
BeginsLines n s limit bytes =
    (mmu : MmuRegs) × IsMmuOf s mmu × BeginsStates board n mmu limit (start_of n s) (nothing_told n s.ram.items) bytes

-- the bytes are none, or the first ones of the states' lines, or of such a text
abbrev pub BeginsTold : (n : ℕ) → Start → ℕ → List ℕ → Type 0
BeginsTold n s limit bytes = (bytes ≡ []) ⊎ BeginsLines n s limit bytes
    ⊎ ((text : List ℕ) × IsTold n s limit text × Begins bytes text)

-- memory was refused, or the writer failed
abbrev pub IsOwnFault : RunFault → Type 0
IsOwnFault fault = (fault ≡ runs.Memory refused) ⊎ (fault ≡ runs.Writer)

-- what was written of a machine: such a text, or at a fault its first bytes
abbrev pub Told : (n : ℕ) → Start → ℕ → Option (List ℕ) → Option (List ℕ) → Result (Unit {0}) RunFault → Type 0
Told n s limit old new (Ok done) = Wrote old new (IsTold n s limit)
Told n s limit old new (Err fault) = IsOwnFault fault × Wrote old new (BeginsTold n s limit)
