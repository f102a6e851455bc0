-- The turns of a machine, and the text that tells them.
use Rattle.std.specs.Prelude.{ℕ, zero, suc, ◌≡◌, ◌+◌, ◌<◌, ◌≤◌, ◌⊎◌, ◌||◌, Bool, false, List, [], ◌++◌, Option, is_some}
use Rattle.std.specs.Io.KnownBytes.{Appends}
use Rattle.sbx_put.specs.Fronts.{Begins}
use Rattle.v8_core.specs.Accesses.{World}
use Rattle.want.specs.Wants.{refused}
use Rattle.v8_core.specs.PortFault.{PortFault}
use Rattle.v8_core.specs.PortFault.TheVariants as faults
use Rattle.v8_core.specs.Meaning.{Meaning}
use Rattle.v8_core.specs.MmuRegs.{MmuRegs}
use Rattle.v8_core.specs.Steps.{next, world_after}
use Rattle.v8_core.specs.Walked.{root_of}
use Rattle.v8_core.specs.declared.turn.Turn.{Turn}
use Rattle.inspect_states.specs.Columns.{shown_of}
use Rattle.inspect_states.specs.Lines.{IsLine, Known, end_line, start_line, told_registers}

-- the device has stopped the machine, or it is in error mode
abbrev pub is_over : {D : Type 0} → Meaning D → (n : ℕ) → World n D → Bool
is_over m n w = is_some (m.stopped w.memory.device) || is_some w.cpu.control.error

-- the text is the line of the turn that comes next
abbrev pub TellsNext : {D : Type 0} → Meaning D → (n : ℕ) → MmuRegs → ℕ → World n D → Known → Known → List ℕ → Type 0
TellsNext m n mmu number old known told text =
    IsLine n (root_of mmu) number (shown_of n old.cpu) (next m n mmu old).0 (next m n mmu old).1.cpu
    (next m n mmu old).1.memory.ram known told text

-- the text has a line for each of the first turns, so many, which are numbered from 1
unfoldable pub TellsTurns : {D : Type 0} → Meaning D → (n : ℕ) → MmuRegs → World n D → Known → ℕ → Known → List ℕ →
    Type 0
TellsTurns m n mmu w known zero told text = (told ≡ known) × (text ≡ [])
TellsTurns m n mmu w known (suc k) told text = (mid : Known) × (before : List ℕ) × (last : List ℕ)
    × TellsTurns m n mmu w known k mid before × TellsNext m n mmu (suc k) (world_after m n mmu k w) mid told last
    × (text ≡ before ++ last)

-- A turn was made, and its line was written.
pub record ToldTurn {D : Type 0} (m : Meaning D) (n : ℕ) (mmu : MmuRegs) (number : ℕ) (old new : World n D)
    (known told : Known) (before now : Option (List ℕ)) : Type 0 where
  pub turn : Turn
  pub text : List ℕ
  pub made : next m n mmu old ≡ (turn, new)
  pub line : IsLine n (root_of mmu) number (shown_of n old.cpu) turn new.cpu new.memory.ram known told text
  pub written : Appends before now text

-- no byte of the next turn's line, or its first ones
abbrev pub BeginsNext : {D : Type 0} → Meaning D → (n : ℕ) → MmuRegs → ℕ → World n D → Known → List ℕ → Type 0
BeginsNext m n mmu number old known front =
    (front ≡ []) ⊎ ((told : Known) × (text : List ℕ) × TellsNext m n mmu number old known told text × Begins front text)

-- such bytes were written
abbrev pub ToldSome : {D : Type 0} → Meaning D → (n : ℕ) → MmuRegs → ℕ → World n D → Known → Option (List ℕ) →
    Option (List ℕ) → Type 0
ToldSome m n mmu number old known before now = (front : List ℕ) × BeginsNext m n mmu number old known front
    × Appends before now front

-- so many turns, before none of which the machine was over
pub record Made {D : Type 0} (m : Meaning D) (n : ℕ) (mmu : MmuRegs) (old new : World n D) (count : ℕ) : Type 0 where
  pub running : (j : ℕ) → j < count → is_over m n (world_after m n mmu j old) ≡ false
  pub is : new ≡ world_after m n mmu count old

-- A run of at most so many turns was made, which stops before the limit only where the machine is over, and the lines
-- of its turns were written.
pub record ToldRun {D : Type 0} (m : Meaning D) (n : ℕ) (mmu : MmuRegs) (limit : ℕ) (old new : World n D) (count : ℕ)
    (known told : Known) (before now : Option (List ℕ)) : Type 0 where
  pub made : Made m n mmu old new count
  pub within : count ≤ limit
  pub whole : is_over m n new ≡ false → count ≡ limit
  pub text : List ℕ
  pub tells : TellsTurns m n mmu old known count told text
  pub written : Appends before now text

-- The bytes are the lines of some turns of a run, and the first bytes of the next one's, or of the line behind the
-- last.
pub record IsPart {D : Type 0} (m : Meaning D) (n : ℕ) (mmu : MmuRegs) (limit : ℕ) (old : World n D) (known : Known)
    (bytes : List ℕ) : Type 0 where
  pub reached : World n D
  pub count : ℕ
  pub made : Made m n mmu old reached count
  pub within : count ≤ limit
  pub told : Known
  pub text : List ℕ
  pub tells : TellsTurns m n mmu old known count told text
  pub front : List ℕ
  pub begins : BeginsNext m n mmu (suc count) reached told front ⊎ Begins front (end_line n count reached.cpu)
  pub is : bytes ≡ text ++ front

-- what is known behind the line before the first turn
abbrev pub begun : {D : Type 0} → (n : ℕ) → World n D → Known → Known
begun n old known = record known { registers = told_registers n known.registers old.cpu }

-- the bytes are the first ones of the line before the first turn, or that line and such lines
abbrev pub BeginsStates : {D : Type 0} → Meaning D → (n : ℕ) → MmuRegs → ℕ → World n D → Known → List ℕ → Type 0
BeginsStates m n mmu limit old known bytes =
    Begins bytes (start_line n known.registers old.cpu)
    ⊎ ((lines : List ℕ) × IsPart m n mmu limit old (begun n old known) lines
    × (bytes ≡ start_line n known.registers old.cpu ++ lines))

-- The text tells a run of at most so many turns from a world: a line before the first turn, one for each, and one
-- behind the last.
pub record IsStates {D : Type 0} (m : Meaning D) (n : ℕ) (mmu : MmuRegs) (limit : ℕ) (old new : World n D)
    (known : Known) (text : List ℕ) : Type 0 where
  pub count : ℕ
  pub made : Made m n mmu old new count
  pub within : count ≤ limit
  pub whole : is_over m n new ≡ false → count ≡ limit
  pub told : Known
  pub lines : List ℕ
  pub tells : TellsTurns m n mmu old (begun n old known) count told lines
  pub text_is : text ≡ start_line n known.registers old.cpu ++ lines ++ end_line n count new.cpu

-- memory was refused, or the writer failed
abbrev pub IsOwnFault : PortFault → Type 0
IsOwnFault fault = (fault ≡ faults.Memory refused) ⊎ (fault ≡ faults.Writer)

-- or the port did, with its own fault
abbrev pub IsFaultOf : PortFault → PortFault → Type 0
IsFaultOf own fault = IsOwnFault fault ⊎ (fault ≡ own)
