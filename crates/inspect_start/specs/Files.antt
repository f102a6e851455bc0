-- What a file says of a start: the items of its lines, one after the other, each in the place of what was said before.
use Rattle.std.specs.Prelude.{◌≡◌, ◌≢◌, ℕ, ◌+◌, ◌<◌, ◌≤◌, ◌⊎◌, List, [], ◌∷◌, ◌++◌, length, map, fold, All, Ok, Err}
use Rattle.std.specs.Prelude.{IsOk}
use Rattle.std.specs.List.{splice}
use Rattle.v8_map.specs.declared.TheConstants.{RAM}
use Rattle.want.specs.Wants.{refused}
use Rattle.inspect_start.specs.declared.fault.StartCause.TheVariants as causes
use Rattle.inspect_start.specs.declared.fault.StartFault.{StartFault}
use Rattle.inspect_start.specs.declared.names.StartField.{StartField}
use Rattle.inspect_start.specs.declared.names.StartField.TheVariants.{Pc, Npc, Psr, Wim, Tbr, Y, Table, Context}
use Rattle.inspect_start.specs.declared.names.StartName.{StartName}
use Rattle.inspect_start.specs.declared.names.StartName.TheVariants as names
use Rattle.inspect_start.specs.declared.start.ControlValue.{ControlValue}
use Rattle.inspect_start.specs.declared.start.Register.{Register}
use Rattle.inspect_start.specs.declared.start.Start.{Start}
use Rattle.inspect_start.specs.Starts.{plain}
use Rattle.inspect_start.specs.Lines.{lines_of}
use Rattle.inspect_start.specs.Items.{Item, Nothing, Bytes, Sets, item_of}

-- What is said of a start, and the window of the registers in the lines below.
pub record Said : Type 0 where
  pub window : ℕ
  pub control : ControlValue
  pub registers : List Register
  pub ram : List ℕ

-- RAM that is 0 throughout
pub record IsBlank (ram : List ℕ) : Type 0 where
  pub size : length ram ≡ RAM
  pub zeros : All (λ b. b ≡ 0) ram

-- RAM with some bytes from an address on
abbrev pub with_bytes : List ℕ → ℕ → List ℕ → List ℕ
with_bytes ram at bytes = splice ram at (at + length bytes) bytes

abbrev pub with_number : ControlValue → StartField → ℕ → ControlValue
with_number c Pc n = record c { pc = n }
with_number c Npc n = record c { npc = n }
with_number c Psr n = record c { psr = n }
with_number c Wim n = record c { wim = n }
with_number c Tbr n = record c { tbr = n }
with_number c Y n = record c { y = n }
with_number c Table n = record c { table = n }
with_number c Context n = record c { context = n }

-- a register is that of the window that was named last
abbrev pub set_named : Said → StartName → ℕ → Said
set_named s names.Window n = record s { window = n }
set_named s (names.Control field) n = record s { control = with_number s.control field n }
set_named s (names.Register r) n =
    record s { registers = s.registers ++ record { window = s.window; register = r; word = n } ∷ [] }

abbrev pub set : Said → Item → Said
set s Nothing = s
set s (Bytes at bytes) = record s { ram = with_bytes s.ram at bytes }
set s (Sets name n) = set_named s name n

-- before the lines: window 0, what holds where nothing is said, and a binary in RAM
abbrev pub begun : List ℕ → ℕ → List ℕ → Said
begun blank at binary = record { window = 0; control = plain; registers = []; ram = with_bytes blank at binary }

-- what was said of a start as the reader has it, where this is the window
abbrev pub said : ℕ → Start → Said
said window s = record { window = window; control = s.control; registers = s.registers.items; ram = s.ram.items }

-- A binary, from an address on, and a file spell this start of a machine of so many windows: the binary fits into RAM,
-- each line is right, and what the lines say, in their order, makes the start.
pub record Spells (windows at : ℕ) (binary file : List ℕ) (s : Start) : Type 0 where
  pub room : at + length binary ≤ RAM
  pub blank : List ℕ
  pub zeros : IsBlank blank
  pub items : List Item
  pub lines : map (item_of windows) (lines_of file) ≡ map Ok items
  pub last : ℕ
  pub start : said last s ≡ fold set (begun blank at binary) items

-- The fault is that of the first line that isn't right, by its number from 1.
pub record IsFirst (windows : ℕ) (file : List ℕ) (fault : StartFault) : Type 0 where
  pub before : List (List ℕ)
  pub line : List ℕ
  pub after : List (List ℕ)
  pub lines : lines_of file ≡ before ++ line ∷ after
  pub right : All (λ l. IsOk (item_of windows l)) before
  pub number : fault.line ≡ length before + 1
  pub wrong : item_of windows line ≡ Err fault.cause

-- the binary doesn't fit into RAM, which is told of line 0; or a line isn't right
abbrev pub IsWrong : ℕ → ℕ → List ℕ → List ℕ → StartFault → Type 0
IsWrong windows at binary file fault =
    ((RAM < at + length binary) × (fault.line ≡ 0) × (fault.cause ≡ causes.Room))
    ⊎ ((at + length binary ≤ RAM) × IsFirst windows file fault)

-- a fault is that, unless memory was refused
abbrev pub IsFault : ℕ → ℕ → List ℕ → List ℕ → StartFault → Type 0
IsFault windows at binary file fault = fault.cause ≢ causes.Memory refused → IsWrong windows at binary file fault
