-- The lines: of a turn, and those before the first turn and behind the last.
use Rattle.std.specs.Prelude.{ℕ, ◌≡◌, ◌%◌, List, ◌++◌, codes}
use Rattle.v8_core.specs.Cpu.{Cpu}
use Rattle.v8_core.specs.Registers.{psr_of}
use Rattle.v8_core.specs.Windows.{Windows}
use Rattle.v8_core.specs.declared.turn.Turn.{Turn}
use Rattle.inspect_states.specs.declared.shown.ShownState.{ShownState}
use Rattle.inspect_states.specs.declared.words.Places.{Places}
use Rattle.inspect_states.specs.Accesses.{EntryIs, EntryOfIs, access_text, second_place, stored_place}
use Rattle.inspect_states.specs.Columns.{annul_text, columns_text, outcome_text, shown_of}
use Rattle.inspect_states.specs.Registers.{changes_text, copied, entered}
use Rattle.inspect_states.specs.Words.{told_words}

-- What the lines so far tell of the registers and of RAM.
pub record Known : Type 0 where
  pub registers : Windows
  pub ram : List ℕ

abbrev pub known_of : Windows → List ℕ → Known
known_of registers ram = record { registers = registers; ram = ram }

-- what is known of the registers, seen from the window of this processor: CWP is the low five bits of PSR
abbrev pub seen_from : (n : ℕ) → Windows → Cpu n → Windows
seen_from n known cpu = entered n known (psr_of n cpu % 32)

-- what is known of the registers once those of this processor's window were told
abbrev pub told_registers : (n : ℕ) → Windows → Cpu n → Windows
told_registers n known cpu = copied n (seen_from n known cpu) cpu.regs 32

-- the registers of this processor's window that hold other words than is known
abbrev pub registers_text : (n : ℕ) → Windows → Cpu n → List ℕ
registers_text n known cpu = changes_text n (seen_from n known cpu) cpu.regs 32

-- the columns, the access, the registers and the words of RAM that are others than is known
abbrev pub line_text : (n : ℕ) → ℕ → ShownState → Turn → Cpu n → List ℕ → Known → Places → List ℕ
line_text n number before turn cpu ram known places =
    columns_text number (annul_text turn.event) before ++ outcome_text turn ++ access_text turn.access
    ++ registers_text n known.registers cpu ++ (told_words known.ram ram places).0 ++ codes "\n"

-- The text is the line of a turn: `before` is what the machine showed before it, `cpu` and `ram` are what it left. Of
-- the walks it is known where they ended in RAM as it was told so far.
pub record IsLine (n root number : ℕ) (before : ShownState) (turn : Turn) (cpu : Cpu n) (ram : List ℕ) (known told : Known)
    (text : List ℕ) : Type 0 where
  pub places : Places
  pub fetched : EntryIs known.ram root before.pc places.fetched
  pub accessed : EntryOfIs known.ram root turn.access places.accessed
  pub stored : places.stored ≡ stored_place turn.access
  pub second : places.second ≡ second_place turn.access
  pub line : text ≡ line_text n number before turn cpu ram known places
  pub registers : told.registers ≡ told_registers n known.registers cpu
  pub words : told.ram ≡ (told_words known.ram ram places).1

-- the line before the first turn, and what is known then
abbrev pub start_line : (n : ℕ) → Windows → Cpu n → List ℕ
start_line n known cpu =
    columns_text 0 (codes "-") (shown_of n cpu) ++ codes "-------- start" ++ registers_text n known cpu ++ codes "\n"

-- the line behind the last turn
abbrev pub end_line : (n : ℕ) → ℕ → Cpu n → List ℕ
end_line n number cpu = columns_text number (codes "-") (shown_of n cpu) ++ codes "-------- end\n"
