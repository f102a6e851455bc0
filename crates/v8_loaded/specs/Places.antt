-- Places of a loaded board: the window that a trap enters (chapter 7), the entries of pages (appendix H), and what an
-- access marks.
use Rattle.std.specs.Prelude.{ℕ, ◌+◌, ◌*◌, ◌/◌, Bool, false, List}
use Rattle.v8_core.specs.Paths.{marked_ram}
use Rattle.v8_core.specs.Windows.{below}
use Rattle.v8_map.specs.declared.TheConstants.{CODE_TABLE, STACK_TABLE, TRAP_TABLE, HANDLERS, DEVICE, SYSTEM_TABLE}
use Rattle.v8_layout.specs.Layout.{stack_region, system_region}
use Rattle.v8_layout.specs.AddressMap.{entry_in}
use Rattle.v8_core.specs.Cpu.{Cpu}

-- the window that a SAVE, and a trap, enters
abbrev pub entered_window : (n : ℕ) → Cpu n → ℕ
entered_window n cpu = below n cpu.regs.current

-- the entry of the page of the code word i
abbrev pub code_entry_place : ℕ → ℕ
code_entry_place i = CODE_TABLE + 4 * (i / 1024)

-- the entry of the stack page of an address
abbrev pub stack_entry_place : ℕ → ℕ
stack_entry_place va = entry_in STACK_TABLE stack_region va

-- A fetch marks its page: the code page of the word i, that of the trap table, that of the window handlers.
abbrev pub code_marked : ℕ → List ℕ → List ℕ
code_marked i ram = marked_ram ram (code_entry_place i) false

abbrev pub table_marked : List ℕ → List ℕ
table_marked ram = marked_ram ram (entry_in SYSTEM_TABLE system_region TRAP_TABLE) false

abbrev pub handlers_marked : List ℕ → List ℕ
handlers_marked ram = marked_ram ram (entry_in SYSTEM_TABLE system_region HANDLERS) false

-- and an access of the device marks the device's page
abbrev pub device_marked : Bool → List ℕ → List ℕ
device_marked store ram = marked_ram ram (entry_in SYSTEM_TABLE system_region DEVICE) store
