-- The address map: what each virtual address is on a loaded board.
use Rattle.std.specs.Prelude.{ℕ, ◌+◌, ◌*◌, ◌-◌, ◌/◌, nat_lt, nat_le, ◌&&◌, ◌||◌, Bool, Option, Some, None, Result, Ok}
use Rattle.std.specs.Prelude.{Err, if◌then◌else◌}
use Rattle.v8_mmu.specs.Permissions.{rights_of, permits, access_type}
use Rattle.v8_mmu.specs.Walked.{Page}
use Rattle.v8_mmu.specs.declared.access.Access.{Access}
use Rattle.v8_mmu.specs.declared.translation.MmuFault.{MmuFault}
use Rattle.v8_map.specs.declared.TheConstants.{PAGE, CODE_START, CODE_PLACE, CODE_TABLE, DATA_START, DATA_PLACE}
use Rattle.v8_map.specs.declared.TheConstants.{DATA_TABLE, STACK_LOWEST, STACK_END, STACK_PLACE, STACK_TABLE}
use Rattle.v8_map.specs.declared.TheConstants.{TRAP_TABLE, TRAP_TABLE_PLACE, HANDLERS, HANDLERS_PLACE, DEVICE}
use Rattle.v8_map.specs.declared.TheConstants.{DEVICE_PLACE, SYSTEM_TABLE}
use Rattle.v8_layout.specs.Layout.{Pages, data_acc, data_count, is_writable, region, large_region, stack_region}
use Rattle.v8_layout.specs.Layout.{system_region, user_runs, user_writes, system_runs, system_writes}

-- An address of a mapped page: where it lies in physical memory, its page's ACC, and where the page's entry lies.
pub record Mapped : Type 0 where
  pub pa : ℕ
  pub acc : ℕ
  pub place : ℕ

abbrev pub mapped : ℕ → ℕ → ℕ → Mapped
mapped p c e = record { pa = p; acc = c; place = e }

-- from a first address up to a last one, which is left out
abbrev pub within : ℕ → ℕ → ℕ → Bool
within first end va = nat_le first va && nat_lt va end

-- how a virtual address lies in RAM, in a part that begins at `first` and lies lower there, from `place` on
abbrev pub lowered : ℕ → ℕ → ℕ → ℕ
lowered first place va = va - (first - place)

-- the page of an address has the entry of its number, counted from the first page of the table's region
abbrev pub entry_in : ℕ → ℕ → ℕ → ℕ
entry_in table region va = table + 4 * ((va - region) / PAGE)

-- what each part maps an address of its own to
abbrev pub code_page : ℕ → Mapped
code_page va = mapped (lowered CODE_START CODE_PLACE va) user_runs (entry_in CODE_TABLE CODE_START va)

-- the number of an address's page of data
abbrev pub data_number : ℕ → ℕ
data_number va = (va - DATA_START) / PAGE

abbrev pub data_page : Pages → ℕ → Mapped
data_page g va =
    mapped (lowered DATA_START DATA_PLACE va) (data_acc g (data_number va)) (entry_in DATA_TABLE DATA_START va)

abbrev pub stack_page : ℕ → Mapped
stack_page va = mapped (lowered STACK_LOWEST STACK_PLACE va) user_writes (entry_in STACK_TABLE stack_region va)

abbrev pub trap_table_page : ℕ → Mapped
trap_table_page va =
    mapped (lowered TRAP_TABLE TRAP_TABLE_PLACE va) system_runs (entry_in SYSTEM_TABLE system_region TRAP_TABLE)

abbrev pub handlers_page : ℕ → Mapped
handlers_page va =
    mapped (lowered HANDLERS HANDLERS_PLACE va) system_runs (entry_in SYSTEM_TABLE system_region HANDLERS)

abbrev pub device_page : ℕ → Mapped
device_page va = mapped (va - DEVICE + DEVICE_PLACE) system_writes (entry_in SYSTEM_TABLE system_region DEVICE)

-- an address of a page of data, and one of a page of the stack
abbrev pub in_data : Pages → ℕ → Bool
in_data g va = within DATA_START (DATA_START + PAGE * data_count g) va

abbrev pub in_stack : Pages → ℕ → Bool
in_stack g va = within (STACK_END - PAGE * g.stack_count) STACK_END va

-- code, data, stack, trap table, handlers, device; nothing else is mapped
unfoldable pub page_at : Pages → ℕ → Option Mapped
page_at g va =
    if within CODE_START (CODE_START + PAGE * g.code_count) va then Some (code_page va) else
    (if in_data g va then Some (data_page g va) else
    (if in_stack g va then Some (stack_page va) else
    (if within TRAP_TABLE (TRAP_TABLE + PAGE) va then Some (trap_table_page va) else
    (if within HANDLERS (HANDLERS + PAGE) va then Some (handlers_page va) else
    (if within DEVICE (DEVICE + PAGE) va then Some (device_page va) else None)))))

-- ---- what user code may do where

-- what is at an address may be read: it is data or stack
abbrev pub may_be_read : Pages → ℕ → Bool
may_be_read g va = in_data g va || in_stack g va

-- and it may be written: it is in a page of data that may be written, or stack
abbrev pub may_be_written : Pages → ℕ → Bool
may_be_written g va = (in_data g va && is_writable g (data_number va)) || in_stack g va

-- ---- accesses

-- The level of the entry 0 that an unmapped address ends at: in a table of pages, in one of 256 KB regions, or in that
-- of 16 MB regions.
abbrev pub missing_level : ℕ → ℕ
missing_level va =
    if within CODE_START (stack_region + region) va || within system_region (system_region + region) va then 3 else
    (if nat_lt va large_region || within system_region (system_region + large_region) va then 2 else 1)

-- an access to a mapped address that its page's ACC allows or forbids; 3 is told where no user may reach the page
abbrev pub through : Access → Mapped → Result Page MmuFault
through a p =
    if permits (rights_of p.acc a.user) a.kind then Ok (record { pa = p.pa; level = 3; place = p.place })
    else Err (record { ft = if a.user && nat_le 6 p.acc then 3 else 2; level = 3; at = access_type a })

abbrev pub reached : ℕ → Access → Option Mapped → Result Page MmuFault
reached va a (Some p) = through a p
reached va a None = Err (record { ft = 1; level = missing_level va; at = access_type a })

-- the page that an access reaches, or its fault
unfoldable pub translated : Pages → ℕ → Access → Result Page MmuFault
translated g va a = reached va a (page_at g va)
