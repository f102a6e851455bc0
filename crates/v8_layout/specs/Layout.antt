-- What lies in RAM once an image is loaded: the page tables (appendix H), the trap table, the handlers and the code.
use Rattle.std.specs.Prelude.{ℕ, ◌≡◌, ◌+◌, ◌*◌, ◌-◌, ◌/◌, ◌%◌, ◌<◌, ◌≤◌, ◌==◌, nat_lt, nat_le, ◌&&◌, Bool, false, List}
use Rattle.std.specs.Prelude.{length, slice_index, get_or, Some, IsSomeAnd, if◌then◌else◌}
use Rattle.v8_mmu.specs.Ram.{entry_of}
use Rattle.v8_handlers.specs.Handlers.{trap_word, handler_word}
use Rattle.v8_map.specs.declared.TheConstants.{PAGE, CODE_START, CODE_PLACE, CODE_TABLE, DATA_START, DATA_PLACE}
use Rattle.v8_map.specs.declared.TheConstants.{DATA_TABLE, STACK_LOWEST, STACK_PLACE, STACK_TABLE, TRAP_TABLE}
use Rattle.v8_map.specs.declared.TheConstants.{TRAP_TABLE_PLACE, HANDLERS, HANDLERS_PLACE, DEVICE, DEVICE_PLACE, RAM}
use Rattle.v8_map.specs.declared.TheConstants.{CONTEXT_TABLE, REGION_TABLE, PROGRAM_TABLE, SYSTEM_REGION_TABLE}
use Rattle.v8_map.specs.declared.TheConstants.{SYSTEM_TABLE}

-- The pages of 4 KB that are mapped: how many of code and of the stack, and of each page of data whether it may be
-- written. Each may be read.
pub record Pages : Type 0 where
  pub code_count : ℕ
  pub writable : List Bool
  pub stack_count : ℕ

-- how many pages of data there are
abbrev pub data_count : Pages → ℕ
data_count g = length g.writable

-- the page i of data is one that may be written
abbrev pub is_writable : Pages → ℕ → Bool
is_writable g i = get_or g.writable i false

-- code and data have 256 KB of addresses each, the stack has 64 KB
pub record AreFew (g : Pages) : Type 0 where
  pub code : g.code_count ≤ 64
  pub data_pages : data_count g ≤ 64
  pub stack : g.stack_count ≤ 16

-- An entry without R (bit 5) and M (bit 6), which the machine sets. Those of a table descriptor are bits of an address.
abbrev pub unmarked : ℕ → ℕ
unmarked w = if w % 4 == 2 then w / 128 * 128 + w % 32 else w

-- ---- regions of the virtual addresses, and entries

-- what a table of pages covers, and what a table of such tables does
abbrev pub region : ℕ
region = 64 * PAGE

abbrev pub large_region : ℕ
large_region = 64 * region

-- the regions of the stack and of the system
abbrev pub stack_region : ℕ
stack_region = 0x000C0000

abbrev pub system_region : ℕ
system_region = TRAP_TABLE

-- a table's entry for the table at a place
abbrev pub leads_to : ℕ → ℕ
leads_to place = place / 64 * 4 + 1

-- a table's entry for the page at a place, with its ACC
abbrev pub maps : ℕ → ℕ → ℕ
maps place acc = place / PAGE * 256 + acc * 4 + 2

-- and that of the page so many pages after
abbrev pub maps_after : ℕ → ℕ → ℕ → ℕ
maps_after place acc i = maps place acc + 256 * i

-- ACC: what user and supervisor may execute, read, or read and write, and what the supervisor alone may read and
-- execute, or read, write and execute
abbrev pub user_runs : ℕ
user_runs = 4

abbrev pub user_reads : ℕ
user_reads = 0

abbrev pub user_writes : ℕ
user_writes = 1

abbrev pub system_runs : ℕ
system_runs = 6

abbrev pub system_writes : ℕ
system_writes = 7

-- ---- the tables, by number of entry; an entry 0 maps nothing

-- 16 MB each: the lowest for programs, and the system's
abbrev pub region_entry : ℕ → ℕ
region_entry i =
    if i == 0 then leads_to PROGRAM_TABLE
    else (if i == system_region / large_region then leads_to SYSTEM_REGION_TABLE else 0)

-- 256 KB each: code, data and the stack
abbrev pub program_entry : ℕ → ℕ
program_entry i =
    if i == CODE_START / region then leads_to CODE_TABLE else
    (if i == DATA_START / region then leads_to DATA_TABLE else
    (if i == stack_region / region then leads_to STACK_TABLE else 0))

abbrev pub system_region_entry : ℕ → ℕ
system_region_entry i = if i == 0 then leads_to SYSTEM_TABLE else 0

abbrev pub code_entry : Pages → ℕ → ℕ
code_entry g i = if nat_lt i g.code_count then maps_after CODE_PLACE user_runs i else 0

-- the ACC of the page i of data
abbrev pub data_acc : Pages → ℕ → ℕ
data_acc g i = if is_writable g i then user_writes else user_reads

abbrev pub data_entry : Pages → ℕ → ℕ
data_entry g i = if nat_lt i (data_count g) then maps_after DATA_PLACE (data_acc g i) i else 0

-- the last pages of the 64 are the stack's, of which the lowest that it can have is number 48
abbrev pub stack_entry : Pages → ℕ → ℕ
stack_entry g i =
    if nat_le (64 - g.stack_count) i
    && nat_lt i 64 then maps_after STACK_PLACE user_writes (i - (STACK_LOWEST - stack_region) / PAGE) else 0

-- the trap table, the handlers and the device, for the supervisor alone
abbrev pub system_entry : ℕ → ℕ
system_entry i =
    if i == 0 then maps TRAP_TABLE_PLACE system_runs else
    (if i == (HANDLERS - system_region) / PAGE then maps HANDLERS_PLACE system_runs else
    (if i == (DEVICE - system_region) / PAGE then maps DEVICE_PLACE system_writes else 0))

-- ---- in RAM

-- the entry at a place, but for marks
abbrev pub HasEntry : List ℕ → ℕ → ℕ → Type 0
HasEntry ram place t = IsSomeAnd (entry_of ram place) (λ w. unmarked w ≡ t)

-- RAM of 1 MiB with the tables, R and M aside. Of the 256 contexts only the first maps anything.
pub record HasTables (g : Pages) (ram : List ℕ) : Type 0 where
  pub size : length ram ≡ RAM
  pub context : entry_of ram CONTEXT_TABLE ≡ Some (leads_to REGION_TABLE)
  pub contexts : (i : ℕ) → 0 < i → i < 256 → entry_of ram (CONTEXT_TABLE + 4 * i) ≡ Some 0
  pub regions : (i : ℕ) → i < 256 → entry_of ram (REGION_TABLE + 4 * i) ≡ Some (region_entry i)
  pub programs : (i : ℕ) → i < 64 → entry_of ram (PROGRAM_TABLE + 4 * i) ≡ Some (program_entry i)
  pub systems : (i : ℕ) → i < 64 → entry_of ram (SYSTEM_REGION_TABLE + 4 * i) ≡ Some (system_region_entry i)
  pub code_pages : (i : ℕ) → i < 64 → HasEntry ram (CODE_TABLE + 4 * i) (code_entry g i)
  pub data_pages : (i : ℕ) → i < 64 → HasEntry ram (DATA_TABLE + 4 * i) (data_entry g i)
  pub stack_pages : (i : ℕ) → i < 64 → HasEntry ram (STACK_TABLE + 4 * i) (stack_entry g i)
  pub system_pages : (i : ℕ) → i < 64 → HasEntry ram (SYSTEM_TABLE + 4 * i) (system_entry i)

-- and with the trap table, the handlers of n windows and these code words; the rest of the last code page is 0
pub record IsLoaded (n : ℕ) (g : Pages) (words : List ℕ) (ram : List ℕ) : Type 0 where
  pub tables : HasTables g ram
  pub trap : (k : ℕ) → k < 1024 → entry_of ram (4 * k) ≡ Some (trap_word k)
  pub handler : (k : ℕ) → k < 1024 → entry_of ram (HANDLERS_PLACE + 4 * k) ≡ Some (handler_word n k)
  pub code : (i : ℕ) → i < 1024 * g.code_count → entry_of ram (CODE_PLACE + 4 * i) ≡ Some (slice_index words i)
