-- What a board keeps, whatever words its code has: the invariant of containment.
use Rattle.std.specs.Prelude.{ℕ, ◌≡◌, ◌+◌, ◌*◌, ◌%◌, ◌/◌, ◌^◌, ◌<◌, ◌≤◌, ◌⊎◌, ◌==◌, if◌then◌else◌, Bool, true, false}
use Rattle.std.specs.Prelude.{List, [], ◌∷◌, ◌++◌, length, get_or, slice_index, Option, Some, None, IsSome}
use Rattle.v8_core.specs.Transfers.{bytes_in}
use Rattle.v8_core.specs.Windows.{Windows, reg_of}
use Rattle.v8_core.specs.Walked.{root_of}
use Rattle.v8_core.specs.MmuRegs.{MmuRegs}
use Rattle.v8_core.specs.Stop.TheVariants.{Exit, Trapped}
use Rattle.v8_core.specs.Cpu.{Cpu}
use Rattle.v8_core.specs.Accesses.{World}
use Rattle.v8_core.specs.declared.turn.DataAccess.{DataAccess}
use Rattle.v8_core.specs.declared.turn.Turn.{Turn}
use Rattle.v8_map.specs.declared.TheConstants.{PAGE, CODE_START, DATA_PLACE, TRAP_TABLE, HANDLERS, DEVICE}
use Rattle.v8_map.specs.declared.TheConstants.{CONTEXT_TABLE}
use Rattle.v8_loaded.specs.Layout.{Pages, AreFew, IsLoaded, data_count, is_writable}
use Rattle.v8_loaded.specs.AddressMap.{may_be_read, may_be_written}
use Rattle.v8_loaded.specs.Board.{Device, gets}

-- ---- registers

-- A register file's lengths: of its words nothing is said.
pub record IsShaped (n : ℕ) (v : Windows) : Type 0 where
  pub current : v.current < n
  pub count : length v.words ≡ n
  pub each : (w : ℕ) → w < n → length (get_or v.words w []) ≡ 16

-- ---- modes

-- user code, at any address
pub record IsUser (n : ℕ) (cpu : Cpu n) : Type 0 where
  pub shape : IsShaped n cpu.regs
  pub user : cpu.control.s ≡ false
  pub traps : cpu.control.et ≡ true
  pub table : cpu.control.base ≡ TRAP_TABLE
  pub sane : cpu.control.error ≡ None
  pub pc_word : cpu.control.pc < 2 ^ 32
  pub npc_word : cpu.control.npc < 2 ^ 32

-- Where the supervisor stands, by trap type t or by word k of the handlers.
pub data SupervisorPlace : Type 0 where
  -- at the first word of a vector
  Enters : ℕ → SupervisorPlace
  -- at the second word of a vector that reaches the device, whose address is in %l3
  Acts : ℕ → SupervisorPlace
  -- at the branch of a window trap's vector, and in its delay slot
  Branches : ℕ → SupervisorPlace
  Slips : ℕ → SupervisorPlace
  -- at the jump of the vectors of get and put, and at their RETT
  Leaves : ℕ → SupervisorPlace
  Returns : ℕ → SupervisorPlace
  -- at a word of a handler, and at its RETT
  Handles : ℕ → SupervisorPlace
  Retries : ℕ → SupervisorPlace

-- pc and nPC
pub record IsAt {n : ℕ} (cpu : Cpu n) (pc npc : ℕ) : Type 0 where
  pub here : cpu.control.pc ≡ pc
  pub next : cpu.control.npc ≡ npc

-- the handler of overflow begins at word 0, that of underflow at word 32
abbrev pub IsHandler : ℕ → Type 0
IsHandler k = (k ≡ 0) ⊎ (k ≡ 32)

-- where the four words of a trap's vector begin, and where word k of the handlers' page lies
abbrev pub vector_of : ℕ → ℕ
vector_of t = TRAP_TABLE + 16 * t

abbrev pub handler_at : ℕ → ℕ
handler_at k = HANDLERS + 4 * k

-- the trap whose vector branches to the handler at word k
abbrev pub trap_to : ℕ → ℕ
trap_to k = 5 + k / 32

-- at the second word of a vector that reaches the device: %l3 has its address, whatever the other registers hold
pub record IsActing {n : ℕ} (cpu : Cpu n) (t : ℕ) : Type 0 where
  pub small : t < 256
  pub not_over : t ≡ 5 → ⊥
  pub not_under : t ≡ 6 → ⊥
  pub at : IsAt cpu (vector_of t + 4) (vector_of t + 8)
  pub device : reg_of n cpu.regs 19 ≡ DEVICE

-- the services that come back
abbrev pub IsBack : ℕ → Type 0
IsBack t = (t ≡ 0x81) ⊎ (t ≡ 0x82)

-- The processor stands at a place: by PC and nPC. Before a RETT nPC is what user code left as its next place, any word.
abbrev pub Stands : {n : ℕ} → Cpu n → SupervisorPlace → Type 0
Stands cpu (Enters t) = (t < 256) × IsAt cpu (vector_of t) (vector_of t + 4)
Stands cpu (Acts t) = IsActing cpu t
Stands cpu (Branches k) = IsHandler k × IsAt cpu (vector_of (trap_to k) + 4) (vector_of (trap_to k) + 8)
Stands cpu (Slips k) = IsHandler k × IsAt cpu (vector_of (trap_to k) + 8) (handler_at k)
Stands cpu (Leaves t) = IsBack t × IsAt cpu (vector_of t + 8) (vector_of t + 12)
Stands cpu (Returns t) = IsBack t × (cpu.control.pc ≡ vector_of t + 12)
Stands cpu (Handles k) = ((k < 19) ⊎ ((32 ≤ k) × (k < 51))) × IsAt cpu (handler_at k) (handler_at k + 4)
Stands cpu (Retries k) = ((k ≡ 19) ⊎ (k ≡ 51)) × (cpu.control.pc ≡ handler_at k)

-- supervisor code, in a vector or in a handler that user code trapped into
pub record IsSupervisor (n : ℕ) (cpu : Cpu n) : Type 0 where
  pub shape : IsShaped n cpu.regs
  pub system : cpu.control.s ≡ true
  pub off : cpu.control.et ≡ false
  pub before : cpu.control.ps ≡ false
  pub straight : cpu.control.annul ≡ false
  pub table : cpu.control.base ≡ TRAP_TABLE
  pub sane : cpu.control.error ≡ None
  pub npc_word : cpu.control.npc < 2 ^ 32
  pub place : SupervisorPlace
  pub stands : Stands cpu place

-- the device runs, or has stopped the machine; error mode
pub record IsRunning (n : ℕ) (x : World n Device) : Type 0 where
  pub running : x.memory.device.stopped ≡ None
  pub mode : IsUser n x.cpu ⊎ IsSupervisor n x.cpu

abbrev pub HasEnded : (n : ℕ) → World n Device → Type 0
HasEnded n x = IsSome x.memory.device.stopped ⊎ IsSome x.cpu.control.error

-- ---- what was loaded

-- what an image brings: its code words, and what its pages of data begin with
pub record Contents : Type 0 where
  pub words : List ℕ
  pub bytes : List ℕ

-- The pages of data that may not be written hold these bytes, and 0 past their end.
abbrev pub HasFixed : Pages → List ℕ → List ℕ → Type 0
HasFixed g bytes ram = (i : ℕ) → i < PAGE * data_count g → is_writable g (i / PAGE) ≡ false →
    slice_index ram (DATA_PLACE + i) ≡ slice_index bytes i

-- what stays as it was loaded: tables, R and M aside, trap table, handlers, code, and the pages of data that may not be
-- written
pub record IsKept (n : ℕ) (g : Pages) (held : Contents) (ram : List ℕ) : Type 0 where
  pub loaded : IsLoaded n g held.words ram
  pub fixed : HasFixed g held.bytes ram

-- ---- the invariant

-- What was loaded is there, and user code runs, or a vector or a handler that it trapped into, or the machine has
-- ended.
pub record IsContained (n : ℕ) (g : Pages) (held : Contents) (mmu : MmuRegs) (x : World n Device) : Type 0 where
  pub few : 4 ≤ n
  pub many : n ≤ 32
  pub pages : AreFew g
  pub root : root_of mmu ≡ CONTEXT_TABLE
  pub kept : IsKept n g held x.memory.ram
  pub mode : HasEnded n x ⊎ IsRunning n x

-- ---- a turn

-- a load reaches what may be read, a store what may be written
abbrev pub may_be_reached : Pages → Bool → ℕ → Bool
may_be_reached g store va = if store then may_be_written g va else may_be_read g va

-- and so each byte of an access does
abbrev pub IsOwnAccess : Pages → Option DataAccess → Type 0
IsOwnAccess g None = Unit
IsOwnAccess g (Some a) = (j : ℕ) → j < bytes_in a.size → may_be_reached g a.store (a.va + j) ≡ true

abbrev pub IsOwnFetch : Pages → ℕ → Option ℕ → Type 0
IsOwnFetch g pc None = Unit
IsOwnFetch g pc (Some word) = (CODE_START ≤ pc) × (pc + 4 ≤ CODE_START + PAGE * g.code_count)

-- a user's turn: the fetch and the access that were completed
abbrev pub IsOwn : Pages → Bool → ℕ → Option ℕ → Option DataAccess → Type 0
IsOwn g true pc word access = IsOwnFetch g pc word × IsOwnAccess g access
IsOwn g false pc word access = Unit

-- what the vector of trap t makes of the device, where %i0 is x
abbrev pub acted : ℕ → ℕ → Device → Device
acted t x d =
    if t == 0x80 then record d { stopped = Some (Exit x) } else
    (if t == 0x81 then (gets d).1 else
    (if t == 0x82 then record d { output = d.output ++ (x % 2 ^ 8) ∷ [] } else record d { stopped = Some Trapped }))

-- the device after the second word of the vector of a trap but 05 and 06
pub record ByVector (n : ℕ) (old new : World n Device) : Type 0 where
  pub trap : ℕ
  pub system : old.cpu.control.s ≡ true
  pub at : IsActing old.cpu trap
  pub is : new.memory.device ≡ acted trap (reg_of n old.cpu.regs 24) old.memory.device

-- What a turn of a contained board is: it stays contained; what user code fetched and reached is its own; and the
-- device is as it was, or as a vector makes it.
pub record TurnIs (n : ℕ) (g : Pages) (held : Contents) (mmu : MmuRegs) (old : World n Device) (made : Turn
    × World n Device) : Type 0 where
  pub keeps : IsContained n g held mmu made.1
  pub own : IsOwn g made.0.user made.0.pc made.0.word made.0.access
  pub device : (made.1.memory.device ≡ old.memory.device) ⊎ ByVector n old made.1
