-- The words that the supervisor fetches, and the stores that are forbidden to user code.
use Rattle.std.specs.Prelude.{ℕ, ◌≡◌, ◌+◌, ◌*◌, ◌<◌, true, false, List, slice_index, Some, None, Ok}
use Rattle.v8_core.specs.Walked.{root_of}
use Rattle.v8_core.specs.Access.{Access}
use Rattle.v8_core.specs.AccessKind.TheVariants.{Fetch}
use Rattle.v8_core.specs.MmuRegs.{MmuRegs}
use Rattle.v8_core.specs.Operation.TheVariants.{Transfer}
use Rattle.v8_core.specs.Transfer.{Transfer as Moving}
use Rattle.v8_core.specs.Transfers.{writes_memory}
use Rattle.v8_core.specs.MemoryOperand.{MemoryOperand}
use Rattle.v8_core.specs.Space.TheVariants.{Normal}
use Rattle.v8_core.specs.Traps.{data_access_exception, entered, first_trap}
use Rattle.v8_core.specs.declared.turn.Event.TheVariants.{Trapped}
use Rattle.v8_core.specs.Memory.{fetches, status_of}
use Rattle.v8_core.specs.Accesses.{World, faulted, place_of, world}
use Rattle.v8_core.specs.Steps.{next, turn_of}
use Rattle.v8_layout.specs.Handlers.{trap_word, handler_word}
use Rattle.v8_map.specs.declared.TheConstants.{TRAP_TABLE, HANDLERS, CONTEXT_TABLE}
use Rattle.v8_layout.specs.Layout.{Pages, AreFew, IsLoaded}
use Rattle.v8_layout.specs.AddressMap.{may_be_read, may_be_written}
use Rattle.v8_memory.specs.Board.{Device, board}
use Rattle.v8_loaded.specs.Places.{code_marked, handlers_marked, table_marked}
use Rattle.v8_loaded.specs.Users.{AsksFor, RunsUser}

abbrev pub supervisor_fetch : Access
supervisor_fetch = record { user = false; kind = Fetch }

abbrev pub HandlersAreFetched : Type 0
HandlersAreFetched =
    (n : ℕ) (g : Pages) (code ram : List ℕ) (mmu : MmuRegs) (k : ℕ) →
    root_of mmu ≡ CONTEXT_TABLE → AreFew g → IsLoaded n g code ram → k < 1024 →
    fetches mmu (HANDLERS + 4 * k) supervisor_fetch ram ≡ (Ok (handler_word n k), handlers_marked ram)

abbrev pub TrapTableIsFetched : Type 0
TrapTableIsFetched =
    (n : ℕ) (g : Pages) (code ram : List ℕ) (mmu : MmuRegs) (k : ℕ) →
    root_of mmu ≡ CONTEXT_TABLE → AreFew g → IsLoaded n g code ram → k < 1024 →
    fetches mmu (TRAP_TABLE + 4 * k) supervisor_fetch ram ≡ (Ok (trap_word k), table_marked ram)

-- ---- user code

-- the fault status of a forbidden store to user data: level 3, access type 4, fault type 2
abbrev pub forbidden_store : ℕ
forbidden_store = status_of (record { ft = 2; level = 3; at = 4 })

-- A store, LDSTUB and SWAP too, that no trap stops before it reaches memory, to where what is there may be read and not
-- written, takes data_access_exception. Nothing is stored: but for the fetch's mark, memory is as before.
abbrev pub ForbiddenStoresTrap : Type 0
ForbiddenStoresTrap =
    (n : ℕ) (g : Pages) (words : List ℕ) (mmu : MmuRegs) (x : World n Device) (i : ℕ) (t : Moving) (o : MemoryOperand) →
    RunsUser n g words mmu x i → AsksFor words i (Transfer t o) → o.space ≡ Normal → writes_memory t ≡ true →
    first_trap n x.cpu (Transfer t o) ≡ None →
    may_be_read g (place_of n x.cpu o) ≡ true → may_be_written g (place_of n x.cpu o) ≡ false →
    next board n mmu x ≡ (
      turn_of n x.cpu (Trapped data_access_exception) (Some (slice_index words i)) None,
      world n (entered n (faulted n x.cpu forbidden_store) data_access_exception)
          (code_marked i x.memory.ram) x.memory.device,
    )
