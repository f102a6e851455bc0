-- What holds of a loaded board's tables.
use Rattle.std.specs.Prelude.{ℕ, ◌≡◌, ◌%◌, ◌^◌, ◌<◌, ◌≤◌, List, length, Bool, true, false, IsSomeAnd, IfSome, Err}
use Rattle.std.specs.Prelude.{is_ok}
use Rattle.v8_mmu.specs.Ram.{entry_of}
use Rattle.v8_mmu.specs.Paths.{marked_ram}
use Rattle.v8_mmu.specs.Walked.{walked}
use Rattle.v8_mmu.specs.declared.access.Access.{Access}
use Rattle.v8_mmu.specs.declared.access.AccessKind.TheVariants.{Load, Store}
use Rattle.v8_map.specs.declared.TheConstants.{CONTEXT_TABLE, TABLES_END}
use Rattle.v8_layout.specs.Layout.{Pages, AreFew, HasTables, IsLoaded, unmarked}
use Rattle.v8_layout.specs.AddressMap.{may_be_read, may_be_written, page_at, translated}

-- each virtual address translates as laid out, or faults
abbrev pub IsMapped : Pages → List ℕ → Type 0
IsMapped g ram = (va : ℕ) (a : Access) → va < 2 ^ 32 → walked ram CONTEXT_TABLE va a ≡ translated g va a

-- RAM of the same size whose table words are the same but for R and M
pub record SameTables (old new : List ℕ) : Type 0 where
  pub size : length new ≡ length old
  pub words : (p : ℕ) → CONTEXT_TABLE ≤ p → p < TABLES_END → p % 4 ≡ 0 →
      IsSomeAnd (entry_of old p) (λ w. IsSomeAnd (entry_of new p) (λ x. unmarked x ≡ unmarked w))

-- the tables spell the address map
abbrev pub TablesMap : Type 0
TablesMap = (g : Pages) (ram : List ℕ) → AreFew g → HasTables g ram → IsMapped g ram

-- and keep spelling it as long as none of their words changes but in R and M
abbrev pub TablesStay : Type 0
TablesStay = (g : Pages) (old new : List ℕ) → AreFew g → HasTables g old → SameTables old new →
    HasTables g new × IsMapped g new

-- ---- what user code may do where

abbrev pub user_load : Access
user_load = record { user = true; kind = Load }

abbrev pub user_store : Access
user_store = record { user = true; kind = Store }

-- it may load exactly where what is there may be read, and store exactly where it may be written
abbrev pub RightsHold : Type 0
RightsHold = (g : Pages) (ram : List ℕ) (va : ℕ) → AreFew g → HasTables g ram → va < 2 ^ 32 →
    (is_ok (walked ram CONTEXT_TABLE va user_load) ≡ may_be_read g va)
    × (is_ok (walked ram CONTEXT_TABLE va user_store) ≡ may_be_written g va)

-- A store where what is there may be read and not written is forbidden by the page's entry, which is one of level 3:
-- fault type 2, access type 4, a store to user data.
abbrev pub StoresAreForbidden : Type 0
StoresAreForbidden = (g : Pages) (ram : List ℕ) (va : ℕ) → AreFew g → HasTables g ram → va < 2 ^ 32 →
    may_be_read g va ≡ true → may_be_written g va ≡ false →
    walked ram CONTEXT_TABLE va user_store ≡ Err (record { ft = 2; level = 3; at = 4 })

-- ---- marks

-- a mark on the entry of a page that is mapped
abbrev pub MarksKeep : Type 0
MarksKeep = (n : ℕ) (g : Pages) (words ram : List ℕ) (va : ℕ) (store : Bool) → AreFew g → IsLoaded n g words ram →
    IfSome (page_at g va) (λ p. IsLoaded n g words (marked_ram ram p.place store))
