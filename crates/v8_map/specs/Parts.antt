-- The parts of memory that the address map has.
use Rattle.std.specs.Prelude.{ℕ, ◌+◌, ◌-◌, Bool, true, IsTrue, ◌&&◌, ◌||◌, nat_le, List, [], ◌∷◌}
use Rattle.v8_map.specs.declared.TheConstants.{PAGE, CODE_START, CODE_END, CODE_PLACE, DATA_START, DATA_END, DATA_PLACE}
use Rattle.v8_map.specs.declared.TheConstants.{STACK_LOWEST, STACK_END, STACK_PLACE, TRAP_TABLE, TRAP_TABLE_PLACE}
use Rattle.v8_map.specs.declared.TheConstants.{HANDLERS, HANDLERS_PLACE, DEVICE, DEVICE_PLACE, RAM, CONTEXT_TABLE}
use Rattle.v8_map.specs.declared.TheConstants.{TABLES_END}

-- addresses from a first one up to a last one, which is left out
pub record Addresses : Type 0 where
  pub first : ℕ
  pub end : ℕ

abbrev pub addresses : ℕ → ℕ → Addresses
addresses first end = record { first = first; end = end }

-- a part that is as long in physical memory as in virtual memory
pub record Part : Type 0 where
  pub virtual : Addresses
  pub physical : Addresses

-- from a first virtual address up to a last one, and from a place on
abbrev pub part : ℕ → ℕ → ℕ → Part
part first end place = record { virtual = addresses first end; physical = addresses place (place + (end - first)) }

-- code, data, the stack's pages, the trap table and the window handlers, with all the pages that they can have
abbrev pub parts_in_ram : List Part
parts_in_ram =
    part CODE_START CODE_END CODE_PLACE ∷ part DATA_START DATA_END DATA_PLACE ∷ part STACK_LOWEST STACK_END STACK_PLACE
    ∷ part TRAP_TABLE (TRAP_TABLE + PAGE) TRAP_TABLE_PLACE ∷ part HANDLERS (HANDLERS + PAGE) HANDLERS_PLACE ∷ []

abbrev pub device : Part
device = part DEVICE (DEVICE + PAGE) DEVICE_PLACE

-- ---- what holds of them

abbrev pub ends_before : Addresses → Addresses → Bool
ends_before a b = nat_le a.end b.first || nat_le b.end a.first

abbrev pub all : {A : Type 0} → (A → Bool) → List A → Bool
all test [] = true
all test (x ∷ xs) = test x && all test xs

abbrev pub each_apart : List Part → Bool
each_apart [] = true
each_apart (p ∷ ps) =
    all (λ q. ends_before p.virtual q.virtual && ends_before p.physical q.physical) ps && each_apart ps

-- no address is of two parts, and none of the page tables'
abbrev pub AreApart : Type 0
AreApart = IsTrue
    (each_apart (device ∷ parts_in_ram)
    && all (λ p. ends_before p.physical (addresses CONTEXT_TABLE TABLES_END)) (device ∷ parts_in_ram))

abbrev pub HasRoom : Type 0
HasRoom = IsTrue (all (λ p. nat_le p.physical.end RAM) parts_in_ram)
