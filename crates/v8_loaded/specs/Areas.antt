-- The save area of a window: the 64 bytes from its %sp on (chapter 4).
use Rattle.std.specs.Prelude.{ℕ, ◌≡◌, ◌≢◌, ◌⊎◌, ◌+◌, ◌*◌, ◌-◌, ◌%◌, ◌^◌, ◌<◌, ◌≤◌, List, slice_index, Some}
use Rattle.v8_core.specs.Ram.{entry_of}
use Rattle.v8_core.specs.Windows.{Windows, word_at}
use Rattle.v8_map.specs.declared.TheConstants.{PAGE, STACK_LOWEST, STACK_END, STACK_PLACE, SYSTEM_TABLE, TABLES_END}
use Rattle.v8_layout.specs.Layout.{Pages}
use Rattle.v8_layout.specs.AddressMap.{lowered}
use Rattle.v8_loaded.specs.Places.{code_marked, stack_entry_place}

-- A window's %sp is a multiple of 8, and its 64 bytes lie in the stack's pages.
pub record HasRoom (g : Pages) (sp : ℕ) : Type 0 where
  pub aligned : sp % 8 ≡ 0
  pub low : STACK_END ≤ sp + PAGE * g.stack_count
  pub high : sp + 64 ≤ STACK_END

-- where they lie in physical memory
abbrev pub area_of : ℕ → ℕ
area_of sp = lowered STACK_LOWEST STACK_PLACE sp

-- and they hold sixteen words
pub record HasFrame (g : Pages) (ram : List ℕ) (sp : ℕ) : Type 0 where
  pub room : HasRoom g sp
  pub words : (j w : ℕ) → j < 16 → entry_of ram (area_of sp + 4 * j) ≡ Some w → w < 2 ^ 32

-- The 64 bytes from a physical address on are the locals and ins of window u; those ins are the outs of the window
-- above it.
pub record IsFrame (v : Windows) (u above_it at : ℕ) (ram : List ℕ) : Type 0 where
  pub locals : (j : ℕ) → j < 8 → entry_of ram (at + 4 * j) ≡ Some (word_at v u (8 + j))
  pub ins : (j : ℕ) → j < 8 → entry_of ram (at + 32 + 4 * j) ≡ Some (word_at v above_it j)

-- so many bytes from p on are none of those from another place on: those are none, or lie above or below
abbrev pub IsBeside : ℕ → ℕ → ℕ → ℕ → Type 0
IsBeside p size at count = (count ≡ 0) ⊎ ((p + size ≤ at) ⊎ (at + count ≤ p))

-- After a trap at the code word i and the turns of its handler: above the tables no byte differs but so many from a
-- physical address on. The entries of code, data and stack pages are those after the fetch, but for the pages of the 64
-- bytes from there on.
pub record SameBut (i at count : ℕ) (old new : List ℕ) : Type 0 where
  pub bytes : (p : ℕ) → TABLES_END ≤ p → IsBeside p 1 at count → slice_index new p ≡ slice_index old p
  pub words : (p : ℕ) → TABLES_END ≤ p → IsBeside p 4 at count → entry_of new p ≡ entry_of old p
  pub entries : (p : ℕ) → p < SYSTEM_TABLE → p % 4 ≡ 0 →
      ((j : ℕ) → j < 16 → p ≢ stack_entry_place (at + (STACK_LOWEST - STACK_PLACE) + 4 * j)) →
      entry_of new p ≡ entry_of (code_marked i old) p
