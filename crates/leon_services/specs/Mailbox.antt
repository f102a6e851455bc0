-- RAM of a LEON3 with the services that go over a mailbox: the system's page tables (appendix H), the vectors, the
-- routines, and the mailbox. RAM begins at physical address b.
use Rattle.std.specs.Prelude.{ℕ, ◌≡◌, ◌⊎◌, ◌+◌, ◌-◌, ◌*◌, ◌/◌, ◌%◌, ◌^◌, ◌<◌, ◌≤◌, List, [], ◌∷◌, length, slice_index}
use Rattle.std.specs.Prelude.{Some, IsSomeAnd}
use Rattle.v8_core.specs.Permissions.{acc_of}
use Rattle.v8_core.specs.Ram.{entry_of}
use Rattle.v8_map.specs.declared.TheConstants.{CONTEXT_TABLE, HANDLERS_PLACE, RAM, REGION_TABLE, SYSTEM_REGION_TABLE}
use Rattle.v8_map.specs.declared.TheConstants.{SYSTEM_TABLE, TABLES_END}
use Rattle.v8_loaded.specs.Layout.{system_runs, system_writes}
use Rattle.leon_words.specs.Words.{mail_routines, mail_vectors}

-- ---- places, in RAM from b on

-- the vector of trap type 80, which those of 81 and 82 follow; the routines behind the window handlers
abbrev pub vectors_place : ℕ
vectors_place = 0x800

abbrev pub routines_place : ℕ
routines_place = 0x1100

-- the mailbox's page and its words; 128 KB of input, and then 128 KB of room for output
abbrev pub mail_place : ℕ
mail_place = 0xA0000

abbrev pub mail_size : ℕ
mail_size = 48

abbrev pub buffers_place : ℕ
buffers_place = 0xC0000

-- where the supervisor sees the input, the room for output, and its end
abbrev pub input_start : ℕ
input_start = 0xF0040000

abbrev pub output_start : ℕ
output_start = 0xF0060000

abbrev pub buffers_end : ℕ
buffers_end = 0xF0080000

-- where a byte that the supervisor sees there lies
abbrev pub buffer_place : ℕ → ℕ → ℕ
buffer_place b va = b + buffers_place + (va - input_start)

-- ---- entries of page tables, whatever their bits C, M and R are

-- the entry at a place is that of the page at a physical address, with its ACC
abbrev pub IsPage : List ℕ → ℕ → ℕ → ℕ → Type 0
IsPage ram at pa acc = IsSomeAnd (entry_of ram at) (λ w. (w % 4 ≡ 2) × (w / 256 * 4096 ≡ pa) × (acc_of w ≡ acc))

-- and that of the table at a place
abbrev pub IsTable : List ℕ → ℕ → ℕ → Type 0
IsTable ram at place = IsSomeAnd (entry_of ram at) (λ w. (w % 4 ≡ 1) × (w / 4 * 64 ≡ place))

-- ---- in RAM

-- The system's tables lead to the pages of the trap table, of the routines, of the mailbox and of the buffers, and the
-- vectors and the routines have their words.
pub record HasServices (b : ℕ) (ram : List ℕ) : Type 0 where
  pub distance : b % 2 ^ 24 ≡ 0
  pub fit : b + RAM ≤ 2 ^ 32
  pub size : b + RAM ≤ length ram
  pub context : IsTable ram (b + CONTEXT_TABLE) (b + REGION_TABLE)
  pub system : IsTable ram (b + REGION_TABLE + 4 * 0xF0) (b + SYSTEM_REGION_TABLE)
  pub pages : IsTable ram (b + SYSTEM_REGION_TABLE) (b + SYSTEM_TABLE)
  pub table_page : IsPage ram (b + SYSTEM_TABLE) b system_runs
  pub routines_page : IsPage ram (b + SYSTEM_TABLE + 4) (b + HANDLERS_PLACE) system_runs
  pub mail_page : IsPage ram (b + SYSTEM_TABLE + 4 * 16) (b + mail_place) system_writes
  pub buffers_page : IsPage ram (b + SYSTEM_REGION_TABLE + 4) (b + buffers_place) system_writes
  pub vectors : (k : ℕ) → k < 12 → entry_of ram (b + vectors_place + 4 * k) ≡ Some (slice_index mail_vectors k)
  pub routines : (k : ℕ) → k < 37 → entry_of ram (b + routines_place + 4 * k) ≡ Some (slice_index mail_routines k)

-- The mailbox: where the next byte of input is and where the input ends, where the next byte of output goes and where
-- the room for it ends; how the run ended, with the exit word, PC and nPC.
pub record Mailbox : Type 0 where
  pub input : ℕ
  pub input_end : ℕ
  pub output : ℕ
  pub output_end : ℕ
  pub status : ℕ
  pub word : ℕ
  pub pc : ℕ
  pub npc : ℕ

abbrev pub words_of : Mailbox → List ℕ
words_of m =
    m.input ∷ m.input_end ∷ m.output ∷ m.output_end ∷ m.status ∷ m.word ∷ m.pc ∷ m.npc ∷ []

-- input and output lie in their room
pub record IsMailbox (m : Mailbox) : Type 0 where
  pub begun : input_start ≤ m.input
  pub left : m.input ≤ m.input_end
  pub ends : m.input_end ≤ output_start
  pub after : output_start ≤ m.output
  pub free : m.output ≤ m.output_end
  pub last : m.output_end ≤ buffers_end

-- the mailbox lies in RAM
abbrev pub HasMailbox : ℕ → List ℕ → Mailbox → Type 0
HasMailbox b ram m =
    (k : ℕ) → k < 8 → entry_of ram (b + mail_place + 4 * k) ≡ Some (slice_index (words_of m) k)

-- ---- what a service leaves

-- a byte that is neither one of the tables with entries of pages, from those of the system's regions on, nor the
-- mailbox's
abbrev pub IsApart : ℕ → ℕ → Type 0
IsApart b p = ((p < b + SYSTEM_REGION_TABLE) ⊎ (b + TABLES_END ≤ p))
    × ((p < b + mail_place) ⊎ (b + mail_place + mail_size ≤ p))

-- RAM after a service has the services, this mailbox, each page and each table that it had, and each byte that lies
-- apart.
pub record Leaves (b : ℕ) (old new : List ℕ) (m : Mailbox) : Type 0 where
  pub services : HasServices b new
  pub mailbox : HasMailbox b new m
  pub pages : (at pa acc : ℕ) → at + 4 ≤ b + TABLES_END → IsPage old at pa acc → IsPage new at pa acc
  pub tables : (at place : ℕ) → at + 4 ≤ b + TABLES_END → IsTable old at place → IsTable new at place
  pub rest : (p : ℕ) → IsApart b p → slice_index new p ≡ slice_index old p
