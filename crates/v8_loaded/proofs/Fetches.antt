-- Where pages lie on a loaded board, and what is fetched there.
--   walk_at                                           the walk to a page, where its ACC permits the access
--   code_page, table_page, handlers_page, device_page     the entries that accesses of these pages mark
--   code_kept, table_kept, handlers_kept, device_kept     what is loaded stays after those marks
--   fetches_code                                      a user's fetch of the code word i
--   fetches_table, fetches_handlers                   the supervisor's fetch of a word of the trap table, of the handlers
--   reaches_input, reaches_device                     the supervisor's walks to the device
use Rattle.std.proofs.Common.{◌≡◌, ℕ, ◌+◌, ◌-◌, ◌*◌, ◌/◌, ◌^◌, ◌<◌, ◌≤◌, Bool, true, false, List, Some, Ok, refl, ap, ◌∙◌, arith}
use Rattle.std.specs.Prelude.{slice_index}
use Rattle.v8_core.specs.Permissions.{permits, rights_of}
use Rattle.v8_core.specs.Walked.{Page, walked, root_of}
use Rattle.v8_core.specs.Access.{Access}
use Rattle.v8_core.specs.AccessKind.{AccessKind}
use Rattle.v8_core.specs.AccessKind.TheVariants.{Fetch, Load, Store}
use Rattle.v8_core.specs.MmuRegs.{MmuRegs}
use Rattle.v8_core.specs.Memory.{fetches}
use Rattle.v8_core.proofs.Turns.{fetched}
use Rattle.v8_layout.specs.Handlers.{trap_word, handler_word}
use Rattle.v8_layout.specs.Layout.{Pages, AreFew, HasTables, IsLoaded}
use Rattle.v8_layout.specs.AddressMap.{mapped, page_at, through, reached, translated}
use Rattle.v8_layout.proofs.Map.{tables_map, table_at, handlers_at, code_at, device_at}
use Rattle.v8_layout.proofs.Marks.{Markable, mark_keeps, system_markable, code_markable}
use Rattle.v8_loaded.specs.Places.{code_entry_place, code_marked, table_marked, handlers_marked, device_marked}

abbrev pub user_fetch : Access
user_fetch = record { user = true; kind = Fetch }

-- an access of the supervisor
abbrev pub by_supervisor : AccessKind → Access
by_supervisor k = record { user = false; kind = k }

abbrev pub page : ℕ → ℕ → Page
page p place = record { pa = p; level = 3; place = place }

permitted : (a : Access) (pa acc place : ℕ) → permits (rights_of acc a.user) a.kind ≡ true →
    through a (mapped pa acc place) ≡ Ok (page pa place)
permitted a pa acc place may = rw may refl

pub walk_at : (g : Pages) (ram : List ℕ) (mmu : MmuRegs) (va : ℕ) (a : Access) (pa acc place : ℕ) →
    HasTables g ram → AreFew g → root_of mmu ≡ 0x2000 → va < 2 ^ 32 → page_at g va ≡ Some (mapped pa acc place) → permits (rights_of acc a.user) a.kind ≡ true →
    walked ram (root_of mmu) va a ≡ Ok (page pa place)
unfolding translated
walk_at g ram mmu va a pa acc place tables few root word is may =
    ap (λ r. walked ram r va a) root ∙ tables_map g ram few tables va a word ∙ ap (reached va a) is
    ∙ permitted a pa acc place may

-- the entry of a code page, but for marks
abbrev pub code_entry_word : ℕ → ℕ
code_entry_word i = 0x1012 + 0x100 * (i / 1024)

-- ---- the entries that are marked, and what is loaded after it

module _ (n : ℕ) (g : Pages) (words ram : List ℕ) (few : AreFew g) (loaded : IsLoaded n g words ram) where
  pub code_page : (i : ℕ) → i < 1024 * g.code_count → Markable ram (code_entry_place i) (code_entry_word i)
  code_page i less = code_markable g ram loaded.tables few (i / 1024) (omega arith)

  pub table_page : Markable ram 0x2D00 0x1A
  table_page = system_markable g ram loaded.tables 0 0x1A (omega arith) refl refl (omega arith)

  pub handlers_page : Markable ram 0x2D04 0x11A
  handlers_page = system_markable g ram loaded.tables 1 0x11A (omega arith) refl refl (omega arith)

  pub device_page : Markable ram 0x2D40 0x1000001E
  device_page = system_markable g ram loaded.tables 16 0x1000001E (omega arith) refl refl (omega arith)

  pub code_kept : (i : ℕ) → i < 1024 * g.code_count → IsLoaded n g words (code_marked i ram)
  code_kept i less = mark_keeps n g words ram (code_entry_place i) (code_entry_word i) false loaded (code_page i less)

  pub table_kept : IsLoaded n g words (table_marked ram)
  table_kept = mark_keeps n g words ram 0x2D00 0x1A false loaded table_page

  pub handlers_kept : IsLoaded n g words (handlers_marked ram)
  handlers_kept = mark_keeps n g words ram 0x2D04 0x11A false loaded handlers_page

  pub device_kept : (store : Bool) → IsLoaded n g words (device_marked store ram)
  device_kept store = mark_keeps n g words ram 0x2D40 0x1000001E store loaded device_page

-- ---- fetches

module _ (n : ℕ) (g : Pages) (words ram : List ℕ) (mmu : MmuRegs) (few : AreFew g) (loaded : IsLoaded n g words ram) (root : root_of mmu ≡ 0x2000) where
  code_walk : (i : ℕ) → i < 1024 * g.code_count →
      walked ram (root_of mmu) (0x40000 + 4 * i) user_fetch ≡ Ok (page (0x10000 + 4 * i) (code_entry_place i))
  code_walk i less =
      let most = few.code in
      let there : 0x40000 + 4 * i - 0x30000 ≡ 0x10000 + 4 * i = omega arith in
      let number : (0x40000 + 4 * i - 0x40000) / 4096 ≡ i / 1024 = omega arith in
      walk_at g ram mmu (0x40000 + 4 * i) user_fetch (0x10000 + 4 * i) 4 (code_entry_place i) loaded.tables few root (omega arith)
      (code_at g (0x40000 + 4 * i) (omega arith) (omega arith)
      ∙ ap (λ p. Some (mapped p 4 (0x2A00 + 4 * ((0x40000 + 4 * i - 0x40000) / 4096)))) there
      ∙ ap (λ k. Some (mapped (0x10000 + 4 * i) 4 (0x2A00 + 4 * k))) number)
      refl

  table_walk : (k : ℕ) → k < 1024 →
      walked ram (root_of mmu) (0xF0000000 + 4 * k) (by_supervisor Fetch) ≡ Ok (page (4 * k) 0x2D00)
  table_walk k less =
      let there : 0xF0000000 + 4 * k - 0xF0000000 ≡ 4 * k = omega arith in
      walk_at g ram mmu (0xF0000000 + 4 * k) (by_supervisor Fetch) (4 * k) 6 0x2D00 loaded.tables few root (omega arith)
      (table_at g (0xF0000000 + 4 * k) few (omega arith) (omega arith) ∙ ap (λ p. Some (mapped p 6 0x2D00)) there) refl

  handlers_walk : (k : ℕ) → k < 1024 →
      walked ram (root_of mmu) (0xF0001000 + 4 * k) (by_supervisor Fetch) ≡ Ok (page (0x1000 + 4 * k) 0x2D04)
  handlers_walk k less =
      let there : 0xF0001000 + 4 * k - 0xF0000000 ≡ 0x1000 + 4 * k = omega arith in
      walk_at g ram mmu (0xF0001000 + 4 * k) (by_supervisor Fetch) (0x1000 + 4 * k) 6 0x2D04 loaded.tables few root (omega arith)
      (handlers_at g (0xF0001000 + 4 * k) few (omega arith) (omega arith) ∙ ap (λ p. Some (mapped p 6 0x2D04)) there) refl

  pub fetches_code : (i : ℕ) → i < 1024 * g.code_count →
      fetches mmu (0x40000 + 4 * i) user_fetch ram ≡ (Ok (slice_index words i), code_marked i ram)
  fetches_code i less =
      fetched mmu (0x40000 + 4 * i) user_fetch ram (page (0x10000 + 4 * i) (code_entry_place i)) (slice_index words i) (slice_index words i)
      (code_walk i less) (loaded.code i less) ((code_kept n g words ram few loaded i less).code i less)

  pub fetches_table : (k : ℕ) → k < 1024 →
      fetches mmu (0xF0000000 + 4 * k) (by_supervisor Fetch) ram ≡ (Ok (trap_word k), table_marked ram)
  fetches_table k less =
      fetched mmu (0xF0000000 + 4 * k) (by_supervisor Fetch) ram (page (4 * k) 0x2D00) (trap_word k) (trap_word k)
      (table_walk k less) (loaded.trap k less) ((table_kept n g words ram few loaded).trap k less)

  pub fetches_handlers : (k : ℕ) → k < 1024 →
      fetches mmu (0xF0001000 + 4 * k) (by_supervisor Fetch) ram ≡ (Ok (handler_word n k), handlers_marked ram)
  fetches_handlers k less =
      fetched mmu (0xF0001000 + 4 * k) (by_supervisor Fetch) ram (page (0x1000 + 4 * k) 0x2D04) (handler_word n k) (handler_word n k)
      (handlers_walk k less) (loaded.handler k less) ((handlers_kept n g words ram few loaded).handler k less)

  -- ---- the device

  pub reaches_input : walked ram (root_of mmu) 0xF0010000 (by_supervisor Load) ≡ Ok (page 0x100000000 0x2D40)
  reaches_input =
      walk_at g ram mmu 0xF0010000 (by_supervisor Load) 0x100000000 7 0x2D40 loaded.tables few root (omega arith)
      (device_at g 0xF0010000 few (omega arith) (omega arith)) refl

  pub reaches_device : (va : ℕ) → 0xF0010000 ≤ va → va < 0xF0011000 →
      walked ram (root_of mmu) va (by_supervisor Store) ≡ Ok (page (va - 0xF0010000 + 0x100000000) 0x2D40)
  reaches_device va low high =
      walk_at g ram mmu va (by_supervisor Store) (va - 0xF0010000 + 0x100000000) 7 0x2D40 loaded.tables few root (omega arith) (device_at g va few low high) refl
