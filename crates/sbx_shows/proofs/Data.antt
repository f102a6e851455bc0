-- Bytes of the data written, and the page that their access marks.
use Rattle.std.proofs.Common.{◌≡◌, ℕ, ◌+◌, ◌-◌, ◌*◌, ◌/◌, ◌^◌, ◌<◌, ◌≤◌, Bool, true, false, not, List, length, get_or, Some, refl, sym, ap, ◌∙◌, subst, arith}
use Rattle.std.specs.Prelude.{◌&&◌, ◌||◌, nat_le, nat_lt, slice_get, if◌then◌else◌}
use Rattle.std.proofs.lemmas.Bool.Decides.{nat_tests}
use Rattle.std.proofs.lemmas.Option.{get_or_from_slice_get}
use Rattle.v8_map.specs.declared.TheConstants.{CODE_TABLE, DATA_START, DATA_END, DATA_TABLE}
use Rattle.v8_core.specs.Size.{Size}
use Rattle.v8_core.specs.Size.TheVariants.{Byte}
use Rattle.v8_core.specs.Transfers.{bytes_in}
use Rattle.v8_core.specs.Ram.{with_number as board_with}
use Rattle.v8_core.specs.Paths.{marked_ram}
use Rattle.v8_core.specs.Accesses.{World, world}
use Rattle.v8_loaded.specs.Layout.{is_writable}
use Rattle.v8_loaded.specs.AddressMap.{mapped, page_at}
use Rattle.v8_layout.proofs.Entries.{data_entry_word}
use Rattle.v8_layout.proofs.Map.{data_at as data_mapped}
use Rattle.v8_layout.proofs.Marks.{Markable, data_markable, mark_keeps}
use Rattle.v8_loaded.specs.Board.{Device}
use Rattle.v8_board.specs.Start.{pages_of}
use Rattle.v8_board.proofs.Placed.{data_counted, pages_few, rights_are}
use Rattle.sbx_flat.specs.Parts.{Parts}
use Rattle.sbx_flat.specs.Regions.{in_one_region, page_rights}
use Rattle.v8_board.proofs.Within.{reached}
use Rattle.sbx_flat.specs.Memory.{number_at, with_number}
use Rattle.sbx_flat.specs.States.{State}
use Rattle.sbx_flat.specs.OwnPages.{is_own_data_page, may_reach}
use Rattle.sbx_shows.specs.Shows.{Fits, Shows, data_area}
use Rattle.sbx_shows.proofs.Kept.{marked_same}
use Rattle.sbx_shows.proofs.Numbers.{data_stored, loaded_stored, marks_stored, saved_beside, slots_beside, stack_beside}
use Rattle.sbx_shows.proofs.Pages.{mark_own, owned}
use Rattle.sbx_shows.proofs.Users.{OnlyMarks, device_kept}

-- ---- pages of the data

abbrev pub data_entry_place : ℕ → ℕ
data_entry_place a = DATA_TABLE + 4 * ((a - DATA_START) / 4096)

-- an address of the data's pages, with the right of its page, which an access may reach so
pub record IsReached (parts : Parts) (a : ℕ) (store : Bool) : Type 0 where
  pub low : DATA_START ≤ a
  pub high : a < DATA_START + 4096 * length (page_rights parts.regions)
  pub right : Bool
  pub is : slice_get (page_rights parts.regions) ((a - DATA_START) / 4096) ≡ Some right
  pub may : (not store || right) ≡ true

-- so many bytes that lie in one region lie so from the first one on
pub is_reached : (parts : Parts) (a size : ℕ) (store : Bool) → 0 < size → in_one_region parts.regions a size store ≡ true → IsReached parts a store
is_reached parts a size store some held =
    let lies = reached parts.regions a size store some held in
    let from = lies.from in
    let to = lies.to in
    record { low = from; high = omega arith; right = lies.right; is = lies.pages ((a - DATA_START) / 4096) (omega arith) (omega arith); may = lies.may }

-- its page
pub data_at : (parts : Parts) (a : ℕ) (store : Bool) → Fits parts → (p : IsReached parts a store) →
    page_at (pages_of parts) a ≡ Some (mapped (data_area a) (if p.right then 1 else 0) (data_entry_place a))
data_at parts a store fits p =
    let low = p.low in
    let high = p.high in
    let counted = data_counted parts fits.pages in
    let right : is_writable (pages_of parts) ((a - DATA_START) / 4096) ≡ p.right =
    ap (λ (rights : List Bool). get_or rights ((a - DATA_START) / 4096) false) (rights_are parts fits.pages)
    ∙ get_or_from_slice_get (page_rights parts.regions) ((a - DATA_START) / 4096) p.right false p.is in
    data_mapped (pages_of parts) a (pages_few parts) low (omega arith) ∙ ap (λ (w : Bool). Some (mapped (data_area a) (if w then 1 else 0) (data_entry_place a))) right

-- which is the image's own
pub data_own : (parts : Parts) (a : ℕ) (store : Bool) → IsReached parts a store → is_own_data_page parts store (a / 4096) ≡ true
data_own parts a store p =
    let low = p.low in
    let page = a / 4096 in
    let number : page - 0x80 ≡ (a - DATA_START) / 4096 = omega arith in
    let from : nat_le 0x80 page ≡ true = grind (arith, nat_tests) in
    let right : may_reach store (slice_get (page_rights parts.regions) (page - 0x80)) ≡ true =
    ap (λ k. may_reach store (slice_get (page_rights parts.regions) k)) number ∙ ap (may_reach store) p.is ∙ p.may in
    either (nat_le 0x80 page) (may_reach store (slice_get (page_rights parts.regions) (page - 0x80))) (nat_le (0x100 - parts.stack_pages) page && nat_lt page 0x100) from right
  where
    either : (d r s : Bool) → d ≡ true → r ≡ true → ((d && r) || s) ≡ true
    either d r s e f = rw (e, f) refl

-- it may be loaded from, whatever else
loaded_from : (parts : Parts) (a : ℕ) (store : Bool) → IsReached parts a store → IsReached parts a false
loaded_from parts a store p = record { low = p.low; high = p.high; right = p.right; is = p.is; may = refl }

pub data_marks : (n : ℕ) (parts : Parts) (old mid : List ℕ) (a : ℕ) (store : Bool) → Fits parts → OnlyMarks n parts old mid → IsReached parts a store →
    OnlyMarks n parts old (marked_ram mid (data_entry_place a) store)
data_marks n parts old mid a store fits m p =
    let most = fits.pages in
    let low = p.low in
    let high = p.high in
    let counted = data_counted parts fits.pages in
    let t = data_entry_word (pages_of parts) ((a - DATA_START) / 4096) in
    let can : Markable mid (data_entry_place a) t = data_markable (pages_of parts) mid m.loaded.tables (pages_few parts) ((a - DATA_START) / 4096) (omega arith) in
    let here = marked_same mid (data_entry_place a) t store can in
    let own = data_own parts a store p in
    let read = data_own parts a false (loaded_from parts a store p) in
    record {
      same = record { words = λ p above. here.words p above ∙ m.same.words p above; bytes = λ p above. here.bytes p above ∙ m.same.bytes p above };
      loaded = mark_keeps n (pages_of parts) parts.words mid (data_entry_place a) t store m.loaded can;
      marks = mark_own parts mid (data_entry_place a) t store can
          (λ k less e. owned parts (0x40 + k) (subst (λ q. is_own_data_page parts false q ≡ true) (sym (at_entry a k low (omega arith) e)) read))
          (λ k less e is. subst (λ q. is_own_data_page parts true q ≡ true) (sym (at_entry a k low (omega arith) e)) (subst (λ (b : Bool). is_own_data_page parts b (a / 4096) ≡ true) is own))
          m.marks;
    }
  where
    at_entry : (a k : ℕ) → DATA_START ≤ a → a < DATA_END → data_entry_place a ≡ CODE_TABLE + 4 * k → 0x40 + k ≡ a / 4096
    at_entry a k low high e = omega arith

-- ---- all that is shown

pub data_stored_shows : (n : ℕ) (parts : Parts) (x : World n Device) (s : State) (r a old v : ℕ) (size : Size) → Fits parts → Shows n parts x s r →
    number_at s.memory a (bytes_in size) ≡ Some old → (size ≡ Byte → v < 2 ^ 8) →
    Shows n parts (world n x.cpu (board_with x.memory.ram (data_area a) size v) x.memory.device) (record s { memory = with_number s.memory a (bytes_in size) v }) r
data_stored_shows n parts x s r a old v size fits h found small =
    let few = (pages_few parts).stack in
    let count = (pages_of parts).stack_count in
    let ram = x.memory.ram in
    let long = h.loaded.tables.size in
    let t = record s { memory = with_number s.memory a (bytes_in size) v } in
    record {
      file = h.file;
      calls = h.calls;
      stacked = h.stacked;
      saved = saved_beside n parts s.memory ram a v old size small fits h.bytes found long count r s.registers few h.stacked h.saved;
      slots = slots_beside n parts s.memory ram a v old size small fits h.bytes found long count s.registers few h.stacked h.slots;
      stack = stack_beside n parts s.memory ram a v old size small fits h.bytes found long h.stack;
      bytes = data_stored n parts s.memory ram a v old size small fits h.bytes found long;
      control = record {
        pc = h.control.pc;
        npc = h.control.npc;
        npc_word = h.control.npc_word;
        npc_whole = h.control.npc_whole;
        annul = h.control.annul;
        icc =
            h.control.icc;
        y = h.control.y;
        y_word = h.control.y_word;
        user = h.control.user;
        traps = h.control.traps;
        sane = h.control.sane;
        table =
            h.control.table;
      };
      device = device_kept x.memory.device s t refl refl h.device;
      going = h.going;
      loaded = loaded_stored n parts s.memory ram a v old size small fits h.bytes found long h.loaded;
      marks = marks_stored n parts s.memory ram a v old size small fits h.bytes found long h.marks;
    }
