-- RAM of a call: the services, the words of the mailbox with the room for four locals, and all that a service keeps.
--   Kept               RAM that came of another one, with these words of the mailbox
--   kept_marked, kept_stored, kept_put, kept_first      after a mark, a word of the mailbox, a byte of output; at first
--   word_loaded .. byte_stored      what the bus does
--   loads_word, loads_two, stores_word, stores_two, loads_byte, stores_byte      accesses by the supervisor's pages
use Rattle.std.proofs.Common.{◌≡◌, ◌≢◌, ℕ, zero, suc, ◌+◌, ◌-◌, ◌*◌, ◌/◌, ◌%◌, ◌^◌, ◌<◌, ◌≤◌, ◌⊎◌, inl, inr, Bool, true, false, List, [], ◌∷◌, ◌++◌, length, take, drop, Some}
use Rattle.std.proofs.Common.{IsSomeAnd, refl, sym, ap, ◌∙◌, subst, arith}
use Rattle.std.specs.Int.{w32, from_be_bytes}
use Rattle.std.specs.Prelude.{◌==◌, nat_lt, slice_index, slice_set}
use Rattle.std.proofs.lemmas.Bool.Decides.{nat_tests}
use Rattle.std.proofs.lemmas.List.{get_or-set_same, get_or-set_other, length-set, get_or_append_left, get_or-append_right}
use Rattle.std.proofs.lemmas.Option.{same_Some}
use Rattle.v8_core.specs.AccessKind.TheVariants as kinds
use Rattle.v8_core.specs.Loading.TheVariants as loadings
use Rattle.v8_core.specs.Memory.{Memory, loaded_from, move_answered, move_through, moves}
use Rattle.v8_core.specs.Meaning.{stored_after}
use Rattle.v8_core.specs.MmuRegs.{MmuRegs}
use Rattle.v8_core.specs.Paths.{marked_ram}
use Rattle.v8_core.specs.Permissions.{acc_of}
use Rattle.v8_core.specs.Ram.{entry_of, with_byte, with_double, with_entry}
use Rattle.v8_core.specs.Size.TheVariants.{Byte, Double, Word}
use Rattle.v8_core.specs.Transfer.{Transfer}
use Rattle.v8_core.specs.Transfer.TheVariants.{Load, Store}
use Rattle.v8_core.specs.Transfers.{writes_memory}
use Rattle.v8_core.specs.Accesses.{data_kind}
use Rattle.v8_core.specs.Walked.{root_of}
use Rattle.v8_core.specs.declared.access.Moved.TheVariants.{Done}
use Rattle.v8_mmu.proofs.RamLemmas.{Within, entry_is, length-marked_ram, length-with_entry, entry_of-with_entry, within_entry}
use Rattle.v8_mmu.proofs.RamMore.{byte_beside_entry, entry_beside, entry_elsewhere}
use Rattle.v8_mmu.proofs.RamNumbers.{byte_beside_byte, byte_of-with_byte, has_byte, has_double, length-with_byte}
use Rattle.v8_loaded.specs.Board.{Device, beside, board, board_load, board_store, overwritten}
use Rattle.leon_services.specs.Mailbox.{HasMailbox, HasServices, IsApart, IsPage, IsTable, Mailbox, words_of}
use Rattle.leon_services.proofs.Pages.{Spot, buffers_spot, buffers_walk, by_supervisor, byte_marked, mail_spot, mail_walk, page, page_marked, services_marked, services_stored}
use Rattle.leon_services.proofs.Pages.{table_marked, word_marked}

-- what an entry is, of a page and of a table
abbrev page_word : ℕ → ℕ → ℕ → Type 0
page_word pa acc w = (w % 4 ≡ 2) × (w / 256 * 4096 ≡ pa) × (acc_of w ≡ acc)

abbrev table_word : ℕ → ℕ → Type 0
table_word place w = (w % 4 ≡ 1) × (w / 4 * 64 ≡ place)

-- ---- RAM that came of another one

pub record Kept (b : ℕ) (old ram cells : List ℕ) : Type 0 where
  pub services : HasServices b ram
  pub size : length ram ≡ length old
  pub count : length cells ≡ 12
  pub words : (k : ℕ) → k < 12 → entry_of ram (b + 0xA0000 + 4 * k) ≡ Some (slice_index cells k)
  pub pages : (at pa acc : ℕ) → at + 4 ≤ b + 0x2E00 → IsPage old at pa acc → IsPage ram at pa acc
  pub tables : (at place : ℕ) → at + 4 ≤ b + 0x2E00 → IsTable old at place → IsTable ram at place
  pub rest : (p : ℕ) → IsApart b p → slice_index ram p ≡ slice_index old p

module _ (b : ℕ) (old ram cells : List ℕ) (k : Kept b old ram cells) where
  pub kept_marked : (q : ℕ) (store : Bool) → Spot b ram q → Kept b old (marked_ram ram q store) cells
  kept_marked q store s =
      let low = s.low in
      let high = s.high in
      record {
        services = services_marked b ram q store s k.services;
        size = length-marked_ram ram q store ∙ k.size;
        count = k.count;
        words = λ j less. word_marked b ram q store s (b + 0xA0000 + 4 * j) (inr (omega arith)) ∙ k.words j less;
        pages = λ at pa acc fits is. page_marked b ram q store s at pa acc (k.pages at pa acc fits is);
        tables = λ at place fits is. table_marked b ram q store s at place (k.tables at place fits is);
        rest = λ p apart. byte_marked b ram q store s p
            (elim apart.0 [ inl before ↦ inl (omega arith) | inr past ↦ inr (omega arith) ]) ∙ k.rest p apart;
      }

  abbrev cell : ℕ → ℕ
  cell j = b + 0xA0000 + 4 * j

  cell_there : (j : ℕ) → j < 12 → Within ram (cell j)
  cell_there j less = (entry_is ram (cell j) (slice_index cells j) (k.words j less)).0

  pub kept_stored : (j w : ℕ) → j < 12 → w < 2 ^ 32 → Kept b old (with_entry ram (cell j) w) (slice_set cells j w)
  kept_stored j w less small =
      let there = cell_there j less in
      let new = with_entry ram (cell j) w in
      let same : length new ≡ length ram = length-with_entry ram (cell j) w there.fits in
      let below : (p : ℕ) → p + 4 ≤ b + 0x2E00 → entry_of new p ≡ entry_of ram p =
      λ (p : ℕ) (fits : p + 4 ≤ b + 0x2E00). entry_elsewhere ram (cell j) p w there (inl (omega arith)) in
      record {
        services = services_stored b ram new same below k.services;
        size = same ∙ k.size;
        count = length-set cells j w ∙ k.count;
        words = λ i small_i. by_place i small_i (i == j) refl;
        pages = λ at pa acc fits is. rw (below at fits) (k.pages at pa acc fits is);
        tables = λ at place fits is. rw (below at fits) (k.tables at place fits is);
        rest = λ p apart. byte_beside_entry ram (cell j) w p there.fits
            (elim apart.1 [ inl before ↦ inl (omega arith) | inr past ↦ inr (omega arith) ]) ∙ k.rest p apart;
      }
    where
      by_place : (i : ℕ) → i < 12 → (t : Bool) → (i == j) ≡ t → entry_of (with_entry ram (cell j) w) (cell i) ≡ Some (slice_index (slice_set cells j w) i)
      by_place i fits true e =
          let same : i ≡ j = grind (arith, nat_tests) in
          let room : j < length cells = let count = k.count in omega arith in
          ap (λ q. entry_of (with_entry ram (cell j) w) (cell q)) same ∙ entry_of-with_entry ram (cell j) w (cell_there j less) small
          ∙ ap Some (sym (get_or-set_same cells j w 0 room)) ∙ ap (λ q. Some (slice_index (slice_set cells j w) q)) (sym same)
      by_place i fits false e =
          let other : i ≢ j = grind (arith, nat_tests) in
          let apart : (cell i + 4 ≤ cell j) ⊎ (cell j + 4 ≤ cell i) = search arith in
          entry_elsewhere ram (cell j) (cell i) w (cell_there j less) apart ∙ k.words i fits
          ∙ ap Some (sym (get_or-set_other cells j i w 0 other))

  -- a byte of the buffers, in the old RAM too
  abbrev buffer : ℕ → ℕ
  buffer j = b + 0xC0000 + j

  buffer_there : (j : ℕ) → j < 0x40000 → buffer j < length ram
  buffer_there j less = let size = k.services.size in omega arith

  entry_kept : (xs : List ℕ) (at v p : ℕ) → at < length xs → (p + 4 ≤ at) ⊎ (at + 1 ≤ p) → entry_of (with_byte xs at v) p ≡ entry_of xs p
  unfolding with_byte
  entry_kept xs at v p less apart = entry_beside xs (v ∷ []) at 1 p refl (omega arith) apart (length-with_byte xs at v less)

  byte_there : (xs : List ℕ) (at v : ℕ) → at < length xs → slice_index (with_byte xs at v) at ≡ v
  byte_there xs at v less =
      let size : length (with_byte xs at v) ≡ length xs = length-with_byte xs at v less in
      let fits : at < length (with_byte xs at v) = omega arith in
      same_Some (slice_index (with_byte xs at v) at) v (sym (has_byte (with_byte xs at v) at fits) ∙ byte_of-with_byte xs at v less)

  pub kept_put : (j v : ℕ) → j < 0x40000 → Kept b (with_byte old (buffer j) v) (with_byte ram (buffer j) v) cells
  kept_put j v less =
      let at = buffer j in
      let here = buffer_there j less in
      let size = k.size in
      let there : at < length old = omega arith in
      let new = with_byte ram at v in
      let same : length new ≡ length ram = length-with_byte ram at v here in
      let below : (p : ℕ) → p + 4 ≤ b + 0x2E00 → entry_of new p ≡ entry_of ram p =
      λ (p : ℕ) (fits : p + 4 ≤ b + 0x2E00). entry_kept ram at v p here (inl (omega arith)) in
      record {
        services = services_stored b ram new same below k.services;
        size = same ∙ k.size ∙ sym (length-with_byte old at v there);
        count = k.count;
        words = λ i fits. entry_kept ram at v (cell i) here (inl (omega arith)) ∙ k.words i fits;
        pages = λ q pa acc fits is. rw (below q fits) (k.pages q pa acc fits (was q fits there (page_word pa acc) is));
        tables = λ q place fits is. rw (below q fits) (k.tables q place fits (was q fits there (table_word place) is));
        rest = λ p apart. by_place p apart there (p == at) refl;
      }
    where
      was : (q : ℕ) → q + 4 ≤ b + 0x2E00 → buffer j < length old → (P : ℕ → Type 0) →
          IsSomeAnd (entry_of (with_byte old (buffer j) v) q) P → IsSomeAnd (entry_of old q) P
      was q fits there P is = subst (λ o. IsSomeAnd o P) (entry_kept old (buffer j) v q there (inl (omega arith))) is

      by_place : (p : ℕ) → IsApart b p → buffer j < length old → (t : Bool) → (p == buffer j) ≡ t →
          slice_index (with_byte ram (buffer j) v) p ≡ slice_index (with_byte old (buffer j) v) p
      by_place p apart there true e =
          let same : p ≡ buffer j = grind (arith, nat_tests) in
          ap (λ q. slice_index (with_byte ram (buffer j) v) q) same ∙ byte_there ram (buffer j) v (buffer_there j less)
          ∙ sym (byte_there old (buffer j) v there) ∙ ap (λ q. slice_index (with_byte old (buffer j) v) q) (sym same)
      by_place p apart there false e =
          let other : p ≢ buffer j = grind (arith, nat_tests) in
          let side : (p < buffer j) ⊎ (buffer j + 1 ≤ p) = search arith in
          byte_beside_byte ram (buffer j) v p (buffer_there j less) side ∙ k.rest p apart ∙ sym (byte_beside_byte old (buffer j) v p there side)

-- ---- at first

abbrev pub word_in : List ℕ → ℕ → ℕ
word_in ram p = from_be_bytes w32 (take 4 (drop p ram))

-- the words of the room for locals
abbrev pub room_word : ℕ → List ℕ → ℕ → ℕ
room_word b ram j = word_in ram (b + 0xA0000 + 4 * (8 + j))

abbrev pub room : ℕ → List ℕ → List ℕ
room b ram = room_word b ram 0 ∷ room_word b ram 1 ∷ room_word b ram 2 ∷ room_word b ram 3 ∷ []

abbrev pub first_cells : ℕ → List ℕ → Mailbox → List ℕ
first_cells b ram m = words_of m ++ room b ram

pub kept_first : (b : ℕ) (ram : List ℕ) (m : Mailbox) → HasServices b ram → HasMailbox b ram m → Kept b ram ram (first_cells b ram m)
kept_first b ram m h mail = record {
  services = h;
  size = refl;
  count = refl;
  words = λ k less. by_side k less;
  pages = λ at pa acc fits is. is;
  tables = λ at place fits is. is;
  rest = λ p apart. refl;
}
  where
    there : (j : ℕ) → j < 4 → entry_of ram (b + 0xA0000 + 4 * (8 + j)) ≡ Some (room_word b ram j)
    there j less =
        let size = h.size in
        let distance = h.distance in
        within_entry ram (b + 0xA0000 + 4 * (8 + j)) (record { aligned = omega arith; fits = omega arith })

    of_room : (j : ℕ) → j < 4 → entry_of ram (b + 0xA0000 + 4 * (8 + j)) ≡ Some (slice_index (room b ram) j)
    of_room zero less = there 0 less
    of_room (suc zero) less = there 1 less
    of_room (suc (suc zero)) less = there 2 less
    of_room (suc (suc (suc zero))) less = there 3 less
    of_room (suc (suc (suc (suc j)))) less = absurd (omega arith)

    by_side : (k : ℕ) → k < 12 → entry_of ram (b + 0xA0000 + 4 * k) ≡ Some (slice_index (first_cells b ram m) k)
    by_side k less =
        let split : (k < 8) ⊎ (8 ≤ k) = search arith in
        elim split [
          | inl low ↦ mail k low ∙ ap Some (sym (get_or_append_left (words_of m) (room b ram) 0 k low))
          | inr high ↦
              let sum : 8 + (k - 8) ≡ k = omega arith in
              ap (λ q. entry_of ram (b + 0xA0000 + 4 * q)) (sym sum) ∙ of_room (k - 8) (omega arith)
              ∙ ap Some (sym (get_or-append_right (words_of m) (room b ram) 8 k 0 refl high))
        ]

-- ---- the bus

in_ram : (pa : ℕ) → pa < 2 ^ 32 → nat_lt pa 0x100000000 ≡ true
in_ram pa low = grind (arith, nat_tests)

word_loaded : (ram : List ℕ) (d : Device) (pa w : ℕ) → pa < 2 ^ 32 → entry_of ram pa ≡ Some w → board_load ram d pa Word ≡ Some (w, d)
unfolding board_load
word_loaded ram d pa w small there = rw (in_ram pa small) (ap (λ o. beside d o) there)

word_stored : (ram : List ℕ) (d : Device) (pa w v : ℕ) → pa < 2 ^ 32 → entry_of ram pa ≡ Some w → board_store ram d pa Word v ≡ Some (with_entry ram pa v, d)
unfolding board_store
word_stored ram d pa w v small there = rw (in_ram pa small) (ap (λ o. overwritten ram d pa Word v o) there)

double_loaded : (ram : List ℕ) (d : Device) (pa x y : ℕ) → pa < 2 ^ 32 → pa % 8 ≡ 0 → entry_of ram pa ≡ Some x → entry_of ram (pa + 4) ≡ Some y →
    board_load ram d pa Double ≡ Some (x * 2 ^ 32 + y, d)
unfolding board_load
double_loaded ram d pa x y small whole first second = rw (in_ram pa small) (ap (λ o. beside d o) (has_double ram pa x y whole first second))

double_stored : (ram : List ℕ) (d : Device) (pa x y v : ℕ) → pa < 2 ^ 32 → pa % 8 ≡ 0 → entry_of ram pa ≡ Some x → entry_of ram (pa + 4) ≡ Some y →
    board_store ram d pa Double v ≡ Some (with_double ram pa v, d)
unfolding board_store
double_stored ram d pa x y v small whole first second =
    rw (in_ram pa small) (ap (λ o. overwritten ram d pa Double v o) (has_double ram pa x y whole first second))

byte_loaded : (ram : List ℕ) (d : Device) (pa : ℕ) → pa < 2 ^ 32 → pa < length ram → board_load ram d pa Byte ≡ Some (slice_index ram pa, d)
unfolding board_load
byte_loaded ram d pa small there = rw (in_ram pa small) (ap (λ o. beside d o) (has_byte ram pa there))

byte_stored : (ram : List ℕ) (d : Device) (pa v : ℕ) → pa < 2 ^ 32 → pa < length ram → board_store ram d pa Byte v ≡ Some (with_byte ram pa v, d)
unfolding board_store
byte_stored ram d pa v small there = rw (in_ram pa small) (ap (λ o. overwritten ram d pa Byte v o) (has_byte ram pa there))

high_of : (x y : ℕ) → y < 2 ^ 32 → (x * 2 ^ 32 + y) / 2 ^ 32 ≡ x
high_of x y small = omega arith

low_of : (x y : ℕ) → y < 2 ^ 32 → (x * 2 ^ 32 + y) % 2 ^ 32 ≡ y
low_of x y small = omega arith

double_is : (ram : List ℕ) (p x y : ℕ) → y < 2 ^ 32 → with_double ram p (x * 2 ^ 32 + y) ≡ with_entry (with_entry ram p x) (p + 4) y
unfolding with_double
double_is ram p x y small =
    ap (λ a. with_entry (with_entry ram p a) (p + 4) ((x * 2 ^ 32 + y) % 2 ^ 32)) (high_of x y small)
    ∙ ap (λ c. with_entry (with_entry ram p x) (p + 4) c) (low_of x y small)

-- ---- accesses

abbrev pub memory_of : List ℕ → Device → Memory Device
memory_of ram d = record { ram = ram; device = d }

-- what an access of the supervisor gives, and RAM after it, which has these words of the mailbox
pub record Moves (b : ℕ) (mmu : MmuRegs) (d : Device) (old ram : List ℕ) (va : ℕ) (t : Transfer) (number v pa : ℕ) (cells : List ℕ) : Type 0 where
  pub after : List ℕ
  pub kept : Kept b old after cells
  pub does : moves board mmu va (by_supervisor (data_kind (writes_memory t))) t number (memory_of ram d) ≡ (Done v pa, memory_of after d)

module _ (b : ℕ) (mmu : MmuRegs) (d : Device) (old ram cells : List ℕ) (k : Kept b old ram cells) (root : root_of mmu ≡ b + 0x2000) where
  abbrev marks : Bool → List ℕ
  marks store = marked_ram ram (b + 0x2D40) store

  with_mark : (store : Bool) → Kept b old (marks store) cells
  with_mark store = kept_marked b old ram cells k (b + 0x2D40) store (mail_spot b ram mmu k.services root)

  abbrev mail : ℕ → ℕ
  mail j = b + 0xA0000 + 4 * j

  pub loads_word : (j : ℕ) → j < 12 → Moves b mmu d old ram (0xF0010000 + 4 * j) (Load loadings.Word) 0 (slice_index cells j) (mail j) cells
  unfolding moves
  loads_word j less = record { after = marks false; kept = with_mark false; does = done }
    where
      done : moves board mmu (0xF0010000 + 4 * j) (by_supervisor kinds.Load) (Load loadings.Word) 0 (memory_of ram d) ≡ (Done (slice_index cells j) (mail j), memory_of (marks false) d)
      done =
          let fit = k.services.fit in
          ap (λ r. move_through board (by_supervisor kinds.Load) (Load loadings.Word) 0 (memory_of ram d) r) (mail_walk b ram mmu k.services root (4 * j) kinds.Load (omega arith) refl)
          ∙ ap (λ o. move_answered (memory_of ram d) (page (mail j) 3 (b + 0x2D40)) (by_supervisor kinds.Load) (loaded_from (marks false) o))
          (word_loaded (marks false) d (mail j) (slice_index cells j) (omega arith) ((with_mark false).words j less))

  pub stores_word : (j w : ℕ) → j < 12 → w < 2 ^ 32 → Moves b mmu d old ram (0xF0010000 + 4 * j) (Store Word) w 0 (mail j) (slice_set cells j w)
  unfolding moves
  stores_word j w less small = record { after = with_entry (marks true) (mail j) w; kept = kept_stored b old (marks true) cells (with_mark true) j w less small; does = done }
    where
      done : moves board mmu (0xF0010000 + 4 * j) (by_supervisor kinds.Store) (Store Word) w (memory_of ram d) ≡ (Done 0 (mail j), memory_of (with_entry (marks true) (mail j) w) d)
      done =
          let fit = k.services.fit in
          ap (λ r. move_through board (by_supervisor kinds.Store) (Store Word) w (memory_of ram d) r) (mail_walk b ram mmu k.services root (4 * j) kinds.Store (omega arith) refl)
          ∙ ap (λ o. move_answered (memory_of ram d) (page (mail j) 3 (b + 0x2D40)) (by_supervisor kinds.Store) (stored_after 0 o))
          (word_stored (marks true) d (mail j) (slice_index cells j) w (omega arith) ((with_mark true).words j less))

  -- two words, from an even one on
  second_at : (j : ℕ) → mail j + 4 ≡ mail (j + 1)
  second_at j = omega arith

  second_there : (store : Bool) (j : ℕ) → j + 1 < 12 → entry_of (marks store) (mail j + 4) ≡ Some (slice_index cells (j + 1))
  second_there store j less = ap (λ p. entry_of (marks store) p) (second_at j) ∙ (with_mark store).words (j + 1) less

  pub loads_two : (j : ℕ) → j + 1 < 12 → j % 2 ≡ 0 →
      Moves b mmu d old ram (0xF0010000 + 4 * j) (Load loadings.Double) 0 (slice_index cells j * 2 ^ 32 + slice_index cells (j + 1)) (mail j) cells
  unfolding moves
  loads_two j less even = record { after = marks false; kept = with_mark false; does = done }
    where
      done : moves board mmu (0xF0010000 + 4 * j) (by_supervisor kinds.Load) (Load loadings.Double) 0 (memory_of ram d) ≡
          (Done (slice_index cells j * 2 ^ 32 + slice_index cells (j + 1)) (mail j), memory_of (marks false) d)
      done =
          let fit = k.services.fit in
          let distance = k.services.distance in
          ap (λ r. move_through board (by_supervisor kinds.Load) (Load loadings.Double) 0 (memory_of ram d) r) (mail_walk b ram mmu k.services root (4 * j) kinds.Load (omega arith) refl)
          ∙ ap (λ o. move_answered (memory_of ram d) (page (mail j) 3 (b + 0x2D40)) (by_supervisor kinds.Load) (loaded_from (marks false) o))
          (double_loaded (marks false) d (mail j) (slice_index cells j) (slice_index cells (j + 1)) (omega arith) (omega arith)
          ((with_mark false).words j (omega arith)) (second_there false j less))

  abbrev one_after : ℕ → ℕ → List ℕ
  one_after j x = with_entry (marks true) (mail j) x

  abbrev two_after : ℕ → ℕ → ℕ → List ℕ
  two_after j x y = with_entry (one_after j x) (mail (j + 1)) y

  pub stores_two : (j x y : ℕ) → j + 1 < 12 → j % 2 ≡ 0 → x < 2 ^ 32 → y < 2 ^ 32 →
      Moves b mmu d old ram (0xF0010000 + 4 * j) (Store Double) (x * 2 ^ 32 + y) 0 (mail j) (slice_set (slice_set cells j x) (j + 1) y)
  unfolding moves
  stores_two j x y less even small_x small_y = record { after = two_after j x y; kept = kept; does = done }
    where
      kept : Kept b old (two_after j x y) (slice_set (slice_set cells j x) (j + 1) y)
      kept =
          kept_stored b old (one_after j x) (slice_set cells j x) (kept_stored b old (marks true) cells (with_mark true) j x (omega arith) small_x) (j + 1) y less small_y

      done : moves board mmu (0xF0010000 + 4 * j) (by_supervisor kinds.Store) (Store Double) (x * 2 ^ 32 + y) (memory_of ram d) ≡ (Done 0 (mail j), memory_of (two_after j x y) d)
      done =
          let fit = k.services.fit in
          let distance = k.services.distance in
          ap (λ r. move_through board (by_supervisor kinds.Store) (Store Double) (x * 2 ^ 32 + y) (memory_of ram d) r) (mail_walk b ram mmu k.services root (4 * j) kinds.Store (omega arith) refl)
          ∙ ap (λ o. move_answered (memory_of ram d) (page (mail j) 3 (b + 0x2D40)) (by_supervisor kinds.Store) (stored_after 0 o))
          (double_stored (marks true) d (mail j) (slice_index cells j) (slice_index cells (j + 1)) (x * 2 ^ 32 + y) (omega arith) (omega arith)
          ((with_mark true).words j (omega arith)) (second_there true j less))
          ∙ ap (λ (r : List ℕ). (Done 0 (mail j), memory_of r d)) (double_is (marks true) (mail j) x y small_y ∙ ap (λ p. with_entry (one_after j x) p y) (second_at j))

  -- ---- bytes of the buffers

  abbrev buffer_marks : Bool → List ℕ
  buffer_marks store = marked_ram ram (b + 0x2904) store

  with_buffer_mark : (store : Bool) → Kept b old (buffer_marks store) cells
  with_buffer_mark store = kept_marked b old ram cells k (b + 0x2904) store (buffers_spot b ram mmu k.services root)

  in_buffers : (store : Bool) (j : ℕ) → j < 0x40000 → b + 0xC0000 + j < length (buffer_marks store)
  in_buffers store j less = let size = (with_buffer_mark store).services.size in omega arith

  pub loads_byte : (j : ℕ) → j < 0x40000 →
      Moves b mmu d old ram (0xF0040000 + j) (Load loadings.UnsignedByte) 0 (slice_index old (b + 0xC0000 + j)) (b + 0xC0000 + j) cells
  unfolding moves
  loads_byte j less = record { after = buffer_marks false; kept = with_buffer_mark false; does = done }
    where
      same : slice_index (buffer_marks false) (b + 0xC0000 + j) ≡ slice_index old (b + 0xC0000 + j)
      same = (with_buffer_mark false).rest (b + 0xC0000 + j) (inr (omega arith), inr (omega arith))

      done : moves board mmu (0xF0040000 + j) (by_supervisor kinds.Load) (Load loadings.UnsignedByte) 0 (memory_of ram d) ≡
          (Done (slice_index old (b + 0xC0000 + j)) (b + 0xC0000 + j), memory_of (buffer_marks false) d)
      done =
          let fit = k.services.fit in
          ap (λ r. move_through board (by_supervisor kinds.Load) (Load loadings.UnsignedByte) 0 (memory_of ram d) r) (buffers_walk b ram mmu k.services root j kinds.Load less refl)
          ∙ ap (λ o. move_answered (memory_of ram d) (page (b + 0xC0000 + j) 2 (b + 0x2904)) (by_supervisor kinds.Load) (loaded_from (buffer_marks false) o))
          (byte_loaded (buffer_marks false) d (b + 0xC0000 + j) (omega arith) (in_buffers false j less))
          ∙ ap (λ v. (Done v (b + 0xC0000 + j), memory_of (buffer_marks false) d)) same

  pub stores_byte : (j v : ℕ) → j < 0x40000 →
      Moves b mmu d (with_byte old (b + 0xC0000 + j) v) ram (0xF0040000 + j) (Store Byte) v 0 (b + 0xC0000 + j) cells
  unfolding moves
  stores_byte j v less = record { after = with_byte (buffer_marks true) (b + 0xC0000 + j) v; kept = kept_put b old (buffer_marks true) cells (with_buffer_mark true) j v less; does = done }
    where
      done : moves board mmu (0xF0040000 + j) (by_supervisor kinds.Store) (Store Byte) v (memory_of ram d) ≡
          (Done 0 (b + 0xC0000 + j), memory_of (with_byte (buffer_marks true) (b + 0xC0000 + j) v) d)
      done =
          let fit = k.services.fit in
          ap (λ r. move_through board (by_supervisor kinds.Store) (Store Byte) v (memory_of ram d) r) (buffers_walk b ram mmu k.services root j kinds.Store less refl)
          ∙ ap (λ o. move_answered (memory_of ram d) (page (b + 0xC0000 + j) 2 (b + 0x2904)) (by_supervisor kinds.Store) (stored_after 0 o))
          (byte_stored (buffer_marks true) d (b + 0xC0000 + j) v (omega arith) (in_buffers true j less))
