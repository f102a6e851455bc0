-- A slot of the newest call written, and the page that its access marks.
use Rattle.std.proofs.Common.{◌≡◌, ◌≢◌, ℕ, zero, suc, ◌+◌, ◌-◌, ◌*◌, ◌/◌, ◌%◌, ◌^◌, ◌<◌, ◌≤◌, ◌⊎◌, inl, inr, Bool, true, false, List, length, Some, refl, sym, ap, ◌∙◌, subst, arith}
use Rattle.std.specs.Prelude.{◌==◌, if◌then◌else◌}
use Rattle.std.proofs.lemmas.Bool.Decides.{nat_tests}
use Rattle.v8_loaded.specs.Areas.{area_of}
use Rattle.v8_map.specs.declared.TheConstants.{CODE_TABLE, DATA_END, STACK_LOWEST, STACK_END, RAM}
use Rattle.v8_core.specs.Ram.{entry_of, with_entry}
use Rattle.v8_core.specs.Paths.{marked_ram}
use Rattle.v8_mmu.proofs.RamLemmas.{Within, entry_is, entry_of-with_entry}
use Rattle.v8_mmu.proofs.RamMore.{byte_beside_entry, entry_elsewhere}
use Rattle.v8_core.specs.Accesses.{World, world}
use Rattle.v8_layout.proofs.Marks.{Markable, mark_keeps, sides, stack_markable, store_keeps}
use Rattle.v8_loaded.specs.Board.{Device}
use Rattle.v8_loaded.specs.Places.{stack_entry_place}
use Rattle.v8_board.specs.Start.{pages_of}
use Rattle.v8_board.proofs.Placed.{pages_few}
use Rattle.sbx_flat.specs.Parts.{Parts}
use Rattle.sbx_flat.specs.Registers.{Registers, with_slot}
use Rattle.sbx_flat.specs.States.{State}
use Rattle.sbx_flat.specs.OwnPages.{is_own_data_page}
use Rattle.sbx_flat.specs.Calls.{base, cell, slot}
use Rattle.sbx_flat.specs.WellFormed.{IsSlot, IsStacked}
use Rattle.sbx_shows.specs.Shows.{Fits, HasStack, Shows, ShowsSaved, ShowsSlots, data_area}
use Rattle.sbx_shows.proofs.Kept.{marked_same}
use Rattle.sbx_shows.proofs.Pages.{owned, mark_own, own_by}
use Rattle.sbx_shows.proofs.Stacks.{stack_own}
use Rattle.sbx_shows.proofs.Users.{OnlyMarks, device_kept}

-- ---- a slot written, with the calls' 64 bytes, the other slots and the data

cell_slot : (a w : ℕ) (file : Registers) (k j : ℕ) → cell (with_slot a w file) k j ≡ cell file k j
unfolding cell
cell_slot a w file zero j = refl
cell_slot a w file (suc k) j = refl

slot_older : (a w : ℕ) (file : Registers) (k b : ℕ) → slot (with_slot a w file) (suc k) b ≡ slot file (suc k) b
unfolding slot
slot_older a w file k b = refl

slot_newest : (a w : ℕ) (file : Registers) (b : ℕ) → slot (with_slot a w file) 0 b ≡ (if b == a then Some w else slot file 0 b)
unfolding slot
slot_newest a w file b = refl

module _ (pages r : ℕ) (file : Registers) (ram : List ℕ) (a w : ℕ) (few : pages ≤ 16) (size : length ram ≡ RAM) (st : IsStacked pages file) (o : IsSlot file 0 a) (small : w < 2 ^ 32) where
  abbrev stored : List ℕ
  stored = with_entry ram (area_of a) w

  abbrev file_stored : Registers
  file_stored = with_slot a w file

  low : STACK_LOWEST ≤ a
  low = let base_low = st.low 0 (omega arith) in let above = o.low in omega arith

  there : Within ram (area_of a)
  there = let from = low in let to = o.high in let four = o.aligned in record { aligned = omega arith; fits = omega arith }

  beside_word : (p : ℕ) → (p + 4 ≤ area_of a) ⊎ (area_of a + 4 ≤ p) → entry_of stored p ≡ entry_of ram p
  beside_word p apart = entry_elsewhere ram (area_of a) p w there apart

  pub stacked_stored : IsStacked pages file_stored
  stacked_stored = record {
    aligned = λ k less. ap (λ b. b % 8) (cell_slot a w file k 6) ∙ st.aligned k less;
    low = λ k less. let e : base file_stored k ≡ base file k = cell_slot a w file k 6 in let from = st.low k less in omega arith;
    high = λ k less. let e : base file_stored k ≡ base file k = cell_slot a w file k 6 in let to = st.high k less in omega arith;
    apart = λ k i b d. let e : base file_stored k ≡ base file k = cell_slot a w file k 6 in let f : base file_stored i ≡ base file i = cell_slot a w file i 6 in
        let apart = st.apart k i b d in omega arith;
  }

  -- the older calls' 64 bytes are above the newest one's slots
  pub saved_stored : 1 ≤ r → ShowsSaved file r ram → ShowsSaved file_stored r stored
  saved_stored some h =
      let from = low in
      record {
        locals = λ k j x y z.
            let under = o.below k (omega arith) y in
            ap (λ q. entry_of stored (area_of q + 4 * j)) (cell_slot a w file k 6) ∙ beside_word (area_of (base file k) + 4 * j) (inr (omega arith))
            ∙ h.locals k j x y z ∙ ap Some (sym (cell_slot a w file k (8 + j)));
        ins = λ k j x y z.
            let under = o.below k (omega arith) y in
            ap (λ q. entry_of stored (area_of q + 32 + 4 * j)) (cell_slot a w file k 6) ∙ beside_word (area_of (base file k) + 32 + 4 * j) (inr (omega arith))
            ∙ h.ins k j x y z ∙ ap Some (sym (cell_slot a w file (suc k) j));
      }

  place_stored : (k b : ℕ) → IsSlot file k b → IsSlot file_stored k b
  place_stored k b p =
      let e : base file_stored k ≡ base file k = cell_slot a w file k 6 in
      let from = p.low in
      record { aligned = p.aligned; low = omega arith; high = p.high; below = λ i x y. let f : base file_stored i ≡ base file i = cell_slot a w file i 6 in let under = p.below i x y in omega arith }

  pub slots_stored : ShowsSlots file ram → ShowsSlots file_stored stored
  slots_stored h zero b u less is =
      let split : (b ≡ a) ⊎ (b ≢ a) = search arith in
      elim split [
        | inl same ↦
            let test : (b == a) ≡ true = grind (arith, nat_tests) in
            let value : Some w ≡ Some u = sym (ap (λ (t : Bool). if t then Some w else slot file 0 b) test) ∙ sym (slot_newest a w file b) ∙ is in
            record {
              place = place_stored 0 b (subst (λ q. IsSlot file 0 q) (sym same) o);
              there = ap (λ q. entry_of stored (area_of q)) same ∙ entry_of-with_entry ram (area_of a) w there small ∙ value;
            }
        | inr other ↦
            let test : (b == a) ≡ false = grind (arith, nat_tests) in
            let old : slot file 0 b ≡ Some u = sym (ap (λ (t : Bool). if t then Some w else slot file 0 b) test) ∙ sym (slot_newest a w file b) ∙ is in
            let p = h 0 b u less old in
            let from = low in
            let mine = p.place.low in
            let floor = st.low 0 less in
            let apart = sides b a p.place.aligned o.aligned other in
            record {
              place = place_stored 0 b p.place;
              there = beside_word (area_of b) (elim apart [ inl x ↦ inl (omega arith) | inr x ↦ inr (omega arith) ]) ∙ p.there;
            }
      ]
  slots_stored h (suc k) b u less is =
      let p = h (suc k) b u less (sym (slot_older a w file k b) ∙ is) in
      let under = o.below (suc k) (omega arith) less in
      let from = low in
      let mine = p.place.low in
      record { place = place_stored (suc k) b p.place; there = beside_word (area_of b) (inr (omega arith)) ∙ p.there }

  pub stack_stored : HasStack ram → HasStack stored
  stack_stored h p u above is =
      let from = low in
      let split : (p ≡ area_of a) ⊎ (p ≢ area_of a) = search arith in
      let whole_p = (entry_is stored p u is).0.aligned in
      elim split [
        | inl same ↦
            let value : Some w ≡ Some u = sym (entry_of-with_entry ram (area_of a) w there small) ∙ ap (entry_of stored) (sym same) ∙ is in
            let e : w ≡ u = cc in
            subst (λ q. q < 2 ^ 32) e small
        | inr other ↦ h p u above (sym (beside_word p (sides p (area_of a) whole_p there.aligned other)) ∙ is)
      ]

-- ---- pages of the stack

at_stack_entry : (parts : Parts) (a k : ℕ) → STACK_LOWEST ≤ a → a < STACK_END → stack_entry_place a ≡ CODE_TABLE + 4 * k → 0x40 + k ≡ a / 4096
at_stack_entry parts a k low high e = omega arith

pub stack_marks : (n : ℕ) (parts : Parts) (old mid : List ℕ) (a : ℕ) (store : Bool) → Fits parts → OnlyMarks n parts old mid →
    STACK_END ≤ a + 4096 * (pages_of parts).stack_count → a < STACK_END → OnlyMarks n parts old (marked_ram mid (stack_entry_place a) store)
stack_marks n parts old mid a store fits m low high =
    let few = (pages_few parts).stack in
    let t = 0x9006 + 0x100 * ((a - DATA_END) / 4096 - 48) in
    let can : Markable mid (stack_entry_place a) t = stack_markable (pages_of parts) mid m.loaded.tables (pages_few parts) ((a - DATA_END) / 4096) (omega arith) (omega arith) in
    let here = marked_same mid (stack_entry_place a) t store can in
    let own : (write : Bool) → is_own_data_page parts write (a / 4096) ≡ true = λ (write : Bool). stack_own parts write a fits low high in
    record {
      same = record { words = λ p above. here.words p above ∙ m.same.words p above; bytes = λ p above. here.bytes p above ∙ m.same.bytes p above };
      loaded = mark_keeps n (pages_of parts) parts.words mid (stack_entry_place a) t store m.loaded can;
      marks = mark_own parts mid (stack_entry_place a) t store can
          (λ k less e. owned parts (0x40 + k) (subst (λ q. is_own_data_page parts false q ≡ true) (sym (at_stack_entry parts a k (omega arith) high e)) (own false)))
          (λ k less e is. subst (λ q. is_own_data_page parts true q ≡ true) (sym (at_stack_entry parts a k (omega arith) high e)) (own true))
          m.marks;
    }

-- ---- all that is shown

pub slot_stored_shows : (n : ℕ) (parts : Parts) (x : World n Device) (s : State) (r a old v : ℕ) → Fits parts → Shows n parts x s r → slot s.registers 0 a ≡ Some old → v < 2 ^ 32 →
    Shows n parts (world n x.cpu (with_entry x.memory.ram (area_of a) v) x.memory.device) (record s { registers = with_slot a v s.registers }) r
slot_stored_shows n parts x s r a old v fits h held small =
    let few = (pages_few parts).stack in
    let count = (pages_of parts).stack_count in
    let p = h.slots 0 a old (omega arith) held in
    let floor = h.stacked.low 0 (omega arith) in
    let above = p.place.low in
    let top = p.place.high in
    let four = p.place.aligned in
    let ram = x.memory.ram in
    let size = h.loaded.tables.size in
    let most = fits.pages in
    let there : Within ram (area_of a) = record { aligned = omega arith; fits = omega arith } in
    let t = record s { registers = with_slot a v s.registers } in
    record {
      file = h.file;
      calls = record {
        some = h.calls.some;
        most = h.calls.most;
        open_calls = h.calls.open_calls;
        mask = h.calls.mask;
        globals = h.calls.globals;
        outs = λ k j b d. h.calls.outs k j b d ∙ sym (cell_slot a v s.registers k j);
        locals = λ k j b d e. h.calls.locals k j b d e ∙ sym (cell_slot a v s.registers k j);
      };
      stacked = stacked_stored count r s.registers ram a v few size h.stacked p.place small;
      saved = saved_stored count r s.registers ram a v few size h.stacked p.place small h.calls.some h.saved;
      slots = slots_stored count r s.registers ram a v few size h.stacked p.place small h.slots;
      stack = stack_stored count r s.registers ram a v few size h.stacked p.place small h.stack;
      bytes = λ q b is.
          let o = h.bytes q b is in
          let from = o.low in
          let to = o.high in
          record { low = o.low; high = o.high; small = o.small; there = byte_beside_entry ram (area_of a) v (data_area q) (omega arith) (inl (omega arith)) ∙ o.there };
      control = record {
        pc = h.control.pc;
        npc = h.control.npc;
        npc_word = h.control.npc_word;
        npc_whole = h.control.npc_whole;
        annul = h.control.annul;
        icc =
            h.control.icc;
        y = h.control.y;
        y_word = h.control.y_word;
        user = h.control.user;
        traps = h.control.traps;
        sane = h.control.sane;
        table =
            h.control.table;
      };
      device = device_kept x.memory.device s t refl refl h.device;
      going = h.going;
      loaded = store_keeps n (pages_of parts) parts.words ram (area_of a) v (pages_few parts) h.loaded (omega arith) (omega arith) (omega arith);
      marks = own_by parts ram (with_entry ram (area_of a) v) (λ k less. entry_elsewhere ram (area_of a) (CODE_TABLE + 4 * k) v there (inl (omega arith))) h.marks;
    }
