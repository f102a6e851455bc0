-- Turns of user code that begin and end a call where no window trap comes: SAVE and RESTORE.
use Rattle.std.proofs.Common.{◌≡◌, ◌≢◌, ℕ, suc, ◌+◌, ◌-◌, ◌*◌, ◌%◌, ◌^◌, ◌<◌, ◌≤◌, Bool, true, false, List, [], ◌∷◌, Some, None, refl, ap, ◌∙◌, subst, arith}
use Rattle.std.specs.Prelude.{◌==◌, ◌&&◌, ◌||◌}
use Rattle.std.proofs.lemmas.Bool.Decides.{nat_tests}
use Rattle.v8_map.specs.declared.TheConstants.{STACK_END}
use Rattle.v8_core.specs.Three.{Three}
use Rattle.v8_core.specs.Admitted.{is_admitted}
use Rattle.v8_core.specs.Operands.{address}
use Rattle.v8_core.specs.Operation.TheVariants.{Restore, Save}
use Rattle.v8_core.specs.Windows.{Windows, above, below, can_enter, moved, with_reg}
use Rattle.v8_core.specs.MmuRegs.{MmuRegs}
use Rattle.v8_core.specs.Effects.{address_of, advanced as board_advanced, effect, written as board_written}
use Rattle.v8_core.specs.Cpu.{Cpu}
use Rattle.v8_core.specs.declared.turn.Event.TheVariants.{Ran}
use Rattle.v8_core.specs.Accesses.{World, world}
use Rattle.v8_core.specs.Steps.{turn_of}
use Rattle.v8_loaded.specs.Board.{Device}
use Rattle.v8_loaded.specs.Users.{AsksFor}
use Rattle.v8_loaded.proofs.Windows.{above_within, below_within}
use Rattle.v8_routines.proofs.Frames.{file_moved}
use Rattle.v8_contained.proofs.Files.{file_reg}
use Rattle.v8_board.specs.Start.{pages_of}
use Rattle.v8_board.proofs.Placed.{pages_few}
use Rattle.sbx_flat.specs.Parts.{Parts}
use Rattle.sbx_flat.specs.Effects.{is_base, restores}
use Rattle.sbx_flat.specs.Registers.{Frame, Fresh, IsFresh, Registers, popped, pushed}
use Rattle.sbx_flat.specs.States.{Goes, State, advanced, reg, with_reg as flat_with_reg}
use Rattle.sbx_flat.specs.Turns.{IsWrong}
use Rattle.sbx_flat.specs.declared.path.Wrong.TheVariants.{BadFrame, NoCaller, StackPointer}
use Rattle.sbx_flat.specs.Calls.{base, cell}
use Rattle.sbx_flat.specs.WellFormed.{IsStacked}
use Rattle.sbx_shows.specs.Shows.{Shows, ShowsCalls, ShowsSaved, ShowsSlots}
use Rattle.sbx_shows.specs.Steps.{OneTurn, Stands}
use Rattle.sbx_shows.proofs.Distances.{below_is}
use Rattle.sbx_shows.proofs.Fields.{ThreeIn}
use Rattle.sbx_shows.proofs.Frames.{IsBase, called, calls_begun, calls_ended, ended, found_fresh, found_is_fresh, saved_begun, saved_ended, slots_begun, slots_ended, stacked_begun, stacked_ended}
use Rattle.sbx_shows.proofs.Places.{fails_not, fetched, fields, marks, not_stack, plain_turn, same_address, word}
use Rattle.sbx_shows.proofs.Processor.{calm_restore, calm_save}
use Rattle.sbx_shows.proofs.Reading.{may_enter}
use Rattle.sbx_shows.proofs.Stacks.{stack_count}
use Rattle.sbx_shows.proofs.Users.{device_kept, marked_shows, next_shows, register_shows}

module _ (n : ℕ) (parts : Parts) (mmu : MmuRegs) (x : World n Device) (s : State) (r i : ℕ) (h : Stands n parts mmu x s r i) where
  abbrev c : Cpu n
  c = x.cpu

  abbrev v : Windows
  v = x.cpu.regs

  abbrev ram : List ℕ
  ram = fetched n parts mmu x s r i h

  marked : Shows n parts (world n c ram x.memory.device) s r
  marked = marked_shows n parts x s r ram h.shows (marks n parts mmu x s r i h)

  abbrev found : Fresh
  found = found_fresh n v ram

  found_words : IsFresh found
  found_words = found_is_fresh n v ram h.shows.file marked.loaded.tables.size marked.stack

  -- ---- a SAVE

  new_base : (b : ℕ) → is_base parts (reg s 14) b ≡ true → IsBase (pages_of parts).stack_count s.registers b
  unfolding reg cell
  new_base b well_placed =
      let count = stack_count parts h.fits in
      let top : base s.registers 0 ≡ reg s 14 = refl in
      let aligned : b % 8 ≡ 0 = grind (arith, nat_tests, well_placed) in
      let under : b + 64 ≤ reg s 14 = grind (arith, nat_tests, well_placed) in
      let low : STACK_END - 4096 * parts.stack_pages ≤ b = grind (arith, nat_tests, well_placed) in
      record { aligned = aligned; under = omega arith; low = omega arith }

  -- the board in the window below, with the new call as newest
  abbrev begun : ℕ → World n Device
  begun b = world n (record { regs = with_reg n (moved v (below n v.current)) 14 b; control = c.control }) ram x.memory.device

  abbrev begun_state : ℕ → State
  begun_state b = record s { registers = pushed found b s.registers }

  begins : (b : ℕ) → r + 1 < n → b < 2 ^ 32 → IsBase (pages_of parts).stack_count s.registers b → Shows n parts (begun b) (begun_state b) (suc r)
  begins b free small o =
      let few = (pages_few parts).stack in
      let count = (pages_of parts).stack_count in
      let m = marked in
      record {
        file = file_reg n (moved v (below n v.current)) 14 b (file_moved n v (below n v.current) m.file (below_within n v.current m.file.few m.file.many m.file.current)) small;
        calls = calls_begun n v s.registers r b ram m.file m.calls free;
        stacked = stacked_begun count s.registers found b m.stacked o;
        saved = saved_begun count s.registers found b m.stacked o r ram m.saved;
        slots = slots_begun n count v s.registers b ram m.stacked o few m.loaded.tables.size m.slots;
        stack = m.stack;
        bytes = m.bytes;
        control = record {
          pc = m.control.pc;
          npc = m.control.npc;
          npc_word = m.control.npc_word;
          npc_whole = m.control.npc_whole;
          annul =
              m.control.annul;
          icc = m.control.icc;
          y = m.control.y;
          y_word = m.control.y_word;
          user = m.control.user;
          traps = m.control.traps;
          sane =
              m.control.sane;
          table = m.control.table;
        };
        device = device_kept x.memory.device s (begun_state b) refl refl m.device;
        going = m.going;
        loaded = m.loaded;
        marks = m.marks;
      }

  abbrev saved_cpu : ℕ → Cpu n
  saved_cpu b = record { regs = with_reg n (moved v (below n v.current)) 14 b; control = board_advanced c.control }

  saves_to : (f : Three) (b : ℕ) → f.rd ≡ 14 → address_of n c f.rs1 f.operand2 ≡ b → effect n c (Save f) ≡ saved_cpu b
  unfolding effect board_written
  saves_to f b rd place =
      ap (λ d. board_written n (record c { regs = moved v (below n v.current) }) d (address_of n c f.rs1 f.operand2)) rd
      ∙ ap (λ a. board_written n (record c { regs = moved v (below n v.current) }) 14 a) place

  pub save_turn : (f : Three) → AsksFor parts.words i (Save f) → (IsWrong parts s → ⊥) → r + 1 < n → OneTurn n parts mmu x s (Save f) (suc r)
  unfolding is_admitted
  save_turn f is good free = by_test ((f.rd == 14) && is_base parts (reg s 14) b) refl
    where
      b : ℕ
      b = address (reg s) f.rs1 f.operand2

      fit : ThreeIn f
      fit = fields n parts mmu x s r i h (Save f) is

      by_test : (t : Bool) → ((f.rd == 14) && is_base parts (reg s 14) b) ≡ t → OneTurn n parts mmu x s (Save f) (suc r)
      by_test false e = absurd (fails_not n parts mmu x s r i h (Save f) is refl good BadFrame (rw e refl))
      by_test true e =
          let rd : f.rd ≡ 14 = grind (arith, nat_tests, e) in
          let well_placed : is_base parts (reg s 14) b ≡ true = grind (arith, nat_tests, e) in
          let few = h.shows.file.few in
          let same = same_address n parts mmu x s r i h f.rs1 f.operand2 fit.first fit.second in
          let open_window : can_enter v (below n v.current) ≡ true =
          ap (can_enter v) (below_is n v.current few) ∙ may_enter n v s.registers r (n - 1) h.shows.file h.shows.calls (omega arith) (omega arith) in
          record {
            fresh = found;
            is_fresh = found_words;
            next_state = advanced (begun_state b);
            goes = rw e refl;
            word = word n parts mmu x s r i h;
            access = None;
            new = world n (saved_cpu b) ram x.memory.device;
            turn = plain_turn n parts mmu x s r i h (Save f) is (calm_save n c f open_window) (λ y. refl)
                ∙ ap (λ (k : Cpu n). (turn_of n c Ran (Some (word n parts mmu x s r i h)) None, world n k ram x.memory.device)) (saves_to f b rd same);
            reaches = tt;
            shows = next_shows n parts (begun b) (begun_state b) (suc r) (begins b free (omega arith) (new_base b well_placed));
          }

  -- ---- a RESTORE

  -- the board in the window above, with the caller as newest
  abbrev risen : World n Device
  risen = world n (record { regs = moved v (above n v.current); control = c.control }) ram x.memory.device

  abbrev risen_state : Frame → List Frame → State
  risen_state caller older = record s { registers = ended s.registers caller older }

  same_file : (caller : Frame) (older : List Frame) → s.registers.older ≡ caller ∷ older → s.registers ≡ called s.registers caller older
  same_file caller older e = ap (λ o. record s.registers { older = o }) e

  rises : (caller : Frame) (older : List Frame) → s.registers.older ≡ caller ∷ older → 2 ≤ r → Shows n parts risen (risen_state caller older) (r - 1)
  rises caller older e two =
      let m = marked in
      let same = same_file caller older e in
      let count = (pages_of parts).stack_count in
      let one : r ≡ suc (r - 1) = omega arith in
      let calls = subst (λ q. ShowsCalls n v (called s.registers caller older) q) one (subst (λ (g : Registers). ShowsCalls n v g r) same m.calls) in
      let saved = subst (λ q. ShowsSaved (called s.registers caller older) q ram) one (subst (λ (g : Registers). ShowsSaved g r ram) same m.saved) in
      record {
        file = file_moved n v (above n v.current) m.file (above_within n v.current m.file.few m.file.many m.file.current);
        calls = calls_ended n v s.registers caller older (r - 1) m.file calls (omega arith);
        stacked = stacked_ended count s.registers caller older (subst (λ (g : Registers). IsStacked count g) same m.stacked);
        saved = saved_ended (r - 1) ram s.registers caller older saved;
        slots = slots_ended ram s.registers caller older (subst (λ (g : Registers). ShowsSlots g ram) same m.slots);
        stack = m.stack;
        bytes = m.bytes;
        control = record {
          pc = m.control.pc;
          npc = m.control.npc;
          npc_word = m.control.npc_word;
          npc_whole = m.control.npc_whole;
          annul =
              m.control.annul;
          icc = m.control.icc;
          y = m.control.y;
          y_word = m.control.y_word;
          user = m.control.user;
          traps = m.control.traps;
          sane =
              m.control.sane;
          table = m.control.table;
        };
        device = device_kept x.memory.device s (risen_state caller older) refl refl m.device;
        going = m.going;
        loaded = m.loaded;
        marks = m.marks;
      }

  none_is : s.registers.older ≡ [] → popped s.registers ≡ None
  none_is e = ap (λ o. popped (record s.registers { older = o })) e

  popped_is : (caller : Frame) (older : List Frame) → s.registers.older ≡ caller ∷ older → popped s.registers ≡ Some (ended s.registers caller older)
  popped_is caller older e = ap popped (same_file caller older e)

  abbrev restored_cpu : ℕ → ℕ → Cpu n
  restored_cpu rd a = record { regs = with_reg n (moved v (above n v.current)) rd a; control = board_advanced c.control }

  restores_to : (f : Three) (a : ℕ) → address_of n c f.rs1 f.operand2 ≡ a → effect n c (Restore f) ≡ restored_cpu f.rd a
  unfolding effect board_written
  restores_to f a place = ap (λ a. board_written n (record c { regs = moved v (above n v.current) }) f.rd a) place

  -- a RESTORE of a state that does not fail has a caller, and writes neither %sp nor %fp
  pub record Returns (f : Three) : Type 0 where
    pub caller : Frame
    pub older : List Frame
    pub is : s.registers.older ≡ caller ∷ older
    pub not_sp : f.rd ≢ 14
    pub not_fp : f.rd ≢ 30

  pub returns : (f : Three) → AsksFor parts.words i (Restore f) → (IsWrong parts s → ⊥) → Returns f
  unfolding is_admitted
  returns f is good = by_older s.registers.older refl
    where
      a : ℕ
      a = address (reg s) f.rs1 f.operand2

      by_rd : (caller : Frame) (older : List Frame) → s.registers.older ≡ caller ∷ older → (t : Bool) → ((f.rd == 14) || (f.rd == 30)) ≡ t → Returns f
      by_rd caller older e true p =
          absurd (fails_not n parts mmu x s r i h (Restore f) is refl good StackPointer (ap (λ o. restores f.rd (address (reg s) f.rs1 f.operand2) o s) (popped_is caller older e) ∙ rw p refl))
      by_rd caller older e false p = record { caller = caller; older = older; is = e; not_sp = grind (arith, nat_tests, p); not_fp = grind (arith, nat_tests, p) }

      by_older : (o : List Frame) → s.registers.older ≡ o → Returns f
      by_older [] e = absurd (fails_not n parts mmu x s r i h (Restore f) is refl good NoCaller (ap (λ o. restores f.rd (address (reg s) f.rs1 f.operand2) o s) (none_is e)))
      by_older (caller ∷ older) e = by_rd caller older e ((f.rd == 14) || (f.rd == 30)) refl

  pub restore_turn : (f : Three) → AsksFor parts.words i (Restore f) → (IsWrong parts s → ⊥) → 2 ≤ r → OneTurn n parts mmu x s (Restore f) (r - 1)
  restore_turn f is good two =
      let back = returns f is good in
      let fit : ThreeIn f = fields n parts mmu x s r i h (Restore f) is in
      let few = h.shows.file.few in
      let most = h.shows.calls.most in
      let a = address (reg s) f.rs1 f.operand2 in
      let same = same_address n parts mmu x s r i h f.rs1 f.operand2 fit.first fit.second in
      let open_window : can_enter v (above n v.current) ≡ true = may_enter n v s.registers r 1 h.shows.file h.shows.calls (omega arith) (omega arith) in
      let t = risen_state back.caller back.older in
      let up = rises back.caller back.older back.is two in
      let wrote = register_shows n parts risen t (r - 1) f.rd a up fit.destination back.not_sp back.not_fp (omega arith) in
      record {
        fresh = found;
        is_fresh = found_words;
        next_state = advanced (flat_with_reg f.rd a t);
        goes = ap (λ o. restores f.rd a o s) (popped_is back.caller back.older back.is) ∙ not_stack f.rd (Goes (advanced (flat_with_reg f.rd a t))) back.not_sp back.not_fp;
        word = word n parts mmu x s r i h;
        access = None;
        new = world n (restored_cpu f.rd a) ram x.memory.device;
        turn = plain_turn n parts mmu x s r i h (Restore f) is (calm_restore n c f open_window) (λ y. refl)
            ∙ ap (λ (k : Cpu n). (turn_of n c Ran (Some (word n parts mmu x s r i h)) None, world n k ram x.memory.device)) (restores_to f a same);
        reaches = tt;
        shows = next_shows n parts (world n (record { regs = with_reg n (moved v (above n v.current)) f.rd a; control = c.control }) ram x.memory.device) (flat_with_reg f.rd a t) (r - 1) wrote;
      }
