-- A RESTORE that finds its window marked: the 24 turns of its trap keep what the board shows, with one call more in windows.
use Rattle.std.proofs.Common.{◌≡◌, ℕ, zero, suc, ◌+◌, ◌-◌, ◌*◌, ◌%◌, ◌^◌, ◌<◌, ◌≤◌, inl, List, Some, refl, sym, ap, ◌∙◌, subst, arith}
use Rattle.std.specs.Prelude.{slice_index}
use Rattle.v8_map.specs.declared.TheConstants.{STACK_LOWEST, STACK_END, TABLES_END}
use Rattle.v8_core.specs.Three.{Three}
use Rattle.v8_core.specs.Operation.TheVariants.{Restore}
use Rattle.v8_core.specs.Ram.{entry_of}
use Rattle.v8_core.specs.MmuRegs.{MmuRegs}
use Rattle.v8_core.specs.Windows.{word_at}
use Rattle.v8_core.specs.Control.{Control}
use Rattle.v8_core.specs.Accesses.{World}
use Rattle.v8_loaded.specs.Board.{Device, board}
use Rattle.v8_loaded.specs.Areas.{HasFrame, area_of}
use Rattle.v8_loaded.specs.Places.{entered_window}
use Rattle.v8_loaded.specs.Turns.{world_after}
use Rattle.v8_loaded.specs.Users.{AsksFor}
use Rattle.v8_routines.specs.Underflow.{Handled, Refilled, Underflows, next_window, stack_pointer}
use Rattle.v8_routines.proofs.UnderflowLaw.{underflow_law}
use Rattle.v8_board.specs.Start.{pages_of}
use Rattle.v8_board.proofs.Placed.{pages_few}
use Rattle.sbx_flat.specs.Parts.{Parts}
use Rattle.sbx_flat.specs.States.{State}
use Rattle.sbx_flat.specs.Calls.{base, cell, depth}
use Rattle.sbx_shows.specs.Shows.{HasStack, Shows, ShowsCalls, ShowsControl, ShowsData, ShowsDevice, ShowsSaved, ShowsSlots, window, data_area}
use Rattle.sbx_shows.specs.Steps.{Stands}
use Rattle.sbx_shows.proofs.Distances.{below_is, same_distance, window_above}
use Rattle.sbx_shows.proofs.Places.{room as code_within, user}
use Rattle.sbx_shows.proofs.Stacks.{handled_own}

module _ (n : ℕ) (parts : Parts) (mmu : MmuRegs) (x : World n Device) (s : State) (i : ℕ) (stands : Stands n parts mmu x s 1 i) (f : Three)
    (is : AsksFor parts.words i (Restore f)) (caller : 2 ≤ depth s.registers) where
  abbrev h : Shows n parts x s 1
  h = stands.shows

  abbrev c : ℕ
  c = x.cpu.regs.current

  abbrev old : List ℕ
  old = x.memory.ram

  abbrev end : World n Device
  end = world_after board n mmu 24 x

  entered_is : entered_window n x.cpu ≡ window n c (n - 1)
  entered_is = below_is n c h.file.few

  next_is : next_window n x.cpu ≡ window n c 2
  next_is = window_above n c 1 h.file.few h.file.current

  pub pointer_is : stack_pointer n x.cpu ≡ base s.registers 1
  pointer_is = h.calls.outs 1 6 (omega arith) (omega arith)

  low_base : STACK_LOWEST ≤ base s.registers 1
  low_base = let low = h.stacked.low 1 (omega arith) in let few = (pages_few parts).stack in omega arith

  pub underflows : Underflows n (pages_of parts) parts.words mmu x i
  underflows = record { user = user n parts mmu x s 1 i stands; mask = h.calls.mask; restores = (f, is) }

  pub frame : HasFrame (pages_of parts) old (stack_pointer n x.cpu)
  frame =
      let low = low_base in
      record {
        room = record {
          aligned = ap (λ p. p % 8) pointer_is ∙ h.stacked.aligned 1 (omega arith);
          low = subst (λ p. STACK_END ≤ p + 4096 * (pages_of parts).stack_count) (sym pointer_is) (h.stacked.low 1 (omega arith));
          high = subst (λ p. p + 64 ≤ STACK_END) (sym pointer_is) (h.stacked.high 1 (omega arith));
        };
        words = λ j w small there. let e = pointer_is in h.stack (area_of (stack_pointer n x.cpu) + 4 * j) w (omega arith) there;
      }

  pub handled : Handled n (pages_of parts) parts.words mmu x i
  handled = underflow_law n (pages_of parts) parts.words mmu x i underflows frame

  refilled : Refilled n (pages_of parts) parts.words x end i
  refilled = handled.refilled

  -- ---- registers

  window_kept : (k j : ℕ) → k < n → (k ≡ 1 → j < 8) → (k ≡ 2 → 8 ≤ j) → (k ≡ n - 1 → j < 8) → word_at end.cpu.regs (window n end.cpu.regs.current k) j ≡ word_at x.cpu.regs (window n c k) j
  window_kept k j less one two last =
      let few = h.file.few in
      ap (λ q. word_at end.cpu.regs (window n q k) j) refilled.cpu.current
      ∙ refilled.cpu.kept (window n c k) j
      (λ e. one (same_distance n c k 1 h.file.current less (omega arith) e))
      (λ e. two (same_distance n c k 2 h.file.current less (omega arith) (e ∙ next_is)))
      (λ e. last (same_distance n c k (n - 1) h.file.current less (omega arith) (e ∙ entered_is)))

  same_word : (v w : ℕ) → Some v ≡ Some w → v ≡ w
  same_word v w e = cc

  local_there : (j : ℕ) → j < 8 → word_at end.cpu.regs (window n c 1) (8 + j) ≡ cell s.registers 1 (8 + j)
  local_there j small =
      same_word (word_at end.cpu.regs (window n c 1) (8 + j)) (cell s.registers 1 (8 + j))
      (sym (refilled.window.locals j small) ∙ ap (λ p. entry_of old (area_of p + 4 * j)) pointer_is ∙ h.saved.locals 1 j (omega arith) (omega arith) small)

  in_there : (j : ℕ) → j < 8 → word_at end.cpu.regs (window n c 2) j ≡ cell s.registers 2 j
  in_there j small =
      ap (λ w. word_at end.cpu.regs w j) (sym next_is)
      ∙ same_word (word_at end.cpu.regs (next_window n x.cpu) j) (cell s.registers 2 j)
      (sym (refilled.window.ins j small) ∙ ap (λ p. entry_of old (area_of p + 32 + 4 * j)) pointer_is ∙ h.saved.ins 1 j (omega arith) (omega arith) small)

  outs_there : (k j : ℕ) → k ≤ 2 → j < 8 → word_at end.cpu.regs (window n end.cpu.regs.current k) j ≡ cell s.registers k j
  outs_there zero j less small = let few = h.file.few in window_kept 0 j (omega arith) (λ e. small) (λ e. absurd (omega arith)) (λ e. small) ∙ h.calls.outs 0 j (omega arith) small
  outs_there (suc zero) j less small = let few = h.file.few in window_kept 1 j (omega arith) (λ e. small) (λ e. absurd (omega arith)) (λ e. small) ∙ h.calls.outs 1 j (omega arith) small
  outs_there (suc (suc zero)) j less small = ap (λ q. word_at end.cpu.regs (window n q 2) j) refilled.cpu.current ∙ in_there j small
  outs_there (suc (suc (suc k))) j less small = absurd (omega arith)

  locals_there : (k j : ℕ) → k < 2 → 8 ≤ j → j < 16 → word_at end.cpu.regs (window n end.cpu.regs.current k) j ≡ cell s.registers k j
  locals_there zero j less low high = let few = h.file.few in
      window_kept 0 j (omega arith) (λ e. absurd (omega arith)) (λ e. low) (λ e. absurd (omega arith)) ∙ h.calls.locals 0 j (omega arith) low high
  locals_there (suc zero) j less low high =
      let back : 8 + (j - 8) ≡ j = omega arith in
      ap (λ q. word_at end.cpu.regs (window n q 1) j) refilled.cpu.current
      ∙ subst (λ q. word_at end.cpu.regs (window n c 1) q ≡ cell s.registers 1 q) back (local_there (j - 8) (omega arith))
  locals_there (suc (suc k)) j less low high = absurd (omega arith)

  calls : ShowsCalls n end.cpu.regs s.registers 2
  calls =
      let few = h.file.few in
      record {
        some = omega arith;
        most = omega arith;
        open_calls = caller;
        mask = refilled.cpu.mask ∙ ap (λ w. 2 ^ w) next_is ∙ ap (λ q. 2 ^ window n q 2) (sym refilled.cpu.current);
        globals = λ k a b. ap (λ (gs : List ℕ). slice_index gs k) refilled.cpu.globals ∙ h.calls.globals k a b;
        outs = outs_there;
        locals = locals_there;
      }

  -- ---- RAM

  same : (p : ℕ) → TABLES_END ≤ p → entry_of end.memory.ram p ≡ entry_of old p
  same p high = refilled.ram.words p high (inl refl)

  saved : ShowsSaved s.registers 2 end.memory.ram
  saved =
      let few = (pages_few parts).stack in
      record {
        locals = λ k j a b d. let low = h.stacked.low k b in same (area_of (base s.registers k) + 4 * j) (omega arith) ∙ h.saved.locals k j (omega arith) b d;
        ins = λ k j a b d. let low = h.stacked.low k b in same (area_of (base s.registers k) + 32 + 4 * j) (omega arith) ∙ h.saved.ins k j (omega arith) b d;
      }

  slots : ShowsSlots s.registers end.memory.ram
  slots k a w less there =
      let o = h.slots k a w less there in
      let low = h.stacked.low k less in
      let above_base = o.place.low in
      let few = (pages_few parts).stack in
      record { place = o.place; there = same (area_of a) (omega arith) ∙ o.there }

  stack : HasStack end.memory.ram
  stack p w above_place there =
      h.stack p w above_place (sym (same p (omega arith)) ∙ there)

  bytes : ShowsData parts s.memory end.memory.ram
  bytes a b there =
      let o = h.bytes a b there in
      let low = o.low in
      record { low = o.low; high = o.high; small = o.small; there = refilled.ram.bytes (data_area a) (omega arith) (inl refl) ∙ o.there }

  control : ShowsControl end.cpu.control s
  control =
      let a = h.control in
      subst (λ (k : Control). ShowsControl k s) (sym refilled.cpu.control)
      (record {
        pc = a.pc;
        npc = a.npc;
        npc_word = a.npc_word;
        npc_whole = a.npc_whole;
        annul = a.annul;
        icc = a.icc;
        y = a.y;
        y_word = a.y_word;
        user =
            a.user;
        traps = a.traps;
        sane = a.sane;
        table = a.table;
      })

  pub underflow_shows : Shows n parts end s 2
  underflow_shows =
      record {
        file = refilled.cpu.file;
        calls = calls;
        stacked = h.stacked;
        saved = saved;
        slots = slots;
        stack = stack;
        bytes = bytes;
        control = control;
        device = subst (λ (d : Device). ShowsDevice d s) (sym refilled.device) h.device;
        going = h.going;
        loaded = refilled.loaded;
        marks = handled_own n parts old end.memory.ram i (stack_pointer n x.cpu) stands.fits h.loaded (code_within n parts mmu x s 1 i stands) frame.room refilled.ram.entries h.marks;
      }
