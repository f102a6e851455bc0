-- A SAVE that finds no window: the 24 turns of its trap keep what the board shows, with one call less in windows.
use Rattle.std.proofs.Common.{◌≡◌, ℕ, suc, ◌+◌, ◌-◌, ◌*◌, ◌/◌, ◌%◌, ◌^◌, ◌<◌, ◌≤◌, ◌⊎◌, inl, inr, List, Some, sym, ap, ◌∙◌, subst, arith}
use Rattle.std.specs.Prelude.{slice_index}
use Rattle.v8_map.specs.declared.TheConstants.{STACK_LOWEST, STACK_END, TABLES_END}
use Rattle.v8_core.specs.Three.{Three}
use Rattle.v8_core.specs.Operation.TheVariants.{Save}
use Rattle.v8_core.specs.Ram.{entry_of}
use Rattle.v8_core.specs.MmuRegs.{MmuRegs}
use Rattle.v8_mmu.proofs.RamLemmas.{entry_is}
use Rattle.v8_core.specs.Windows.{word_at}
use Rattle.v8_core.specs.Control.{Control}
use Rattle.v8_core.specs.Accesses.{World}
use Rattle.v8_loaded.specs.Board.{Device, board}
use Rattle.v8_loaded.specs.Areas.{HasRoom, area_of}
use Rattle.v8_loaded.specs.Places.{entered_window}
use Rattle.v8_loaded.specs.Turns.{world_after}
use Rattle.v8_loaded.specs.Users.{AsksFor}
use Rattle.v8_routines.specs.Overflow.{Handled, Overflows, Spilled, spilled_window, stack_pointer}
use Rattle.v8_routines.proofs.OverflowLaw.{overflow_law}
use Rattle.v8_board.specs.Start.{pages_of}
use Rattle.v8_board.proofs.Placed.{pages_few}
use Rattle.sbx_flat.specs.Parts.{Parts}
use Rattle.sbx_flat.specs.States.{State}
use Rattle.sbx_flat.specs.Calls.{base, cell, depth}
use Rattle.sbx_shows.specs.Shows.{HasStack, Shows, ShowsCalls, ShowsControl, ShowsData, ShowsDevice, ShowsSaved, ShowsSlots, window, data_area}
use Rattle.sbx_shows.specs.Steps.{Stands}
use Rattle.sbx_shows.proofs.Distances.{below_is, same_distance, two_below}
use Rattle.sbx_shows.proofs.Places.{room as code_within, user}
use Rattle.sbx_shows.proofs.Stacks.{handled_own, slot_beside}

module _ (n : ℕ) (parts : Parts) (mmu : MmuRegs) (x : World n Device) (s : State) (r i : ℕ) (stands : Stands n parts mmu x s r i) (f : Three)
    (is : AsksFor parts.words i (Save f)) (full : r + 1 ≡ n) where
  abbrev h : Shows n parts x s r
  h = stands.shows

  abbrev c : ℕ
  c = x.cpu.regs.current

  abbrev old : List ℕ
  old = x.memory.ram

  abbrev end : World n Device
  end = world_after board n mmu 24 x

  entered_is : entered_window n x.cpu ≡ window n c r
  entered_is = let e : n - 1 ≡ r = omega arith in below_is n c h.file.few ∙ ap (window n c) e

  spilled_is : spilled_window n x.cpu ≡ window n c (r - 1)
  spilled_is = let e : n - 2 ≡ r - 1 = omega arith in two_below n c h.file.few h.file.current ∙ ap (window n c) e

  some : 3 ≤ r
  some = let few = h.file.few in omega arith

  oldest : r - 1 < depth s.registers
  oldest = let few = some in let open_calls = h.calls.open_calls in omega arith

  pub pointer_is : stack_pointer n x.cpu ≡ base s.registers (r - 1)
  pointer_is = ap (λ w. word_at x.cpu.regs w 6) spilled_is ∙ h.calls.outs (r - 1) 6 (omega arith) (omega arith)

  low_base : STACK_LOWEST ≤ base s.registers (r - 1)
  low_base = let low = h.stacked.low (r - 1) oldest in let few = (pages_few parts).stack in omega arith

  pub overflows : Overflows n (pages_of parts) parts.words mmu x i
  overflows = record { user = user n parts mmu x s r i stands; mask = h.calls.mask ∙ ap (λ w. 2 ^ w) (sym entered_is); saves = (f, is) }

  pub room : HasRoom (pages_of parts) (stack_pointer n x.cpu)
  room = record {
    aligned = ap (λ p. p % 8) pointer_is ∙ h.stacked.aligned (r - 1) oldest;
    low = subst (λ p. STACK_END ≤ p + 4096 * (pages_of parts).stack_count) (sym pointer_is) (h.stacked.low (r - 1) oldest);
    high = subst (λ p. p + 64 ≤ STACK_END) (sym pointer_is) (h.stacked.high (r - 1) oldest);
  }

  pub handled : Handled n (pages_of parts) parts.words mmu x i
  handled = overflow_law n (pages_of parts) parts.words mmu x i overflows room

  spilled : Spilled n (pages_of parts) parts.words x end i
  spilled = handled.spilled

  -- ---- registers

  window_kept : (k j : ℕ) → k < n → (k ≡ r → j < 8) → word_at end.cpu.regs (window n end.cpu.regs.current k) j ≡ word_at x.cpu.regs (window n c k) j
  window_kept k j less low =
      ap (λ q. word_at end.cpu.regs (window n q k) j) spilled.cpu.current
      ∙ spilled.cpu.kept (window n c k) j (λ e. low (same_distance n c k r h.file.current less h.calls.most (e ∙ entered_is)))

  calls : ShowsCalls n end.cpu.regs s.registers (r - 1)
  calls =
      let few = some in
      let most = h.calls.most in
      let open_calls = h.calls.open_calls in
      record {
        some = omega arith;
        most = omega arith;
        open_calls = omega arith;
        mask = spilled.cpu.mask ∙ ap (λ w. 2 ^ w) spilled_is ∙ ap (λ q. 2 ^ window n q (r - 1)) (sym spilled.cpu.current);
        globals = λ k a b. ap (λ (gs : List ℕ). slice_index gs k) spilled.cpu.globals ∙ h.calls.globals k a b;
        outs = λ k j a b. window_kept k j (omega arith) (λ e. b) ∙ h.calls.outs k j (omega arith) b;
        locals = λ k j a b d. window_kept k j (omega arith) (λ e. absurd (omega arith)) ∙ h.calls.locals k j (omega arith) b d;
      }

  -- ---- RAM

  beside : (p : ℕ) → TABLES_END ≤ p → (p + 4 ≤ area_of (base s.registers (r - 1))) ⊎ (area_of (base s.registers (r - 1)) + 64 ≤ p) → entry_of end.memory.ram p ≡ entry_of old p
  beside p above apart = spilled.ram.words p above (inr (subst (λ q. (p + 4 ≤ area_of q) ⊎ (area_of q + 64 ≤ p)) (sym pointer_is) apart))

  local_there : (j : ℕ) → j < 8 → entry_of end.memory.ram (area_of (base s.registers (r - 1)) + 4 * j) ≡ Some (cell s.registers (r - 1) (8 + j))
  local_there j small =
      let few = some in
      ap (λ p. entry_of end.memory.ram (area_of p + 4 * j)) (sym pointer_is)
      ∙ spilled.stored.locals j small
      ∙ ap (λ w. Some (word_at x.cpu.regs w (8 + j))) spilled_is
      ∙ ap Some (h.calls.locals (r - 1) (8 + j) (omega arith) (omega arith) (omega arith))

  in_there : (j : ℕ) → j < 8 → entry_of end.memory.ram (area_of (base s.registers (r - 1)) + 32 + 4 * j) ≡ Some (cell s.registers (suc (r - 1)) j)
  in_there j small =
      let few = some in
      let back : r ≡ suc (r - 1) = omega arith in
      ap (λ p. entry_of end.memory.ram (area_of p + 32 + 4 * j)) (sym pointer_is)
      ∙ spilled.stored.ins j small
      ∙ ap (λ w. Some (word_at x.cpu.regs w j)) entered_is
      ∙ ap Some (h.calls.outs r j (omega arith) small)
      ∙ ap (λ k. Some (cell s.registers k j)) back

  saved : ShowsSaved s.registers (r - 1) end.memory.ram
  saved =
      let few = some in
      let low = low_base in
      record {
        locals = λ k j a b d.
            let split : (r ≤ k) ⊎ (r - 1 ≡ k) = search arith in
            elim split [
              | inl older ↦
                  let e = h.stacked.apart (r - 1) k (omega arith) b in
                  beside (area_of (base s.registers k) + 4 * j) (omega arith) (inr (omega arith)) ∙ h.saved.locals k j older b d
              | inr same ↦ subst (λ q. entry_of end.memory.ram (area_of (base s.registers q) + 4 * j) ≡ Some (cell s.registers q (8 + j))) same (local_there j d)
            ];
        ins = λ k j a b d.
            let split : (r ≤ k) ⊎ (r - 1 ≡ k) = search arith in
            elim split [
              | inl older ↦
                  let e = h.stacked.apart (r - 1) k (omega arith) b in
                  beside (area_of (base s.registers k) + 32 + 4 * j) (omega arith) (inr (omega arith)) ∙ h.saved.ins k j older b d
              | inr same ↦ subst (λ q. entry_of end.memory.ram (area_of (base s.registers q) + 32 + 4 * j) ≡ Some (cell s.registers (suc q) j)) same (in_there j d)
            ];
      }

  slots : ShowsSlots s.registers end.memory.ram
  slots k a w less there =
      let o = h.slots k a w less there in
      let low = h.stacked.low k less in
      let above = o.place.low in
      let few = (pages_few parts).stack in
      record {
        place = o.place;
        there = beside (area_of a) (omega arith) (slot_beside (pages_of parts).stack_count s.registers (r - 1) k a few h.stacked oldest less o.place) ∙ o.there;
      }

  stack : HasStack end.memory.ram
  stack p w above there =
      let low = low_base in
      let e8 = h.stacked.aligned (r - 1) oldest in
      let whole_p = (entry_is end.memory.ram p w there).0.aligned in
      let b = area_of (base s.registers (r - 1)) in
      let split : (p + 4 ≤ b) ⊎ (b ≤ p) = search arith in
      let split2 : (p < b + 64) ⊎ (b + 64 ≤ p) = search arith in
      let split3 : (p < b + 32) ⊎ (b + 32 ≤ p) = search arith in
      elim split [
        | inl before ↦ h.stack p w above (sym (beside p (omega arith) (inl before)) ∙ there)
        | inr from ↦ elim split2 [
          | inr past ↦ h.stack p w above (sym (beside p (omega arith) (inr past)) ∙ there)
          | inl inside ↦ elim split3 [
            | inl locals ↦
                let j = (p - b) / 4 in
                let place : b + 4 * j ≡ p = omega arith in
                let value : Some (word_at x.cpu.regs (spilled_window n x.cpu) (8 + j)) ≡ Some w =
                sym (spilled.stored.locals j (omega arith)) ∙ ap (λ q. entry_of end.memory.ram (area_of q + 4 * j)) pointer_is ∙ ap (entry_of end.memory.ram) place ∙ there in
                fits_as (word_at x.cpu.regs (spilled_window n x.cpu) (8 + j)) w value (h.file.rows.fit (spilled_window n x.cpu) (8 + j))
            | inr ins ↦
                let j = (p - b - 32) / 4 in
                let place : b + 32 + 4 * j ≡ p = omega arith in
                let value : Some (word_at x.cpu.regs (entered_window n x.cpu) j) ≡ Some w =
                sym (spilled.stored.ins j (omega arith)) ∙ ap (λ q. entry_of end.memory.ram (area_of q + 32 + 4 * j)) pointer_is ∙ ap (entry_of end.memory.ram) place ∙ there in
                fits_as (word_at x.cpu.regs (entered_window n x.cpu) j) w value (h.file.rows.fit (entered_window n x.cpu) j)
          ]
        ]
      ]
    where
      fits_as : (v w : ℕ) → Some v ≡ Some w → v < 2 ^ 32 → w < 2 ^ 32
      fits_as v w e small = let same : v ≡ w = cc in subst (λ q. q < 2 ^ 32) same small

  bytes : ShowsData parts s.memory end.memory.ram
  bytes a b there =
      let o = h.bytes a b there in
      let low = o.low in
      let high = o.high in
      let most = stands.fits.pages in
      let stack_low = low_base in
      let at_place = pointer_is in
      record {
        low = o.low;
        high = o.high;
        small = o.small;
        there = spilled.ram.bytes (data_area a) (omega arith) (inr (inl (omega arith))) ∙ o.there;
      }

  control : ShowsControl end.cpu.control s
  control =
      let a = h.control in
      subst (λ (k : Control). ShowsControl k s) (sym spilled.cpu.control)
      (record {
        pc = a.pc;
        npc = a.npc;
        npc_word = a.npc_word;
        npc_whole = a.npc_whole;
        annul = a.annul;
        icc = a.icc;
        y = a.y;
        y_word = a.y_word;
        user =
            a.user;
        traps = a.traps;
        sane = a.sane;
        table = a.table;
      })

  pub overflow_shows : Shows n parts end s (r - 1)
  overflow_shows =
      record {
        file = spilled.cpu.file;
        calls = calls;
        stacked = h.stacked;
        saved = saved;
        slots = slots;
        stack = stack;
        bytes = bytes;
        control = control;
        device = subst (λ (d : Device). ShowsDevice d s) (sym spilled.device) h.device;
        going = h.going;
        loaded = spilled.loaded;
        marks = handled_own n parts old end.memory.ram i (stack_pointer n x.cpu) stands.fits h.loaded (code_within n parts mmu x s r i stands) room spilled.ram.entries h.marks;
      }
