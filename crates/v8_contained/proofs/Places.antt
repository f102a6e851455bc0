-- A turn of the supervisor, place by place.
use Rattle.std.proofs.Common.{◌≡◌, ℕ, ◌+◌, ◌-◌, ◌*◌, ◌%◌, ◌^◌, ◌<◌, ◌≤◌, ◌⊎◌, inl, inr, Bool, true, false, cond, List, [], ◌∷◌, ◌++◌, Some, None, Ok, IsSome, refl, sym, ap, ◌∙◌, subst, arith}
use Rattle.std.specs.Prelude.{not, ◌==◌}
use Rattle.std.proofs.lemmas.Bool.Decides.{nat_tests}
use Rattle.v8_core.specs.Size.TheVariants as sizes
use Rattle.v8_core.specs.Table.{meaning}
use Rattle.v8_core.specs.Operations.{operation_of, load, store}
use Rattle.v8_core.specs.Loading.TheVariants as loadings
use Rattle.v8_core.specs.Transfer.TheVariants as transfer
use Rattle.v8_core.specs.Operation.{Operation}
use Rattle.v8_core.specs.Operation.TheVariants.{SetHigh, ReadState, JumpAndLink, ReturnFromTrap}
use Rattle.v8_core.specs.Space.TheVariants as spaces
use Rattle.v8_core.specs.StateRegister.TheVariants.{Wim}
use Rattle.v8_core.specs.AccessKind.TheVariants as kinds
use Rattle.v8_core.specs.Stop.TheVariants.{Exit, Trapped}
use Rattle.v8_core.specs.MmuRegs.{MmuRegs}
use Rattle.v8_core.specs.Walked.{root_of}
use Rattle.v8_core.specs.Windows.{with_reg, reg_of}
use Rattle.v8_core.specs.Cpu.{Cpu}
use Rattle.v8_core.specs.Effects.{address_of, advanced, branched, jumped, stepped, written, taken, effect}
use Rattle.v8_core.specs.declared.access.Moved.{Moved}
use Rattle.v8_core.specs.declared.access.Moved.TheVariants.{Done}
use Rattle.v8_core.specs.declared.turn.Outcome.{Outcome}
use Rattle.v8_core.specs.Memory.{Memory, moves, move_through, fetches}
use Rattle.v8_core.specs.Accesses.{World, world, place_of, access_of, transfer_ends, transfers, moving}
use Rattle.v8_core.specs.Steps.{acts, ends, next}
use Rattle.v8_loaded.specs.Handlers.{trap_word, handler_word}
use Rattle.v8_loaded.specs.Layout.{Pages, AreFew}
use Rattle.v8_loaded.specs.Board.{Device, board, board_load, board_store, device_load, device_store, gets, got_from}
use Rattle.v8_loaded.specs.Input.{next_byte}
use Rattle.v8_loaded.specs.Places.{table_marked, handlers_marked, device_marked}
use Rattle.v8_loaded.proofs.Fetches.{by_supervisor, fetches_table, fetches_handlers, reaches_device, reaches_input}
use Rattle.v8_contained.specs.Contained.{Contents, IsKept, IsSupervisor, IsAt, SupervisorPlace, Enters, Acts, Branches, Slips, Leaves, Returns, Handles, Retries, Stands}
use Rattle.v8_contained.specs.Contained.{IsActing, IsHandler, IsBack, vector_of, handler_at, trap_to, acted, TurnIs}
use Rattle.v8_contained.proofs.Shapes.{shaped_reg, reads_local}
use Rattle.v8_contained.proofs.Accesses.{mem_of}
use Rattle.v8_contained.proofs.Stays.{device_stays, handlers_stay, table_stays}
use Rattle.v8_contained.proofs.Supervisors.{tame, super_fetch, super_goes, Nexts, SuperEnds, plainly, tame_acts, jump_acts, return_acts, goes_stepped}
use Rattle.v8_contained.proofs.Supervisors.{goes_written, good_end, good_more, at_word, at_quiet}
use Rattle.v8_loaded.proofs.Words.{Asks, goes_overflow, goes_underflow, reads_mask}
use Rattle.v8_contained.proofs.Words.{word_tame, over_tame, under_tame, jump, back, over_jumps, over_returns, under_jumps, under_returns, first_other}
use Rattle.v8_contained.proofs.Words.{stop_second, sets_device, at_device, exits, gets_in, puts_out, stops, jumps_back, returns_back, to_handler, slip_over}
use Rattle.v8_contained.proofs.Words.{slip_under, at_5_0, at_5_1, at_5_2, at_6_0, at_6_1, at_6_2, at_80_1, at_81_1, at_81_2, at_81_3, at_82_1, at_82_2, at_82_3}

-- ---- the device

gets_by : (d : Device) (b : Bool) → (cond b (0xFFFFFFFF, d) (got_from d (next_byte d.input))).1.stopped ≡ d.stopped
gets_by d true = refl
gets_by d false = refl

gets_going : (d : Device) → (gets d).1.stopped ≡ d.stopped
unfolding gets
gets_going d = gets_by d d.ended

module _ (n : ℕ) (g : Pages) (held : Contents) (ram : List ℕ) (mmu : MmuRegs) (few : AreFew g) (kept : IsKept n g held ram) (root : root_of mmu ≡ 0x2000) (d : Device) where
  abbrev StoredAs : ℕ → ℕ → Device → Type 0
  StoredAs offset v e =
      moves board mmu (0xF0010000 + offset) (by_supervisor kinds.Store) (transfer.Store sizes.Word) v (mem_of ram d) ≡
      (Done 0 (0x100000000 + offset), mem_of (device_marked true ram) e)

  word_put : (v : ℕ) → StoredAs 4 v (record d { output = d.output ++ (v % 2 ^ 8) ∷ [] })
  unfolding moves board_store device_store
  word_put v = ap (λ r. move_through board (by_supervisor kinds.Store) (transfer.Store sizes.Word) v (mem_of ram d) r)
      (reaches_device n g held.words ram mmu few kept.loaded root 0xF0010004 (omega arith) (omega arith))

  word_stopped : (v : ℕ) → StoredAs 8 v (record d { stopped = Some (Exit v) })
  unfolding moves board_store device_store
  word_stopped v =
      ap (λ r. move_through board (by_supervisor kinds.Store) (transfer.Store sizes.Word) v (mem_of ram d) r)
      (reaches_device n g held.words ram mmu few kept.loaded root 0xF0010008 (omega arith) (omega arith))

  word_trapped : (v : ℕ) → StoredAs 12 v (record d { stopped = Some Trapped })
  unfolding moves board_store device_store
  word_trapped v =
      ap (λ r. move_through board (by_supervisor kinds.Store) (transfer.Store sizes.Word) v (mem_of ram d) r)
      (reaches_device n g held.words ram mmu few kept.loaded root 0xF001000C (omega arith) (omega arith))

  input_loaded : moves board mmu 0xF0010000 (by_supervisor kinds.Load) (transfer.Load loadings.Word) 0 (mem_of ram d) ≡ (Done (gets d).0 0x100000000, mem_of (device_marked false ram) (gets d).1)
  unfolding moves board_load device_load
  input_loaded = ap (λ r. move_through board (by_supervisor kinds.Load) (transfer.Load loadings.Word) 0 (mem_of ram d) r) (reaches_input n g held.words ram mmu few kept.loaded root)

is_or_not : (a b : ℕ) → (a ≡ b) ⊎ ((a == b) ≡ false)
is_or_not a b = by_test (a == b) refl
  where
    by_test : (t : Bool) → (a == b) ≡ t → (a ≡ b) ⊎ ((a == b) ≡ false)
    by_test true e = inl (grind (arith, nat_tests))
    by_test false e = inr e

differ : (a b : ℕ) → (a == b) ≡ false → a ≡ b → ⊥
differ a b e same = let no : (a == b) ≡ true = grind (arith, nat_tests) in let bad : true ≡ false = rw no at e in cc

module _ (n : ℕ) (g : Pages) (held : Contents) (ram : List ℕ) (d : Device) (mmu : MmuRegs) (cpu : Cpu n) (few : 4 ≤ n) (many : n ≤ 32) (pages : AreFew g)
    (root : root_of mmu ≡ 0x2000) (kept : IsKept n g held ram) (running : d.stopped ≡ None) (u : IsSupervisor n cpu) where
  abbrev x : World n Device
  x = world n cpu ram d

  abbrev Goal : Type 0
  Goal = TurnIs n g held mmu x (next board n mmu x)

  abbrev tabled : List ℕ
  tabled = table_marked ram

  in_table : IsKept n g held tabled
  in_table = table_stays n g held ram pages kept

  abbrev handled : List ℕ
  handled = handlers_marked ram

  in_handlers : IsKept n g held handled
  in_handlers = handlers_stay n g held ram pages kept

  table_fetch : (k w : ℕ) → k < 1024 → cpu.control.pc ≡ 0xF0000000 + 4 * k → trap_word k ≡ w → fetches mmu cpu.control.pc super_fetch ram ≡ (Ok w, tabled)
  table_fetch k w less at word = ap (λ p. fetches mmu p super_fetch ram) at ∙ fetches_table n g held.words ram mmu pages kept.loaded root k less ∙ ap (λ v. (Ok v, tabled)) word

  handler_fetch : (k : ℕ) → k < 1024 → cpu.control.pc ≡ 0xF0001000 + 4 * k → fetches mmu cpu.control.pc super_fetch ram ≡ (Ok (handler_word n k), handled)
  handler_fetch k less at = ap (λ p. fetches mmu p super_fetch ram) at ∙ fetches_handlers n g held.words ram mmu pages kept.loaded root k less

  table_quiet : (k w : ℕ) (i : Operation) → k < 1024 → cpu.control.pc ≡ 0xF0000000 + 4 * k → trap_word k ≡ w → Asks w i → SuperEnds n g held d (acts board n mmu i (world n cpu tabled d)) → Goal
  table_quiet k w i less at word is h = at_quiet n g held ram d mmu cpu few many pages root running u w i tabled (table_fetch k w less at word) is in_table h

  table_tame : (k w : ℕ) → k < 1024 → cpu.control.pc ≡ 0xF0000000 + 4 * k → trap_word k ≡ w → word_tame w ≡ true → Nexts cpu → Goal
  table_tame k w less at word is next_is =
      table_quiet k w (operation_of (meaning w)) less at word refl
      (tame_acts n g held tabled d mmu cpu few pages root in_table u (operation_of (meaning w)) is next_is)

  handler_quiet : (k : ℕ) (i : Operation) → k < 1024 → cpu.control.pc ≡ 0xF0001000 + 4 * k → Asks (handler_word n k) i → SuperEnds n g held d (acts board n mmu i (world n cpu handled d)) → Goal
  handler_quiet k i less at is h = at_quiet n g held ram d mmu cpu few many pages root running u (handler_word n k) i handled (handler_fetch k less at) is in_handlers h

  -- ---- the handlers

  handler_tame : (k : ℕ) → k < 1024 → IsAt cpu (handler_at k) (handler_at k + 4) → word_tame (handler_word n k) ≡ true → (k + 1 < 19) ⊎ ((32 ≤ k + 1) × (k + 1 < 51)) → Goal
  handler_tame k less at is more =
      handler_quiet k (operation_of (meaning (handler_word n k))) less at.here refl
      (tame_acts n g held handled d mmu cpu few pages root in_handlers u (operation_of (meaning (handler_word n k))) is
      (λ c here later. let follows = at.next in (Handles (k + 1), (more, record { here = omega arith; next = omega arith }))))

  handler_jump : (k : ℕ) → k < 1023 → IsAt cpu (handler_at k) (handler_at k + 4) → Asks (handler_word n k) (JumpAndLink (jump 17)) → (k + 1 ≡ 19) ⊎ (k + 1 ≡ 51) → Goal
  handler_jump k less at is last =
      handler_quiet k (JumpAndLink (jump 17)) (omega arith) at.here is
      (jump_acts n g held handled d mmu cpu few pages root in_handlers u (jump 17) (λ c here. let follows = at.next in (Retries (k + 1), (last, omega arith))))

  at_over : (k : ℕ) → k < 19 → IsAt cpu (handler_at k) (handler_at k + 4) → Goal
  at_over k less at =
      let split : (k < 18) ⊎ (k ≡ 18) = search arith in
      elim split [
        | inl before ↦ handler_tame k (omega arith) at (over_tame n k few many before) (inl (omega arith))
        | inr last ↦ handler_jump k (omega arith) at (ap (λ j. operation_of (meaning (handler_word n j))) last ∙ over_jumps n) (inl (omega arith))
      ]

  at_under : (k : ℕ) → 32 ≤ k → k < 51 → IsAt cpu (handler_at k) (handler_at k + 4) → Goal
  at_under k low less at =
      let split : (k < 50) ⊎ (k ≡ 50) = search arith in
      let e : 32 + (k - 32) ≡ k = omega arith in
      elim split [
        | inl before ↦ handler_tame k (omega arith) at (ap (λ j. word_tame (handler_word n j)) (sym e) ∙ under_tame n (k - 32) few many (omega arith)) (inr (omega arith, omega arith))
        | inr last ↦ handler_jump k (omega arith) at (ap (λ j. operation_of (meaning (handler_word n j))) last ∙ under_jumps n) (inr (omega arith))
      ]

  at_retry : (k : ℕ) → (k ≡ 19) ⊎ (k ≡ 51) → cpu.control.pc ≡ handler_at k → Goal
  at_retry k (inl is) at =
      handler_quiet k (ReturnFromTrap back) (omega arith) at (ap (λ j. operation_of (meaning (handler_word n j))) is ∙ over_returns n)
      (return_acts n g held handled d mmu cpu few pages root in_handlers u back)
  at_retry k (inr is) at =
      handler_quiet k (ReturnFromTrap back) (omega arith) at (ap (λ j. operation_of (meaning (handler_word n j))) is ∙ under_returns n)
      (return_acts n g held handled d mmu cpu few pages root in_handlers u back)

  -- ---- the vectors

  to_branch : (k t : ℕ) → IsHandler k → trap_to k ≡ t → IsAt cpu (vector_of t) (vector_of t + 4) → Nexts cpu
  to_branch k t is same at = λ c here later. let follows = at.next in let small : t < 256 = elim is [ inl a ↦ omega arith | inr b ↦ omega arith ] in
      (Branches k, (is, record { here = omega arith; next = omega arith }))

  enters_window : (k t w : ℕ) → IsHandler k → trap_to k ≡ t → t < 256 → IsAt cpu (vector_of t) (vector_of t + 4) → trap_word (4 * t) ≡ 0xA7500000 → Goal
  unfolding tame
  enters_window k t w is same small at word =
      let here = at.here in
      table_quiet (4 * t) 0xA7500000 (ReadState Wim 19) (omega arith) (omega arith) word reads_mask
      (tame_acts n g held tabled d mmu cpu few pages root in_table u (ReadState Wim 19) refl (to_branch k t is same at))

  enters_other : (t : ℕ) → t < 256 → (t ≡ 5 → ⊥) → (t ≡ 6 → ⊥) → IsAt cpu (vector_of t) (vector_of t + 4) → Goal
  unfolding effect written advanced
  enters_other t small over under at =
      let here = at.here in
      let follows = at.next in
      let new : Cpu n = record { regs = with_reg n cpu.regs 19 0xF0010000; control = advanced cpu.control } in
      table_quiet (4 * t) 0x273C0040 (SetHigh (record { rd = 19; imm22 = 0x3C0040 })) (omega arith) (omega arith) (first_other t over under) sets_device
      (plainly n g held tabled d mmu cpu few pages root in_table u new
      (super_goes n cpu (with_reg n cpu.regs 19 0xF0010000) (advanced cpu.control) u (shaped_reg n cpu.regs 19 0xF0010000 few u.shape) refl refl refl refl refl refl (omega arith)
      (Acts t, record { small = small; not_over = over; not_under = under; at = record { here = follows; next = omega arith }; device = reads_local n cpu.regs 0xF0010000 u.shape })))

  at_entry : (t : ℕ) → t < 256 → IsAt cpu (vector_of t) (vector_of t + 4) → Goal
  at_entry t small at = elim (is_or_not t 5) [
    | inl five ↦ enters_window 0 t 0 (inl refl) (sym five) small at (ap (λ k. trap_word (4 * k)) five ∙ at_5_0)
    | inr no_five ↦ elim (is_or_not t 6) [
      | inl six ↦ enters_window 32 t 0 (inr refl) (sym six) small at (ap (λ k. trap_word (4 * k)) six ∙ at_6_0)
      | inr no_six ↦ enters_other t small (differ t 5 no_five) (differ t 6 no_six) at
    ]
  ]

  branches : (k j w disp : ℕ) → IsHandler k → IsAt cpu (vector_of (trap_to k) + 4) (vector_of (trap_to k) + 8) → j < 1024 →
      cpu.control.pc ≡ 0xF0000000 + 4 * j → trap_word j ≡ w → Asks w (to_handler disp) → (0xF0000000 + 4 * j + 4 * disp) % 2 ^ 32 ≡ handler_at k → Goal
  unfolding effect branched jumped
  branches k j w disp is at less here word asks to =
      let new : Cpu n = record cpu { control = record cpu.control { pc = cpu.control.npc; npc = (cpu.control.pc + 4 * disp) % 2 ^ 32; annul = false } } in
      let goes : (cpu.control.pc + 4 * disp) % 2 ^ 32 ≡ handler_at k = ap (λ p. (p + 4 * disp) % 2 ^ 32) here ∙ to in
      table_quiet j w (to_handler disp) less here word asks
      (plainly n g held tabled d mmu cpu few pages root in_table u new
      (super_goes n cpu cpu.regs new.control u u.shape refl refl refl (sym u.straight) refl refl (omega arith) (Slips k, (is, record { here = at.next; next = goes }))))

  at_branch : (k : ℕ) → IsHandler k → IsAt cpu (vector_of (trap_to k) + 4) (vector_of (trap_to k) + 8) → Goal
  at_branch k (inl is) at = let here = at.here in branches k 21 0x108003EB 0x3EB (inl is) at (omega arith) (omega arith) at_5_1 goes_overflow (omega arith)
  at_branch k (inr is) at = let here = at.here in branches k 25 0x10800407 0x407 (inr is) at (omega arith) (omega arith) at_6_1 goes_underflow (omega arith)

  at_slip : (k : ℕ) → IsHandler k → IsAt cpu (vector_of (trap_to k) + 8) (handler_at k) → Goal
  at_slip k (inl is) at = let here = at.here in let follows = at.next in
      table_tame 22 0xA8100001 (omega arith) (omega arith) at_5_2 slip_over
      (λ c now later. (Handles k, (inl (omega arith), record { here = omega arith; next = omega arith })))
  at_slip k (inr is) at = let here = at.here in let follows = at.next in
      table_tame 26 0xA92CE001 (omega arith) (omega arith) at_6_2 slip_under
      (λ c now later. (Handles k, (inr (omega arith, omega arith), record { here = omega arith; next = omega arith })))

  leaves : (t j : ℕ) → IsBack t → IsAt cpu (vector_of t + 8) (vector_of t + 12) → j < 1024 → cpu.control.pc ≡ 0xF0000000 + 4 * j → trap_word j ≡ 0x81C48000 → Goal
  leaves t j is at less here word =
      table_quiet j 0x81C48000 (JumpAndLink (jump 18)) less here word jumps_back
      (jump_acts n g held tabled d mmu cpu few pages root in_table u (jump 18) (λ c now. (Returns t, (is, now ∙ at.next))))

  at_leave : (t : ℕ) → IsBack t → IsAt cpu (vector_of t + 8) (vector_of t + 12) → Goal
  at_leave t (inl is) at = let here = at.here in leaves t 0x206 (inl is) at (omega arith) (omega arith) at_81_2
  at_leave t (inr is) at = let here = at.here in leaves t 0x20A (inr is) at (omega arith) (omega arith) at_82_2

  at_return : (t : ℕ) → IsBack t → cpu.control.pc ≡ vector_of t + 12 → Goal
  at_return t (inl is) here = table_quiet 0x207 0x81CCA004 _ (omega arith) (omega arith) at_81_3 returns_back (return_acts n g held tabled d mmu cpu few pages root in_table u _)
  at_return t (inr is) here = table_quiet 0x20B 0x81CCA004 _ (omega arith) (omega arith) at_82_3 returns_back (return_acts n g held tabled d mmu cpu few pages root in_table u _)

  -- ---- the device

  device_place : (rd offset : ℕ) → reg_of n cpu.regs 19 ≡ 0xF0010000 → offset < 16 → place_of n cpu (at_device rd offset) ≡ 0xF0010000 + offset
  unfolding address_of
  device_place rd offset reads small = ap (λ a. (a + offset) % 2 ^ 32) reads ∙ (let e : (0xF0010000 + offset) % 2 ^ 32 ≡ 0xF0010000 + offset = omega arith in e)

  store_made : (rd offset : ℕ) (e : Device) → reg_of n cpu.regs 19 ≡ 0xF0010000 → offset < 16 → StoredAs n g held tabled mmu pages in_table root d offset (reg_of n cpu.regs rd) e →
      acts board n mmu (store sizes.Word (at_device rd offset)) (world n cpu tabled d) ≡
      (moving (0xF0010000 + offset) (0x100000000 + offset) sizes.Word true, world n (stepped n cpu) (device_marked true tabled) e)
  unfolding transfers taken
  store_made rd offset e reads small done =
      let va = 0xF0010000 + offset in
      let v = reg_of n cpu.regs rd in
      let F : ℕ → Moved × Memory Device → Outcome × World n Device = λ p l. transfer_ends n p (transfer.Store sizes.Word) rd cpu l.0 l.1 in
      ap (λ p. F p (moves board mmu p (access_of n cpu true spaces.Normal) (transfer.Store sizes.Word) v (mem_of tabled d))) (device_place rd offset reads small)
      ∙ ap (λ (b : Bool). F va (moves board mmu va (record { user = not b; kind = kinds.Store }) (transfer.Store sizes.Word) v (mem_of tabled d))) u.system
      ∙ ap (F va) done

  load_made : reg_of n cpu.regs 19 ≡ 0xF0010000 →
      acts board n mmu (load loadings.Word (at_device 24 0)) (world n cpu tabled d) ≡
      (moving 0xF0010000 0x100000000 sizes.Word false, world n (written n cpu 24 (gets d).0) (device_marked false tabled) (gets d).1)
  unfolding transfers taken written
  load_made reads =
      let F : ℕ → Moved × Memory Device → Outcome × World n Device = λ p l. transfer_ends n p (transfer.Load loadings.Word) 24 cpu l.0 l.1 in
      ap (λ p. F p (moves board mmu p (access_of n cpu false spaces.Normal) (transfer.Load loadings.Word) 0 (mem_of tabled d))) (device_place 24 0 reads (omega arith))
      ∙ ap (λ (b : Bool). F 0xF0010000 (moves board mmu 0xF0010000 (record { user = not b; kind = kinds.Load }) (transfer.Load loadings.Word) 0 (mem_of tabled d))) u.system
      ∙ ap (F 0xF0010000) (input_loaded n g held tabled mmu pages in_table root d)

  abbrev Ended : ℕ → Outcome × World n Device → Type 0
  Ended w o = TurnIs n g held mmu x (ends board n x (Some w) o.0.access o.0.trap o.1)

  stops_at : (t j w rd offset : ℕ) (e : Device) → IsActing cpu t → j < 1024 → cpu.control.pc ≡ 0xF0000000 + 4 * j → trap_word j ≡ w → Asks w (store sizes.Word (at_device rd offset)) → offset < 16 →
      StoredAs n g held tabled mmu pages in_table root d offset (reg_of n cpu.regs rd) e → IsSome e.stopped → e ≡ acted t (reg_of n cpu.regs 24) d → Goal
  stops_at t j w rd offset e at less here word asks small done halted made =
      at_word n g held ram d mmu cpu few many pages root running u w (store sizes.Word (at_device rd offset)) tabled (table_fetch j w less here word) asks in_table
      (subst (λ o. Ended w o) (sym (store_made rd offset e at.device small done))
      (good_end n g held ram d mmu cpu few many pages root running u (Some w) _ (world n (stepped n cpu) (device_marked true tabled) e)
      (device_stays n g held tabled pages in_table true) halted (inr (record { trap = t; system = u.system; at = at; is = made }))))

  goes_back : (t : ℕ) → IsBack t → IsActing cpu t → Nexts cpu
  goes_back t is at = λ c now later. let follows = at.at.next in let small = at.small in (Leaves t, (is, record { here = omega arith; next = omega arith }))

  at_put : (t : ℕ) → t ≡ 0x82 → IsActing cpu t → Goal
  at_put t is at =
      let here = at.at.here in
      let v = reg_of n cpu.regs 24 in
      let e : Device = record d { output = d.output ++ (v % 2 ^ 8) ∷ [] } in
      at_word n g held ram d mmu cpu few many pages root running u 0xF024E004 (store sizes.Word (at_device 24 4)) tabled
      (table_fetch 0x209 0xF024E004 (omega arith) (omega arith) at_82_1) puts_out in_table
      (subst (λ o. Ended 0xF024E004 o) (sym (store_made 24 4 e at.device (omega arith) (word_put n g held tabled mmu pages in_table root d v)))
      (good_more n g held ram d mmu cpu few many pages root running u (Some 0xF024E004) _ (world n (stepped n cpu) (device_marked true tabled) e)
      (device_stays n g held tabled pages in_table true) running
      (inr (goes_stepped n g held tabled d mmu cpu few pages root in_table u cpu.regs u.shape (goes_back t (inr is) at)))
      (inr (record { trap = t; system = u.system; at = at; is = sym (ap (λ k. acted k v d) is) }))))

  at_get : (t : ℕ) → t ≡ 0x81 → IsActing cpu t → Goal
  at_get t is at =
      let here = at.at.here in
      let r = gets d in
      at_word n g held ram d mmu cpu few many pages root running u 0xF004E000 (load loadings.Word (at_device 24 0)) tabled
      (table_fetch 0x205 0xF004E000 (omega arith) (omega arith) at_81_1) gets_in in_table
      (subst (λ o. Ended 0xF004E000 o) (sym (load_made at.device))
      (good_more n g held ram d mmu cpu few many pages root running u (Some 0xF004E000) _ (world n (written n cpu 24 r.0) (device_marked false tabled) r.1)
      (device_stays n g held tabled pages in_table false) (gets_going d ∙ running)
      (inr (goes_written n g held tabled d mmu cpu few pages root in_table u 24 r.0 (goes_back t (inl is) at)))
      (inr (record { trap = t; system = u.system; at = at; is = sym (ap (λ k. acted k (reg_of n cpu.regs 24) d) is) }))))

  at_exit : (t : ℕ) → t ≡ 0x80 → IsActing cpu t → Goal
  at_exit t is at =
      let here = at.at.here in
      let v = reg_of n cpu.regs 24 in
      stops_at t 0x201 0xF024E008 24 8 (record d { stopped = Some (Exit v) }) at (omega arith) (omega arith) at_80_1 exits (omega arith)
      (word_stopped n g held tabled mmu pages in_table root d v) refl (sym (ap (λ k. acted k v d) is))

  at_stop : (t : ℕ) → (t == 0x80) ≡ false → (t == 0x81) ≡ false → (t == 0x82) ≡ false → IsActing cpu t → Goal
  at_stop t a b c at =
      let here = at.at.here in
      let small = at.small in
      stops_at t (4 * t + 1) 0xC024E00C 0 12 (record d { stopped = Some Trapped }) at (omega arith) (omega arith)
      (stop_second t at.not_over at.not_under a b c) stops (omega arith) (word_trapped n g held tabled mmu pages in_table root d (reg_of n cpu.regs 0)) refl
      (rw a (rw b (rw c refl)))

  at_act : (t : ℕ) → IsActing cpu t → Goal
  at_act t at = elim (is_or_not t 0x80) [
    | inl exit ↦ at_exit t exit at
    | inr no_exit ↦ elim (is_or_not t 0x81) [
      | inl get ↦ at_get t get at
      | inr no_get ↦ elim (is_or_not t 0x82) [ inl put ↦ at_put t put at | inr no_put ↦ at_stop t no_exit no_get no_put at ]
    ]
  ]

  -- ---- every place

  at_place : (p : SupervisorPlace) → Stands cpu p → Goal
  at_place (Enters t) h = at_entry t h.0 h.1
  at_place (Acts t) h = at_act t h
  at_place (Branches k) h = at_branch k h.0 h.1
  at_place (Slips k) h = at_slip k h.0 h.1
  at_place (Leaves t) h = at_leave t h.0 h.1
  at_place (Returns t) h = at_return t h.0 h.1
  at_place (Handles k) h = elim h.0 [ inl over ↦ at_over k over h.1 | inr under ↦ at_under k under.0 under.1 h.1 ]
  at_place (Retries k) h = at_retry k h.0 h.1

  pub supervisor_turn : Goal
  supervisor_turn = at_place u.place u.stands
