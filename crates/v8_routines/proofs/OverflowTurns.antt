-- The 23 turns after a window overflow.
--   spilled_word     the words of the window that is stored
--   Frame            what is known of it
--   eight            from the trap to the new mask
--   stores           a std of two of its words
--   eleven, eighteen before the first std, and before the last
--   overflow         all turns
use Rattle.std.proofs.Common.{◌≡◌, ◌≢◌, ℕ, suc, ◌+◌, ◌-◌, ◌*◌, ◌%◌, ◌^◌, ◌<◌, ◌≤◌, ◌⊎◌, inl, inr, Bool, true, false, List, [], length, get_or, refl, sym, ap, ◌∙◌, subst, arith}
use Rattle.std.specs.Prelude.{slice_index, slice_set, nat_lt, if◌then◌else◌}
use Rattle.std.proofs.lemmas.Bool.Decides.{nat_tests}
use Rattle.v8_core.specs.Operands.{following}
use Rattle.v8_core.specs.Operation.{Operation}
use Rattle.v8_core.specs.Operand.TheVariants.{Register}
use Rattle.v8_core.specs.Size.TheVariants.{Double}
use Rattle.v8_core.specs.Operations.{store}
use Rattle.v8_core.specs.MmuRegs.{MmuRegs}
use Rattle.v8_core.specs.Windows.{reg_of, below, above, is_masked}
use Rattle.v8_core.specs.Control.{Control}
use Rattle.v8_core.specs.Cpu.{Cpu}
use Rattle.v8_core.specs.Transfers.{odd_of}
use Rattle.v8_core.specs.Effects.{reg}
use Rattle.v8_core.specs.Accesses.{World, world}
use Rattle.v8_loaded.specs.Handlers.{trap_word, handler_word, page_word}
use Rattle.v8_loaded.specs.Layout.{Pages, IsLoaded}
use Rattle.v8_loaded.specs.Board.{Device}
use Rattle.v8_loaded.specs.Areas.{HasRoom, area_of}
use Rattle.v8_loaded.proofs.Windows.{below_within, above_within, below_is_not_above, not_masked}
use Rattle.v8_loaded.proofs.Words.{Asks, at_stack, reads_mask, goes_overflow, saves_global, shifts_mask_right, shifts_left, joins, saves, writes_mask, nothing}
use Rattle.v8_loaded.proofs.Words.{stores_0, stores_1, stores_2, stores_3, stores_4, stores_5, stores_6, stores_7, restores, gives_global, jumps, returns}
use Rattle.v8_loaded.proofs.Stages.{Inside, registers, stage, finished, read_other, read_trap_ins}
use Rattle.v8_loaded.proofs.Effects.{Does, reads_mask_does, goes_does, saves_global_does, shifts_mask_right_does, shifts_left_does, joins_does, saves_does}
use Rattle.v8_loaded.proofs.Effects.{writes_mask_does, nothing_does, restores_does, gives_global_does, jumps_does, returns_does, address_of_local}
use Rattle.v8_loaded.proofs.Turns.{Setting, Comes, saving, starts, table, handler}
use Rattle.v8_loaded.proofs.Stack.{in_store, on_stack, stack_address}
use Rattle.v8_routines.proofs.OverflowRows.{row_3, globals_4, row_5, globals_6, globals_7, new_mask}

-- word i of the window u below the trap's: its locals, and then its ins, which are the outs of the trap's window
abbrev pub spilled_word : List (List ℕ) → ℕ → List ℕ → ℕ → ℕ
spilled_word rows u row i = if nat_lt i 8 then slice_index (get_or rows u []) (8 + i) else slice_index row (i - 8)

-- that window
pub record Frame (n : ℕ) (rows : List (List ℕ)) (w : ℕ) (row : List ℕ) (sp : ℕ) : Type 0 where
  pub there : w < length rows
  pub other : below n w ≢ w
  pub back : above n (below n w) ≡ w
  pub pointer : slice_index (get_or rows (below n w) []) 6 ≡ sp
  pub fit : (i : ℕ) → i < 16 → spilled_word rows (below n w) row i < 2 ^ 32

-- register 16 + i of the window below
reads_word : (n w : ℕ) (x : Inside) (i : ℕ) → w < length x.rows → below n w ≢ w → above n (below n w) ≡ w → i < 16 →
    reg_of n (registers w (below n w) x) (16 + i) ≡ spilled_word x.rows (below n w) x.row i
reads_word n w x i there other back small =
    let u = below n w in
    let choose : Bool → ℕ = λ (t : Bool). if t then slice_index (get_or x.rows u []) (8 + i) else slice_index x.row (i - 8) in
    let split : (i < 8) ⊎ (8 ≤ i) = search arith in
    elim split [
      | inl a ↦
          let place : 16 + i - 8 ≡ 8 + i = omega arith in
          let test : nat_lt i 8 ≡ true = grind (arith, nat_tests) in
          read_other n x.rows w x.globals x.row u x.mask (16 + i) other (omega arith) (omega arith)
          ∙ ap (slice_index (get_or x.rows u [])) place ∙ ap choose (sym test)
      | inr b ↦
          let place : 16 + i - 24 ≡ i - 8 = omega arith in
          let test : nat_lt i 8 ≡ false = grind (arith, nat_tests) in
          read_trap_ins n x.rows w x.globals x.row u x.mask (16 + i) there back (omega arith) (omega arith)
          ∙ ap (slice_index x.row) place ∙ ap choose (sym test)
    ]

-- w is the window that the trap entered, u the one below it, whose %sp is sp
module _ (n : ℕ) (g : Pages) (words : List ℕ) (mmu : MmuRegs) (device : Device) (s : Setting n g mmu device) (c : Control)
    (rows : List (List ℕ)) (w : ℕ) (globals row ram : List ℕ) (loaded : IsLoaded n g words ram) (within : w < n)
    (eight_long : length globals ≡ 8) (sixteen : length row ≡ 16) (sp : ℕ) (room : HasRoom g sp)
    (fr : Frame n rows w (row_5 n globals row (2 ^ w)) sp) where
  abbrev u : ℕ
  u = below n w

  abbrev mask : ℕ
  mask = 2 ^ w

  abbrev r1 : List ℕ
  r1 = slice_set row 11 mask

  abbrev r3 : List ℕ
  r3 = row_3 globals row mask

  abbrev g4 : List ℕ
  g4 = globals_4 globals row mask

  abbrev r5 : List ℕ
  r5 = row_5 n globals row mask

  abbrev g6 : List ℕ
  g6 = globals_6 n globals row mask

  abbrev g7 : List ℕ
  g7 = globals_7 n globals row mask

  abbrev on : List ℕ → List ℕ → ℕ → ℕ → ℕ → Inside
  on gs r m pc npc = record { rows = rows; globals = gs; row = r; mask = m; pc = pc; npc = npc }

  abbrev old : World n Device
  old = world n (stage n c w w (on globals row mask 0xF0000050 0xF0000054)) ram device

  abbrev word : ℕ → ℕ
  word = spilled_word rows u r5

  -- after j turns, in which so many words were stored
  abbrev At : ℕ → ℕ → Cpu n → Type 0
  At count j cpu = Comes n g words mmu device (saving (area_of sp) word count) j old cpu

  in_table : {count : ℕ} {cpu new : Cpu n} {i : Operation} (j k : ℕ) → At count j cpu → k < 1024 →
      cpu.control.pc ≡ 0xF0000000 + 4 * k → Asks (trap_word k) i → Does n cpu i new → At count (suc j) new
  in_table j k before small at asks d = table n g words mmu device s j k before small at asks d

  in_handler : {count : ℕ} {cpu new : Cpu n} {i : Operation} (j k : ℕ) → At count j cpu → k < 1024 →
      cpu.control.pc ≡ 0xF0001000 + 4 * k → Asks (handler_word n k) i → Does n cpu i new → At count (suc j) new
  in_handler j k before small at asks d = handler n g words mmu device s j k before small at asks d

  u_small : u < n
  u_small = below_within n w s.few s.many within

  high : 0x2E00 ≤ area_of sp
  high = let low = room.low in let most = s.pages.stack in omega arith

  eight : At 0 8 (stage n c w u (on g6 r5 (2 ^ u) 0xF0001014 0xF0001018))
  unfolding trap_word page_word
  eight =
      let few = s.few in
      let many = s.many in
      let less = u_small in
      let there = fr.there in
      let free : is_masked mask u ≡ false = not_masked w u (omega arith) (omega arith) (λ e. fr.other (sym e)) in
      let t0 = starts n g words mmu device s (saving (area_of sp) word 0) (stage n c w w (on globals row mask 0xF0000050 0xF0000054)) ram high refl loaded in
      let t1 = in_table 0 20 t0 (omega arith) refl reads_mask (reads_mask_does n c w (on globals row mask 0xF0000050 0xF0000054) there) in
      let t2 = in_table 1 21 t1 (omega arith) refl goes_overflow (goes_does n c w (on globals r1 mask 0xF0000054 0xF0000058) w 0x3EB) in
      let t3 = in_table 2 22 t2 (omega arith) refl saves_global (saves_global_does n c w (on globals r1 mask 0xF0000058 0xF0001000) there) in
      let t4 = in_handler 3 0 t3 (omega arith) refl shifts_mask_right (shifts_mask_right_does n c w (on globals r3 mask 0xF0001000 0xF0001004) there) in
      let t5 = in_handler 4 1 t4 (omega arith) refl (shifts_left n few many) (shifts_left_does n c w (on g4 r3 mask 0xF0001004 0xF0001008) (n - 1) there) in
      let t6 = in_handler 5 2 t5 (omega arith) refl joins (joins_does n c w (on g4 r5 mask 0xF0001008 0xF000100C) there) in
      let t7 = in_handler 6 3 t6 (omega arith) refl saves (saves_does n c w (on g6 r5 mask 0xF000100C 0xF0001010) w free) in
      let t8 = in_handler 7 4 t7 (omega arith) refl writes_mask (writes_mask_does n c w (on g6 r5 mask 0xF0001010 0xF0001014) u) in
      subst (λ m. At 0 8 (stage n c w u (on g6 r5 m 0xF0001014 0xF0001018))) (new_mask n w globals row few many within eight_long sixteen) t8

  -- std of words 2 j and 2 j + 1
  stores : (t j pc npc : ℕ) → At (2 * j) t (stage n c w u (on g6 r5 (2 ^ u) pc npc)) → j < 8 → pc ≡ 0xF0001020 + 4 * j →
      Asks (handler_word n (8 + j)) (store Double (at_stack (16 + 2 * j) (8 * j))) → At (suc (suc (2 * j))) (suc t) (stage n c w u (on g6 r5 (2 ^ u) npc (following npc)))
  stores t j pc npc before small at is =
      let x = on g6 r5 (2 ^ u) pc npc in
      let most = s.pages.stack in
      let low = room.low in
      let top = room.high in
      let next_reg : odd_of (16 + 2 * j) ≡ 16 + suc (2 * j) = omega arith in
      in_store n g words mmu device s c w u x (area_of sp) word (2 * j) old t (8 + j) (16 + 2 * j) (8 * j) (sp + 8 * j) before
      (omega arith) (omega arith) is (omega arith)
      (stack_address n g words mmu device s c w u x (8 * j) sp fr.other fr.pointer (omega arith)) (on_stack g sp j room small) (omega arith)
      (reads_word n w x (2 * j) fr.there fr.other fr.back (omega arith))
      (ap (reg n (stage n c w u x)) next_reg ∙ reads_word n w x (suc (2 * j)) fr.there fr.other fr.back (omega arith))
      (fr.fit (2 * j) (omega arith)) (fr.fit (suc (2 * j)) (omega arith))

  -- before the first of them, and before the last
  pub eleven : At 0 11 (stage n c w u (on g6 r5 (2 ^ u) 0xF0001020 0xF0001024))
  unfolding page_word
  eleven =
      let t9 = in_handler 8 5 eight (omega arith) refl nothing (nothing_does n c w (on g6 r5 (2 ^ u) 0xF0001014 0xF0001018) u) in
      let t10 = in_handler 9 6 t9 (omega arith) refl nothing (nothing_does n c w (on g6 r5 (2 ^ u) 0xF0001018 0xF000101C) u) in
      in_handler 10 7 t10 (omega arith) refl nothing (nothing_does n c w (on g6 r5 (2 ^ u) 0xF000101C 0xF0001020) u)

  pub eighteen : At 14 18 (stage n c w u (on g6 r5 (2 ^ u) 0xF000103C 0xF0001040))
  unfolding page_word
  eighteen =
      let t12 = stores 11 0 0xF0001020 0xF0001024 eleven (omega arith) refl stores_0 in
      let t13 = stores 12 1 0xF0001024 0xF0001028 t12 (omega arith) refl stores_1 in
      let t14 = stores 13 2 0xF0001028 0xF000102C t13 (omega arith) refl stores_2 in
      let t15 = stores 14 3 0xF000102C 0xF0001030 t14 (omega arith) refl stores_3 in
      let t16 = stores 15 4 0xF0001030 0xF0001034 t15 (omega arith) refl stores_4 in
      let t17 = stores 16 5 0xF0001034 0xF0001038 t16 (omega arith) refl stores_5 in
      stores 17 6 0xF0001038 0xF000103C t17 (omega arith) refl stores_6

  nineteen : At 16 19 (stage n c w u (on g6 r5 (2 ^ u) 0xF0001040 0xF0001044))
  unfolding page_word
  nineteen = stores 18 7 0xF000103C 0xF0001040 eighteen (omega arith) refl stores_7

  -- the whole handler, which ends at the place pc with npc after it
  pub overflow : (pc npc : ℕ) → slice_index r5 9 ≡ pc → slice_index r5 10 ≡ npc → pc < 2 ^ 32 → npc < 2 ^ 32 →
      pc % 4 ≡ 0 → npc % 4 ≡ 0 → At 16 23 (finished n c w (on g7 r5 (2 ^ u) pc npc))
  unfolding page_word
  overflow pc npc pc_held npc_held pc_word npc_word pc_whole npc_whole =
      let few = s.few in
      let many = s.many in
      let less = u_small in
      let there = fr.there in
      let free : is_masked (2 ^ u) (above n u) ≡ false = ap (is_masked (2 ^ u)) fr.back
      ∙ not_masked u w (omega arith) (omega arith) fr.other in
      let t20 = in_handler 19 16 nineteen (omega arith) refl restores (restores_does n c w (on g6 r5 (2 ^ u) 0xF0001040 0xF0001044) u free) in
      let back = subst (λ q. At 16 20 (stage n c w q (on g6 r5 (2 ^ u) 0xF0001044 0xF0001048))) fr.back t20 in
      let t21 = in_handler 20 17 back (omega arith) refl gives_global (gives_global_does n c w (on g6 r5 (2 ^ u) 0xF0001044 0xF0001048) there) in
      let to_pc = address_of_local n c w (on g7 r5 (2 ^ u) 0xF0001048 0xF000104C) 17 pc there (omega arith) (omega arith) pc_held pc_word in
      let t22 = in_handler 21 18 t21 (omega arith) refl jumps (jumps_does n c w (on g7 r5 (2 ^ u) 0xF0001048 0xF000104C) w 17 (Register 0) pc to_pc pc_whole) in
      let to_npc = address_of_local n c w (on g7 r5 (2 ^ u) 0xF000104C pc) 18 npc there (omega arith) (omega arith) npc_held npc_word in
      let above_small : above n w < n = above_within n w few many within in
      let next_free : is_masked (2 ^ u) (above n w) ≡ false = not_masked u (above n w) (omega arith) (omega arith) (below_is_not_above n w few many within) in
      in_handler 22 19 t22 (omega arith) refl returns (returns_does n c w (on g7 r5 (2 ^ u) 0xF000104C pc) 18 (Register 0) npc next_free to_npc npc_whole)
