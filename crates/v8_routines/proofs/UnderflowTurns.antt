-- The 23 turns after a RESTORE that traps: w is the window that the trap entered, cur the one of the attempt, u the marked window above
-- that one, and b the window above u.
--   Frame          what is known of the windows, the save area and its words
--   to_the_window  the vector, the mask, and two windows up
--   loading        the eight double words
--   underflow      two windows down, and back to the attempt
use Rattle.std.proofs.Common.{◌≡◌, ◌≢◌, ℕ, suc, ◌+◌, ◌-◌, ◌*◌, ◌%◌, ◌^◌, ◌<◌, ◌≤◌, ◌⊎◌, inl, inr, false, List, [], length, get_or, Some, refl, sym, ap, ◌∙◌, subst, arith}
use Rattle.std.specs.Prelude.{slice_index, bit_xor}
use Rattle.v8_core.specs.Operand.TheVariants.{Register}
use Rattle.v8_core.specs.Operation.{Operation}
use Rattle.v8_core.specs.Operations.{load}
use Rattle.v8_core.specs.Loading.TheVariants as loadings
use Rattle.v8_core.specs.Ram.{entry_of}
use Rattle.v8_core.specs.MmuRegs.{MmuRegs}
use Rattle.v8_core.specs.Windows.{AreRows, below, above, is_masked}
use Rattle.v8_core.specs.Control.{Control}
use Rattle.v8_core.specs.Cpu.{Cpu}
use Rattle.v8_core.specs.Accesses.{World, world}
use Rattle.v8_loaded.specs.Handlers.{trap_word, handler_word, page_word}
use Rattle.v8_loaded.specs.Layout.{Pages, IsLoaded}
use Rattle.v8_loaded.specs.Board.{Device}
use Rattle.v8_loaded.specs.Areas.{HasRoom, area_of}
use Rattle.v8_loaded.proofs.Words.{Asks, at_stack, reads_mask, goes_underflow, shifts_mask_left, shifts_right, joins_local, writes_mask_local, nothing}
use Rattle.v8_loaded.proofs.Words.{restores, loads_0, loads_1, loads_2, loads_3, loads_4, loads_5, loads_6, loads_7, saves, jumps, returns}
use Rattle.v8_loaded.proofs.Windows.{above_below, below_above, below_within, above_within, above_differs, two_above_differs, three_above_differs, not_masked}
use Rattle.v8_loaded.proofs.Stages.{Inside, stage, finished, pair_written, pair_written_ins, written_pair}
use Rattle.v8_loaded.proofs.Effects.{Does, reads_mask_does, goes_does, shifts_mask_left_does, shifts_right_does, joins_local_does, writes_mask_local_does}
use Rattle.v8_loaded.proofs.Effects.{nothing_does, restores_does, saves_does, jumps_does, returns_does, address_of_local}
use Rattle.v8_loaded.proofs.Turns.{Setting, Comes, filling, starts, table, handler}
use Rattle.v8_loaded.proofs.Stack.{in_load, on_stack, stack_address}
use Rattle.v8_routines.proofs.UnderflowCells.{Loading, refilled, home, spot, home_high, spot_low, kept_word, are_rows}
use Rattle.v8_routines.proofs.UnderflowRows.{row_1, row_3, row_4, row_5, low_kept, turned}

-- the %sp of window u
abbrev pub pointer : List (List ℕ) → ℕ → ℕ
pointer rows u = slice_index (get_or rows u []) 6

-- the windows, the save area of the marked one, and its sixteen words
pub record Frame (n : ℕ) (g : Pages) (ram : List ℕ) (rows : List (List ℕ)) (cur : ℕ) (v : ℕ → ℕ) : Type 0 where
  pub within : cur < n
  pub shape : AreRows n rows
  pub room : HasRoom g (pointer rows (above n cur))
  pub words : (i : ℕ) → i < 16 → entry_of ram (area_of (pointer rows (above n cur)) + 4 * i) ≡ Some (v i)
  pub fit : (i : ℕ) → i < 16 → v i < 2 ^ 32

-- ---- which windows differ

pub window_apart : (n cur : ℕ) → 4 ≤ n → n ≤ 32 → cur < n → above n cur ≢ below n cur
window_apart n cur four many within same =
    two_above_differs n (below n cur) four many (below_within n cur four many within) (ap (above n) (above_below n cur four many within) ∙ same)

pub next_apart : (n cur : ℕ) → 4 ≤ n → n ≤ 32 → cur < n → above n (above n cur) ≢ below n cur
next_apart n cur four many within same =
    three_above_differs n (below n cur) four many (below_within n cur four many within) (ap (λ x. above n (above n x)) (above_below n cur four many within) ∙ same)

free_other : (n x y : ℕ) → n ≤ 32 → x < n → y < n → x ≢ y → is_masked (2 ^ x) y ≡ false
free_other n x y many a b other = not_masked x y (omega arith) (omega arith) other

-- no trap at a window that isn't marked: the attempt's, the one that the trap entered, and the one that is loaded
pub free_attempt : (n cur : ℕ) → 4 ≤ n → n ≤ 32 → cur < n → is_masked (2 ^ above n (above n cur)) cur ≡ false
free_attempt n cur four many within =
    let first = above_within n cur four many within in
    free_other n (above n (above n cur)) cur many (above_within n (above n cur) four many first) within (two_above_differs n cur four many within)

free_trap : (n cur : ℕ) → 4 ≤ n → n ≤ 32 → cur < n → is_masked (2 ^ above n (above n cur)) (below n cur) ≡ false
free_trap n cur four many within =
    let first = above_within n cur four many within in
    free_other n (above n (above n cur)) (below n cur) many (above_within n (above n cur) four many first) (below_within n cur four many within) (next_apart n cur four many within)

free_loaded : (n cur : ℕ) → 4 ≤ n → n ≤ 32 → cur < n → is_masked (2 ^ above n (above n cur)) (above n cur) ≡ false
free_loaded n cur four many within =
    let first = above_within n cur four many within in
    free_other n (above n (above n cur)) (above n cur) many (above_within n (above n cur) four many first) first (above_differs n (above n cur) four many first)

pub loads_of : (n : ℕ) (g : Pages) (ram : List ℕ) (rows : List (List ℕ)) (cur : ℕ) (v : ℕ → ℕ) → 4 ≤ n → n ≤ 32 →
    Frame n g ram rows cur v → Loading n rows (above n cur) (above n (above n cur)) v
loads_of n g ram rows cur v four many f =
    let first = above_within n cur four many f.within in
    record {
      shape = f.shape;
      first = first;
      second = above_within n (above n cur) four many first;
      apart = λ e. above_differs n (above n cur) four many first (sym e);
      fit = f.fit;
    }

-- ---- %sp while the window is loaded

pub pointer_kept : (n : ℕ) (rows : List (List ℕ)) (m a : ℕ) (v : ℕ → ℕ) (k : ℕ) → Loading n rows m a v → k ≤ 16 →
    pointer (refilled rows m a v k) m ≡ pointer rows m
pointer_kept n rows m a v k l few = kept_word n rows m a v k m 6 l few (λ i less. beside i)
  where
    beside : (i : ℕ) → (m ≢ home m a i) ⊎ (6 ≢ spot i)
    beside i =
        let side : (i < 8) ⊎ (8 ≤ i) = search arith in
        elim side [
          | inl low ↦ inr (λ e. let p = spot_low i low in omega arith)
          | inr high ↦ inl (λ e. l.apart (e ∙ home_high m a i high))
        ]

-- ---- the turns

module _ (n : ℕ) (g : Pages) (words : List ℕ) (mmu : MmuRegs) (device : Device) (s : Setting n g mmu device) (c : Control)
    (rows : List (List ℕ)) (cur : ℕ) (globals row ram : List ℕ) (v : ℕ → ℕ) (loaded : IsLoaded n g words ram) (f : Frame n g ram rows cur v) (sixteen : length row ≡ 16) where
  abbrev w : ℕ
  w = below n cur

  abbrev u : ℕ
  u = above n cur

  abbrev b : ℕ
  b = above n u

  abbrev mask : ℕ
  mask = 2 ^ u

  abbrev marks : ℕ
  marks = 2 ^ b

  abbrev r1 : List ℕ
  r1 = row_1 row mask

  abbrev r3 : List ℕ
  r3 = row_3 row mask

  abbrev r4 : List ℕ
  r4 = row_4 n row mask

  abbrev r5 : List ℕ
  r5 = row_5 n row mask

  abbrev sp : ℕ
  sp = pointer rows u

  abbrev on : List (List ℕ) → List ℕ → ℕ → ℕ → ℕ → Inside
  on cells r m pc npc = record { rows = cells; globals = globals; row = r; mask = m; pc = pc; npc = npc }

  abbrev old : World n Device
  old = world n (stage n c w w (on rows row mask 0xF0000060 0xF0000064)) ram device

  -- after j turns, in which so many words were loaded
  abbrev At : ℕ → ℕ → Cpu n → Type 0
  At count j cpu = Comes n g words mmu device (filling (area_of sp) count) j old cpu

  in_table : {count : ℕ} {cpu new : Cpu n} {i : Operation} (j k : ℕ) → At count j cpu → k < 1024 →
      cpu.control.pc ≡ 0xF0000000 + 4 * k → Asks (trap_word k) i → Does n cpu i new → At count (suc j) new
  in_table j k before small at asks d = table n g words mmu device s j k before small at asks d

  in_handler : {count : ℕ} {cpu new : Cpu n} {i : Operation} (j k : ℕ) → At count j cpu → k < 1024 →
      cpu.control.pc ≡ 0xF0001000 + 4 * k → Asks (handler_word n k) i → Does n cpu i new → At count (suc j) new
  in_handler j k before small at asks d = handler n g words mmu device s j k before small at asks d

  up : above n w ≡ cur
  up = above_below n cur s.few s.many f.within

  down : below n u ≡ cur
  down = below_above n cur s.few s.many f.within

  to_loads : Loading n rows u b v
  to_loads = loads_of n g ram rows cur v s.few s.many f

  there : w < length rows
  there = let count = f.shape.count in let within = below_within n cur s.few s.many f.within in omega (arith, count, within)

  -- the handler leaves the windows marked by b alone
  attempt_free : is_masked marks cur ≡ false
  attempt_free = free_attempt n cur s.few s.many f.within

  pub to_the_window : At 0 11 (stage n c w u (on rows r5 marks 0xF00010A0 0xF00010A4))
  unfolding trap_word page_word
  to_the_window =
      let few = s.few in
      let many = s.many in
      let mid = bit_xor (slice_index r5 12) 0 % 2 ^ n in
      let new_mask : mid ≡ marks = turned n u row few many (above_within n cur few many f.within) sixteen in
      let high : 0x2E00 ≤ area_of sp = (let low = f.room.low in let most = s.pages.stack in omega arith) in
      let t0 = starts n g words mmu device s (filling (area_of sp) 0) (stage n c w w (on rows row mask 0xF0000060 0xF0000064)) ram high refl loaded in
      let t1 = in_table 0 24 t0 (omega arith) refl reads_mask (reads_mask_does n c w (on rows row mask 0xF0000060 0xF0000064) there) in
      let t2 = in_table 1 25 t1 (omega arith) refl goes_underflow (goes_does n c w (on rows r1 mask 0xF0000064 0xF0000068) w 0x407) in
      let t3 = in_table 2 26 t2 (omega arith) refl shifts_mask_left (shifts_mask_left_does n c w (on rows r1 mask 0xF0000068 0xF0001080) there) in
      let t4 = in_handler 3 32 t3 (omega arith) refl (shifts_right n few many) (shifts_right_does n c w (on rows r3 mask 0xF0001080 0xF0001084) (n - 1) there) in
      let t5 = in_handler 4 33 t4 (omega arith) refl joins_local (joins_local_does n c w (on rows r4 mask 0xF0001084 0xF0001088) there) in
      let t6 = in_handler 5 34 t5 (omega arith) refl writes_mask_local (writes_mask_local_does n c w (on rows r5 mask 0xF0001088 0xF000108C) there) in
      let t7 = in_handler 6 35 t6 (omega arith) refl nothing (nothing_does n c w (on rows r5 mid 0xF000108C 0xF0001090) w) in
      let t8 = in_handler 7 36 t7 (omega arith) refl nothing (nothing_does n c w (on rows r5 mid 0xF0001090 0xF0001094) w) in
      let t9 = in_handler 8 37 t8 (omega arith) refl nothing (nothing_does n c w (on rows r5 mid 0xF0001094 0xF0001098) w) in
      let masked = subst (λ m. At 0 9 (stage n c w w (on rows r5 m 0xF0001098 0xF000109C))) new_mask t9 in
      let t10 = in_handler 9 38 masked (omega arith) refl restores (restores_does n c w (on rows r5 marks 0xF0001098 0xF000109C) w (ap (is_masked marks) up ∙ attempt_free)) in
      let risen = subst (λ q. At 0 10 (stage n c w q (on rows r5 marks 0xF000109C 0xF00010A0))) up t10 in
      in_handler 10 39 risen (omega arith) refl restores (restores_does n c w (on rows r5 marks 0xF000109C 0xF00010A0) cur (free_loaded n cur few many f.within))

  -- the rows with so many words loaded
  abbrev cells : ℕ → List (List ℕ)
  cells k = refilled rows u b v k

  -- ldd of words 2 j and 2 j + 1
  loads : (t j pc npc rd : ℕ) (new : Cpu n) → At (2 * j) t (stage n c w u (on (cells (2 * j)) r5 marks pc npc)) →
      j < 8 → pc ≡ 0xF00010A0 + 4 * j → rd % 2 ≡ 0 →
      Asks (handler_word n (40 + j)) (load loadings.Double (at_stack rd (8 * j))) → written_pair n (stage n c w u (on (cells (2 * j)) r5 marks pc npc)) rd (v (2 * j)) (v (2 * j + 1)) ≡ new →
      At (2 * j + 2) (suc t) new
  loads t j pc npc rd new before small at even asks written =
      let low = f.room.low in
      let high = f.room.high in
      let most = s.pages.stack in
      let x = on (cells (2 * j)) r5 marks pc npc in
      let first_place : sp + 8 * j - 0x60000 ≡ sp - 0x60000 + 4 * (2 * j) = omega arith in
      let second_place : sp + 8 * j - 0x60000 + 4 ≡ sp - 0x60000 + 4 * (2 * j + 1) = omega arith in
      in_load n g words mmu device s c w u x (area_of sp) (2 * j) (2 * j) (2 * j + 2) old t (40 + j) rd (8 * j) (sp + 8 * j) (v (2 * j)) (v (2 * j + 1)) new before
      (omega arith) (omega arith) asks even
      (stack_address n g words mmu device s c w u x (8 * j) sp (window_apart n cur s.few s.many f.within) (pointer_kept n rows u b v (2 * j) to_loads (omega arith)) (omega arith))
      (on_stack g sp j f.room small) (omega arith) (omega arith) (omega arith)
      (ap (entry_of ram) first_place ∙ f.words (2 * j) (omega arith)) (ap (entry_of ram) second_place ∙ f.words (2 * j + 1) (omega arith)) (f.fit (2 * j + 1) (omega arith)) written

  abbrev to : ℕ → ℕ → ℕ → Cpu n
  to k pc npc = stage n c w u (on (cells k) r5 marks pc npc)

  -- before the last of them
  pub eighteen : At 14 18 (stage n c w u (on (cells 14) r5 marks 0xF00010BC 0xF00010C0))
  unfolding page_word
  eighteen =
      let apart = window_apart n cur s.few s.many f.within in
      let next = next_apart n cur s.few s.many f.within in
      let t1 = loads 11 0 0xF00010A0 0xF00010A4 16 (to 2 0xF00010A4 0xF00010A8) to_the_window (omega arith) refl refl loads_0
      (pair_written n c w (on (cells 0) r5 marks 0xF00010A0 0xF00010A4) u 16 (v 0) (v 1) apart (omega arith) (omega arith) refl) in
      let t2 = loads 12 1 0xF00010A4 0xF00010A8 18 (to 4 0xF00010A8 0xF00010AC) t1 (omega arith) refl refl loads_1
      (pair_written n c w (on (cells 2) r5 marks 0xF00010A4 0xF00010A8) u 18 (v 2) (v 3) apart (omega arith) (omega arith) refl) in
      let t3 = loads 13 2 0xF00010A8 0xF00010AC 20 (to 6 0xF00010AC 0xF00010B0) t2 (omega arith) refl refl loads_2
      (pair_written n c w (on (cells 4) r5 marks 0xF00010A8 0xF00010AC) u 20 (v 4) (v 5) apart (omega arith) (omega arith) refl) in
      let t4 = loads 14 3 0xF00010AC 0xF00010B0 22 (to 8 0xF00010B0 0xF00010B4) t3 (omega arith) refl refl loads_3
      (pair_written n c w (on (cells 6) r5 marks 0xF00010AC 0xF00010B0) u 22 (v 6) (v 7) apart (omega arith) (omega arith) refl) in
      let t5 = loads 15 4 0xF00010B0 0xF00010B4 24 (to 10 0xF00010B4 0xF00010B8) t4 (omega arith) refl refl loads_4
      (pair_written_ins n c w (on (cells 8) r5 marks 0xF00010B0 0xF00010B4) u 24 (v 8) (v 9) next (omega arith) (omega arith) refl) in
      let t6 = loads 16 5 0xF00010B4 0xF00010B8 26 (to 12 0xF00010B8 0xF00010BC) t5 (omega arith) refl refl loads_5
      (pair_written_ins n c w (on (cells 10) r5 marks 0xF00010B4 0xF00010B8) u 26 (v 10) (v 11) next (omega arith) (omega arith) refl) in
      loads 17 6 0xF00010B8 0xF00010BC 28 (to 14 0xF00010BC 0xF00010C0) t6 (omega arith) refl refl loads_6
      (pair_written_ins n c w (on (cells 12) r5 marks 0xF00010B8 0xF00010BC) u 28 (v 12) (v 13) next (omega arith) (omega arith) refl)

  loading : At 16 19 (stage n c w u (on (cells 16) r5 marks 0xF00010C0 0xF00010C4))
  unfolding page_word
  loading =
      let next = next_apart n cur s.few s.many f.within in
      loads 18 7 0xF00010BC 0xF00010C0 30 (to 16 0xF00010C0 0xF00010C4) eighteen (omega arith) refl refl loads_7
      (pair_written_ins n c w (on (cells 14) r5 marks 0xF00010BC 0xF00010C0) u 30 (v 14) (v 15) next (omega arith) (omega arith) refl)

  -- the whole handler, which ends at the place pc with npc after it
  pub underflow : (pc npc : ℕ) → slice_index row 9 ≡ pc → slice_index row 10 ≡ npc → pc < 2 ^ 32 → npc < 2 ^ 32 →
      pc % 4 ≡ 0 → npc % 4 ≡ 0 → At 16 23 (finished n c w (on (cells 16) r5 marks pc npc))
  unfolding page_word
  underflow pc npc is_pc is_npc pc_word npc_word pc_whole npc_whole =
      let last = cells 16 in
      let count = (are_rows n rows u b v 16 to_loads (omega arith)).count in
      let within = below_within n cur s.few s.many f.within in
      let still : w < length last = omega (arith, count, within) in
      let t20 = in_handler 19 48 loading (omega arith) refl saves (saves_does n c w (on last r5 marks 0xF00010C0 0xF00010C4) u (ap (is_masked marks) down ∙ attempt_free)) in
      let back = subst (λ q. At 16 20 (stage n c w q (on last r5 marks 0xF00010C4 0xF00010C8))) down t20 in
      let t21 = in_handler 20 49 back (omega arith) refl saves (saves_does n c w (on last r5 marks 0xF00010C4 0xF00010C8) cur (free_trap n cur s.few s.many f.within)) in
      let to_pc = address_of_local n c w (on last r5 marks 0xF00010C8 0xF00010CC) 17 pc still (omega arith) (omega arith) (low_kept n row mask 9 (omega arith) ∙ is_pc) pc_word in
      let t22 = in_handler 21 50 t21 (omega arith) refl jumps (jumps_does n c w (on last r5 marks 0xF00010C8 0xF00010CC) w 17 (Register 0) pc to_pc pc_whole) in
      let to_npc = address_of_local n c w (on last r5 marks 0xF00010CC pc) 18 npc still (omega arith) (omega arith) (low_kept n row mask 10 (omega arith) ∙ is_npc) npc_word in
      in_handler 22 51 t22 (omega arith) refl returns (returns_does n c w (on last r5 marks 0xF00010CC pc) 18 (Register 0) npc (ap (is_masked marks) up ∙ attempt_free) to_npc npc_whole)
