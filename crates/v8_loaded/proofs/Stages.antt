-- The processor inside a handler, as one function of what changes there. `stage n c w u x`:
--   c         the control registers at the trap, with the trap's own changes (`caught`)
--   w         the window that the trap entered
--   u         the current window
--   x         the words of all windows but w, the globals, the 16 words of window w, the mask, PC and nPC
-- Reading: read_own (current = w, registers 8 to 23), read_other (current ≠ w, 8 to 23), read_trap_ins (24 to 31, the window
--   above = w), read_global, read_zero.
-- Writing: write_own, write_other, write_other_ins (24 to 31, the window above ≠ w).
-- fit_written: a word written to a list of words leaves words.
-- The state after an instruction, `onward`: local_computed, global_computed, local_written, pair_written, pair_written_ins.
use Rattle.std.proofs.Common.{◌≡◌, ◌≢◌, ℕ, ◌+◌, ◌-◌, ◌%◌, ◌^◌, ◌<◌, ◌≤◌, Bool, true, false, List, [], length, get_or, None, refl, sym, ap, ◌∙◌, subst, arith}
use Rattle.std.specs.Prelude.{slice_index, slice_set, ◌==◌}
use Rattle.std.proofs.lemmas.Bool.Decides.{nat_tests}
use Rattle.std.proofs.lemmas.List.{get_or-set_same, get_or-set_other, set-set, set_comm}
use Rattle.v8_core.specs.Outcomes.{out}
use Rattle.v8_core.specs.Operands.{following}
use Rattle.v8_core.specs.Transfers.{odd_of}
use Rattle.v8_core.specs.Windows.{Windows, reg_of, with_reg, above}
use Rattle.v8_core.specs.Control.{Control}
use Rattle.v8_core.specs.Cpu.{Cpu}
use Rattle.v8_core.specs.Effects.{advanced, computed, written}

-- windows where window w has the words of `row`
abbrev pub inside : List (List ℕ) → ℕ → List ℕ → List ℕ → ℕ → ℕ → Windows
inside rows w globals row current mask = record { globals = globals; words = slice_set rows w row; current = current; mask = mask }

-- in a handler: supervisor mode, traps disabled
abbrev pub handling : Control → ℕ → ℕ → Control
handling c pc npc = record c { pc = pc; npc = npc; annul = false; error = None; s = true; et = false }

-- where a handler stands: the words of the windows, the globals, the words of the window that it writes, the mask, and where it goes on
pub record Inside : Type 0 where
  pub rows : List (List ℕ)
  pub globals : List ℕ
  pub row : List ℕ
  pub mask : ℕ
  pub pc : ℕ
  pub npc : ℕ

abbrev pub registers : ℕ → ℕ → Inside → Windows
registers w u x = inside x.rows w x.globals x.row u x.mask

abbrev pub stage : (n : ℕ) → Control → ℕ → ℕ → Inside → Cpu n
stage n c w u x = record { regs = registers w u x; control = handling c x.pc x.npc }

-- on to the next word
abbrev pub onward : Inside → Inside
onward x = record x { pc = x.npc; npc = following x.npc }

-- after RETT: the window above, the mode before the trap, traps enabled
abbrev pub finished : (n : ℕ) → Control → ℕ → Inside → Cpu n
finished n c w x = record {
  regs = registers w (above n w) x;
  control = record (handling c x.pc x.npc) { et = true; s = c.ps };
}

-- ---- reading

pub read_zero : (n : ℕ) (rows : List (List ℕ)) (w : ℕ) (globals row : List ℕ) (current mask : ℕ) →
    reg_of n (inside rows w globals row current mask) 0 ≡ 0
unfolding reg_of
read_zero n rows w globals row current mask = refl

pub read_global : (n : ℕ) (rows : List (List ℕ)) (w : ℕ) (globals row : List ℕ) (current mask : ℕ) →
    reg_of n (inside rows w globals row current mask) 1 ≡ slice_index globals 1
unfolding reg_of
read_global n rows w globals row current mask = refl

pub read_own : (n : ℕ) (rows : List (List ℕ)) (w : ℕ) (globals row : List ℕ) (mask r : ℕ) → w < length rows → 8 ≤ r →
    r < 24 → reg_of n (inside rows w globals row w mask) r ≡ slice_index row (r - 8)
unfolding reg_of
read_own n rows w globals row mask r there low high =
    let same : get_or (slice_set rows w row) w [] ≡ row = get_or-set_same rows w row [] there in
    grind (arith, nat_tests, same)

pub read_other : (n : ℕ) (rows : List (List ℕ)) (w : ℕ) (globals row : List ℕ) (u mask r : ℕ) → u ≢ w → 8 ≤ r →
    r < 24 → reg_of n (inside rows w globals row u mask) r ≡ slice_index (get_or rows u []) (r - 8)
unfolding reg_of
read_other n rows w globals row u mask r other low high =
    let same : get_or (slice_set rows w row) u [] ≡ get_or rows u [] = get_or-set_other rows w u row [] other in
    let t : slice_index (get_or (slice_set rows w row) u []) (r - 8) ≡ slice_index (get_or rows u []) (r - 8) = ap (λ (xs : List ℕ). slice_index xs (r - 8)) same in
    grind (arith, nat_tests, t)

pub read_trap_ins : (n : ℕ) (rows : List (List ℕ)) (w : ℕ) (globals row : List ℕ) (u mask r : ℕ) → w < length rows →
    above n u ≡ w → 24 ≤ r → r < 32 → reg_of n (inside rows w globals row u mask) r ≡ slice_index row (r - 24)
unfolding reg_of
read_trap_ins n rows w globals row u mask r there is low high =
    let same : get_or (slice_set rows w row) (above n u) [] ≡ row = ap (λ x. get_or (slice_set rows w row) x []) is
    ∙ get_or-set_same rows w row [] there in
    let t : slice_index (get_or (slice_set rows w row) (above n u) []) (r - 24) ≡ slice_index row (r - 24) = ap (λ (xs : List ℕ). slice_index xs (r - 24)) same in
    grind (arith, nat_tests, t)

-- ---- writing

-- word k of window v is x
abbrev pub with_cell : List (List ℕ) → ℕ → ℕ → ℕ → List (List ℕ)
with_cell rows v k x = slice_set rows v (slice_set (get_or rows v []) k x)

-- a register of window v, where the trap's window is another
cell_beside : (rows : List (List ℕ)) (w : ℕ) (row : List ℕ) (v k x : ℕ) → v ≢ w →
    with_cell (slice_set rows w row) v k x ≡ slice_set (with_cell rows v k x) w row
cell_beside rows w row v k x other =
    ap (λ (xs : List ℕ). slice_set (slice_set rows w row) v (slice_set xs k x)) (get_or-set_other rows w v row [] other)
    ∙ set_comm rows w v row (slice_set (get_or rows v []) k x) (λ e. other (sym e))

cell_in_it : (rows : List (List ℕ)) (w : ℕ) (row : List ℕ) (k x : ℕ) → w < length rows →
    with_cell (slice_set rows w row) w k x ≡ slice_set rows w (slice_set row k x)
cell_in_it rows w row k x there =
    ap (λ (xs : List ℕ). slice_set (slice_set rows w row) w (slice_set xs k x)) (get_or-set_same rows w row [] there)
    ∙ set-set rows w row (slice_set row k x)

abbrev re_worded : Windows → List (List ℕ) → Windows
re_worded v words = record v { words = words }

pub write_own : (n : ℕ) (rows : List (List ℕ)) (w : ℕ) (globals row : List ℕ) (mask r x : ℕ) → w < length rows →
    8 ≤ r → r < 24 →
    with_reg n (inside rows w globals row w mask) r x ≡ inside rows w globals (slice_set row (r - 8) x) w mask
unfolding with_reg
write_own n rows w globals row mask r x there low high =
    let t : re_worded (inside rows w globals row w mask) (with_cell (slice_set rows w row) w (r - 8) x) ≡
    inside rows w globals (slice_set row (r - 8) x) w mask = ap (re_worded (inside rows w globals row w mask)) (cell_in_it rows w row (r - 8) x there) in
    grind (arith, nat_tests, t)

pub write_other : (n : ℕ) (rows : List (List ℕ)) (w : ℕ) (globals row : List ℕ) (u mask r x : ℕ) → u ≢ w → 8 ≤ r →
    r < 24 →
    with_reg n (inside rows w globals row u mask) r x ≡ inside (with_cell rows u (r - 8) x) w globals row u mask
unfolding with_reg
write_other n rows w globals row u mask r x other low high =
    let t : re_worded (inside rows w globals row u mask) (with_cell (slice_set rows w row) u (r - 8) x) ≡
    inside (with_cell rows u (r - 8) x) w globals row u mask =
    ap (re_worded (inside rows w globals row u mask)) (cell_beside rows w row u (r - 8) x other) in
    grind (arith, nat_tests, t)

pub write_other_ins : (n : ℕ) (rows : List (List ℕ)) (w : ℕ) (globals row : List ℕ) (u mask r x : ℕ) → above n u ≢ w →
    24 ≤ r → r < 32 →
    with_reg n (inside rows w globals row u mask) r x ≡ inside (with_cell rows (above n u) (r - 24) x) w globals row u mask
unfolding with_reg
write_other_ins n rows w globals row u mask r x other low high =
    let t : re_worded (inside rows w globals row u mask) (with_cell (slice_set rows w row) (above n u) (r - 24) x) ≡
    inside (with_cell rows (above n u) (r - 24) x) w globals row u mask =
    ap (re_worded (inside rows w globals row u mask)) (cell_beside rows w row (above n u) (r - 24) x other) in
    grind (arith, nat_tests, t)

pub fit_written : (xs : List ℕ) (k x : ℕ) → ((j : ℕ) → slice_index xs j < 2 ^ 32) → k < length xs → x < 2 ^ 32 →
    (i : ℕ) → slice_index (slice_set xs k x) i < 2 ^ 32
fit_written xs k x fit there small i = by_place (i == k) refl
  where
    by_place : (t : Bool) → (i == k) ≡ t → slice_index (slice_set xs k x) i < 2 ^ 32
    by_place true e =
        let same : i ≡ k = grind (arith, nat_tests) in
        subst (λ y. y < 2 ^ 32) (sym (ap (slice_index (slice_set xs k x)) same ∙ get_or-set_same xs k x 0 there)) small
    by_place false e =
        let other : i ≢ k = grind (arith, nat_tests) in
        subst (λ y. y < 2 ^ 32) (sym (get_or-set_other xs k i x 0 other)) (fit i)

-- ---- the state after a write

abbrev with_regs : (n : ℕ) → Control → Windows → Cpu n
with_regs n c v = record { regs = v; control = c }

-- a pair of registers written, the even one first, and the next instruction
abbrev pub written_pair : (n : ℕ) → Cpu n → ℕ → ℕ → ℕ → Cpu n
written_pair n cpu rd x y = record { regs = with_reg n (with_reg n cpu.regs rd x) (odd_of rd) y; control = advanced cpu.control }

module _ (n : ℕ) (c : Control) (w : ℕ) (x : Inside) where
  abbrev then_control : Control
  then_control = handling c x.npc (following x.npc)

  -- a local of the trap's window
  pub local_written : (rd v : ℕ) → w < length x.rows → 16 ≤ rd → rd < 24 →
      written n (stage n c w w x) rd v ≡ stage n c w w (onward (record x { row = slice_set x.row (rd - 8) v }))
  unfolding written advanced
  local_written rd v there low high = ap (with_regs n then_control) (write_own n x.rows w x.globals x.row x.mask rd v there (omega arith) high)

  pub local_computed : (rd v : ℕ) → w < length x.rows → 16 ≤ rd → rd < 24 →
      computed n (stage n c w w x) rd (out v c.icc c.y) ≡ stage n c w w (onward (record x { row = slice_set x.row (rd - 8) v }))
  unfolding computed advanced
  local_computed rd v there low high = ap (with_regs n then_control) (write_own n x.rows w x.globals x.row x.mask rd v there (omega arith) high)

  -- the first global
  pub global_computed : (u v : ℕ) →
      computed n (stage n c w u x) 1 (out v c.icc c.y) ≡ stage n c w u (onward (record x { globals = slice_set x.globals 1 v }))
  unfolding computed advanced with_reg
  global_computed u v = refl

  abbrev with_rows : ℕ → List (List ℕ) → Cpu n
  with_rows u rows = stage n c w u (onward (record x { rows = rows }))

  -- two locals of another window u
  pub pair_written : (u rd a b : ℕ) → u ≢ w → 16 ≤ rd → rd < 24 → rd % 2 ≡ 0 →
      written_pair n (stage n c w u x) rd a b ≡ stage n c w u (onward (record x { rows = with_cell (with_cell x.rows u (rd - 8) a) u (rd - 7) b }))
  unfolding advanced
  pair_written u rd a b other low high even =
      let odd : odd_of rd ≡ rd + 1 = omega arith in
      let place : rd + 1 - 8 ≡ rd - 7 = omega arith in
      let to = with_regs n then_control in
      let first = with_cell x.rows u (rd - 8) a in
      ap (λ v. to (with_reg n v (odd_of rd) b)) (write_other n x.rows w x.globals x.row u x.mask rd a other (omega arith) high)
      ∙ ap (λ q. to (with_reg n (inside first w x.globals x.row u x.mask) q b)) odd
      ∙ ap to (write_other n first w x.globals x.row u x.mask (rd + 1) b other (omega arith) (omega arith))
      ∙ ap (λ k. with_rows u (with_cell first u k b)) place

  -- two ins of another window u
  pub pair_written_ins : (u rd a b : ℕ) → above n u ≢ w → 24 ≤ rd → rd < 32 → rd % 2 ≡ 0 →
      written_pair n (stage n c w u x) rd a b ≡ stage n c w u (onward (record x { rows = with_cell (with_cell x.rows (above n u) (rd - 24) a) (above n u) (rd - 23) b }))
  unfolding advanced
  pair_written_ins u rd a b other low high even =
      let odd : odd_of rd ≡ rd + 1 = omega arith in
      let place : rd + 1 - 24 ≡ rd - 23 = omega arith in
      let to = with_regs n then_control in
      let first = with_cell x.rows (above n u) (rd - 24) a in
      ap (λ v. to (with_reg n v (odd_of rd) b)) (write_other_ins n x.rows w x.globals x.row u x.mask rd a other low high)
      ∙ ap (λ q. to (with_reg n (inside first w x.globals x.row u x.mask) q b)) odd
      ∙ ap to (write_other_ins n first w x.globals x.row u x.mask (rd + 1) b other (omega arith) (omega arith))
      ∙ ap (λ k. with_rows u (with_cell first (above n u) k b)) place
