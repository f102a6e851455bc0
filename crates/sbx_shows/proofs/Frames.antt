-- A call begun and ended: the windows move by one, and the calls' ages with them.
use Rattle.std.proofs.Common.{◌≡◌, ◌≢◌, ℕ, zero, suc, ◌+◌, ◌-◌, ◌*◌, ◌%◌, ◌^◌, ◌<◌, ◌≤◌, Bool, true, false, List, ◌∷◌, length, Some, None, refl, sym, ap, ◌∙◌, arith}
use Rattle.std.specs.Prelude.{slice_index, ◌==◌, ◌&&◌, nat_lt, nat_le, if◌then◌else◌}
use Rattle.std.proofs.lemmas.Bool.Decides.{nat_tests}
use Rattle.v8_loaded.specs.Areas.{area_of}
use Rattle.v8_map.specs.declared.TheConstants.{STACK_LOWEST, STACK_END, RAM}
use Rattle.v8_core.specs.Ram.{entry_of}
use Rattle.v8_core.specs.Windows.{Windows, IsFile, above, below, moved, with_reg, word_at}
use Rattle.v8_windows.proofs.AfterWrites.{written_at, written_current}
use Rattle.v8_routines.proofs.Frames.{file_moved}
use Rattle.v8_loaded.proofs.Stack.{word_in, word_there}
use Rattle.v8_loaded.proofs.Windows.{below_within}
use Rattle.sbx_flat.specs.Registers.{Frame, Fresh, IsFresh, Registers, is_slot, pushed}
use Rattle.sbx_flat.specs.Calls.{base, cell, depth, slot}
use Rattle.sbx_flat.specs.WellFormed.{IsStacked}
use Rattle.sbx_shows.specs.Shows.{window, ShowsCalls, ShowsSaved, ShowsSlot, ShowsSlots, HasStack}
use Rattle.sbx_shows.proofs.Distances.{below_is, same_distance, window_above, window_below, window_here}
use Rattle.sbx_shows.proofs.Writing.{mask_kept}

-- ---- a call ends

abbrev pub called : Registers → Frame → List Frame → Registers
called file caller older = record file { older = caller ∷ older }

abbrev pub ended : Registers → Frame → List Frame → Registers
ended file caller older = record file { newest = caller; older = older }

cell_ended : (file : Registers) (caller : Frame) (older : List Frame) (k j : ℕ) → cell (called file caller older) (suc k) j ≡ cell (ended file caller older) k j
unfolding cell
cell_ended file caller older k j = refl

slot_ended : (file : Registers) (caller : Frame) (older : List Frame) (k a : ℕ) → slot (called file caller older) (suc k) a ≡ slot (ended file caller older) k a
unfolding slot
slot_ended file caller older k a = refl

pub calls_ended : (n : ℕ) (v : Windows) (file : Registers) (caller : Frame) (older : List Frame) (r : ℕ) → IsFile n v → ShowsCalls n v (called file caller older) (suc r) → 1 ≤ r →
    ShowsCalls n (moved v (above n v.current)) (ended file caller older) r
calls_ended n v file caller older r f h some =
    let few = f.few in
    let most = h.most in
    let before = h.open_calls in
    record {
      some = some;
      most = omega arith;
      open_calls = omega arith;
      mask = h.mask ∙ ap (λ w. 2 ^ w) (sym (window_above n v.current r few f.current));
      globals = h.globals;
      outs = λ k j a b. ap (λ w. word_at v w j) (window_above n v.current k few f.current) ∙ h.outs (suc k) j (omega arith) b ∙ cell_ended file caller older k j;
      locals = λ k j a b d. ap (λ w. word_at v w j) (window_above n v.current k few f.current) ∙ h.locals (suc k) j (omega arith) b d ∙ cell_ended file caller older k j;
    }

pub stacked_ended : (pages : ℕ) (file : Registers) (caller : Frame) (older : List Frame) → IsStacked pages (called file caller older) → IsStacked pages (ended file caller older)
unfolding cell
stacked_ended pages file caller older st = record {
  aligned = λ k less. st.aligned (suc k) (omega arith);
  low = λ k less. st.low (suc k) (omega arith);
  high = λ k less. st.high (suc k) (omega arith);
  apart = λ k i a b. st.apart (suc k) (suc i) (omega arith) (omega arith);
}

pub saved_ended : (r : ℕ) (ram : List ℕ) (file : Registers) (caller : Frame) (older : List Frame) → ShowsSaved (called file caller older) (suc r) ram → ShowsSaved (ended file caller older) r ram
unfolding cell
saved_ended r ram file caller older h = record {
  locals = λ k j a b d. h.locals (suc k) j (omega arith) (omega arith) d;
  ins = λ k j a b d. h.ins (suc k) j (omega arith) (omega arith) d;
}

pub slots_ended : (ram : List ℕ) (file : Registers) (caller : Frame) (older : List Frame) → ShowsSlots (called file caller older) ram → ShowsSlots (ended file caller older) ram
unfolding cell
slots_ended ram file caller older h k a w less is =
    let o = h (suc k) a w (omega arith) (slot_ended file caller older k a ∙ is) in
    record { place = record { aligned = o.place.aligned; low = o.place.low; high = o.place.high; below = λ i b d. o.place.below (suc i) (omega arith) (omega arith) }; there = o.there }

-- ---- a call begins

-- the fresh words are those that the window below and the stack hold
abbrev pub found_fresh : ℕ → Windows → List ℕ → Fresh
found_fresh n v ram = record {
  locals = λ q. word_at v (below n v.current) (q - 8);
  outs = λ q. word_at v (below n v.current) (q - 8);
  slots = λ a. if nat_le STACK_LOWEST a && (nat_lt a STACK_END && (a % 4 == 0)) then word_in ram (area_of a) else 0;
}

pub found_is_fresh : (n : ℕ) (v : Windows) (ram : List ℕ) → IsFile n v → length ram ≡ RAM → HasStack ram → IsFresh (found_fresh n v ram)
found_is_fresh n v ram f size stack = record {
  locals = λ q. f.rows.fit (below n v.current) (q - 8);
  outs = λ q. f.rows.fit (below n v.current) (q - 8);
  slots = λ a. by_place a (nat_le STACK_LOWEST a && (nat_lt a STACK_END && (a % 4 == 0))) refl;
}
  where
    by_place : (a : ℕ) (t : Bool) → (nat_le STACK_LOWEST a && (nat_lt a STACK_END && (a % 4 == 0))) ≡ t → (if t then word_in ram (area_of a) else 0) < 2 ^ 32
    by_place a true e =
        let low : STACK_LOWEST ≤ a = grind (arith, nat_tests) in
        let high : a < STACK_END = grind (arith, nat_tests) in
        let aligned : a % 4 ≡ 0 = grind (arith, nat_tests) in
        stack (area_of a) (word_in ram (area_of a)) (omega arith) (word_there ram (area_of a) size (omega arith) (omega arith))
    by_place a false e = omega arith

cell_begun : (fresh : Fresh) (b : ℕ) (file : Registers) (k j : ℕ) → cell (pushed fresh b file) (suc k) j ≡ cell file k j
unfolding cell
cell_begun fresh b file k j = refl

slot_begun : (fresh : Fresh) (b : ℕ) (file : Registers) (k a : ℕ) → slot (pushed fresh b file) (suc k) a ≡ slot file k a
unfolding slot
slot_begun fresh b file k a = refl

-- the new call's words
cell_new : (n : ℕ) (v : Windows) (ram : List ℕ) (b : ℕ) (file : Registers) (j : ℕ) → j < 16 → cell (pushed (found_fresh n v ram) b file) 0 j ≡ (if j == 6 then b else word_at v (below n v.current) j)
unfolding cell
cell_new n v ram b file j small =
    let back : j + 8 - 8 ≡ j = omega arith in
    let same : word_at v (below n v.current) (j + 8 - 8) ≡ word_at v (below n v.current) j = ap (word_at v (below n v.current)) back in
    grind (arith, nat_tests, same)

-- and the board's
board_new : (n : ℕ) (v : Windows) (b w j : ℕ) → IsFile n v → word_at (with_reg n (moved v (below n v.current)) 14 b) w j ≡ (if (w == below n v.current) && (j == 6) then b else word_at v w j)
board_new n v b w j f = written_at n (moved v (below n v.current)) 14 b w j (file_moved n v (below n v.current) f (below_within n v.current f.few f.many f.current)) (omega arith) (omega arith)

module _ (n : ℕ) (v : Windows) (file : Registers) (r b : ℕ) (ram : List ℕ) (f : IsFile n v) (h : ShowsCalls n v file r) (free : r + 1 < n) where
  abbrev c : ℕ
  c = v.current

  abbrev fresh : Fresh
  fresh = found_fresh n v ram

  abbrev new : Windows
  new = with_reg n (moved v (below n c)) 14 b

  new_current : new.current ≡ below n c
  new_current = written_current n (moved v (below n c)) 14 b

  here : window n (below n c) 0 ≡ below n c
  here = window_here n (below n c) (below_within n c f.few f.many f.current)

  -- words of older windows
  older_word : (k j : ℕ) → k ≤ r → word_at new (window n new.current (suc k)) j ≡ word_at v (window n c k) j
  older_word k j less =
      let few = f.few in
      let other : window n c k ≢ below n c = λ e. let same = same_distance n c k (n - 1) f.current (omega arith) (omega arith) (e ∙ below_is n c few) in omega arith in
      let test : ((window n c k == below n c) && (j == 6)) ≡ false = grind (arith, nat_tests, other) in
      ap (λ q. word_at new (window n q (suc k)) j) new_current
      ∙ ap (λ w. word_at new w j) (window_below n c k few f.current)
      ∙ board_new n v b (window n c k) j f
      ∙ ap (λ (t : Bool). if t then b else word_at v (window n c k) j) test

  new_word : (j : ℕ) → j < 16 → word_at new (window n new.current 0) j ≡ cell (pushed fresh b file) 0 j
  new_word j small =
      let test : (below n c == below n c) ≡ true = grind (arith, nat_tests) in
      ap (λ q. word_at new (window n q 0) j) new_current
      ∙ ap (λ w. word_at new w j) here
      ∙ board_new n v b (below n c) j f
      ∙ ap (λ (t : Bool). if t && (j == 6) then b else word_at v (below n c) j) test
      ∙ sym (cell_new n v ram b file j small)

  outs_begun : (k j : ℕ) → k ≤ suc r → j < 8 → word_at new (window n new.current k) j ≡ cell (pushed fresh b file) k j
  outs_begun zero j a d = new_word j (omega arith)
  outs_begun (suc k) j a d = older_word k j (omega arith) ∙ h.outs k j (omega arith) d ∙ sym (cell_begun fresh b file k j)

  locals_begun : (k j : ℕ) → k < suc r → 8 ≤ j → j < 16 → word_at new (window n new.current k) j ≡ cell (pushed fresh b file) k j
  locals_begun zero j a d e = new_word j e
  locals_begun (suc k) j a d e = older_word k j (omega arith) ∙ h.locals k j (omega arith) d e ∙ sym (cell_begun fresh b file k j)

  globals_same : new.globals ≡ v.globals
  unfolding with_reg
  globals_same = refl

  pub calls_begun : ShowsCalls n new (pushed fresh b file) (suc r)
  calls_begun =
      let few = f.few in
      let most = h.most in
      let before = h.open_calls in
      record {
        some = omega arith;
        most = omega arith;
        open_calls = omega arith;
        mask = mask_kept n (moved v (below n c)) 14 b ∙ h.mask ∙ ap (λ w. 2 ^ w) (sym (window_below n c r few f.current)) ∙ ap (λ q. 2 ^ window n q (suc r)) (sym new_current);
        globals = λ k x y. ap (λ (gs : List ℕ). slice_index gs k) globals_same ∙ h.globals k x y;
        outs = outs_begun;
        locals = locals_begun;
      }

-- where the new call's 64 bytes lie
pub record IsBase (pages : ℕ) (file : Registers) (b : ℕ) : Type 0 where
  pub aligned : b % 8 ≡ 0
  pub under : b + 64 ≤ base file 0
  pub low : STACK_END ≤ b + 4096 * pages

base_new : (begins : Fresh) (b : ℕ) (file : Registers) → base (pushed begins b file) 0 ≡ b
unfolding cell
base_new begins b file = refl

module _ (pages : ℕ) (file : Registers) (fresh : Fresh) (b : ℕ) (st : IsStacked pages file) (o : IsBase pages file b) where
  abbrev begun : Registers
  begun = pushed fresh b file

  aligned_begun : (k : ℕ) → k < depth begun → base begun k % 8 ≡ 0
  aligned_begun zero less = ap (λ q. q % 8) (base_new fresh b file) ∙ o.aligned
  aligned_begun (suc k) less = ap (λ q. q % 8) (cell_begun fresh b file k 6) ∙ st.aligned k (omega arith)

  low_begun : (k : ℕ) → k < depth begun → STACK_END ≤ base begun k + 4096 * pages
  low_begun zero less = let e = base_new fresh b file in let low = o.low in omega arith
  low_begun (suc k) less = let e : base begun (suc k) ≡ base file k = cell_begun fresh b file k 6 in let low = st.low k (omega arith) in omega arith

  high_begun : (k : ℕ) → k < depth begun → base begun k + 64 ≤ STACK_END
  high_begun zero less = let e = base_new fresh b file in let under = o.under in let high = st.high 0 (omega arith) in omega arith
  high_begun (suc k) less = let e : base begun (suc k) ≡ base file k = cell_begun fresh b file k 6 in let high = st.high k (omega arith) in omega arith

  pub under_all : (i : ℕ) → i < depth file → b + 64 ≤ base file i
  under_all zero less = o.under
  under_all (suc i) less = let e = st.apart 0 (suc i) (omega arith) less in let under = o.under in omega arith

  apart_begun : (k i : ℕ) → k < i → i < depth begun → base begun k + 64 ≤ base begun i
  apart_begun k zero less there = absurd (omega arith)
  apart_begun zero (suc i) less there =
      let e = base_new fresh b file in
      let d : base begun (suc i) ≡ base file i = cell_begun fresh b file i 6 in
      let under = under_all i (omega arith) in
      omega arith
  apart_begun (suc k) (suc i) less there =
      let e : base begun (suc k) ≡ base file k = cell_begun fresh b file k 6 in
      let d : base begun (suc i) ≡ base file i = cell_begun fresh b file i 6 in
      let apart = st.apart k i (omega arith) (omega arith) in
      omega arith

  pub stacked_begun : IsStacked pages begun
  stacked_begun = record { aligned = aligned_begun; low = low_begun; high = high_begun; apart = apart_begun }

  pub saved_begun : (r : ℕ) (ram : List ℕ) → ShowsSaved file r ram → ShowsSaved begun (suc r) ram
  saved_begun r ram h = record { locals = saved_locals; ins = saved_ins }
    where
      saved_locals : (k j : ℕ) → suc r ≤ k → k < depth begun → j < 8 → entry_of ram (area_of (base begun k) + 4 * j) ≡ Some (cell begun k (8 + j))
      saved_locals zero j a d e = absurd (omega arith)
      saved_locals (suc k) j a d e =
          ap (λ q. entry_of ram (area_of q + 4 * j)) (cell_begun fresh b file k 6) ∙ h.locals k j (omega arith) (omega arith) e ∙ ap Some (sym (cell_begun fresh b file k (8 + j)))

      saved_ins : (k j : ℕ) → suc r ≤ k → k < depth begun → j < 8 → entry_of ram (area_of (base begun k) + 32 + 4 * j) ≡ Some (cell begun (suc k) j)
      saved_ins zero j a d e = absurd (omega arith)
      saved_ins (suc k) j a d e =
          ap (λ q. entry_of ram (area_of q + 32 + 4 * j)) (cell_begun fresh b file k 6) ∙ h.ins k j (omega arith) (omega arith) e ∙ ap Some (sym (cell_begun fresh b file (suc k) j))

-- the new call's slots are the words of the stack between its 64 bytes and its caller's
module _ (n pages : ℕ) (v : Windows) (file : Registers) (b : ℕ) (ram : List ℕ) (st : IsStacked pages file) (o : IsBase pages file b) (few : pages ≤ 16) (size : length ram ≡ RAM) where
  abbrev fresh_words : Fresh
  fresh_words = found_fresh n v ram

  abbrev begun_file : Registers
  begun_file = pushed fresh_words b file

  top_out : file.newest.outs 14 ≡ base file 0
  unfolding cell
  top_out = refl

  slot_new : (a : ℕ) → slot begun_file 0 a ≡ (if is_slot b (file.newest.outs 14) a then Some (fresh_words.slots a) else None)
  unfolding slot
  slot_new a = refl

  found_slot : (a : ℕ) → STACK_LOWEST ≤ a → a < STACK_END → a % 4 ≡ 0 → fresh_words.slots a ≡ word_in ram (area_of a)
  found_slot a low high aligned = grind (arith, nat_tests)

  of_new : (a w : ℕ) (t : Bool) → is_slot b (file.newest.outs 14) a ≡ t → (if t then Some (fresh_words.slots a) else None) ≡ Some w → ShowsSlot begun_file ram 0 a w
  of_new a w false e is = absurd (cc)
  of_new a w true e is =
      let aligned : a % 4 ≡ 0 = grind (arith, nat_tests) in
      let from : b + 64 ≤ a = grind (arith, nat_tests) in
      let to : a < file.newest.outs 14 = grind (arith, nat_tests) in
      let top = top_out in
      let base_here = base_new fresh_words b file in
      let high = st.high 0 (omega arith) in
      let eight = st.aligned 0 (omega arith) in
      let low = o.low in
      let value : fresh_words.slots a ≡ w = cc in
      record {
        place = record {
          aligned = aligned;
          low = omega arith;
          high = omega arith;
          below = λ i x y. below_older i x y (omega arith);
        };
        there = word_there ram (area_of a) size (omega arith) (omega arith) ∙ ap Some (sym (found_slot a (omega arith) (omega arith) aligned)) ∙ ap Some value;
      }
    where
      below_older : (i : ℕ) → 0 < i → i < depth begun_file → a + 4 ≤ base file 0 → a + 4 ≤ base begun_file i
      below_older zero x y under = absurd (omega arith)
      below_older (suc zero) x y under = let e : base begun_file 1 ≡ base file 0 = cell_begun fresh_words b file 0 6 in omega arith
      below_older (suc (suc i)) x y under =
          let e : base begun_file (suc (suc i)) ≡ base file (suc i) = cell_begun fresh_words b file (suc i) 6 in
          let up = st.apart 0 (suc i) (omega arith) (omega arith) in
          omega arith

  pub slots_begun : ShowsSlots file ram → ShowsSlots begun_file ram
  slots_begun h zero a w less is = of_new a w (is_slot b (file.newest.outs 14) a) refl (sym (slot_new a) ∙ is)
  slots_begun h (suc k) a w less is =
      let p = h k a w (omega arith) (sym (slot_begun fresh_words b file k a) ∙ is) in
      let e : base begun_file (suc k) ≡ base file k = cell_begun fresh_words b file k 6 in
      let low = p.place.low in
      record {
        place = record { aligned = p.place.aligned; low = omega arith; high = p.place.high; below = λ i x y. older_below i x y (p.place.below) };
        there = p.there;
      }
    where
      older_below : (i : ℕ) → suc k < i → i < depth begun_file → ((j : ℕ) → k < j → j < depth file → a + 4 ≤ base file j) → a + 4 ≤ base begun_file i
      older_below zero x y under = absurd (omega arith)
      older_below (suc i) x y under = let e : base begun_file (suc i) ≡ base file i = cell_begun fresh_words b file i 6 in let u = under i (omega arith) (omega arith) in omega arith
