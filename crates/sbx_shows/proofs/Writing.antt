-- A register written on both machines.
use Rattle.std.proofs.Common.{◌≡◌, ◌≢◌, ℕ, zero, suc, ◌+◌, ◌-◌, ◌*◌, ◌%◌, ◌^◌, ◌<◌, ◌≤◌, ◌⊎◌, inl, inr, Bool, true, false, List, [], ◌∷◌, length, Some, refl, sym, ap, ◌∙◌, subst, arith}
use Rattle.std.specs.Prelude.{slice_index, slice_set, ◌==◌, ◌&&◌, nat_lt, if◌then◌else◌}
use Rattle.std.proofs.lemmas.Bool.Decides.{nat_tests}
use Rattle.std.proofs.lemmas.List.{get_or-set_same, get_or-set_other}
use Rattle.v8_loaded.specs.Areas.{area_of}
use Rattle.v8_core.specs.Ram.{entry_of}
use Rattle.v8_core.specs.Windows.{Windows, IsFile, above, with_reg, word_at}
use Rattle.v8_windows.proofs.AfterWrites.{written_at, written_current}
use Rattle.sbx_flat.specs.Registers.{Frame, Registers, Words, with_in, with_word as with_number, written}
use Rattle.sbx_flat.specs.Calls.{base, cell, depth, slot}
use Rattle.sbx_flat.specs.WellFormed.{IsStacked}
use Rattle.sbx_shows.specs.Shows.{window, ShowsCalls, ShowsSaved, ShowsSlots}
use Rattle.sbx_shows.proofs.Distances.{window_here, window_test}

-- ---- the flat machine

pub written_zero : (x : ℕ) (file : Registers) → written 0 x file ≡ file
unfolding written
written_zero x file = refl

pub written_global : (rd x : ℕ) (file : Registers) → 1 ≤ rd → rd < 8 → written rd x file ≡ record file { globals = with_number file.globals rd x }
unfolding written
written_global rd x file low high = grind (arith, nat_tests)

written_out : (rd x : ℕ) (file : Registers) → 8 ≤ rd → rd < 16 → written rd x file ≡ record file { newest = record file.newest { outs = with_number file.newest.outs rd x } }
unfolding written
written_out rd x file low high = grind (arith, nat_tests)

written_local : (rd x : ℕ) (file : Registers) → 16 ≤ rd → rd < 24 → written rd x file ≡ record file { newest = record file.newest { locals = with_number file.newest.locals rd x } }
unfolding written
written_local rd x file low high = grind (arith, nat_tests)

written_in : (rd x : ℕ) (file : Registers) → 24 ≤ rd → written rd x file ≡ with_in rd x file
unfolding written
written_in rd x file low = grind (arith, nat_tests)

pub cell_out : (rd x : ℕ) (file : Registers) (k j : ℕ) → 8 ≤ rd → rd < 16 → cell (written rd x file) k j ≡ (if (k == 0) && (j == rd - 8) then x else cell file k j)
unfolding cell
cell_out rd x file zero j low high = ap (λ f. cell f zero j) (written_out rd x file low high) ∙ grind (arith, nat_tests)
cell_out rd x file (suc k) j low high = ap (λ f. cell f (suc k) j) (written_out rd x file low high) ∙ grind (arith, nat_tests)

pub cell_local : (rd x : ℕ) (file : Registers) (k j : ℕ) → 16 ≤ rd → rd < 24 → cell (written rd x file) k j ≡ (if (k == 0) && (j == rd - 8) then x else cell file k j)
unfolding cell
cell_local rd x file zero j low high = ap (λ f. cell f zero j) (written_local rd x file low high) ∙ grind (arith, nat_tests)
cell_local rd x file (suc k) j low high = ap (λ f. cell f (suc k) j) (written_local rd x file low high) ∙ grind (arith, nat_tests)

ins_cell : (newest : Frame) (older : List Frame) (globals ins : Words) (rd x k j : ℕ) → 24 ≤ rd → rd < 32 →
    cell (with_in rd x (record { globals = globals; newest = newest; older = older; oldest_ins = ins })) k j ≡
    (if (k == 1) && (j == rd - 24) then x else cell (record { globals = globals; newest = newest; older = older; oldest_ins = ins }) k j)
unfolding cell
ins_cell newest [] globals ins rd x zero j low high = refl
ins_cell newest [] globals ins rd x (suc zero) j low high = grind (arith, nat_tests)
ins_cell newest [] globals ins rd x (suc (suc k)) j low high = grind (arith, nat_tests)
ins_cell newest (f ∷ fs) globals ins rd x zero j low high = refl
ins_cell newest (f ∷ fs) globals ins rd x (suc zero) j low high = grind (arith, nat_tests)
ins_cell newest (f ∷ fs) globals ins rd x (suc (suc k)) j low high = grind (arith, nat_tests)

pub cell_ins : (rd x : ℕ) (file : Registers) (k j : ℕ) → 24 ≤ rd → rd < 32 → cell (written rd x file) k j ≡ (if (k == 1) && (j == rd - 24) then x else cell file k j)
cell_ins rd x file k j low high = ap (λ f. cell f k j) (written_in rd x file low) ∙ ins_cell file.newest file.older file.globals file.oldest_ins rd x k j low high

-- what a write leaves of the calls
pub record SameCalls (old new : Registers) : Type 0 where
  pub deep : depth new ≡ depth old
  pub bases : (k : ℕ) → base new k ≡ base old k
  pub slots : (k a : ℕ) → slot new k a ≡ slot old k a
  pub locals : (k j : ℕ) → 1 ≤ k → 8 ≤ j → cell new k j ≡ cell old k j
  pub outs : (k j : ℕ) → 2 ≤ k → cell new k j ≡ cell old k j

pub flat_shape : (rd x : ℕ) (file : Registers) → (depth (written rd x file) ≡ depth file) × ((k a : ℕ) → slot (written rd x file) k a ≡ slot file k a)
unfolding slot
flat_shape zero x file = (ap (λ (f : Registers). depth f) (written_zero x file), λ k a. ap (λ (f : Registers). slot f k a) (written_zero x file))
flat_shape (suc rd) x file =
    let first : (suc rd < 8) ⊎ (8 ≤ suc rd) = search arith in
    let second : (suc rd < 16) ⊎ (16 ≤ suc rd) = search arith in
    let third : (suc rd < 24) ⊎ (24 ≤ suc rd) = search arith in
    elim first [
      | inl a ↦ let e = written_global (suc rd) x file (omega arith) a in (ap (λ (f : Registers). depth f) e, λ k b. ap (λ (f : Registers). slot f k b) e)
      | inr a ↦ elim second [
        | inl b ↦ let e = written_out (suc rd) x file a b in
            (ap (λ (f : Registers). depth f) e, λ k b. ap (λ (f : Registers). slot f k b) e ∙ out_slot file (with_number file.newest.outs (suc rd) x) k b)
        | inr b ↦ elim third [
          | inl d ↦ let e = written_local (suc rd) x file b d in
              (ap (λ (f : Registers). depth f) e, λ k b. ap (λ (f : Registers). slot f k b) e ∙ local_slot file (with_number file.newest.locals (suc rd) x) k b)
          | inr d ↦ let e = written_in (suc rd) x file d in (
            ap (λ (f : Registers). depth f) e ∙ (in_shape file.newest file.older file.globals file.oldest_ins (suc rd) x).0,
            λ k b. ap (λ (f : Registers). slot f k b) e ∙ (in_shape file.newest file.older file.globals file.oldest_ins (suc rd) x).1 k b,
          )
        ]
      ]
    ]
  where
    out_slot : (file : Registers) (outs : Words) (k a : ℕ) → slot (record file { newest = record file.newest { outs = outs } }) k a ≡ slot file k a
    out_slot file outs zero a = refl
    out_slot file outs (suc k) a = refl

    local_slot : (file : Registers) (locals : Words) (k a : ℕ) → slot (record file { newest = record file.newest { locals = locals } }) k a ≡ slot file k a
    local_slot file locals zero a = refl
    local_slot file locals (suc k) a = refl

    in_slot : (newest caller : Frame) (older : List Frame) (globals ins outs : Words) (k a : ℕ) →
        slot (record { globals = globals; newest = newest; older = record caller { outs = outs } ∷ older; oldest_ins = ins }) k a ≡
        slot (record { globals = globals; newest = newest; older = caller ∷ older; oldest_ins = ins }) k a
    in_slot newest caller older globals ins outs zero a = refl
    in_slot newest caller older globals ins outs (suc zero) a = refl
    in_slot newest caller older globals ins outs (suc (suc k)) a = refl

    in_shape : (newest : Frame) (older : List Frame) (globals ins : Words) (rd x : ℕ) →
        let file : Registers = record { globals = globals; newest = newest; older = older; oldest_ins = ins } in
        (depth (with_in rd x file) ≡ depth file) × ((k a : ℕ) → slot (with_in rd x file) k a ≡ slot file k a)
    in_shape newest [] globals ins rd x = (refl, λ k a. refl)
    in_shape newest (caller ∷ older) globals ins rd x = (refl, λ k a. in_slot newest caller older globals ins (with_number caller.outs (rd - 16) x) k a)

apart_cell : (t : Bool) (x y : ℕ) → t ≡ false → (if t then x else y) ≡ y
apart_cell true x y e = absurd (cc)
apart_cell false x y e = refl

pub global_cell : (file : Registers) (globals : Words) (k j : ℕ) → cell (record file { globals = globals }) k j ≡ cell file k j
unfolding cell
global_cell file globals k j = refl

-- a cell that is not the written one
other_cell : (rd x : ℕ) (file : Registers) (k j : ℕ) → rd < 32 → (rd < 24 → k ≡ 0 → j ≢ rd - 8) → (24 ≤ rd → k ≡ 1 → j ≢ rd - 24) → cell (written rd x file) k j ≡ cell file k j
other_cell zero x file k j less low high = ap (λ (f : Registers). cell f k j) (written_zero x file)
other_cell (suc rd) x file k j less low high =
    let first : (suc rd < 8) ⊎ (8 ≤ suc rd) = search arith in
    let second : (suc rd < 16) ⊎ (16 ≤ suc rd) = search arith in
    let third : (suc rd < 24) ⊎ (24 ≤ suc rd) = search arith in
    elim first [
      | inl a ↦ ap (λ (f : Registers). cell f k j) (written_global (suc rd) x file (omega arith) a) ∙ global_cell file (with_number file.globals (suc rd) x) k j
      | inr a ↦ elim second [
        | inl b ↦ cell_out (suc rd) x file k j a b ∙ apart_cell ((k == 0) && (j == suc rd - 8)) x (cell file k j) (never k j 0 (suc rd - 8) (low (omega arith)))
        | inr b ↦ elim third [
          | inl d ↦ cell_local (suc rd) x file k j b d ∙ apart_cell ((k == 0) && (j == suc rd - 8)) x (cell file k j) (never k j 0 (suc rd - 8) (low d))
          | inr d ↦ cell_ins (suc rd) x file k j d less ∙ apart_cell ((k == 1) && (j == suc rd - 24)) x (cell file k j) (never k j 1 (suc rd - 24) (high d))
        ]
      ]
    ]
  where
    never : (k j a b : ℕ) → (k ≡ a → j ≢ b) → ((k == a) && (j == b)) ≡ false
    never k j a b h = by_first (k == a) refl
      where
        by_first : (t : Bool) → (k == a) ≡ t → ((k == a) && (j == b)) ≡ false
        by_first true e = let other : j ≢ b = h (grind (arith, nat_tests)) in grind (arith, nat_tests)
        by_first false e = grind (arith, nat_tests)

-- only SAVE writes %sp and %fp
pub same_calls : (rd x : ℕ) (file : Registers) → rd < 32 → rd ≢ 14 → rd ≢ 30 → SameCalls file (written rd x file)
same_calls rd x file less sp fp =
    let shape = flat_shape rd x file in
    record {
      deep = shape.0;
      bases = λ k. other_cell rd x file k 6 less (λ low here e. sp (omega arith)) (λ high here e. fp (omega arith));
      slots = shape.1;
      locals = λ k j a b. other_cell rd x file k j less (λ low here e. omega arith) (λ high here e. omega arith);
      outs = λ k j a. other_cell rd x file k j less (λ low here e. omega arith) (λ high here e. omega arith);
    }

-- ---- the board

board_low : (n : ℕ) (v : Windows) (rd x k j : ℕ) → IsFile n v → k < n → 8 ≤ rd → rd < 24 →
    word_at (with_reg n v rd x) (window n v.current k) j ≡ (if (k == 0) && (j == rd - 8) then x else word_at v (window n v.current k) j)
board_low n v rd x k j f small low high =
    let few = f.few in
    let c = v.current in
    let test : nat_lt rd 24 ≡ true = grind (arith, nat_tests) in
    let here : (window n c k == c) ≡ (k == 0) = ap (λ w. window n c k == w) (sym (window_here n c f.current)) ∙ window_test n c k 0 f.current small (omega arith) in
    written_at n v rd x (window n c k) j f low (omega arith)
    ∙ ap (λ (t : Bool). if (window n c k == (if t then c else above n c)) && (j == (if t then rd - 8 else rd - 24)) then x else word_at v (window n c k) j) test
    ∙ ap (λ (t : Bool). if t && (j == rd - 8) then x else word_at v (window n c k) j) here

board_high : (n : ℕ) (v : Windows) (rd x k j : ℕ) → IsFile n v → k < n → 24 ≤ rd → rd < 32 →
    word_at (with_reg n v rd x) (window n v.current k) j ≡ (if (k == 1) && (j == rd - 24) then x else word_at v (window n v.current k) j)
board_high n v rd x k j f small low high =
    let few = f.few in
    let c = v.current in
    let test : nat_lt rd 24 ≡ false = grind (arith, nat_tests) in
    let here : (window n c k == above n c) ≡ (k == 1) = window_test n c k 1 f.current small (omega arith) in
    written_at n v rd x (window n c k) j f (omega arith) high
    ∙ ap (λ (t : Bool). if (window n c k == (if t then c else above n c)) && (j == (if t then rd - 8 else rd - 24)) then x else word_at v (window n c k) j) test
    ∙ ap (λ (t : Bool). if t && (j == rd - 24) then x else word_at v (window n c k) j) here

-- one cell, after the same write on both
pub cell_shows : (n : ℕ) (v : Windows) (file : Registers) (rd x k j : ℕ) → IsFile n v → k < n → 8 ≤ rd → rd < 32 →
    word_at v (window n v.current k) j ≡ cell file k j → word_at (with_reg n v rd x) (window n v.current k) j ≡ cell (written rd x file) k j
cell_shows n v file rd x k j f small low high same =
    let first : (rd < 16) ⊎ (16 ≤ rd) = search arith in
    let second : (rd < 24) ⊎ (24 ≤ rd) = search arith in
    elim first [
      | inl a ↦ board_low n v rd x k j f small low (omega arith) ∙ ap (λ y. if (k == 0) && (j == rd - 8) then x else y) same ∙ sym (cell_out rd x file k j low a)
      | inr a ↦ elim second [
        | inl b ↦ board_low n v rd x k j f small low b ∙ ap (λ y. if (k == 0) && (j == rd - 8) then x else y) same ∙ sym (cell_local rd x file k j a b)
        | inr b ↦ board_high n v rd x k j f small b high ∙ ap (λ y. if (k == 1) && (j == rd - 24) then x else y) same ∙ sym (cell_ins rd x file k j b high)
      ]
    ]

globals_kept : (n : ℕ) (v : Windows) (rd x : ℕ) → 8 ≤ rd → (with_reg n v rd x).globals ≡ v.globals
unfolding with_reg
globals_kept n v rd x low = grind (arith, nat_tests)

pub mask_kept : (n : ℕ) (v : Windows) (rd x : ℕ) → (with_reg n v rd x).mask ≡ v.mask
unfolding with_reg
mask_kept n v rd x = grind (arith, nat_tests)

pub flat_globals : (rd x : ℕ) (file : Registers) → 8 ≤ rd → (written rd x file).globals ≡ file.globals
flat_globals rd x file low =
    let second : (rd < 16) ⊎ (16 ≤ rd) = search arith in
    let third : (rd < 24) ⊎ (24 ≤ rd) = search arith in
    elim second [
      | inl b ↦ ap (λ (f : Registers). f.globals) (written_out rd x file low b)
      | inr b ↦ elim third [
        | inl d ↦ ap (λ (f : Registers). f.globals) (written_local rd x file b d)
        | inr d ↦ ap (λ (f : Registers). f.globals) (written_in rd x file d) ∙ in_globals file.newest file.older file.globals file.oldest_ins rd x
      ]
    ]
  where
    in_globals : (newest : Frame) (older : List Frame) (globals ins : Words) (rd x : ℕ) →
        (with_in rd x (record { globals = globals; newest = newest; older = older; oldest_ins = ins })).globals ≡ globals
    in_globals newest [] globals ins rd x = refl
    in_globals newest (caller ∷ older) globals ins rd x = refl

-- a global
global_calls : (n : ℕ) (v : Windows) (file : Registers) (r rd x : ℕ) → IsFile n v → ShowsCalls n v file r → 1 ≤ rd → rd < 8 →
    ShowsCalls n (record v { globals = slice_set v.globals rd x }) (record file { globals = with_number file.globals rd x }) r
unfolding cell
global_calls n v file r rd x f h low high = record {
  some = h.some;
  most = h.most;
  open_calls = h.open_calls;
  mask = h.mask;
  globals = λ k a b.
      let there : rd < length v.globals = omega (arith, f.globals.count) in
      let split : (k ≡ rd) ⊎ (k ≢ rd) = search arith in
      elim split [
        | inl same ↦
            let test : (k == rd) ≡ true = grind (arith, nat_tests) in
            ap (slice_index (slice_set v.globals rd x)) same ∙ get_or-set_same v.globals rd x 0 there ∙ sym (ap (λ (t : Bool). if t then x else file.globals k) test)
        | inr other ↦
            let test : (k == rd) ≡ false = grind (arith, nat_tests) in
            get_or-set_other v.globals rd k x 0 other ∙ h.globals k a b ∙ sym (ap (λ (t : Bool). if t then x else file.globals k) test)
      ];
  outs = h.outs;
  locals = h.locals;
}

board_global : (n : ℕ) (v : Windows) (rd x : ℕ) → 1 ≤ rd → rd < 8 → with_reg n v rd x ≡ record v { globals = slice_set v.globals rd x }
unfolding with_reg
board_global n v rd x low high = grind (arith, nat_tests)

board_zero : (n : ℕ) (v : Windows) (x : ℕ) → with_reg n v 0 x ≡ v
unfolding with_reg
board_zero n v x = refl

window_calls : (n : ℕ) (v : Windows) (file : Registers) (r rd x : ℕ) → IsFile n v → ShowsCalls n v file r → 8 ≤ rd → rd < 32 → ShowsCalls n (with_reg n v rd x) (written rd x file) r
window_calls n v file r rd x f h low high =
    let most = h.most in
    let here = written_current n v rd x in
    let deep = (flat_shape rd x file).0 in
    let before = h.open_calls in
    record {
      some = h.some;
      most = h.most;
      open_calls = omega arith;
      mask = mask_kept n v rd x ∙ h.mask ∙ ap (λ c. 2 ^ window n c r) (sym here);
      globals = λ k a b. ap (λ (gs : List ℕ). slice_index gs k) (globals_kept n v rd x low) ∙ h.globals k a b ∙ ap (λ (gs : Words). gs k) (sym (flat_globals rd x file low));
      outs = λ k j a b. ap (λ c. word_at (with_reg n v rd x) (window n c k) j) here ∙ cell_shows n v file rd x k j f (omega arith) low high (h.outs k j a b);
      locals = λ k j a b d. ap (λ c. word_at (with_reg n v rd x) (window n c k) j) here ∙ cell_shows n v file rd x k j f (omega arith) low high (h.locals k j a b d);
    }

-- a write of any register
pub calls_written : (n : ℕ) (v : Windows) (file : Registers) (r rd x : ℕ) → IsFile n v → ShowsCalls n v file r → rd < 32 → ShowsCalls n (with_reg n v rd x) (written rd x file) r
calls_written n v file r zero x f h less =
    subst (λ (u : Windows). ShowsCalls n u (written 0 x file) r) (sym (board_zero n v x))
    (subst (λ (g : Registers). ShowsCalls n v g r) (sym (written_zero x file)) h)
calls_written n v file r (suc rd) x f h less =
    let split : (suc rd < 8) ⊎ (8 ≤ suc rd) = search arith in
    elim split [
      | inl low ↦
          subst (λ (u : Windows). ShowsCalls n u (written (suc rd) x file) r) (sym (board_global n v (suc rd) x (omega arith) low))
          (subst (λ (g : Registers). ShowsCalls n (record v { globals = slice_set v.globals (suc rd) x }) g r)
          (sym (written_global (suc rd) x file (omega arith) low)) (global_calls n v file r (suc rd) x f h (omega arith) low))
      | inr high ↦ window_calls n v file r (suc rd) x f h high less
    ]

-- ---- what stands on the stack

pub stacked_same : (pages : ℕ) (old new : Registers) → SameCalls old new → IsStacked pages old → IsStacked pages new
stacked_same pages old new s st =
    let deep = s.deep in
    record {
      aligned = λ k less. ap (λ b. b % 8) (s.bases k) ∙ st.aligned k (omega arith);
      low = λ k less. let e = s.bases k in let low = st.low k (omega arith) in omega arith;
      high = λ k less. let e = s.bases k in let high = st.high k (omega arith) in omega arith;
      apart = λ k i a b. let e = s.bases k in let d = s.bases i in let apart = st.apart k i a (omega arith) in omega arith;
    }

pub saved_same : (r : ℕ) (ram : List ℕ) (old new : Registers) → 1 ≤ r → SameCalls old new → ShowsSaved old r ram → ShowsSaved new r ram
saved_same r ram old new some s h =
    let deep = s.deep in
    record {
      locals = λ k j a b d. ap (λ q. entry_of ram (area_of q + 4 * j)) (s.bases k) ∙ h.locals k j a (omega arith) d ∙ ap Some (sym (s.locals k (8 + j) (omega arith) (omega arith)));
      ins = λ k j a b d. ap (λ q. entry_of ram (area_of q + 32 + 4 * j)) (s.bases k) ∙ h.ins k j a (omega arith) d ∙ ap Some (sym (s.outs (suc k) j (omega arith)));
    }

pub slots_same : (ram : List ℕ) (old new : Registers) → SameCalls old new → ShowsSlots old ram → ShowsSlots new ram
slots_same ram old new s h k a w less is =
    let deep = s.deep in
    let o = h k a w (omega arith) (sym (s.slots k a) ∙ is) in
    let e = s.bases k in
    let low = o.place.low in
    record {
      place = record {
        aligned = o.place.aligned;
        low = omega arith;
        high = o.place.high;
        below = λ i b d. let f = s.bases i in let under = o.place.below i b (omega arith) in omega arith;
      };
      there = o.there;
    }
