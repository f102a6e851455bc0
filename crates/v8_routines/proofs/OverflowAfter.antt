-- The registers after the overflow handler.
use Rattle.std.proofs.Common.{◌≡◌, ◌≢◌, ℕ, ◌^◌, ◌<◌, Bool, true, false, List, [], length, get_or, None, refl, sym, ap, ◌∙◌, subst, arith}
use Rattle.std.specs.Prelude.{slice_index, slice_set, ◌==◌}
use Rattle.std.proofs.lemmas.Bool.Decides.{nat_tests}
use Rattle.std.proofs.lemmas.List.{get_or-set_same, get_or-set_other, length-set}
use Rattle.v8_core.specs.Windows.{IsFile, AreGlobals, below}
use Rattle.v8_core.specs.Cpu.{Cpu}
use Rattle.v8_loaded.proofs.Windows.{above_below, below_within, mask_within, mask_word}
use Rattle.v8_loaded.proofs.Stages.{finished}
use Rattle.v8_loaded.proofs.Entered.{caught, first_row, first_row_pcs, first_row_kept, first_row_fits, finished_control}
use Rattle.v8_routines.specs.Overflow.{Spills}
use Rattle.v8_routines.proofs.OverflowRows.{row_5, globals_7, row_5_long, row_5_low, row_5_fits, globals_back}

-- a fact about each window's words, where one window's are new
row_by : (rows : List (List ℕ)) (w : ℕ) (row : List ℕ) (v : ℕ) (P : List ℕ → Type 0) → w < length rows → P row →
    P (get_or rows v []) → P (get_or (slice_set rows w row) v [])
row_by rows w row v P there here elsewhere = by_window (v == w) refl
  where
    by_window : (t : Bool) → (v == w) ≡ t → P (get_or (slice_set rows w row) v [])
    by_window true e =
        let same : w ≡ v = grind (arith, nat_tests) in
        subst (λ i. P (get_or (slice_set rows w row) i [])) same (subst P (sym (get_or-set_same rows w row [] there)) here)
    by_window false e =
        let other : v ≢ w = grind (arith, nat_tests) in
        subst P (sym (get_or-set_other rows w v row [] other)) elsewhere

-- a word that neither the trap nor the handler changes
kept_word : (rows : List (List ℕ)) (w : ℕ) (row : List ℕ) (v j : ℕ) → w < length rows → (v ≡ w → j < 8) → (j < 8 →
    slice_index row j ≡ slice_index (get_or rows w []) j) →
    slice_index (get_or (slice_set rows w row) v []) j ≡ slice_index (get_or rows v []) j
kept_word rows w row v j there low same = by_window (v == w) refl
  where
    by_window : (t : Bool) → (v == w) ≡ t →
        slice_index (get_or (slice_set rows w row) v []) j ≡ slice_index (get_or rows v []) j
    by_window true e =
        let is : v ≡ w = grind (arith, nat_tests) in
        ap (λ x. slice_index (get_or (slice_set rows w row) x []) j) is
        ∙ ap (λ (xs : List ℕ). slice_index xs j) (get_or-set_same rows w row [] there)
        ∙ same (low is) ∙ ap (λ x. slice_index (get_or rows x []) j) (sym is)
    by_window false e =
        let other : v ≢ w = grind (arith, nat_tests) in
        ap (λ (xs : List ℕ). slice_index xs j) (get_or-set_other rows w v row [] other)

-- the words of the trap's window after the handler
abbrev pub last_row : (n : ℕ) → Cpu n → List ℕ
last_row n cpu = row_5 n cpu.regs.globals (first_row n cpu) (2 ^ below n cpu.regs.current)

-- the processor then
abbrev pub last_cpu : (n : ℕ) → Cpu n → Cpu n
last_cpu n cpu =
    let w = below n cpu.regs.current in
    finished n (caught cpu.control 5) w (record {
      rows = cpu.regs.words;
      globals = globals_7 n cpu.regs.globals (first_row n cpu) (2 ^ w);
      row = last_row n cpu;
      mask = 2 ^ below n w;
      pc = cpu.control.pc;
      npc = cpu.control.npc;
    })

pub last_row_low : (n : ℕ) (cpu : Cpu n) (j : ℕ) → j < 8 →
    slice_index (last_row n cpu) j ≡ slice_index (get_or cpu.regs.words (below n cpu.regs.current) []) j
last_row_low n cpu j low = row_5_low n cpu.regs.globals (first_row n cpu) (2 ^ below n cpu.regs.current) j (omega arith)
    ∙ first_row_kept n cpu j (λ e. omega arith) (λ e. omega arith)

pub last_row_fits : (n : ℕ) (cpu : Cpu n) → IsFile n cpu.regs → cpu.control.pc < 2 ^ 32 → cpu.control.npc < 2 ^ 32 →
    (i : ℕ) → slice_index (last_row n cpu) i < 2 ^ 32
last_row_fits n cpu file a b i =
    let few = file.few in
    let many = file.many in
    let w = below n cpu.regs.current in
    let within : w < n = below_within n cpu.regs.current few many file.current in
    let sixteen = file.rows.each w within in
    row_5_fits n cpu.regs.globals (first_row n cpu) (2 ^ w) (first_row_pcs n cpu sixteen).2 (mask_word w (omega arith)) (file.globals.fit 1)
    (first_row_fits n cpu sixteen a b (file.rows.fit w)) i

pub spills : (n : ℕ) (cpu : Cpu n) → IsFile n cpu.regs → cpu.control.pc < 2 ^ 32 → cpu.control.npc < 2 ^ 32 →
    cpu.control.annul ≡ false → cpu.control.error ≡ None → cpu.control.et ≡ true →
    Spills n cpu (last_cpu n cpu)
spills n cpu file pc_word npc_word straight sane enabled =
    let few = file.few in
    let many = file.many in
    let w = below n cpu.regs.current in
    let rows = cpu.regs.words in
    let within : w < n = below_within n cpu.regs.current few many file.current in
    let counted = file.rows.count in
    let there : w < length rows = omega arith in
    let sixteen = file.rows.each w within in
    let long = (first_row_pcs n cpu sixteen).2 in
    let row = last_row n cpu in
    let back = above_below n cpu.regs.current few many file.current in
    let same_globals = globals_back n cpu.regs.globals (first_row n cpu) (2 ^ w) long in
    record {
      mask = refl;
      current = back;
      globals = same_globals;
      kept = λ v j low. kept_word rows w row v j there low (last_row_low n cpu j);
      file = record {
        few = few;
        many = many;
        current = subst (λ x. x < n) (sym back) file.current;
        mask = mask_within n (below n w) few many (below_within n w few many within);
        globals = subst AreGlobals (sym same_globals) file.globals;
        rows = record {
          count = length-set rows w row ∙ counted;
          each = λ v less. row_by rows w row v (λ xs. length xs ≡ 16) there (row_5_long n cpu.regs.globals (first_row n cpu) (2 ^ w) long) (file.rows.each v less);
          fit = λ v k. row_by rows w row v (λ xs. slice_index xs k < 2 ^ 32) there (last_row_fits n cpu file pc_word npc_word k) (file.rows.fit v k);
        };
      };
      control = finished_control cpu.control 5 cpu.control.pc cpu.control.npc refl refl straight sane enabled;
    }
