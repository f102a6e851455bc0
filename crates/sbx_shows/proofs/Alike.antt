-- Files of the flat machine that hold the same words are shown alike, so that two registers may be written in either order.
use Rattle.std.proofs.Common.{◌≡◌, ◌≢◌, ℕ, ◌+◌, ◌-◌, ◌*◌, ◌/◌, ◌%◌, ◌<◌, ◌≤◌, ◌⊎◌, inl, inr, Bool, true, false, refl, sym, ap, ◌∙◌, arith}
use Rattle.std.specs.Prelude.{◌==◌, ◌&&◌, if◌then◌else◌}
use Rattle.std.proofs.lemmas.Bool.Decides.{nat_tests}
use Rattle.v8_core.specs.Accesses.{World}
use Rattle.v8_loaded.specs.Board.{Device}
use Rattle.v8_board.specs.Start.{pages_of}
use Rattle.sbx_flat.specs.Parts.{Parts}
use Rattle.sbx_flat.specs.Registers.{Registers, Words, with_word, written}
use Rattle.sbx_flat.specs.States.{State}
use Rattle.sbx_flat.specs.Calls.{cell, depth, slot}
use Rattle.sbx_shows.specs.Shows.{Shows}
use Rattle.sbx_shows.proofs.Users.{device_kept}
use Rattle.sbx_shows.proofs.Writing.{SameCalls, cell_ins, cell_local, cell_out, flat_globals, flat_shape, global_cell, saved_same, slots_same, stacked_same, written_global, written_zero}

pub record SameFile (old new : Registers) : Type 0 where
  pub deep : depth new ≡ depth old
  pub cells : (k j : ℕ) → cell new k j ≡ cell old k j
  pub slots : (k a : ℕ) → slot new k a ≡ slot old k a
  pub globals : (k : ℕ) → new.globals k ≡ old.globals k

pub alike_shows : (n : ℕ) (parts : Parts) (x : World n Device) (s : State) (r : ℕ) (file : Registers) → Shows n parts x s r → SameFile s.registers file →
    Shows n parts x (record s { registers = file }) r
alike_shows n parts x s r file h same =
    let deep = same.deep in
    let calls : SameCalls s.registers file = record { deep = same.deep; bases = λ k. same.cells k 6; slots = same.slots; locals = λ k j a b. same.cells k j; outs = λ k j a. same.cells k j } in
    let most = h.calls.open_calls in
    record {
      file = h.file;
      calls = record {
        some = h.calls.some;
        most = h.calls.most;
        open_calls = omega arith;
        mask = h.calls.mask;
        globals = λ k a b. h.calls.globals k a b ∙ sym (same.globals k);
        outs = λ k j a b. h.calls.outs k j a b ∙ sym (same.cells k j);
        locals = λ k j a b c. h.calls.locals k j a b c ∙ sym (same.cells k j);
      };
      stacked = stacked_same (pages_of parts).stack_count s.registers file calls h.stacked;
      saved = saved_same r x.memory.ram s.registers file h.calls.some calls h.saved;
      slots = slots_same x.memory.ram s.registers file calls h.slots;
      stack = h.stack;
      bytes = h.bytes;
      control = record {
        pc = h.control.pc;
        npc = h.control.npc;
        npc_word = h.control.npc_word;
        npc_whole = h.control.npc_whole;
        annul = h.control.annul;
        icc =
            h.control.icc;
        y = h.control.y;
        y_word = h.control.y_word;
        user = h.control.user;
        traps = h.control.traps;
        sane = h.control.sane;
        table =
            h.control.table;
      };
      device = device_kept x.memory.device s (record s { registers = file }) refl refl h.device;
      going = h.going;
      loaded = h.loaded;
      marks = h.marks;
    }

-- two tests that do not both hold may be made in either order
in_turn : (a b : Bool) (x y z : ℕ) → (a ≡ true → b ≡ false) → (if a then x else (if b then y else z)) ≡ (if b then y else (if a then x else z))
in_turn true true x y z apart = let no : true ≡ false = apart refl in absurd (cc)
in_turn true false x y z apart = refl
in_turn false true x y z apart = refl
in_turn false false x y z apart = refl

low_cell : (rd v : ℕ) (file : Registers) (k j : ℕ) → 8 ≤ rd → rd < 24 → cell (written rd v file) k j ≡ (if (k == 0) && (j == rd - 8) then v else cell file k j)
low_cell rd v file k j low high =
    let split : (rd < 16) ⊎ (16 ≤ rd) = search arith in
    elim split [ inl out ↦ cell_out rd v file k j low out | inr local ↦ cell_local rd v file k j local high ]

both_tests : (k j g a b : ℕ) → a ≢ b → ((k == g) && (j == a)) ≡ true → ((k == g) && (j == b)) ≡ false
both_tests k j g a b apart e = grind (arith, nat_tests, e, apart)

module _ (a b x y : ℕ) (file : Registers) (apart : a ≢ b) where
  abbrev first : Registers
  first = written a x (written b y file)

  abbrev second : Registers
  second = written b y (written a x file)

  low_cells : 8 ≤ a → a < 24 → 8 ≤ b → b < 24 → (k j : ℕ) → cell first k j ≡ cell second k j
  low_cells p q u v k j =
      low_cell a x (written b y file) k j p q
      ∙ ap (λ z. if (k == 0) && (j == a - 8) then x else z) (low_cell b y file k j u v)
      ∙ in_turn ((k == 0) && (j == a - 8)) ((k == 0) && (j == b - 8)) x y (cell file k j) (both_tests k j 0 (a - 8) (b - 8) (omega arith))
      ∙ ap (λ z. if (k == 0) && (j == b - 8) then y else z) (sym (low_cell a x file k j p q))
      ∙ sym (low_cell b y (written a x file) k j u v)

  high_cells : 24 ≤ a → a < 32 → 24 ≤ b → b < 32 → (k j : ℕ) → cell first k j ≡ cell second k j
  high_cells p q u v k j =
      cell_ins a x (written b y file) k j p q
      ∙ ap (λ z. if (k == 1) && (j == a - 24) then x else z) (cell_ins b y file k j u v)
      ∙ in_turn ((k == 1) && (j == a - 24)) ((k == 1) && (j == b - 24)) x y (cell file k j) (both_tests k j 1 (a - 24) (b - 24) (omega arith))
      ∙ ap (λ z. if (k == 1) && (j == b - 24) then y else z) (sym (cell_ins a x file k j p q))
      ∙ sym (cell_ins b y (written a x file) k j u v)

  shape : (depth first ≡ depth second) × ((k c : ℕ) → slot first k c ≡ slot second k c)
  shape =
      let one = flat_shape a x (written b y file) in
      let two = flat_shape b y file in
      let three = flat_shape b y (written a x file) in
      let four = flat_shape a x file in
      (one.0 ∙ two.0 ∙ sym four.0 ∙ sym three.0, λ k c. one.1 k c ∙ two.1 k c ∙ sym (four.1 k c) ∙ sym (three.1 k c))

  of_windows : 8 ≤ a → 8 ≤ b → ((k j : ℕ) → cell first k j ≡ cell second k j) → SameFile second first
  of_windows p q cells =
      let same = shape in
      record {
        deep = same.0;
        cells = cells;
        slots = same.1;
        globals = λ k. ap (λ (g : Words). g k) (flat_globals a x (written b y file) p ∙ flat_globals b y file q ∙ sym (flat_globals a x file p) ∙ sym (flat_globals b y (written a x file) q));
      }

  of_globals : 1 ≤ a → a < 8 → 1 ≤ b → b < 8 → SameFile second first
  of_globals p q u v =
      let same = shape in
      let one = written_global a x (written b y file) p q in
      let two = written_global b y file u v in
      let three = written_global b y (written a x file) u v in
      let four = written_global a x file p q in
      record {
        deep = same.0;
        cells = λ k j.
            ap (λ (f : Registers). cell f k j) one ∙ global_cell (written b y file) _ k j ∙ ap (λ (f : Registers). cell f k j) two ∙ global_cell file _ k j
            ∙ sym (ap (λ (f : Registers). cell f k j) three ∙ global_cell (written a x file) _ k j ∙ ap (λ (f : Registers). cell f k j) four ∙ global_cell file _ k j);
        slots = same.1;
        globals = λ k.
            ap (λ (f : Registers). f.globals k) one ∙ ap (λ (f : Registers). with_word f.globals a x k) two
            ∙ in_turn (k == a) (k == b) x y (file.globals k) (λ e. grind (arith, nat_tests, e, apart))
            ∙ sym (ap (λ (f : Registers). f.globals k) three ∙ ap (λ (f : Registers). with_word f.globals b y k) four);
      }

  of_zero : a ≡ 0 → SameFile second first
  of_zero none =
      let e : first ≡ second =
      ap (λ q. written q x (written b y file)) none ∙ written_zero x (written b y file)
      ∙ sym (ap (λ q. written b y (written q x file)) none ∙ ap (written b y) (written_zero x file)) in
      record {
        deep = ap (λ (f : Registers). depth f) e;
        cells = λ k j. ap (λ (f : Registers). cell f k j) e;
        slots =
            λ k c. ap (λ (f : Registers). slot f k c) e;
        globals = λ k. ap (λ (f : Registers). f.globals k) e;
      }

-- an even register and the odd one after it
pub pair_in_turn : (rd x y : ℕ) (file : Registers) → rd < 32 → rd % 2 ≡ 0 → SameFile (written (rd / 2 * 2 + 1) y (written rd x file)) (written rd x (written (rd / 2 * 2 + 1) y file))
pair_in_turn rd x y file less even =
    let odd = rd / 2 * 2 + 1 in
    let apart : rd ≢ odd = omega arith in
    let zeroth : (rd ≡ 0) ⊎ (1 ≤ rd) = search arith in
    let first : (rd < 8) ⊎ (8 ≤ rd) = search arith in
    let second : (rd < 24) ⊎ (24 ≤ rd) = search arith in
    elim zeroth [
      | inl none ↦ of_zero rd odd x y file apart none
      | inr some ↦ elim first [
        | inl global ↦ of_globals rd odd x y file apart some global (omega arith) (omega arith)
        | inr inside ↦ elim second [
          | inl low ↦ of_windows rd odd x y file apart inside (omega arith) (low_cells rd odd x y file apart inside low (omega arith) (omega arith))
          | inr high ↦ of_windows rd odd x y file apart inside (omega arith) (high_cells rd odd x y file apart high less (omega arith) (omega arith))
        ]
      ]
    ]
