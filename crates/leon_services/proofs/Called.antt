-- A call: the turn of its trap, and what its routine has in common with the others.
--   place_walk         the walk to the code word of a call
--   Call's module: first, the state after the trap's turn; cpu_at, the states in vector and routine; back_again, from
--   `back` of the sources to the caller; comes_to, the caller's state
use Rattle.std.proofs.Common.{◌≡◌, ◌≢◌, ℕ, suc, ◌+◌, ◌*◌, ◌/◌, ◌%◌, ◌^◌, ◌<◌, ◌≤◌, inr, Bool, true, false, List, [], length, get_or, Option, Some, None, Ok, refl, sym, ap, ◌∙◌, arith}
use Rattle.std.specs.Prelude.{not, slice_index, slice_set}
use Rattle.v8_core.specs.AccessKind.TheVariants.{Fetch}
use Rattle.v8_core.specs.Access.{Access}
use Rattle.v8_core.specs.Accesses.{World, world}
use Rattle.v8_core.specs.Control.{Control}
use Rattle.v8_core.specs.Cpu.{Cpu}
use Rattle.v8_core.specs.Icc.{Icc}
use Rattle.v8_core.specs.Memory.{fetches}
use Rattle.v8_core.specs.MmuRegs.{MmuRegs}
use Rattle.v8_core.specs.Operand.TheVariants.{Immediate, Register}
use Rattle.v8_core.specs.Operands.{following}
use Rattle.v8_core.specs.Operations.{operation_of}
use Rattle.v8_core.specs.Paths.{marked_ram}
use Rattle.v8_core.specs.Ram.{entry_of}
use Rattle.v8_core.specs.Table.{meaning}
use Rattle.v8_core.specs.Traps.{first_trap}
use Rattle.v8_core.specs.Walked.{root_of, walked}
use Rattle.v8_core.specs.Windows.{Windows, above, below, can_enter, is_masked, with_reg}
use Rattle.v8_core.specs.declared.turn.Turn.{Turn}
use Rattle.v8_core.proofs.Turns.{fetched, traps_to}
use Rattle.v8_mmu.proofs.WalkedIs.{some_of}
use Rattle.v8_windows.proofs.AfterWrites.{above_below}
use Rattle.v8_loaded.specs.Board.{Device, board}
use Rattle.v8_loaded.proofs.Effects.{address_of_local, jumps_does, nothing_does, returns_does}
use Rattle.v8_loaded.proofs.Entered.{after_place, caught, first_row, first_stage, vector_place}
use Rattle.v8_loaded.proofs.Stages.{Inside, finished, handling, inside, stage, with_cell}
use Rattle.v8_routines.specs.Services.{MayReturn, calls, returned_from, scratched}
use Rattle.v8_routines.proofs.Frames.{below_less, below_other}
use Rattle.leon_services.specs.Laws.{Calls, answered, returned}
use Rattle.leon_services.specs.Mailbox.{HasMailbox, Mailbox}
use Rattle.leon_services.proofs.Asked.{routine_10, routine_11, routine_12, routine_13, routine_14, routine_15, routine_16, routine_17}
use Rattle.leon_services.proofs.Kept.{first_cells, kept_first, kept_marked}
use Rattle.leon_services.proofs.Pages.{page, spot, walk_page, word_marked}
use Rattle.leon_services.proofs.Registers.{answer_back, row_of, scratched_is, scratched_row, spelled}
use Rattle.leon_services.proofs.Steps.{loads_pair, mail_address, next_address, psr_word, writes_psr}
use Rattle.leon_services.proofs.Turns.{At, routine_moves, routine_runs}

abbrev user_fetch : Access
user_fetch = record { user = true; kind = Fetch }

module _ (n b : ℕ) (mmu : MmuRegs) (x : World n Device) (i k : ℕ) (u : Calls n b mmu x i k) where
  abbrev ram : List ℕ
  ram = x.memory.ram

  -- the code page's entry
  abbrev code_entry : ℕ
  code_entry = b + 0x2A00 + 4 * (i / 1024)

  code_walk : walked ram (root_of mmu) (0x40000 + 4 * i) user_fetch ≡ Ok (page (b + 0x10000 + 4 * i) 3 code_entry)
  code_walk =
      let fit = u.services.fit in
      let less = u.within in
      let same : b + 0x10000 + 4096 * (i / 1024) + (0x40000 + 4 * i) % 2 ^ 12 ≡ b + 0x10000 + 4 * i = omega arith in
      ap (λ r. walked ram r (0x40000 + 4 * i) user_fetch) u.root
      ∙ walk_page ram (b + 0x2000) (0x40000 + 4 * i) user_fetch (b + 0x2400) (b + 0x2800) (b + 0x2A00) (b + 0x2400) (b + 0x2800 + 4) code_entry
      (b + 0x10000 + 4096 * (i / 1024)) 4 u.services.context (omega arith) u.program (omega arith) u.code (omega arith) u.page refl
      ∙ ap (λ p. Ok (page p 3 code_entry)) same

  abbrev c0 : Control
  c0 = x.cpu.control

  abbrev v : Windows
  v = x.cpu.regs

  abbrev pub w : ℕ
  w = below n v.current

  pub few : 4 ≤ n
  few = u.file.few

  pub inside_w : w < n
  inside_w = below_less n v.current u.file.few u.file.current

  pub there : w < length v.words
  there = let count = u.file.rows.count in let less = inside_w in omega arith

  pub up : above n w ≡ v.current
  up = above_below n v.current u.file.few u.file.current

  pub apart : v.current ≢ w
  apart same = below_other n v.current u.file.few u.file.current (sym same)

  pub other : above n w ≢ w
  other same = apart (sym up ∙ same)

  -- the words of the window that the trap enters
  abbrev old_row : List ℕ
  old_row = get_or v.words w []

  abbrev pub f : ℕ → ℕ
  f j = slice_index old_row j

  pub fits : (j : ℕ) → f j < 2 ^ 32
  fits j = u.file.rows.fit w j

  abbrev row : ℕ → ℕ → ℕ → ℕ → ℕ → List ℕ
  row l3 l4 l5 l6 l7 = row_of f c0.pc c0.npc l3 l4 l5 l6 l7

  abbrev pub at_row : List (List ℕ) → ℕ → ℕ → ℕ → ℕ → ℕ → ℕ → ℕ → Inside
  at_row rows l3 l4 l5 l6 l7 p q = record { rows = rows; globals = v.globals; row = row l3 l4 l5 l6 l7; mask = v.mask; pc = p; npc = q }

  first_is : first_row n x.cpu ≡ row (f 11) (f 12) (f 13) (f 14) (f 15)
  first_is = ap (λ (r : List ℕ). slice_set (slice_set r 9 c0.pc) 10 c0.npc) (spelled old_row (u.file.rows.each w inside_w))

  scratched_row_is : scratched_row old_row c0.pc c0.npc ≡ row 0xF0010000 (f 12) (f 13) (f 14) (f 15)
  scratched_row_is = ap (λ (r : List ℕ). scratched_row r c0.pc c0.npc) (spelled old_row (u.file.rows.each w inside_w))

  module _ (t : ℕ) where
    abbrev c : Control
    c = caught c0 t

    abbrev pub c_of : Icc → Control
    c_of g = record c { icc = g }

    abbrev pub cpu_at : Icc → List (List ℕ) → ℕ → ℕ → ℕ → ℕ → ℕ → ℕ → ℕ → Cpu n
    cpu_at g rows l3 l4 l5 l6 l7 p q = stage n (c_of g) w w (at_row rows l3 l4 l5 l6 l7 p q)

    -- the trap's turn
    pub first : (m : Mailbox) → HasMailbox b ram m → first_trap n x.cpu (calls k) ≡ Some t →
        At n b mmu x ram 1 (cpu_at c0.icc v.words (f 11) (f 12) (f 13) (f 14) (f 15) (vector_place 0xF0000000 t) (after_place 0xF0000000 t)) (first_cells b ram m)
    first m mail meets =
        let fit = u.services.fit in
        let less = u.within in
        let word = some_of (entry_of ram (b + 0x10000 + 4 * i)) (λ q. operation_of (meaning q) ≡ calls k) u.word in
        let s = spot b ram code_entry (b + 0x10000 + 4096 * (i / 1024)) 4 u.page (omega arith) (omega arith) (omega arith) in
        let marks = marked_ram ram code_entry false in
        let stays : entry_of marks (b + 0x10000 + 4 * i) ≡ Some word.0 = word_marked b ram code_entry false s (b + 0x10000 + 4 * i) (inr (omega arith)) ∙ word.1 in
        let fetch : fetches mmu c0.pc (record { user = not c0.s; kind = Fetch }) ram ≡ (Ok word.0, marks) =
        ap (λ z. fetches mmu c0.pc (record { user = not z; kind = Fetch }) ram) u.user
        ∙ ap (λ p. fetches mmu p user_fetch ram) u.place
        ∙ fetched mmu (0x40000 + 4 * i) user_fetch ram (page (b + 0x10000 + 4 * i) 3 code_entry) word.0 word.0 code_walk word.1 stays in
        let turn = traps_to board n mmu x.cpu ram marks x.memory.device word.0 (calls k) t
        (record { running = u.running; sane = u.sane; straight = u.straight }) fetch word.2 meets in
        let to : Cpu n → World n Device = λ q. world n q marks x.memory.device in
        record {
          ram = marks;
          kept = kept_marked b ram ram (first_cells b ram m) (kept_first b ram m u.services mail) code_entry false s;
          is = ap (λ (p : Turn × World n Device). p.1) turn
              ∙ ap to (first_stage n x.cpu t v.mask u.traps u.table u.sane refl there)
              ∙ ap (λ (r : List ℕ). to
              (stage n c w w (record { rows = v.words; globals = v.globals; row = r; mask = v.mask; pc = vector_place 0xF0000000 t; npc = after_place 0xF0000000 t }))) first_is;
        }

    abbrev pub psr : ℕ
    psr = psr_word c0.icc c0.pil c0.s w

    -- from the source's `back` to the caller
    pub back_again : (old : List ℕ) (j : ℕ) (g : Icc) (rows : List (List ℕ)) (l4 l5 l7 : ℕ) (cells : List ℕ) → w < length rows →
        slice_index cells 8 ≡ f 12 → slice_index cells 9 ≡ f 13 → slice_index cells 10 ≡ f 14 → slice_index cells 11 ≡ f 15 → MayReturn n x →
        At n b mmu x old j (cpu_at g rows 0xF0010000 l4 l5 psr l7 0xF0001128 0xF000112C) cells →
        At n b mmu x old (suc (suc (suc (suc (suc (suc (suc (suc j)))))))) (finished n c w (at_row rows 0xF0010000 (f 12) (f 13) (f 14) (f 15) c0.npc (following c0.npc))) cells
    unfolding can_enter
    back_again old j g rows l4 l5 l7 cells in_rows e8 e9 e10 e11 may start = h17
      where
        h10 : At n b mmu x old (suc j) (cpu_at c0.icc rows 0xF0010000 l4 l5 psr l7 0xF000112C 0xF0001130) cells
        h10 = routine_runs n b mmu x u.root u.running 10 start (omega arith) refl routine_10
            (writes_psr n (c_of g) w (at_row rows 0xF0010000 l4 l5 psr l7 0xF0001128 0xF000112C) c0.icc u.level inside_w u.file.many refl in_rows)

        h11 : At n b mmu x old (suc (suc j)) (cpu_at c0.icc rows 0xF0010000 l4 l5 psr l7 0xF0001130 0xF0001134) cells
        h11 = routine_runs n b mmu x u.root u.running 11 h10 (omega arith) refl routine_11 (nothing_does n c w (at_row rows 0xF0010000 l4 l5 psr l7 0xF000112C 0xF0001130) w)

        h12 : At n b mmu x old (suc (suc (suc j))) (cpu_at c0.icc rows 0xF0010000 l4 l5 psr l7 0xF0001134 0xF0001138) cells
        h12 = routine_runs n b mmu x u.root u.running 12 h11 (omega arith) refl routine_12 (nothing_does n c w (at_row rows 0xF0010000 l4 l5 psr l7 0xF0001130 0xF0001134) w)

        h13 : At n b mmu x old (suc (suc (suc (suc j)))) (cpu_at c0.icc rows 0xF0010000 l4 l5 psr l7 0xF0001138 0xF000113C) cells
        h13 = routine_runs n b mmu x u.root u.running 13 h12 (omega arith) refl routine_13 (nothing_does n c w (at_row rows 0xF0010000 l4 l5 psr l7 0xF0001134 0xF0001138) w)

        h14 : At n b mmu x old (suc (suc (suc (suc (suc j))))) (cpu_at c0.icc rows 0xF0010000 (f 12) (f 13) psr l7 0xF000113C 0xF0001140) cells
        h14 =
            let y = at_row rows 0xF0010000 l4 l5 psr l7 0xF0001138 0xF000113C in
            routine_moves n b mmu x u.root u.running 14 h13 (omega arith) refl routine_14
            (loads_pair n c w y b mmu x u.root u.running in_rows old cells 20 8 (f 12) (f 13) (Immediate 32) (omega arith) refl (omega arith) (omega arith) refl e8 e9 (fits 13)
            (mail_address n c w y 32 refl in_rows))

        h15 : At n b mmu x old (suc (suc (suc (suc (suc (suc j)))))) (cpu_at c0.icc rows 0xF0010000 (f 12) (f 13) (f 14) (f 15) 0xF0001140 0xF0001144) cells
        h15 =
            let y = at_row rows 0xF0010000 (f 12) (f 13) psr l7 0xF000113C 0xF0001140 in
            routine_moves n b mmu x u.root u.running 15 h14 (omega arith) refl routine_15
            (loads_pair n c w y b mmu x u.root u.running in_rows old cells 22 10 (f 14) (f 15) (Immediate 40) (omega arith) refl (omega arith) (omega arith) refl e10 e11 (fits 15)
            (mail_address n c w y 40 refl in_rows))

        h16 : At n b mmu x old (suc (suc (suc (suc (suc (suc (suc j))))))) (cpu_at c0.icc rows 0xF0010000 (f 12) (f 13) (f 14) (f 15) 0xF0001144 c0.npc) cells
        h16 =
            let y = at_row rows 0xF0010000 (f 12) (f 13) (f 14) (f 15) 0xF0001140 0xF0001144 in
            routine_runs n b mmu x u.root u.running 16 h15 (omega arith) refl routine_16
            (jumps_does n c w y w 18 (Register 0) c0.npc (address_of_local n c w y 18 c0.npc in_rows (omega arith) (omega arith) refl u.npc_word) u.npc_whole)

        free : is_masked v.mask (above n w) ≡ false
        free =
            let no : not (is_masked v.mask v.current) ≡ true = may in
            let masked : is_masked v.mask v.current ≡ false = grind arith in
            ap (is_masked v.mask) up ∙ masked

        h17 : At n b mmu x old (suc (suc (suc (suc (suc (suc (suc (suc j)))))))) (finished n c w (at_row rows 0xF0010000 (f 12) (f 13) (f 14) (f 15) c0.npc (following c0.npc))) cells
        h17 =
            let y = at_row rows 0xF0010000 (f 12) (f 13) (f 14) (f 15) 0xF0001144 c0.npc in
            let whole : following c0.npc % 4 ≡ 0 = let npc = u.npc_whole in omega arith in
            routine_runs n b mmu x u.root u.running 17 h16 (omega arith) refl routine_17
            (returns_does n c w y 18 (Immediate 4) (following c0.npc) free (next_address n c w y c0.npc refl in_rows) whole)

    -- ---- the caller's state

    control_back : record (handling c c0.npc (following c0.npc)) { et = true; s = c0.s } ≡ returned_from c0 t
    control_back =
        let to : Bool → Bool → Option ℕ → Control = λ et annul error. record (returned_from c0 t) { et = et; annul = annul; error = error } in
        ap (λ e. to e false None) (sym u.traps) ∙ ap (λ a. to c0.et a None) (sym u.straight) ∙ ap (to c0.et c0.annul) (sym u.sane)

    abbrev pub ended_by : List (List ℕ) → Cpu n
    ended_by rows = finished n c w (at_row rows 0xF0010000 (f 12) (f 13) (f 14) (f 15) c0.npc (following c0.npc))

    abbrev with_control : Windows → Cpu n
    with_control r = record { regs = r; control = returned_from c0 t }

    ends : (rows : List (List ℕ)) → ended_by rows ≡ with_control (inside rows w v.globals (row 0xF0010000 (f 12) (f 13) (f 14) (f 15)) v.current v.mask)
    ends rows =
        ap (λ k. record {
          regs = inside rows w v.globals (row 0xF0010000 (f 12) (f 13) (f 14) (f 15)) k v.mask;
          control = record
              (handling c c0.npc (following c0.npc)) { et = true; s = c0.s };
        }) up
        ∙ ap (λ (k : Control). record { regs = inside rows w v.globals (row 0xF0010000 (f 12) (f 13) (f 14) (f 15)) v.current v.mask; control = k }) control_back

    windows_are : scratched n v c0.pc c0.npc ≡ inside v.words w v.globals (row 0xF0010000 (f 12) (f 13) (f 14) (f 15)) v.current v.mask
    windows_are = scratched_is n v w c0.pc c0.npc there ∙ ap (λ (r : List ℕ). inside v.words w v.globals r v.current v.mask) scratched_row_is

    pub returned_is : ended_by v.words ≡ returned n x.cpu t
    returned_is = ends v.words ∙ ap with_control (sym windows_are)

    pub answered_is : (a : ℕ) → ended_by (with_cell v.words (above n w) 0 a) ≡ answered n x.cpu t a
    answered_is a =
        ap (λ k. ended_by (with_cell v.words k 0 a)) up ∙ ends (with_cell v.words v.current 0 a)
        ∙ ap with_control (sym (ap (λ (r : Windows). with_reg n r 8 a) windows_are ∙ answer_back n v w (row 0xF0010000 (f 12) (f 13) (f 14) (f 15)) a apart))
