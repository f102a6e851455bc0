-- The services, turn by turn.
use Rattle.std.proofs.Common.{◌≡◌, ◌≢◌, ℕ, suc, ◌+◌, ◌-◌, ◌%◌, ◌^◌, ◌<◌, true, false, List, [], ◌∷◌, ◌++◌, length, get_or, Some, refl, sym, ap, ◌∙◌, subst, arith}
use Rattle.std.specs.Prelude.{slice_index, slice_set}
use Rattle.std.proofs.lemmas.Bool.Decides.{nat_tests}
use Rattle.std.proofs.lemmas.List.{get_or_append_left, length-set}
use Rattle.v8_core.specs.Accesses.{World}
use Rattle.v8_core.specs.Control.{Control}
use Rattle.v8_core.specs.Cpu.{Cpu}
use Rattle.v8_core.specs.Icc.{Icc}
use Rattle.v8_core.specs.MmuRegs.{MmuRegs}
use Rattle.v8_core.specs.Operand.TheVariants.{Immediate, Register}
use Rattle.v8_core.specs.Ram.{with_byte}
use Rattle.v8_core.specs.Results.{difference, difference_codes}
use Rattle.v8_core.specs.Steps.{next}
use Rattle.v8_core.specs.Traps.{applies, entered, first_trap}
use Rattle.v8_core.specs.Windows.{above, reg_of}
use Rattle.v8_core.specs.declared.turn.Turn.{Turn}
use Rattle.v8_core.proofs.Turns.{traps_to}
use Rattle.v8_loaded.specs.Board.{Device, board}
use Rattle.v8_loaded.proofs.Effects.{goes_does}
use Rattle.v8_loaded.proofs.Stages.{Inside, with_cell}
use Rattle.v8_routines.specs.Services.{MayReturn, calls}
use Rattle.leon_services.specs.Laws.{Calls, Comes, ExitLaw, FullLaw, GetEndLaw, GetLaw, Halts, PutLaw, answered, asked, asked_byte, ended, returned, with_output}
use Rattle.leon_services.specs.Mailbox.{HasMailbox, IsMailbox, Leaves, Mailbox, words_of}
use Rattle.leon_services.proofs.Asked.{routine_0, routine_1, routine_2, routine_3, routine_4, routine_5, routine_6, routine_7, routine_8, routine_9}
use Rattle.leon_services.proofs.Asked.{routine_18, routine_19, routine_20, routine_21, routine_22, routine_23, routine_24, routine_25, routine_26, routine_27, routine_28}
use Rattle.leon_services.proofs.Asked.{routine_31, routine_32, routine_33, routine_34, routine_35}
use Rattle.leon_services.proofs.Asked.{vector_0, vector_1, vector_2, vector_4, vector_5, vector_6, vector_8, vector_9, vector_10}
use Rattle.leon_services.proofs.Called.{answered_is, at_row, back_again, c_of, cpu_at, ended_by, f, first, fits, other, psr, returned_is, there, up, w}
use Rattle.leon_services.proofs.Kept.{Kept, kept_marked, room_word}
use Rattle.leon_services.proofs.Pages.{routine_fetched, routines_spot}
use Rattle.leon_services.proofs.Registers.{answered_twice, reads_answer, reads_own}
use Rattle.leon_services.proofs.Steps.{adds_one, compares, goes_if, loads_answer, loads_local, local_address, mail_address, moves_answer, moves_local, reads_psr, sets_mail}
use Rattle.leon_services.proofs.Steps.{stores_answer, stores_local, stores_pair}
use Rattle.leon_services.proofs.Turns.{At, routine_moves, routine_runs, vector_moves, vector_runs}

-- ---- traps, and what is compared

exit_traps : (n : ℕ) (cpu : Cpu n) → first_trap n cpu (calls 0) ≡ Some 0x80
unfolding applies reg_of
exit_traps n cpu = refl

get_traps : (n : ℕ) (cpu : Cpu n) → first_trap n cpu (calls 1) ≡ Some 0x81
unfolding applies reg_of
get_traps n cpu = refl

put_traps : (n : ℕ) (cpu : Cpu n) → first_trap n cpu (calls 2) ≡ Some 0x82
unfolding applies reg_of
put_traps n cpu = refl

same_codes : (p q : ℕ) → p ≡ q → q < 2 ^ 32 → (difference_codes p q false).z ≡ true
same_codes p q same small = let none : difference p q false ≡ 0 = omega arith in grind (arith, nat_tests)

other_codes : (p q : ℕ) → p < q → q < 2 ^ 32 → (difference_codes p q false).z ≡ false
other_codes p q less small = let some : difference p q false ≢ 0 = omega arith in grind (arith, nat_tests)

-- ---- what is left at the end

left_by : (b : ℕ) (old ram rest : List ℕ) (m : Mailbox) → Kept b old ram (words_of m ++ rest) → Leaves b old ram m
left_by b old ram rest m k = record {
  services = k.services;
  mailbox = λ j less. k.words j (omega arith) ∙ ap Some (get_or_append_left (words_of m) rest 0 j less);
  pages = k.pages;
  tables = k.tables;
  rest = k.rest;
}

comes_by : (n b : ℕ) (mmu : MmuRegs) (x : World n Device) (j : ℕ) (old rest : List ℕ) (cpu new : Cpu n) (m : Mailbox) →
    At n b mmu x old j cpu (words_of m ++ rest) → cpu ≡ new → Comes n b mmu x j new old m
comes_by n b mmu x j old rest cpu new m a same = record {
  processor = ap (λ (y : World n Device). y.cpu) a.is ∙ same;
  device = ap (λ (y : World n Device). y.memory.device) a.is;
  memory = subst (λ (y : World n Device). Leaves b old y.memory.ram m) (sym a.is) (left_by b old a.ram rest m a.kept);
}

module _ (n b : ℕ) (mmu : MmuRegs) (x : World n Device) (i k : ℕ) (u : Calls n b mmu x i k) (m : Mailbox) (mail : HasMailbox b x.memory.ram m) where
  abbrev F : ℕ → ℕ
  F j = f n b mmu x i k u j

  abbrev W : ℕ
  W = w n b mmu x i k u

  abbrev there_ : W < length x.cpu.regs.words
  there_ = there n b mmu x i k u

  abbrev other_ : above n W ≢ W
  other_ = other n b mmu x i k u

  fits_ : (j : ℕ) → F j < 2 ^ 32
  fits_ j = fits n b mmu x i k u j

  abbrev pc : ℕ
  pc = x.cpu.control.pc

  abbrev npc : ℕ
  npc = x.cpu.control.npc

  abbrev icc : Icc
  icc = x.cpu.control.icc

  abbrev rows : List (List ℕ)
  rows = x.cpu.regs.words

  abbrev ram : List ℕ
  ram = x.memory.ram

  -- the mailbox's words, and then those of the room for locals
  abbrev spell : Mailbox → ℕ → ℕ → ℕ → ℕ → List ℕ
  spell e p q r s = words_of e ++ (p ∷ q ∷ r ∷ s ∷ [])

  abbrev saved : Mailbox → List ℕ
  saved e = spell e (F 12) (F 13) (F 14) (F 15)

  pc_small : pc < 2 ^ 32
  pc_small = let at = u.place in let less = u.within in omega arith

  -- %o0 of the caller
  asked_is : slice_index (get_or rows (above n W) []) 0 ≡ asked n x.cpu
  unfolding reg_of
  asked_is = ap (λ q. slice_index (get_or rows q []) 0) (up n b mmu x i k u)

  asked_small : asked n x.cpu < 2 ^ 32
  asked_small = subst (λ q. q < 2 ^ 32) asked_is (u.file.rows.fit (above n W) 0)

  module _ (t : ℕ) where
    abbrev y_at : List (List ℕ) → ℕ → ℕ → ℕ → ℕ → ℕ → ℕ → ℕ → Inside
    y_at = at_row n b mmu x i k u

    abbrev C : Icc → Control
    C g = c_of n b mmu x i k u t g

    abbrev cpu_ : Icc → List (List ℕ) → ℕ → ℕ → ℕ → ℕ → ℕ → ℕ → ℕ → Cpu n
    cpu_ g r = cpu_at n b mmu x i k u t g r

    abbrev P : ℕ
    P = psr n b mmu x i k u t

    abbrev Here : List ℕ → ℕ → Cpu n → List ℕ → Type 0
    Here old j cpu cells = At n b mmu x old j cpu cells

    -- ---- from the source's `exit` to the halt, with a status in %l7

    abbrev halted : Icc → ℕ → ℕ → ℕ → ℕ → Cpu n
    halted g l4 l5 l6 status = entered n (cpu_ g rows 0xF0010000 l4 l5 l6 status 0xF000118C 0xF0001190) 0x80

    exits : (j : ℕ) (g : Icc) (l4 l5 l6 status p q r s : ℕ) → status < 2 ^ 32 →
        Here ram j (cpu_ g rows 0xF0010000 l4 l5 l6 status 0xF000117C 0xF0001180) (spell m p q r s) →
        Here ram (suc (suc (suc (suc (suc j))))) (halted g l4 l5 l6 status) (spell (ended n x.cpu status m) p q r s)
    exits j g l4 l5 l6 status p q r s small start = h35
      where
        h31 : Here ram (suc j) (cpu_ g rows 0xF0010000 l4 l5 l6 status 0xF0001180 0xF0001184) (spell (record m { word = asked n x.cpu }) p q r s)
        h31 =
            let y = y_at rows 0xF0010000 l4 l5 l6 status 0xF000117C 0xF0001180 in
            routine_moves n b mmu x u.root u.running 31 start (omega arith) refl routine_31
            (stores_local n (C g) W y b mmu x u.root u.running there_ ram (spell m p q r s) 24 5 (asked n x.cpu) (Immediate 20) (omega arith)
            (reads_answer n W y other_ ∙ asked_is) asked_small (mail_address n (C g) W y 20 refl there_))

        h32 : Here ram (suc (suc j)) (cpu_ g rows 0xF0010000 l4 l5 l6 status 0xF0001184 0xF0001188) (spell (record m { word = asked n x.cpu; pc = pc }) p q r s)
        h32 =
            let y = y_at rows 0xF0010000 l4 l5 l6 status 0xF0001180 0xF0001184 in
            routine_moves n b mmu x u.root u.running 32 h31 (omega arith) refl routine_32
            (stores_local n (C g) W y b mmu x u.root u.running there_ ram (spell (record m { word = asked n x.cpu }) p q r s) 17 6 pc (Immediate 24) (omega arith)
            (reads_own n W y 17 there_ (omega arith) (omega arith)) pc_small (mail_address n (C g) W y 24 refl there_))

        h33 : Here ram (suc (suc (suc j))) (cpu_ g rows 0xF0010000 l4 l5 l6 status 0xF0001188 0xF000118C) (spell (record m { word = asked n x.cpu; pc = pc; npc = npc }) p q r s)
        h33 =
            let y = y_at rows 0xF0010000 l4 l5 l6 status 0xF0001184 0xF0001188 in
            routine_moves n b mmu x u.root u.running 33 h32 (omega arith) refl routine_33
            (stores_local n (C g) W y b mmu x u.root u.running there_ ram (spell (record m { word = asked n x.cpu; pc = pc }) p q r s) 18 7 npc (Immediate 28) (omega arith)
            (reads_own n W y 18 there_ (omega arith) (omega arith)) u.npc_word (mail_address n (C g) W y 28 refl there_))

        h34 : Here ram (suc (suc (suc (suc j)))) (cpu_ g rows 0xF0010000 l4 l5 l6 status 0xF000118C 0xF0001190) (spell (ended n x.cpu status m) p q r s)
        h34 =
            let y = y_at rows 0xF0010000 l4 l5 l6 status 0xF0001188 0xF000118C in
            routine_moves n b mmu x u.root u.running 34 h33 (omega arith) refl routine_34
            (stores_local n (C g) W y b mmu x u.root u.running there_ ram (spell (record m { word = asked n x.cpu; pc = pc; npc = npc }) p q r s) 23 4 status (Immediate 16) (omega arith)
            (reads_own n W y 23 there_ (omega arith) (omega arith)) small (mail_address n (C g) W y 16 refl there_))

        h35 : Here ram (suc (suc (suc (suc (suc j))))) (halted g l4 l5 l6 status) (spell (ended n x.cpu status m) p q r s)
        h35 =
            let cells = spell (ended n x.cpu status m) p q r s in
            let cpu = cpu_ g rows 0xF0010000 l4 l5 l6 status 0xF000118C 0xF0001190 in
            let s = routines_spot b h34.ram mmu h34.kept.services u.root in
            let fetch = routine_fetched b h34.ram mmu h34.kept.services u.root 35 (omega arith) in
            let turn = traps_to board n mmu cpu h34.ram _ x.memory.device 0x91D02000 (calls 0) 0x80
            (record { running = u.running; sane = refl; straight = refl }) fetch routine_35 (exit_traps n cpu) in
            record {
              ram = _;
              kept = kept_marked b ram h34.ram cells h34.kept (b + 0x2D04) false s;
              is = ap (λ z. (next board n mmu z).1) h34.is ∙ ap (λ (z : Turn × World n Device). z.1) turn;
            }

    halts_by : (j : ℕ) (g : Icc) (l4 l5 l6 status p q r s : ℕ) → Here ram j (halted g l4 l5 l6 status) (spell (ended n x.cpu status m) p q r s) → Halts n b mmu x j (ended n x.cpu status m)
    unfolding entered
    halts_by j g l4 l5 l6 status p q r s a = record {
      halted = ap (λ (y : World n Device). y.cpu.control.error) a.is;
      device = ap (λ (y : World n Device). y.memory.device) a.is;
      memory = subst (λ (y : World n Device). Leaves b ram y.memory.ram (ended n x.cpu status m)) (sym a.is) (left_by b ram a.ram (p ∷ q ∷ r ∷ s ∷ []) (ended n x.cpu status m) a.kept);
    }

    -- ---- exit

    exit_turns : (p q r s : ℕ) → Here ram 1 (cpu_ icc rows (F 11) (F 12) (F 13) (F 14) (F 15) 0xF0000800 0xF0000804) (spell m p q r s) →
        Here ram 9 (halted icc (F 12) (F 13) (F 14) 1) (spell (ended n x.cpu 1 m) p q r s)
    exit_turns p q r s start = exits 4 icc (F 12) (F 13) (F 14) 1 p q r s (omega arith) h2
      where
        h0 : Here ram 2 (cpu_ icc rows 0xF0010000 (F 12) (F 13) (F 14) (F 15) 0xF0000804 0xF0000808) (spell m p q r s)
        h0 = vector_runs n b mmu x u.root u.running 0 start (omega arith) refl vector_0 (sets_mail n (C icc) W (y_at rows (F 11) (F 12) (F 13) (F 14) (F 15) 0xF0000800 0xF0000804) there_)

        h1 : Here ram 3 (cpu_ icc rows 0xF0010000 (F 12) (F 13) (F 14) (F 15) 0xF0000808 0xF000117C) (spell m p q r s)
        h1 = vector_runs n b mmu x u.root u.running 1 h0 (omega arith) refl vector_1 (goes_does n (C icc) W (y_at rows 0xF0010000 (F 12) (F 13) (F 14) (F 15) 0xF0000804 0xF0000808) W 0x25E)

        h2 : Here ram 4 (cpu_ icc rows 0xF0010000 (F 12) (F 13) (F 14) 1 0xF000117C 0xF0001180) (spell m p q r s)
        h2 = vector_runs n b mmu x u.root u.running 2 h1 (omega arith) refl vector_2
            (moves_local n (C icc) W (y_at rows 0xF0010000 (F 12) (F 13) (F 14) (F 15) 0xF0000808 0xF000117C) 1 refl there_)

    -- ---- get, as far as the comparison

    abbrev get_codes : Icc
    get_codes = difference_codes m.input m.input_end false

    get_begins : (p q r s : ℕ) → Here ram 1 (cpu_ icc rows (F 11) (F 12) (F 13) (F 14) (F 15) 0xF0000810 0xF0000814) (spell m p q r s) →
        m.input < 2 ^ 32 → m.input_end < 2 ^ 32 →
        Here ram 9 (cpu_ get_codes rows 0xF0010000 m.input m.input_end P (F 15) 0xF0001114 0xF0001118) (saved m)
    get_begins p q r s start small_a small_b = h4
      where
        a4 : Here ram 2 (cpu_ icc rows 0xF0010000 (F 12) (F 13) (F 14) (F 15) 0xF0000814 0xF0000818) (spell m p q r s)
        a4 = vector_runs n b mmu x u.root u.running 4 start (omega arith) refl vector_4 (sets_mail n (C icc) W (y_at rows (F 11) (F 12) (F 13) (F 14) (F 15) 0xF0000810 0xF0000814) there_)

        a5 : Here ram 3 (cpu_ icc rows 0xF0010000 (F 12) (F 13) (F 14) (F 15) 0xF0000818 0xF0001100) (spell m p q r s)
        a5 = vector_runs n b mmu x u.root u.running 5 a4 (omega arith) refl vector_5 (goes_does n (C icc) W (y_at rows 0xF0010000 (F 12) (F 13) (F 14) (F 15) 0xF0000814 0xF0000818) W 0x23B)

        a6 : Here ram 4 (cpu_ icc rows 0xF0010000 (F 12) (F 13) (F 14) (F 15) 0xF0001100 0xF0001104) (spell m (F 12) (F 13) r s)
        a6 =
            let y = y_at rows 0xF0010000 (F 12) (F 13) (F 14) (F 15) 0xF0000818 0xF0001100 in
            vector_moves n b mmu x u.root u.running 6 a5 (omega arith) refl vector_6
            (stores_pair n (C icc) W y b mmu x u.root u.running there_ ram (spell m p q r s) 20 8 (F 12) (F 13) (Immediate 32) (omega arith) refl refl
            (reads_own n W y 20 there_ (omega arith) (omega arith)) (reads_own n W y 21 there_ (omega arith) (omega arith)) (fits_ 12) (fits_ 13) (mail_address n (C icc) W y 32 refl there_))

        h0 : Here ram 5 (cpu_ icc rows 0xF0010000 (F 12) (F 13) (F 14) (F 15) 0xF0001104 0xF0001108) (saved m)
        h0 =
            let y = y_at rows 0xF0010000 (F 12) (F 13) (F 14) (F 15) 0xF0001100 0xF0001104 in
            routine_moves n b mmu x u.root u.running 0 a6 (omega arith) refl routine_0
            (stores_pair n (C icc) W y b mmu x u.root u.running there_ ram (spell m (F 12) (F 13) r s) 22 10 (F 14) (F 15) (Immediate 40) (omega arith) refl refl
            (reads_own n W y 22 there_ (omega arith) (omega arith)) (reads_own n W y 23 there_ (omega arith) (omega arith)) (fits_ 14) (fits_ 15) (mail_address n (C icc) W y 40 refl there_))

        h1 : Here ram 6 (cpu_ icc rows 0xF0010000 (F 12) (F 13) P (F 15) 0xF0001108 0xF000110C) (saved m)
        h1 = routine_runs n b mmu x u.root u.running 1 h0 (omega arith) refl routine_1 (reads_psr n (C icc) W (y_at rows 0xF0010000 (F 12) (F 13) (F 14) (F 15) 0xF0001104 0xF0001108) there_)

        h2 : Here ram 7 (cpu_ icc rows 0xF0010000 m.input (F 13) P (F 15) 0xF000110C 0xF0001110) (saved m)
        h2 =
            let y = y_at rows 0xF0010000 (F 12) (F 13) P (F 15) 0xF0001108 0xF000110C in
            routine_moves n b mmu x u.root u.running 2 h1 (omega arith) refl routine_2
            (loads_local n (C icc) W y b mmu x u.root u.running there_ ram (saved m) 20 (Register 0) 0 (omega arith) (omega arith) (omega arith)
            (local_address n (C icc) W y 19 0xF0010000 refl (omega arith) there_ (omega arith) (omega arith)))

        h3 : Here ram 8 (cpu_ icc rows 0xF0010000 m.input m.input_end P (F 15) 0xF0001110 0xF0001114) (saved m)
        h3 =
            let y = y_at rows 0xF0010000 m.input (F 13) P (F 15) 0xF000110C 0xF0001110 in
            routine_moves n b mmu x u.root u.running 3 h2 (omega arith) refl routine_3
            (loads_local n (C icc) W y b mmu x u.root u.running there_ ram (saved m) 21 (Immediate 4) 1 (omega arith) (omega arith) (omega arith)
            (mail_address n (C icc) W y 4 refl there_))

        h4 : Here ram 9 (cpu_ get_codes rows 0xF0010000 m.input m.input_end P (F 15) 0xF0001114 0xF0001118) (saved m)
        h4 = routine_runs n b mmu x u.root u.running 4 h3 (omega arith) refl routine_4
            (compares n (C icc) W (y_at rows 0xF0010000 m.input m.input_end P (F 15) 0xF0001110 0xF0001114) m.input m.input_end refl refl there_)

    -- ---- put, as far as the comparison

    abbrev put_codes : Icc
    put_codes = difference_codes m.output m.output_end false

    put_begins : (p q r s : ℕ) → Here ram 1 (cpu_ icc rows (F 11) (F 12) (F 13) (F 14) (F 15) 0xF0000820 0xF0000824) (spell m p q r s) →
        m.output < 2 ^ 32 → m.output_end < 2 ^ 32 →
        Here ram 9 (cpu_ put_codes rows 0xF0010000 m.output m.output_end P (F 15) 0xF000115C 0xF0001160) (saved m)
    put_begins p q r s start small_a small_b = h22
      where
        a8 : Here ram 2 (cpu_ icc rows 0xF0010000 (F 12) (F 13) (F 14) (F 15) 0xF0000824 0xF0000828) (spell m p q r s)
        a8 = vector_runs n b mmu x u.root u.running 8 start (omega arith) refl vector_8 (sets_mail n (C icc) W (y_at rows (F 11) (F 12) (F 13) (F 14) (F 15) 0xF0000820 0xF0000824) there_)

        a9 : Here ram 3 (cpu_ icc rows 0xF0010000 (F 12) (F 13) (F 14) (F 15) 0xF0000828 0xF0001148) (spell m p q r s)
        a9 = vector_runs n b mmu x u.root u.running 9 a8 (omega arith) refl vector_9 (goes_does n (C icc) W (y_at rows 0xF0010000 (F 12) (F 13) (F 14) (F 15) 0xF0000824 0xF0000828) W 0x249)

        a10 : Here ram 4 (cpu_ icc rows 0xF0010000 (F 12) (F 13) (F 14) (F 15) 0xF0001148 0xF000114C) (spell m (F 12) (F 13) r s)
        a10 =
            let y = y_at rows 0xF0010000 (F 12) (F 13) (F 14) (F 15) 0xF0000828 0xF0001148 in
            vector_moves n b mmu x u.root u.running 10 a9 (omega arith) refl vector_10
            (stores_pair n (C icc) W y b mmu x u.root u.running there_ ram (spell m p q r s) 20 8 (F 12) (F 13) (Immediate 32) (omega arith) refl refl
            (reads_own n W y 20 there_ (omega arith) (omega arith)) (reads_own n W y 21 there_ (omega arith) (omega arith)) (fits_ 12) (fits_ 13) (mail_address n (C icc) W y 32 refl there_))

        h18 : Here ram 5 (cpu_ icc rows 0xF0010000 (F 12) (F 13) (F 14) (F 15) 0xF000114C 0xF0001150) (saved m)
        h18 =
            let y = y_at rows 0xF0010000 (F 12) (F 13) (F 14) (F 15) 0xF0001148 0xF000114C in
            routine_moves n b mmu x u.root u.running 18 a10 (omega arith) refl routine_18
            (stores_pair n (C icc) W y b mmu x u.root u.running there_ ram (spell m (F 12) (F 13) r s) 22 10 (F 14) (F 15) (Immediate 40) (omega arith) refl refl
            (reads_own n W y 22 there_ (omega arith) (omega arith)) (reads_own n W y 23 there_ (omega arith) (omega arith)) (fits_ 14) (fits_ 15) (mail_address n (C icc) W y 40 refl there_))

        h19 : Here ram 6 (cpu_ icc rows 0xF0010000 (F 12) (F 13) P (F 15) 0xF0001150 0xF0001154) (saved m)
        h19 = routine_runs n b mmu x u.root u.running 19 h18 (omega arith) refl routine_19 (reads_psr n (C icc) W (y_at rows 0xF0010000 (F 12) (F 13) (F 14) (F 15) 0xF000114C 0xF0001150) there_)

        h20 : Here ram 7 (cpu_ icc rows 0xF0010000 m.output (F 13) P (F 15) 0xF0001154 0xF0001158) (saved m)
        h20 =
            let y = y_at rows 0xF0010000 (F 12) (F 13) P (F 15) 0xF0001150 0xF0001154 in
            routine_moves n b mmu x u.root u.running 20 h19 (omega arith) refl routine_20
            (loads_local n (C icc) W y b mmu x u.root u.running there_ ram (saved m) 20 (Immediate 8) 2 (omega arith) (omega arith) (omega arith)
            (mail_address n (C icc) W y 8 refl there_))

        h21 : Here ram 8 (cpu_ icc rows 0xF0010000 m.output m.output_end P (F 15) 0xF0001158 0xF000115C) (saved m)
        h21 =
            let y = y_at rows 0xF0010000 m.output (F 13) P (F 15) 0xF0001154 0xF0001158 in
            routine_moves n b mmu x u.root u.running 21 h20 (omega arith) refl routine_21
            (loads_local n (C icc) W y b mmu x u.root u.running there_ ram (saved m) 21 (Immediate 12) 3 (omega arith) (omega arith) (omega arith)
            (mail_address n (C icc) W y 12 refl there_))

        h22 : Here ram 9 (cpu_ put_codes rows 0xF0010000 m.output m.output_end P (F 15) 0xF000115C 0xF0001160) (saved m)
        h22 = routine_runs n b mmu x u.root u.running 22 h21 (omega arith) refl routine_22
            (compares n (C icc) W (y_at rows 0xF0010000 m.output m.output_end P (F 15) 0xF0001158 0xF000115C) m.output m.output_end refl refl there_)

    -- ---- get, from the branch on

    abbrev ended_rows : List (List ℕ)
    ended_rows = with_cell rows (above n W) 0 0xFFFFFFFF

    in_ended : W < length ended_rows
    in_ended = let same = length-set rows (above n W) (slice_set (get_or rows (above n W) []) 0 0xFFFFFFFF) in let less = there_ in omega arith

    -- at the end of the input
    get_ends : get_codes.z ≡ true → MayReturn n x → Here ram 9 (cpu_ get_codes rows 0xF0010000 m.input m.input_end P (F 15) 0xF0001114 0xF0001118) (saved m) →
        Here ram 19 (ended_by n b mmu x i k u t ended_rows) (saved m)
    get_ends equal may start = back_again n b mmu x i k u t ram 11 get_codes ended_rows m.input m.input_end (F 15) (saved m) in_ended refl refl refl refl may h6
      where
        h5 : Here ram 10 (cpu_ get_codes rows 0xF0010000 m.input m.input_end P (F 15) 0xF0001118 0xF0001128) (saved m)
        h5 = routine_runs n b mmu x u.root u.running 5 start (omega arith) refl routine_5
            (goes_if n (C get_codes) W (y_at rows 0xF0010000 m.input m.input_end P (F 15) 0xF0001114 0xF0001118) true 5 equal)

        h6 : Here ram 11 (cpu_ get_codes ended_rows 0xF0010000 m.input m.input_end P (F 15) 0xF0001128 0xF000112C) (saved m)
        h6 = routine_runs n b mmu x u.root u.running 6 h5 (omega arith) refl routine_6
            (moves_answer n (C get_codes) W (y_at rows 0xF0010000 m.input m.input_end P (F 15) 0xF0001118 0xF0001128) other_)

    -- at a byte
    abbrev given : ℕ → ℕ
    given j = slice_index ram (b + 0xC0000 + j)

    abbrev given_rows : ℕ → List (List ℕ)
    given_rows j = with_cell ended_rows (above n W) 0 (given j)

    in_given : (j : ℕ) → W < length (given_rows j)
    in_given j = let same = length-set ended_rows (above n W) (slice_set (get_or ended_rows (above n W) []) 0 (given j)) in let less = in_ended in omega arith

    get_gives : (j : ℕ) → j < 0x40000 → m.input ≡ 0xF0040000 + j → get_codes.z ≡ false → MayReturn n x →
        Here ram 9 (cpu_ get_codes rows 0xF0010000 m.input m.input_end P (F 15) 0xF0001114 0xF0001118) (saved m) →
        Here ram 22 (ended_by n b mmu x i k u t (given_rows j)) (saved (record m { input = m.input + 1 }))
    get_gives j less is differs may start =
        back_again n b mmu x i k u t ram 14 get_codes (given_rows j) (m.input + 1) m.input_end (F 15) (saved (record m { input = m.input + 1 })) (in_given j) refl refl refl refl may h9
      where
        h5 : Here ram 10 (cpu_ get_codes rows 0xF0010000 m.input m.input_end P (F 15) 0xF0001118 0xF000111C) (saved m)
        h5 = routine_runs n b mmu x u.root u.running 5 start (omega arith) refl routine_5
            (goes_if n (C get_codes) W (y_at rows 0xF0010000 m.input m.input_end P (F 15) 0xF0001114 0xF0001118) false 5 differs)

        h6 : Here ram 11 (cpu_ get_codes ended_rows 0xF0010000 m.input m.input_end P (F 15) 0xF000111C 0xF0001120) (saved m)
        h6 = routine_runs n b mmu x u.root u.running 6 h5 (omega arith) refl routine_6
            (moves_answer n (C get_codes) W (y_at rows 0xF0010000 m.input m.input_end P (F 15) 0xF0001118 0xF000111C) other_)

        h7 : Here ram 12 (cpu_ get_codes (given_rows j) 0xF0010000 m.input m.input_end P (F 15) 0xF0001120 0xF0001124) (saved m)
        h7 =
            let y = y_at ended_rows 0xF0010000 m.input m.input_end P (F 15) 0xF000111C 0xF0001120 in
            routine_moves n b mmu x u.root u.running 7 h6 (omega arith) refl routine_7
            (loads_answer n (C get_codes) W y b mmu x u.root u.running in_ended ram (saved m) j (Register 0) less other_
            (local_address n (C get_codes) W y 20 m.input refl (omega arith) in_ended (omega arith) (omega arith) ∙ is))

        h8 : Here ram 13 (cpu_ get_codes (given_rows j) 0xF0010000 (m.input + 1) m.input_end P (F 15) 0xF0001124 0xF0001128) (saved m)
        h8 = routine_runs n b mmu x u.root u.running 8 h7 (omega arith) refl routine_8
            (adds_one n (C get_codes) W (y_at (given_rows j) 0xF0010000 m.input m.input_end P (F 15) 0xF0001120 0xF0001124) m.input refl (omega arith) (in_given j))

        h9 : Here ram 14 (cpu_ get_codes (given_rows j) 0xF0010000 (m.input + 1) m.input_end P (F 15) 0xF0001128 0xF000112C) (saved (record m { input = m.input + 1 }))
        h9 =
            let y = y_at (given_rows j) 0xF0010000 (m.input + 1) m.input_end P (F 15) 0xF0001124 0xF0001128 in
            routine_moves n b mmu x u.root u.running 9 h8 (omega arith) refl routine_9
            (stores_local n (C get_codes) W y b mmu x u.root u.running (in_given j) ram (saved m) 20 0 (m.input + 1) (Register 0) (omega arith)
            (reads_own n W y 20 (in_given j) (omega arith) (omega arith)) (omega arith)
            (local_address n (C get_codes) W y 19 0xF0010000 refl (omega arith) (in_given j) (omega arith) (omega arith)))

    -- ---- put, from the branch on

    -- without room
    put_stops : put_codes.z ≡ true → Here ram 9 (cpu_ put_codes rows 0xF0010000 m.output m.output_end P (F 15) 0xF000115C 0xF0001160) (saved m) →
        Here ram 16 (halted put_codes m.output m.output_end P 3) (saved (ended n x.cpu 3 m))
    put_stops equal start = exits 11 put_codes m.output m.output_end P 3 (F 12) (F 13) (F 14) (F 15) (omega arith) h24
      where
        h23 : Here ram 10 (cpu_ put_codes rows 0xF0010000 m.output m.output_end P (F 15) 0xF0001160 0xF000117C) (saved m)
        h23 = routine_runs n b mmu x u.root u.running 23 start (omega arith) refl routine_23
            (goes_if n (C put_codes) W (y_at rows 0xF0010000 m.output m.output_end P (F 15) 0xF000115C 0xF0001160) true 8 equal)

        h24 : Here ram 11 (cpu_ put_codes rows 0xF0010000 m.output m.output_end P 3 0xF000117C 0xF0001180) (saved m)
        h24 = routine_runs n b mmu x u.root u.running 24 h23 (omega arith) refl routine_24
            (moves_local n (C put_codes) W (y_at rows 0xF0010000 m.output m.output_end P (F 15) 0xF0001160 0xF000117C) 3 refl there_)

    -- with room
    abbrev written : ℕ → List ℕ
    written j = with_byte ram (b + 0xC0000 + j) (asked n x.cpu % 2 ^ 8)

    put_stores : (j : ℕ) → j < 0x40000 → m.output ≡ 0xF0040000 + j → put_codes.z ≡ false → MayReturn n x →
        Here ram 9 (cpu_ put_codes rows 0xF0010000 m.output m.output_end P (F 15) 0xF000115C 0xF0001160) (saved m) →
        Here (written j) 23 (ended_by n b mmu x i k u t rows) (saved (record m { output = m.output + 1 }))
    put_stores j less is differs may start =
        back_again n b mmu x i k u t (written j) 15 put_codes rows (m.output + 1) m.output_end 3 (saved (record m { output = m.output + 1 })) there_ refl refl refl refl may h28
      where
        h23 : Here ram 10 (cpu_ put_codes rows 0xF0010000 m.output m.output_end P (F 15) 0xF0001160 0xF0001164) (saved m)
        h23 = routine_runs n b mmu x u.root u.running 23 start (omega arith) refl routine_23
            (goes_if n (C put_codes) W (y_at rows 0xF0010000 m.output m.output_end P (F 15) 0xF000115C 0xF0001160) false 8 differs)

        h24 : Here ram 11 (cpu_ put_codes rows 0xF0010000 m.output m.output_end P 3 0xF0001164 0xF0001168) (saved m)
        h24 = routine_runs n b mmu x u.root u.running 24 h23 (omega arith) refl routine_24
            (moves_local n (C put_codes) W (y_at rows 0xF0010000 m.output m.output_end P (F 15) 0xF0001160 0xF0001164) 3 refl there_)

        h25 : Here (written j) 12 (cpu_ put_codes rows 0xF0010000 m.output m.output_end P 3 0xF0001168 0xF000116C) (saved m)
        h25 =
            let y = y_at rows 0xF0010000 m.output m.output_end P 3 0xF0001164 0xF0001168 in
            routine_moves n b mmu x u.root u.running 25 h24 (omega arith) refl routine_25
            (stores_answer n (C put_codes) W y b mmu x u.root u.running there_ ram (saved m) j (asked n x.cpu) (Register 0) less
            (reads_answer n W y other_ ∙ asked_is) (local_address n (C put_codes) W y 20 m.output refl (omega arith) there_ (omega arith) (omega arith) ∙ is))

        h26 : Here (written j) 13 (cpu_ put_codes rows 0xF0010000 (m.output + 1) m.output_end P 3 0xF000116C 0xF0001170) (saved m)
        h26 = routine_runs n b mmu x u.root u.running 26 h25 (omega arith) refl routine_26
            (adds_one n (C put_codes) W (y_at rows 0xF0010000 m.output m.output_end P 3 0xF0001168 0xF000116C) m.output refl (omega arith) there_)

        h27 : Here (written j) 14 (cpu_ put_codes rows 0xF0010000 (m.output + 1) m.output_end P 3 0xF0001170 0xF0001128) (saved m)
        h27 = routine_runs n b mmu x u.root u.running 27 h26 (omega arith) refl routine_27
            (goes_does n (C put_codes) W (y_at rows 0xF0010000 (m.output + 1) m.output_end P 3 0xF000116C 0xF0001170) W 0xFFFFFFEF)

        h28 : Here (written j) 15 (cpu_ put_codes rows 0xF0010000 (m.output + 1) m.output_end P 3 0xF0001128 0xF000112C) (saved (record m { output = m.output + 1 }))
        h28 =
            let y = y_at rows 0xF0010000 (m.output + 1) m.output_end P 3 0xF0001170 0xF0001128 in
            routine_moves n b mmu x u.root u.running 28 h27 (omega arith) refl routine_28
            (stores_local n (C put_codes) W y b mmu x u.root u.running there_ (written j) (saved m) 20 2 (m.output + 1) (Immediate 8) (omega arith)
            (reads_own n W y 20 there_ (omega arith) (omega arith)) (omega arith) (mail_address n (C put_codes) W y 8 refl there_))

-- ---- the laws

pub exit_law : ExitLaw
exit_law n b mmu x i m u mail =
    let r : ℕ → ℕ = room_word b x.memory.ram in
    let g : ℕ → ℕ = f n b mmu x i 0 u in
    halts_by n b mmu x i 0 u m mail 0x80 9 x.cpu.control.icc (g 12) (g 13) (g 14) 1 (r 0) (r 1) (r 2) (r 3)
    (exit_turns n b mmu x i 0 u m mail 0x80 (r 0) (r 1) (r 2) (r 3) (first n b mmu x i 0 u 0x80 m mail (exit_traps n x.cpu)))

get_begun : (n b : ℕ) (mmu : MmuRegs) (x : World n Device) (i : ℕ) (u : Calls n b mmu x i 1) (m : Mailbox) (mail : HasMailbox b x.memory.ram m) → IsMailbox m →
    At n b mmu x x.memory.ram 9
    (cpu_at n b mmu x i 1 u 0x81 (difference_codes m.input m.input_end false) x.cpu.regs.words 0xF0010000 m.input m.input_end
    (psr n b mmu x i 1 u 0x81) (f n b mmu x i 1 u 15) 0xF0001114 0xF0001118) (saved n b mmu x i 1 u m mail m)
get_begun n b mmu x i u m mail is =
    let r : ℕ → ℕ = room_word b x.memory.ram in
    let left = is.left in
    let last = is.ends in
    get_begins n b mmu x i 1 u m mail 0x81 (r 0) (r 1) (r 2) (r 3) (first n b mmu x i 1 u 0x81 m mail (get_traps n x.cpu)) (omega arith) (omega arith)

pub get_end_law : GetEndLaw
get_end_law n b mmu x i m u may mail is same =
    let g : ℕ → ℕ = f n b mmu x i 1 u in
    let last = is.ends in
    comes_by n b mmu x 19 x.memory.ram (g 12 ∷ g 13 ∷ g 14 ∷ g 15 ∷ []) _ (answered n x.cpu 0x81 0xFFFFFFFF) m
    (get_ends n b mmu x i 1 u m mail 0x81 (same_codes m.input m.input_end same (omega arith)) may (get_begun n b mmu x i u m mail is))
    (answered_is n b mmu x i 1 u 0x81 0xFFFFFFFF)

pub get_law : GetLaw
get_law n b mmu x i m u may mail is less =
    let g : ℕ → ℕ = f n b mmu x i 1 u in
    let low = is.begun in
    let last = is.ends in
    let j = m.input - 0xF0040000 in
    let byte = slice_index x.memory.ram (b + 0xC0000 + j) in
    let up_there : above n (w n b mmu x i 1 u) < length x.cpu.regs.words =
    let same = up n b mmu x i 1 u in let count = u.file.rows.count in let here = u.file.current in omega arith in
    comes_by n b mmu x 22 x.memory.ram (g 12 ∷ g 13 ∷ g 14 ∷ g 15 ∷ []) _ (answered n x.cpu 0x81 byte) (record m { input = m.input + 1 })
    (get_gives n b mmu x i 1 u m mail 0x81 j (omega arith) (omega arith) (other_codes m.input m.input_end less (omega arith)) may (get_begun n b mmu x i u m mail is))
    (ap (ended_by n b mmu x i 1 u 0x81) (answered_twice x.cpu.regs.words (above n (w n b mmu x i 1 u)) 0xFFFFFFFF byte up_there)
    ∙ answered_is n b mmu x i 1 u 0x81 byte)

put_begun : (n b : ℕ) (mmu : MmuRegs) (x : World n Device) (i : ℕ) (u : Calls n b mmu x i 2) (m : Mailbox) (mail : HasMailbox b x.memory.ram m) → IsMailbox m →
    At n b mmu x x.memory.ram 9
    (cpu_at n b mmu x i 2 u 0x82 (difference_codes m.output m.output_end false) x.cpu.regs.words 0xF0010000 m.output m.output_end
    (psr n b mmu x i 2 u 0x82) (f n b mmu x i 2 u 15) 0xF000115C 0xF0001160) (saved n b mmu x i 2 u m mail m)
put_begun n b mmu x i u m mail is =
    let r : ℕ → ℕ = room_word b x.memory.ram in
    let free = is.free in
    let last = is.last in
    put_begins n b mmu x i 2 u m mail 0x82 (r 0) (r 1) (r 2) (r 3) (first n b mmu x i 2 u 0x82 m mail (put_traps n x.cpu)) (omega arith) (omega arith)

pub put_law : PutLaw
put_law n b mmu x i m u may mail is less =
    let g : ℕ → ℕ = f n b mmu x i 2 u in
    let low = is.after in
    let last = is.last in
    let j = m.output - 0xF0040000 in
    comes_by n b mmu x 23 (with_output b x.memory.ram m (asked_byte n x.cpu)) (g 12 ∷ g 13 ∷ g 14 ∷ g 15 ∷ []) _ (returned n x.cpu 0x82) (record m { output = m.output + 1 })
    (put_stores n b mmu x i 2 u m mail 0x82 j (omega arith) (omega arith) (other_codes m.output m.output_end less (omega arith)) may (put_begun n b mmu x i u m mail is))
    (returned_is n b mmu x i 2 u 0x82)

pub full_law : FullLaw
full_law n b mmu x i m u mail is same =
    let g : ℕ → ℕ = f n b mmu x i 2 u in
    let last = is.last in
    halts_by n b mmu x i 2 u m mail 0x82 16 (difference_codes m.output m.output_end false) m.output m.output_end (psr n b mmu x i 2 u 0x82) 3 (g 12) (g 13) (g 14) (g 15)
    (put_stops n b mmu x i 2 u m mail 0x82 (same_codes m.output m.output_end same (omega arith)) (put_begun n b mmu x i u m mail is))
