-- The law of the underflow handler.
use Rattle.std.proofs.Common.{◌≡◌, ◌≢◌, ℕ, ◌+◌, ◌*◌, ◌^◌, ◌<◌, ◌≤◌, ◌⊎◌, inl, inr, Bool, true, false, List, [], length, get_or, Some, refl, sym, ap, ◌∙◌, subst, arith}
use Rattle.std.specs.Prelude.{◌==◌, slice_index, slice_set}
use Rattle.std.proofs.lemmas.Bool.Decides.{nat_tests}
use Rattle.std.proofs.lemmas.List.{get_or-set_same, get_or-set_other}
use Rattle.v8_core.specs.Three.{Three}
use Rattle.v8_core.specs.Operand.TheVariants.{Immediate}
use Rattle.v8_core.specs.Operation.{Operation}
use Rattle.v8_core.specs.Operation.TheVariants.{Restore}
use Rattle.v8_core.specs.Ram.{entry_of}
use Rattle.v8_core.specs.MmuRegs.{MmuRegs}
use Rattle.v8_core.specs.Windows.{above, can_enter, is_masked}
use Rattle.v8_core.specs.Cpu.{Cpu}
use Rattle.v8_core.specs.Effects.{address_of}
use Rattle.v8_core.specs.Traps.{applies, first_trap}
use Rattle.v8_core.specs.Accesses.{World, world}
use Rattle.v8_core.specs.Steps.{next}
use Rattle.v8_loaded.specs.Layout.{Pages}
use Rattle.v8_layout.proofs.Marks.{kept_elsewhere}
use Rattle.v8_loaded.specs.Board.{Device, board}
use Rattle.v8_loaded.specs.Areas.{HasFrame, IsFrame, area_of}
use Rattle.v8_loaded.specs.Places.{code_entry_place, code_marked, entered_window}
use Rattle.v8_loaded.proofs.Fetches.{code_entry_word}
use Rattle.v8_loaded.proofs.Windows.{above_below, below_within, above_within, mask_within, mask_word, masked}
use Rattle.v8_loaded.proofs.Stages.{finished, stage}
use Rattle.v8_loaded.proofs.Entered.{caught, first_row, first_row_pcs, first_row_kept, first_row_fits, finished_control}
use Rattle.v8_loaded.proofs.Turns.{Comes, filling}
use Rattle.v8_loaded.proofs.Stack.{stack_address, word_in, word_there}
use Rattle.v8_loaded.proofs.Users.{pc_word, user_kept, user_page}
use Rattle.v8_loaded.proofs.Handled.{begins, begun, ends, handled, same_but, setting}
use Rattle.v8_routines.specs.Underflow.{Underflows, Refills, Refilled, Handled, refilled_window, next_window, stack_pointer, UnderflowLaw}
use Rattle.v8_routines.proofs.UnderflowCells.{Loading, refilled, home, spot, home_low, home_high, spot_low, spot_high, are_rows, loaded_word, kept_word, with_row}
use Rattle.v8_routines.proofs.UnderflowRows.{row_5, low_kept, long, fit}
use Rattle.v8_routines.proofs.UnderflowTurns.{Frame, eighteen, loads_of, next_apart, pointer_kept, to_the_window, underflow as handled_by, window_apart}

restore_traps : (n : ℕ) (cpu : Cpu n) (f : Three) → is_masked cpu.regs.mask (above n cpu.regs.current) ≡ true →
    first_trap n cpu (Restore f) ≡ Some 6
unfolding applies can_enter
restore_traps n cpu f forbidden = rw forbidden refl

-- a word of another window than the one with a row of its own
beside_row : (rows : List (List ℕ)) (w : ℕ) (row : List ℕ) (u j : ℕ) → u ≢ w →
    slice_index (get_or (slice_set rows w row) u []) j ≡ slice_index (get_or rows u []) j
beside_row rows w row u j other = ap (λ (xs : List ℕ). slice_index xs j) (get_or-set_other rows w u row [] other)

in_row : (rows : List (List ℕ)) (w : ℕ) (row : List ℕ) (j : ℕ) → w < length rows →
    slice_index (get_or (slice_set rows w row) w []) j ≡ slice_index row j
in_row rows w row j there = ap (λ (xs : List ℕ). slice_index xs j) (get_or-set_same rows w row [] there)

local_loaded : (n : ℕ) (rows : List (List ℕ)) (m a : ℕ) (v : ℕ → ℕ) (j : ℕ) → Loading n rows m a v → j < 8 →
    slice_index (get_or (refilled rows m a v 16) m []) (8 + j) ≡ v j
local_loaded n rows m a v j l small =
    ap (λ u. slice_index (get_or (refilled rows m a v 16) u []) (8 + j)) (sym (home_low m a j small))
    ∙ ap (λ k. slice_index (get_or (refilled rows m a v 16) (home m a j) []) k) (sym (spot_low j small))
    ∙ loaded_word n rows m a v 16 j l (omega arith) (omega arith)

in_loaded : (n : ℕ) (rows : List (List ℕ)) (m a : ℕ) (v : ℕ → ℕ) (j : ℕ) → Loading n rows m a v → j < 8 →
    slice_index (get_or (refilled rows m a v 16) a []) j ≡ v (8 + j)
in_loaded n rows m a v j l small =
    let at : j ≡ spot (8 + j) = (let e = spot_high (8 + j) (omega arith) in omega arith) in
    ap (λ u. slice_index (get_or (refilled rows m a v 16) u []) j) (sym (home_high m a (8 + j) (omega arith)))
    ∙ ap (λ k. slice_index (get_or (refilled rows m a v 16) (home m a (8 + j)) []) k) at
    ∙ loaded_word n rows m a v 16 (8 + j) l (omega arith) (omega arith)

-- a place that no word goes to
not_loaded : (m a u j i : ℕ) → (u ≡ m → j < 8) → (u ≡ a → 8 ≤ j) → i < 16 → (u ≢ home m a i) ⊎ (j ≢ spot i)
not_loaded m a u j i first second small =
    let side : (i < 8) ⊎ (8 ≤ i) = search arith in
    elim side [
      | inl low ↦ by_window (home m a i) (u == home m a i) refl (λ e. let p = spot_low i low in let q = first (e ∙ home_low m a i low) in λ s. omega arith)
      | inr high ↦ by_window (home m a i) (u == home m a i) refl (λ e. let p = spot_high i high in let q = second (e ∙ home_high m a i high) in λ s. omega arith)
    ]
  where
    by_window : (h : ℕ) (t : Bool) → (u == h) ≡ t → (u ≡ h → j ≢ spot i) → (u ≢ h) ⊎ (j ≢ spot i)
    by_window h true e there = inr (there (grind (arith, nat_tests)))
    by_window h false e there = inl (grind (arith, nat_tests))

-- the old words
kept : (n : ℕ) (rows : List (List ℕ)) (m a w : ℕ) (v : ℕ → ℕ) (row : List ℕ) (u j : ℕ) → Loading n rows m a v → w < n →
    ((i : ℕ) → i < 8 → slice_index row i ≡ slice_index (get_or rows w []) i) → (u ≡ m → j < 8) → (u ≡ a → 8 ≤ j) → (u ≡ w → j < 8) →
    slice_index (get_or (slice_set (refilled rows m a v 16) w row) u []) j ≡ slice_index (get_or rows u []) j
kept n rows m a w v row u j l less outs first second third = by_window (u == w) refl
  where
    by_window : (t : Bool) → (u == w) ≡ t →
        slice_index (get_or (slice_set (refilled rows m a v 16) w row) u []) j ≡ slice_index (get_or rows u []) j
    by_window true e =
        let same : u ≡ w = grind (arith, nat_tests) in
        let count = (are_rows n rows m a v 16 l (omega arith)).count in
        ap (λ x. slice_index (get_or (slice_set (refilled rows m a v 16) w row) x []) j) same
        ∙ in_row (refilled rows m a v 16) w row j (omega (arith, count)) ∙ outs j (third same)
        ∙ ap (λ x. slice_index (get_or rows x []) j) (sym same)
    by_window false e =
        let other : u ≢ w = grind (arith, nat_tests) in
        beside_row (refilled rows m a v 16) w row u j other
        ∙ kept_word n rows m a v 16 u j l (omega arith) (λ i small. not_loaded m a u j i first second small)

module _ (n : ℕ) (g : Pages) (words : List ℕ) (mmu : MmuRegs) (x : World n Device) (i : ℕ) (o : Underflows n g words mmu x i) (area : HasFrame g x.memory.ram (stack_pointer n x.cpu)) where
  abbrev op : Operation
  op = Restore o.restores.0

  abbrev cur : ℕ
  cur = x.cpu.regs.current

  abbrev w : ℕ
  w = entered_window n x.cpu

  abbrev u : ℕ
  u = refilled_window n x.cpu

  abbrev b : ℕ
  b = next_window n x.cpu

  abbrev rows : List (List ℕ)
  rows = x.cpu.regs.words

  abbrev at : ℕ
  at = area_of (stack_pointer n x.cpu)

  -- the words of the save area
  abbrev saved : ℕ → ℕ
  saved k = word_in x.memory.ram (at + 4 * k)

  -- the rows and the trap's window in the end
  abbrev last_rows : List (List ℕ)
  last_rows = refilled rows u b saved 16

  abbrev last_row : List ℕ
  last_row = row_5 n (first_row n x.cpu) (2 ^ u)

  abbrev last_cpu : Cpu n
  last_cpu = finished n (caught x.cpu.control 6) w (record {
    rows = last_rows;
    globals = x.cpu.regs.globals;
    row = last_row;
    mask = 2 ^ b;
    pc = x.cpu.control.pc;
    npc = x.cpu.control.npc;
  })

  w_within : w < n
  w_within = below_within n cur o.user.file.few o.user.file.many o.user.file.current

  u_within : u < n
  u_within = above_within n cur o.user.file.few o.user.file.many o.user.file.current

  old_sixteen : length (get_or rows w []) ≡ 16
  old_sixteen = o.user.file.rows.each w w_within

  meets : first_trap n x.cpu op ≡ Some 6
  meets =
      let many = o.user.file.many in
      let less = u_within in
      restore_traps n x.cpu o.restores.0 (ap (λ k. is_masked k u) o.mask ∙ masked u (omega arith))

  pc_fits : x.cpu.control.pc < 2 ^ 32
  pc_fits = pc_word n g words mmu x i o.user

  word_of_area : (k : ℕ) → k < 16 → entry_of x.memory.ram (at + 4 * k) ≡ Some (saved k)
  word_of_area k small =
      let size = o.user.loaded.tables.size in
      let aligned = area.room.aligned in
      let low = area.room.low in
      let high = area.room.high in
      let most = o.user.few.stack in
      word_there x.memory.ram (at + 4 * k) size (omega arith) (omega arith)

  -- before and after the fetch the save area is the same
  frame_in : (ram : List ℕ) → ((p : ℕ) → 0x2E00 ≤ p → entry_of ram p ≡ entry_of x.memory.ram p) →
      Frame n g ram rows cur saved
  frame_in ram same =
      let low = area.room.low in
      let most = o.user.few.stack in
      record {
        within = o.user.file.current;
        shape = o.user.file.rows;
        room = area.room;
        words = λ k small. same (at + 4 * k) (omega arith) ∙ word_of_area k small;
        fit = λ k small. area.words k (saved k) small (word_of_area k small);
      }

  loads : Loading n rows u b saved
  loads = loads_of n g x.memory.ram rows cur saved o.user.file.few o.user.file.many (frame_in x.memory.ram (λ p high. refl))

  -- what the handler leaves of the registers
  refills : Refills n x.cpu last_cpu
  refills =
      let file = o.user.file in
      let row = first_row n x.cpu in
      let sixteen = (first_row_pcs n x.cpu old_sixteen).2 in
      let back = above_below n cur file.few file.many file.current in
      record {
        mask = refl;
        current = back;
        globals = refl;
        kept = λ q j first second third. kept n rows u b w saved last_row q j loads w_within
            (λ k small. low_kept n row (2 ^ u) k (omega arith) ∙ first_row_kept n x.cpu k (omega arith) (omega arith)) first second third;
        file = record {
          few = file.few;
          many = file.many;
          current = subst (λ q. q < n) (sym back) file.current;
          mask = mask_within n b file.few file.many (above_within n u file.few file.many u_within);
          globals = file.globals;
          rows = with_row n last_rows w last_row (are_rows n rows u b saved 16 loads (omega arith)) w_within (long n row (2 ^ u) sixteen)
              (λ j. let many = file.many in let less = u_within in
              fit n row (2 ^ u) j sixteen (mask_word u (omega arith)) (first_row_fits n x.cpu old_sixteen pc_fits o.user.npc_word (file.rows.fit w)));
        };
        control = finished_control x.cpu.control 6 x.cpu.control.pc x.cpu.control.npc refl refl o.user.straight o.user.sane o.user.traps;
      }

  -- and the window that it loaded
  window : IsFrame last_cpu.regs u b at x.memory.ram
  window =
      let file = o.user.file in
      record {
        locals = λ j small. word_of_area j (omega arith)
            ∙ ap Some (sym (beside_row last_rows w last_row u (8 + j) (window_apart n cur file.few file.many file.current) ∙ local_loaded n rows u b saved j loads small));
        ins = λ j small.
            let place : at + 32 + 4 * j ≡ at + 4 * (8 + j) = omega arith in
            ap (entry_of x.memory.ram) place ∙ word_of_area (8 + j) (omega arith)
            ∙ ap Some (sym (beside_row last_rows w last_row b j (next_apart n cur file.few file.many file.current) ∙ in_loaded n rows u b saved j loads small));
      }

  after_fetch : Frame n g (code_marked i x.memory.ram) rows cur saved
  after_fetch =
      let page = user_page n g words mmu x i o.user in
      let high = page.high in
      frame_in (code_marked i x.memory.ram) (λ p above. kept_elsewhere x.memory.ram (code_entry_place i) (code_entry_word i) false page p (inr (omega arith)))

  -- the 23 turns
  comes : Comes n g words mmu x.memory.device (filling at 16) 23 (begun n x i 6 (2 ^ u)) last_cpu
  comes =
      let pcs = first_row_pcs n x.cpu old_sixteen in
      let whole = o.user.place in
      handled_by n g words mmu x.memory.device (setting n g words mmu x i o.user) (caught x.cpu.control 6) rows cur x.cpu.regs.globals (first_row n x.cpu) (code_marked i x.memory.ram) saved
      (user_kept n g words mmu x i o.user)
      after_fetch pcs.2 x.cpu.control.pc x.cpu.control.npc pcs.0 pcs.1 pc_fits o.user.npc_word (omega arith) o.user.npc_whole

  -- the processor while it loads, before the first double word and before the last, and where it loads from
  abbrev pub loading : ℕ → ℕ → ℕ → Cpu n
  loading k pc npc = stage n (caught x.cpu.control 6) w u (record { rows = refilled rows u b saved k; globals = x.cpu.regs.globals; row = last_row; mask = 2 ^ b; pc = pc; npc = npc })

  pub begins_so : (next board n mmu x).1 ≡ begun n x i 6 (2 ^ u)
  begins_so = begins n g words mmu x i o.user op 6 (2 ^ u) o.restores.1 meets o.mask

  pub before_first : Comes n g words mmu x.memory.device (filling at 0) 11 (begun n x i 6 (2 ^ u)) (loading 0 0xF00010A0 0xF00010A4)
  before_first =
      to_the_window n g words mmu x.memory.device (setting n g words mmu x i o.user) (caught x.cpu.control 6) rows cur x.cpu.regs.globals (first_row n x.cpu) (code_marked i x.memory.ram) saved
      (user_kept n g words mmu x i o.user) after_fetch (first_row_pcs n x.cpu old_sixteen).2

  pub before_last : Comes n g words mmu x.memory.device (filling at 14) 18 (begun n x i 6 (2 ^ u)) (loading 14 0xF00010BC 0xF00010C0)
  before_last =
      eighteen n g words mmu x.memory.device (setting n g words mmu x i o.user) (caught x.cpu.control 6) rows cur x.cpu.regs.globals (first_row n x.cpu) (code_marked i x.memory.ram) saved
      (user_kept n g words mmu x i o.user) after_fetch (first_row_pcs n x.cpu old_sixteen).2

  pub loads_at : (k offset pc npc : ℕ) → k ≤ 16 → offset < 64 → address_of n (loading k pc npc) 14 (Immediate offset) ≡ stack_pointer n x.cpu + offset
  loads_at k offset pc npc few small =
      let top = area.room.high in
      stack_address n g words mmu x.memory.device (setting n g words mmu x i o.user) (caught x.cpu.control 6) w u
      (record { rows = refilled rows u b saved k; globals = x.cpu.regs.globals; row = last_row; mask = 2 ^ b; pc = pc; npc = npc })
      offset (stack_pointer n x.cpu) (window_apart n cur o.user.file.few o.user.file.many o.user.file.current) (pointer_kept n rows u b saved k loads few) (omega arith)

  refilled_so : Refilled n g words x (world n last_cpu comes.ram x.memory.device) i
  refilled_so = record {
    cpu = refills;
    window = window;
    ram = same_but n g words mmu x i o.user op 6 (2 ^ u) o.restores.1 meets o.mask (filling at 16) last_cpu comes refl;
    loaded = comes.loaded;
    device = refl;
  }

  whole : Handled n g words mmu x i
  whole =
      let most = o.user.few.stack in
      let from = area.room.low in
      record {
        turns = handled n g words mmu x i o.user op 6 (2 ^ u) o.restores.1 meets o.mask (filling at 16) last_cpu comes refl (stack_pointer n x.cpu) (omega arith);
        refilled = subst (λ y. Refilled n g words x y i) (sym (ends n g words mmu x i o.user op 6 (2 ^ u) o.restores.1 meets o.mask (filling at 16) last_cpu comes refl)) refilled_so;
      }

pub underflow_law : UnderflowLaw
underflow_law n g words mmu x i o area = whole n g words mmu x i o area
