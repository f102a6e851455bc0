-- The law of the overflow handler.
use Rattle.std.proofs.Common.{◌≡◌, ℕ, ◌+◌, ◌-◌, ◌*◌, ◌^◌, ◌<◌, ◌≤◌, ◌⊎◌, inl, inr, Bool, true, false, List, [], get_or, Some, refl, sym, ap, ◌∙◌, subst, arith}
use Rattle.std.specs.Prelude.{slice_index, nat_lt, if◌then◌else◌}
use Rattle.std.proofs.lemmas.Bool.Decides.{nat_tests}
use Rattle.std.proofs.lemmas.Option.{same_Some}
use Rattle.v8_core.specs.Three.{Three}
use Rattle.v8_core.specs.Operand.TheVariants.{Immediate}
use Rattle.v8_core.specs.Operation.{Operation}
use Rattle.v8_core.specs.Operation.TheVariants.{Save}
use Rattle.v8_core.specs.Ram.{entry_of}
use Rattle.v8_core.specs.MmuRegs.{MmuRegs}
use Rattle.v8_core.specs.Windows.{below, is_masked, can_enter}
use Rattle.v8_core.specs.Cpu.{Cpu}
use Rattle.v8_core.specs.Effects.{address_of}
use Rattle.v8_core.specs.Traps.{applies, first_trap}
use Rattle.v8_core.specs.Accesses.{World, world}
use Rattle.v8_core.specs.Steps.{next}
use Rattle.v8_loaded.specs.Layout.{Pages}
use Rattle.v8_loaded.specs.Board.{Device, board}
use Rattle.v8_loaded.specs.Areas.{HasFrame, HasRoom, IsFrame, area_of}
use Rattle.v8_loaded.specs.Places.{code_marked, entered_window}
use Rattle.v8_loaded.specs.Users.{RunsUser}
use Rattle.v8_loaded.proofs.Windows.{above_below, below_differs, below_within, masked}
use Rattle.v8_loaded.proofs.Entered.{caught, first_row, first_row_pcs}
use Rattle.v8_loaded.proofs.Stack.{stack_address}
use Rattle.v8_loaded.proofs.Stages.{stage}
use Rattle.v8_loaded.proofs.Turns.{Comes, saving}
use Rattle.v8_loaded.proofs.Users.{pc_word, user_kept}
use Rattle.v8_loaded.proofs.Handled.{begins, begun, ends, handled, same_but, setting}
use Rattle.v8_routines.specs.Overflow.{Overflows, OverflowLaw, Spilled, Handled, spilled_window, stack_pointer}
use Rattle.v8_routines.proofs.OverflowRows.{globals_6, row_5_low}
use Rattle.v8_routines.proofs.OverflowTurns.{Frame, eighteen, eleven, overflow, spilled_word}
use Rattle.v8_routines.proofs.OverflowAfter.{last_cpu, last_row, last_row_low, last_row_fits, spills}

save_traps : (n : ℕ) (cpu : Cpu n) (f : Three) → is_masked cpu.regs.mask (below n cpu.regs.current) ≡ true →
    first_trap n cpu (Save f) ≡ Some 5
unfolding applies can_enter
save_traps n cpu f forbidden = rw forbidden refl

abbrev chosen : List (List ℕ) → ℕ → List ℕ → ℕ → Bool → ℕ
chosen rows u row i t = if t then slice_index (get_or rows u []) (8 + i) else slice_index row (i - 8)

spilled_low : (rows : List (List ℕ)) (u : ℕ) (row : List ℕ) (i : ℕ) → i < 8 →
    spilled_word rows u row i ≡ slice_index (get_or rows u []) (8 + i)
spilled_low rows u row i small = let test : nat_lt i 8 ≡ true = grind (arith, nat_tests) in ap (chosen rows u row i) test

spilled_high : (rows : List (List ℕ)) (u : ℕ) (row : List ℕ) (i : ℕ) → 8 ≤ i →
    spilled_word rows u row i ≡ slice_index row (i - 8)
spilled_high rows u row i big = let test : nat_lt i 8 ≡ false = grind (arith, nat_tests) in ap (chosen rows u row i) test

module _ (n : ℕ) (g : Pages) (words : List ℕ) (mmu : MmuRegs) (x : World n Device) (i : ℕ) (o : Overflows n g words mmu x i) (room : HasRoom g (stack_pointer n x.cpu)) where
  abbrev user : RunsUser n g words mmu x i
  user = o.user

  abbrev op : Operation
  op = Save o.saves.0

  abbrev w : ℕ
  w = entered_window n x.cpu

  abbrev rows : List (List ℕ)
  rows = x.cpu.regs.words

  abbrev last : List ℕ
  last = last_row n x.cpu

  abbrev sp : ℕ
  sp = stack_pointer n x.cpu

  abbrev word : ℕ → ℕ
  word = spilled_word rows (spilled_window n x.cpu) last

  within : w < n
  within = below_within n x.cpu.regs.current o.user.file.few o.user.file.many o.user.file.current

  meets : first_trap n x.cpu op ≡ Some 5
  meets =
      let many = o.user.file.many in
      let less = within in
      save_traps n x.cpu o.saves.0 (ap (λ k. is_masked k w) o.mask ∙ masked w (omega arith))

  pc_fits : x.cpu.control.pc < 2 ^ 32
  pc_fits = pc_word n g words mmu x i o.user

  low : (j : ℕ) → j < 8 → slice_index last j ≡ slice_index (get_or rows w []) j
  low j small = last_row_low n x.cpu j small

  fit : (j : ℕ) → j < 16 → word j < 2 ^ 32
  fit j small =
      let side : (j < 8) ⊎ (8 ≤ j) = search arith in
      elim side [
        | inl a ↦ subst (λ v. v < 2 ^ 32) (sym (spilled_low rows (spilled_window n x.cpu) last j a)) (o.user.file.rows.fit (spilled_window n x.cpu) (8 + j))
        | inr b ↦ subst (λ v. v < 2 ^ 32) (sym (spilled_high rows (spilled_window n x.cpu) last j b)) (last_row_fits n x.cpu o.user.file pc_fits o.user.npc_word (j - 8))
      ]

  frame : Frame n rows w last sp
  frame =
      let counted = o.user.file.rows.count in
      let less = within in
      record {
        there = omega arith;
        other = below_differs n w o.user.file.few o.user.file.many within;
        back = above_below n w o.user.file.few o.user.file.many within;
        pointer = refl;
        fit = fit;
      }

  -- the 23 turns
  comes : Comes n g words mmu x.memory.device (saving (area_of sp) word 16) 23 (begun n x i 5 (2 ^ w)) (last_cpu n x.cpu)
  comes =
      let row = first_row n x.cpu in
      let pcs = first_row_pcs n x.cpu (o.user.file.rows.each w within) in
      let whole = o.user.place in
      overflow n g words mmu x.memory.device (setting n g words mmu x i o.user) (caught x.cpu.control 5) rows w x.cpu.regs.globals row (code_marked i x.memory.ram)
      (user_kept n g words mmu x i o.user) within o.user.file.globals.count pcs.2 sp room frame x.cpu.control.pc x.cpu.control.npc
      (row_5_low n x.cpu.regs.globals row (2 ^ w) 9 (omega arith) ∙ pcs.0) (row_5_low n x.cpu.regs.globals row (2 ^ w) 10 (omega arith) ∙ pcs.1)
      pc_fits o.user.npc_word (omega arith) o.user.npc_whole

  -- the processor while it stores, before the first double word and before the last, and where it stores
  abbrev pub storing : ℕ → ℕ → Cpu n
  storing pc npc =
      stage n (caught x.cpu.control 5) w (below n w)
      (record { rows = rows; globals = globals_6 n x.cpu.regs.globals (first_row n x.cpu) (2 ^ w); row = last; mask = 2 ^ below n w; pc = pc; npc = npc })

  pub begins_so : (next board n mmu x).1 ≡ begun n x i 5 (2 ^ w)
  begins_so = begins n g words mmu x i o.user op 5 (2 ^ w) o.saves.1 meets o.mask

  pub before_first : Comes n g words mmu x.memory.device (saving (area_of sp) word 0) 11 (begun n x i 5 (2 ^ w)) (storing 0xF0001020 0xF0001024)
  before_first =
      eleven n g words mmu x.memory.device (setting n g words mmu x i o.user) (caught x.cpu.control 5) rows w x.cpu.regs.globals (first_row n x.cpu) (code_marked i x.memory.ram)
      (user_kept n g words mmu x i o.user) within o.user.file.globals.count (first_row_pcs n x.cpu (o.user.file.rows.each w within)).2 sp room frame

  pub before_last : Comes n g words mmu x.memory.device (saving (area_of sp) word 14) 18 (begun n x i 5 (2 ^ w)) (storing 0xF000103C 0xF0001040)
  before_last =
      eighteen n g words mmu x.memory.device (setting n g words mmu x i o.user) (caught x.cpu.control 5) rows w x.cpu.regs.globals (first_row n x.cpu) (code_marked i x.memory.ram)
      (user_kept n g words mmu x i o.user) within o.user.file.globals.count (first_row_pcs n x.cpu (o.user.file.rows.each w within)).2 sp room frame

  pub stores_at : (offset pc npc : ℕ) → offset < 64 → address_of n (storing pc npc) 14 (Immediate offset) ≡ sp + offset
  stores_at offset pc npc small =
      let top = room.high in
      stack_address n g words mmu x.memory.device (setting n g words mmu x i o.user) (caught x.cpu.control 5) w (below n w)
      (record { rows = rows; globals = globals_6 n x.cpu.regs.globals (first_row n x.cpu) (2 ^ w); row = last; mask = 2 ^ below n w; pc = pc; npc = npc })
      offset sp frame.other frame.pointer (omega arith)

  stored : IsFrame x.cpu.regs (spilled_window n x.cpu) w (area_of sp) comes.ram
  stored =
      let at = area_of sp in
      let u = spilled_window n x.cpu in
      record {
        locals = λ j small. comes.keeps.stored j (omega arith) ∙ ap Some (spilled_low rows u last j small);
        ins = λ j small.
            let there : at + 32 + 4 * j ≡ at + 4 * (8 + j) = omega arith in
            let back : 8 + j - 8 ≡ j = omega arith in
            ap (entry_of comes.ram) there ∙ comes.keeps.stored (8 + j) (omega arith)
            ∙ ap Some (spilled_high rows u last (8 + j) (omega arith) ∙ ap (slice_index last) back ∙ low j small);
      }

  still : HasFrame g comes.ram sp
  still = record {
    room = room;
    words = λ j v small there. subst (λ k. k < 2 ^ 32) (same_Some (word j) v (sym (comes.keeps.stored j small) ∙ there)) (fit j small);
  }

  spilled : Spilled n g words x (world n (last_cpu n x.cpu) comes.ram x.memory.device) i
  spilled = record {
    cpu = spills n x.cpu o.user.file pc_fits o.user.npc_word o.user.straight o.user.sane o.user.traps;
    stored = stored;
    frame = still;
    ram = same_but n g words mmu x i o.user op 5 (2 ^ w) o.saves.1 meets o.mask (saving (area_of sp) word 16) (last_cpu n x.cpu) comes refl;
    loaded = comes.loaded;
    device = refl;
  }

  whole : Handled n g words mmu x i
  whole =
      let most = o.user.few.stack in
      let from = room.low in
      let area = saving (area_of sp) word 16 in
      record {
        turns = handled n g words mmu x i o.user op 5 (2 ^ w) o.saves.1 meets o.mask area (last_cpu n x.cpu) comes refl sp (omega arith);
        spilled = subst (λ y. Spilled n g words x y i) (sym (ends n g words mmu x i o.user op 5 (2 ^ w) o.saves.1 meets o.mask area (last_cpu n x.cpu) comes refl)) spilled;
      }

pub overflow_law : OverflowLaw
overflow_law n g words mmu x i o room = whole n g words mmu x i o room
