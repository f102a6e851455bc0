-- The state that a trap enters, and what the control registers are after RETT.
--   vector_entered     the trap's state as one in a vector
--   caught             what a trap of type t changes of the control registers and RETT doesn't change back: PS and tt
--   first_row          the words of the window that the trap enters: PC and nPC in its r17 and r18
--   first_stage        the trap's state as a stage
--   first_row_pcs, first_row_kept, first_row_fits     what those words are
--   finished_control   with PC and nPC back and no more changed, the control registers are the old ones but for PS and tt
use Rattle.std.proofs.Common.{◌≡◌, ◌≢◌, ℕ, ◌+◌, ◌*◌, ◌%◌, ◌^◌, ◌<◌, Bool, true, false, List, [], length, get_or, Option, Some, None, sym, ap, ◌∙◌, arith}
use Rattle.std.specs.Prelude.{slice_index, slice_set, if◌then◌else◌}
use Rattle.std.proofs.lemmas.List.{get_or-set_same, get_or-set_other, length-set, set-set}
use Rattle.v8_core.specs.Windows.{trapped}
use Rattle.v8_core.specs.Control.{Control}
use Rattle.v8_core.specs.Cpu.{Cpu}
use Rattle.v8_core.specs.Traps.{entered}
use Rattle.v8_loaded.specs.Places.{entered_window}
use Rattle.v8_loaded.specs.Users.{in_vector}
use Rattle.v8_loaded.proofs.Stages.{Inside, stage, handling, fit_written}

-- the address of a trap's vector
abbrev pub vector_place : ℕ → ℕ → ℕ
vector_place base t = (base + t * 16) % 2 ^ 32

abbrev pub after_place : ℕ → ℕ → ℕ
after_place base t = (base + t * 16 + 4) % 2 ^ 32

pub vector_entered : (n : ℕ) (c : Cpu n) (t : ℕ) → c.control.et ≡ true → c.control.base ≡ 0xF0000000 →
    entered n c t ≡ in_vector n c t (trapped n c.regs c.control.pc c.control.npc) (vector_place 0xF0000000 t) (after_place 0xF0000000 t)
unfolding entered
vector_entered n c t traps table =
    let regs = trapped n c.regs c.control.pc c.control.npc in
    let to : ℕ → Cpu n = λ base. in_vector n c t regs (vector_place base t) (after_place base t) in
    ap (λ (b : Bool). if b then to c.control.base else record c { control = record c.control { tt = t; error = Some t } }) traps
    ∙ ap to table

abbrev pub caught : Control → ℕ → Control
caught c t = record c { ps = c.s; tt = t }

abbrev pub first_row : (n : ℕ) → Cpu n → List ℕ
first_row n cpu = slice_set (slice_set (get_or cpu.regs.words (entered_window n cpu) []) 9 cpu.control.pc) 10 cpu.control.npc

-- in the first word of the vector, with this mask
abbrev pub first_inside : (n : ℕ) → Cpu n → ℕ → ℕ → Inside
first_inside n cpu t mask =
    record { rows = cpu.regs.words; globals = cpu.regs.globals; row = first_row n cpu; mask = mask; pc = vector_place 0xF0000000 t; npc = after_place 0xF0000000 t }

module _ (n : ℕ) (cpu : Cpu n) where
  abbrev w : ℕ
  w = entered_window n cpu

  twice : w < length cpu.regs.words →
      (trapped n cpu.regs cpu.control.pc cpu.control.npc).words ≡ slice_set cpu.regs.words w (first_row n cpu)
  twice there =
      let row = slice_set (get_or cpu.regs.words w []) 9 cpu.control.pc in
      let first : get_or (slice_set cpu.regs.words w row) w [] ≡ row = get_or-set_same cpu.regs.words w row [] there in
      ap (λ (r : List ℕ). slice_set (slice_set cpu.regs.words w row) w (slice_set r 10 cpu.control.npc)) first
      ∙ set-set cpu.regs.words w row (slice_set row 10 cpu.control.npc)

  -- the trap's state, by the parts that are known
  abbrev taken : ℕ → List (List ℕ) → ℕ → Option ℕ → Cpu n
  taken t words mask error = record {
    regs = record { globals = cpu.regs.globals; words = words; current = w; mask = mask };
    control = record cpu.control { et = false; ps = cpu.control.s; s = true; annul = false; tt = t; error = error; pc = vector_place 0xF0000000 t; npc = after_place 0xF0000000 t };
  }

  pub first_stage : (t mask : ℕ) → cpu.control.et ≡ true → cpu.control.base ≡ 0xF0000000 → cpu.control.error ≡ None →
      cpu.regs.mask ≡ mask → w < length cpu.regs.words →
      entered n cpu t ≡ stage n (caught cpu.control t) w w (first_inside n cpu t mask)
  first_stage t mask enabled table sane is there =
      vector_entered n cpu t enabled table
      ∙ ap (λ words. taken t words cpu.regs.mask cpu.control.error) (twice there)
      ∙ ap (λ k. taken t (slice_set cpu.regs.words w (first_row n cpu)) k cpu.control.error) is
      ∙ ap (λ error. taken t (slice_set cpu.regs.words w (first_row n cpu)) mask error) sane

  abbrev old_row : List ℕ
  old_row = get_or cpu.regs.words w []

  abbrev with_pc : List ℕ
  with_pc = slice_set old_row 9 cpu.control.pc

  pub first_row_pcs : length old_row ≡ 16 →
      (slice_index (first_row n cpu) 9 ≡ cpu.control.pc) × (slice_index (first_row n cpu) 10 ≡ cpu.control.npc) × (length (first_row n cpu) ≡ 16)
  first_row_pcs sixteen =
      let long : length with_pc ≡ 16 = length-set old_row 9 cpu.control.pc ∙ sixteen in (
        get_or-set_other with_pc 10 9 cpu.control.npc 0 (omega arith)
            ∙ get_or-set_same old_row 9 cpu.control.pc 0 (omega arith),
        get_or-set_same with_pc 10 cpu.control.npc 0 (omega arith),
        length-set with_pc 10 cpu.control.npc ∙ long,
      )

  pub first_row_kept : (j : ℕ) → j ≢ 9 → j ≢ 10 → slice_index (first_row n cpu) j ≡ slice_index old_row j
  first_row_kept j a b = get_or-set_other with_pc 10 j cpu.control.npc 0 b
      ∙ get_or-set_other old_row 9 j cpu.control.pc 0 a

  pub first_row_fits : length old_row ≡ 16 → cpu.control.pc < 2 ^ 32 → cpu.control.npc < 2 ^ 32 → ((j : ℕ) →
      slice_index old_row j < 2 ^ 32) → (i : ℕ) → slice_index (first_row n cpu) i < 2 ^ 32
  first_row_fits sixteen a b fit i =
      let long : length with_pc ≡ 16 = length-set old_row 9 cpu.control.pc ∙ sixteen in
      fit_written with_pc 10 cpu.control.npc (fit_written old_row 9 cpu.control.pc fit (omega arith) a) (omega arith) b i

-- the control registers by the parts that are known
abbrev told : Control → ℕ → ℕ → ℕ → Bool → Option ℕ → Bool → Control
told c t pc npc annul error et = record c { pc = pc; npc = npc; annul = annul; error = error; et = et; ps = c.s; tt = t }

pub finished_control : (c : Control) (t pc npc : ℕ) → pc ≡ c.pc → npc ≡ c.npc → c.annul ≡ false → c.error ≡ None →
    c.et ≡ true →
    record (handling (caught c t) pc npc) { et = true; s = c.s } ≡ caught c t
finished_control c t pc npc first other straight sane enabled =
    ap (λ p. told c t p npc false None true) first
    ∙ ap (λ p. told c t c.pc p false None true) other
    ∙ ap (λ a. told c t c.pc c.npc a None true) (sym straight)
    ∙ ap (λ e. told c t c.pc c.npc c.annul e true) (sym sane)
    ∙ ap (λ e. told c t c.pc c.npc c.annul c.error e) (sym enabled)
