-- What each word of a vector or a routine does to a stage (v8_loaded's Stages), by its place in the sources.
--   psr_is, psr_word         PSR as a routine reads it
--   sets_mail, goes_if, moves_local, moves_answer, adds_one, compares, reads_psr, writes_psr, goes_back, comes_back
--   mail_address, local_address, and what a load or a store at an address makes: loads_local, loads_pair, stores_local,
--   stores_pair, loads_answer, stores_answer
use Rattle.std.proofs.Common.{◌≡◌, ◌≢◌, ℕ, ◌+◌, ◌-◌, ◌*◌, ◌/◌, ◌%◌, ◌^◌, ◌<◌, ◌≤◌, Bool, true, false, List, length, None, refl, ap, ◌∙◌, arith}
use Rattle.std.specs.Prelude.{◌==◌, bit_or, bit_xor, nat_lt, not, slice_index, slice_set, if◌then◌else◌}
use Rattle.std.proofs.lemmas.Bool.Decides.{nat_tests}
use Rattle.v8_core.specs.Accesses.{World}
use Rattle.v8_core.specs.Cond.TheVariants.{Equal}
use Rattle.v8_core.specs.Control.{Control}
use Rattle.v8_core.specs.Cpu.{Cpu}
use Rattle.v8_core.specs.Effects.{address_of, advanced, branched, computed, effect, jumped, taken, written}
use Rattle.v8_core.specs.Icc.{Icc}
use Rattle.v8_core.specs.Loading.TheVariants as loadings
use Rattle.v8_core.specs.MmuRegs.{MmuRegs}
use Rattle.v8_core.specs.Op.TheVariants as ops
use Rattle.v8_core.specs.Operand.{Operand}
use Rattle.v8_core.specs.Operand.TheVariants.{Immediate, Register}
use Rattle.v8_core.specs.Operands.{following, target}
use Rattle.v8_core.specs.Operation.{Operation}
use Rattle.v8_core.specs.Operation.TheVariants.{BranchOnCondition, Compute, ReadState, SetHigh, WriteState}
use Rattle.v8_core.specs.Outcomes.{out, outcome}
use Rattle.v8_core.specs.Ram.{with_byte}
use Rattle.v8_core.specs.Registers.{psr_codes, psr_of, psr_window, with_psr}
use Rattle.v8_core.specs.Results.{difference_codes, from_flag}
use Rattle.v8_core.specs.Size.TheVariants.{Byte, Double, Word}
use Rattle.v8_core.specs.StateRegister.TheVariants.{Psr}
use Rattle.v8_core.specs.Transfer.TheVariants.{Load, Store}
use Rattle.v8_core.specs.Transfers.{odd_of}
use Rattle.v8_core.specs.Traps.{applies}
use Rattle.v8_core.specs.Walked.{root_of}
use Rattle.v8_core.specs.Windows.{Windows, above, moved, reg_of, with_reg}
use Rattle.v8_core.specs.Word.{bits_of, flag_at}
use Rattle.v8_loaded.specs.Board.{Device}
use Rattle.v8_loaded.proofs.Effects.{Does, computes_local}
use Rattle.v8_loaded.proofs.Stages.{Inside, handling, local_written, onward, registers, stage, with_cell}
use Rattle.v8_loaded.proofs.Words.{fields, source}
use Rattle.leon_services.proofs.Kept.{loads_byte, loads_two, loads_word, stores_byte, stores_two, stores_word}
use Rattle.leon_services.proofs.Registers.{answer_written, pair_own, reads_own, reads_zero}
use Rattle.leon_services.proofs.Turns.{Reaches}

-- ---- PSR

-- PSR of a supervisor with traps disabled: its codes, PIL, whether the trap came from a supervisor, the window
abbrev pub psr_word : Icc → ℕ → Bool → ℕ → ℕ
psr_word f pil ps w = psr_codes f + pil * 2 ^ 8 + (from_flag true * 2 ^ 7 + from_flag ps * 2 ^ 6 + from_flag false * 2 ^ 5) + w

flag_small : (b : Bool) → from_flag b ≤ 1
flag_small true = omega arith
flag_small false = omega arith

flag_back : (b : Bool) → (from_flag b == 1) ≡ b
flag_back true = refl
flag_back false = refl

-- what it was made of
pub record IsPsr (p : ℕ) (f : Icc) (pil : ℕ) (ps : Bool) (w : ℕ) : Type 0 where
  pub negative : flag_at p 23 ≡ f.n
  pub zero_code : flag_at p 22 ≡ f.z
  pub overflow : flag_at p 21 ≡ f.v
  pub carry : flag_at p 20 ≡ f.c
  pub level : bits_of p 8 4 ≡ pil
  pub system : flag_at p 7 ≡ true
  pub before : flag_at p 6 ≡ ps
  pub traps : flag_at p 5 ≡ false
  pub window : psr_window p ≡ w

flag_is : (p k : ℕ) (b : Bool) → bits_of p k 1 ≡ from_flag b → flag_at p k ≡ b
flag_is p k b is = ap (λ v. v == 1) is ∙ flag_back b

pub psr_is : (f : Icc) (pil : ℕ) (ps : Bool) (w : ℕ) → pil < 16 → w < 32 → IsPsr (psr_word f pil ps w) f pil ps w
psr_is f pil ps w small less =
    let a = flag_small f.n in
    let b = flag_small f.z in
    let d = flag_small f.v in
    let e = flag_small f.c in
    let g = flag_small ps in
    let p = psr_word f pil ps w in
    record {
      negative = flag_is p 23 f.n (omega arith);
      zero_code = flag_is p 22 f.z (omega arith);
      overflow = flag_is p 21 f.v (omega arith);
      carry = flag_is p 20 f.c (omega arith);
      level = omega arith;
      system = flag_is p 7 true (omega arith);
      before = flag_is p 6 ps (omega arith);
      traps = flag_is p 5 false (omega arith);
      window = omega arith;
    }

module _ (n : ℕ) (c : Control) (w : ℕ) (x : Inside) where
  abbrev own : ℕ → ℕ
  own r = reg_of n (registers w w x) r

  abbrev here : Cpu n
  here = stage n c w w x

  abbrev with_regs : Control → Windows → Cpu n
  with_regs k v = record { regs = v; control = k }

  abbrev then_control : Control
  then_control = handling c x.npc (following x.npc)

  abbrev Next : Operation → Inside → Type 0
  Next i y = Does n here i (stage n c w w (onward y))

  -- sethi %hi(MAIL),%l3
  pub sets_mail : w < length x.rows → Next (SetHigh (record { rd = 19; imm22 = 0x3C0040 })) (record x { row = slice_set x.row 11 0xF0010000 })
  unfolding effect applies
  sets_mail there = record { system = refl; sane = refl; straight = refl; calm = refl; plain = λ mmu y. refl; is = local_written n c w x 19 0xF0010000 there (omega arith) (omega arith) }

  -- be
  pub goes_if : (z : Bool) (k : ℕ) → c.icc.z ≡ z →
      Does n here (BranchOnCondition (record { annul = false; cond = Equal; displacement = k }))
      (stage n c w w (record x { pc = x.npc; npc = if z then target x.pc k else following x.npc }))
  unfolding effect branched jumped advanced applies
  goes_if z k is = record { system = refl; sane = refl; straight = refl; calm = refl; plain = λ mmu y. refl; is = by_flag z is }
    where
      by_flag : (t : Bool) → c.icc.z ≡ t → effect n here (BranchOnCondition (record { annul = false; cond = Equal; displacement = k })) ≡ stage n c w w
          (record x { pc = x.npc; npc = if t then target x.pc k else following x.npc })
      by_flag true e = rw e refl
      by_flag false e = rw e refl

  -- mov k,%l7
  pub moves_local : (k : ℕ) → bit_or 0 k ≡ k → w < length x.rows → Next (Compute ops.Or (fields 23 0 (Immediate k))) (record x { row = slice_set x.row 15 k })
  unfolding outcome
  moves_local k is there = computes_local n c w x ops.Or 23 0 (Immediate k) 0 k k there (omega arith) (omega arith) (reads_zero n w x) refl (ap (λ v. out v c.icc c.y) is)

  -- mov -1,%i0
  pub moves_answer : above n w ≢ w → Next (Compute ops.Or (fields 24 0 (Immediate 0xFFFFFFFF))) (record x { rows = with_cell x.rows (above n w) 0 0xFFFFFFFF })
  unfolding effect applies computed outcome advanced
  moves_answer other = record {
    system = refl;
    sane = refl;
    straight = refl;
    calm = refl;
    plain = λ mmu y. refl;
    is = ap (λ z. computed n here 24 (outcome ops.Or z 0xFFFFFFFF c.icc c.y)) (reads_zero n w x)
        ∙ ap (with_regs then_control) (answer_written n w x 0xFFFFFFFF other);
  }

  -- inc %l4
  pub adds_one : (p : ℕ) → slice_index x.row 12 ≡ p → p + 1 < 2 ^ 32 → w < length x.rows →
      Next (Compute ops.Add (fields 20 20 (Immediate 1))) (record x { row = slice_set x.row 12 (p + 1) })
  unfolding outcome
  adds_one p is small there =
      let sum : (p + 1 + from_flag false) % 2 ^ 32 ≡ p + 1 = omega arith in
      computes_local n c w x ops.Add 20 20 (Immediate 1) p 1 (p + 1) there (omega arith) (omega arith)
      (reads_own n w x 20 there (omega arith) (omega arith) ∙ is) refl (ap (λ v. out v c.icc c.y) sum)

  -- cmp %l4,%l5
  pub compares : (p q : ℕ) → slice_index x.row 12 ≡ p → slice_index x.row 13 ≡ q → w < length x.rows →
      Does n here (Compute ops.SubCc (fields 0 20 (Register 21))) (stage n (record c { icc = difference_codes p q false }) w w (onward x))
  unfolding effect applies computed outcome with_reg advanced
  compares p q first second there = record {
    system = refl;
    sane = refl;
    straight = refl;
    calm = refl;
    plain = λ mmu y. refl;
    is = ap (λ a. computed n here 0 (outcome ops.SubCc a (own 21) c.icc c.y)) (reads_own n w x 20 there (omega arith) (omega arith) ∙ first)
        ∙ ap (λ b. computed n here 0 (outcome ops.SubCc p b c.icc c.y)) (reads_own n w x 21 there (omega arith) (omega arith) ∙ second);
  }

  -- rd %psr,%l6
  pub reads_psr : w < length x.rows → Next (ReadState Psr 22) (record x { row = slice_set x.row 14 (psr_word c.icc c.pil c.ps w) })
  unfolding effect applies psr_of
  reads_psr there = record
      { system = refl; sane = refl; straight = refl; calm = refl; plain = λ mmu y. refl; is = local_written n c w x 22 (psr_word c.icc c.pil c.ps w) there (omega arith) (omega arith) }

  -- wr %l6,%psr
  abbrev psr_made : ℕ → Icc → ℕ → Bool → Bool → Bool → Cpu n
  psr_made window f pil s ps et = record {
    regs = moved (registers w w x) window;
    control = record (handling c x.npc (following x.npc)) { icc = f; pil = pil; s = s; ps = ps; et = et };
  }

  abbrev icc_made : Bool → Bool → Bool → Bool → Icc
  icc_made a b d e = record { n = a; z = b; v = d; c = e }

  abbrev psr_from : ℕ → Cpu n
  psr_from p = psr_made (psr_window p) (icc_made (flag_at p 23) (flag_at p 22) (flag_at p 21) (flag_at p 20)) (bits_of p 8 4) (flag_at p 7) (flag_at p 6) (flag_at p 5)

  psr_back : (p : ℕ) (f : Icc) → IsPsr p f c.pil c.ps w → psr_from p ≡ stage n (record c { icc = f }) w w (onward x)
  psr_back p f i =
      ap (λ k. psr_made k (icc_made (flag_at p 23) (flag_at p 22) (flag_at p 21) (flag_at p 20)) (bits_of p 8 4) (flag_at p 7) (flag_at p 6) (flag_at p 5)) i.window
      ∙ ap (λ a. psr_made w (icc_made a (flag_at p 22) (flag_at p 21) (flag_at p 20)) (bits_of p 8 4) (flag_at p 7) (flag_at p 6) (flag_at p 5)) i.negative
      ∙ ap (λ a. psr_made w (icc_made f.n a (flag_at p 21) (flag_at p 20)) (bits_of p 8 4) (flag_at p 7) (flag_at p 6) (flag_at p 5)) i.zero_code
      ∙ ap (λ a. psr_made w (icc_made f.n f.z a (flag_at p 20)) (bits_of p 8 4) (flag_at p 7) (flag_at p 6) (flag_at p 5)) i.overflow
      ∙ ap (λ a. psr_made w (icc_made f.n f.z f.v a) (bits_of p 8 4) (flag_at p 7) (flag_at p 6) (flag_at p 5)) i.carry
      ∙ ap (λ a. psr_made w f a (flag_at p 7) (flag_at p 6) (flag_at p 5)) i.level
      ∙ ap (λ a. psr_made w f c.pil a (flag_at p 6) (flag_at p 5)) i.system
      ∙ ap (λ a. psr_made w f c.pil true a (flag_at p 5)) i.before
      ∙ ap (λ a. psr_made w f c.pil true c.ps a) i.traps

  pub writes_psr : (f : Icc) → c.pil < 16 → w < n → n ≤ 32 → slice_index x.row 14 ≡ psr_word f c.pil c.ps w → w < length x.rows →
      Does n here (WriteState Psr (source 0 (Register 22))) (stage n (record c { icc = f }) w w (onward x))
  unfolding effect applies with_psr advanced
  writes_psr f small inside many is there =
      let p = psr_word f c.pil c.ps w in
      let i = psr_is f c.pil c.ps w small (omega arith) in
      let zero_is : own 0 ≡ 0 = reads_zero n w x in
      let word_is : own 22 ≡ p = reads_own n w x 22 there (omega arith) (omega arith) ∙ is in
      let operand : bit_xor (own 0) (own 22) ≡ p = ap (λ z. bit_xor z (own 22)) zero_is ∙ word_is in
      let window : nat_lt (psr_window (bit_xor (own 0) (own 22))) n ≡ true =
      let one : nat_lt w n ≡ true = grind (arith, nat_tests) in ap (λ v. nat_lt (psr_window v) n) operand ∙ ap (λ v. nat_lt v n) i.window ∙ one in
      record {
        system = refl;
        sane = refl;
        straight = refl;
        calm = rw window refl;
        plain = λ mmu y. refl;
        is = ap psr_from operand ∙ psr_back p f i;
      }

  -- ---- addresses

  pub mail_address : (k : ℕ) → slice_index x.row 11 ≡ 0xF0010000 → w < length x.rows → address_of n here 19 (Immediate k) ≡ (0xF0010000 + k) % 2 ^ 32
  unfolding address_of
  mail_address k is there = ap (λ a. (a + k) % 2 ^ 32) (reads_own n w x 19 there (omega arith) (omega arith) ∙ is)

  pub local_address : (r v : ℕ) → slice_index x.row (r - 8) ≡ v → v < 2 ^ 32 → w < length x.rows → 16 ≤ r → r < 24 → address_of n here r (Register 0) ≡ v
  unfolding address_of
  local_address r v is small there low high =
      let none : (v + 0) % 2 ^ 32 ≡ v = omega arith in
      ap (λ a. (a + own 0) % 2 ^ 32) (reads_own n w x r there (omega arith) high ∙ is) ∙ ap (λ z. (v + z) % 2 ^ 32) (reads_zero n w x) ∙ none

  -- %l2 + 4
  pub next_address : (v : ℕ) → slice_index x.row 10 ≡ v → w < length x.rows → address_of n here 18 (Immediate 4) ≡ following v
  unfolding address_of
  next_address v is there = ap (λ a. (a + 4) % 2 ^ 32) (reads_own n w x 18 there (omega arith) (omega arith) ∙ is)

  -- ---- loads and stores

  module _ (b : ℕ) (mmu : MmuRegs) (y : World n Device) (root : root_of mmu ≡ b + 0x2000) (running : y.memory.device.stopped ≡ None) (there : w < length x.rows) (old cells : List ℕ) where
    abbrev goes : Inside → Cpu n
    goes z = stage n c w w (onward z)

    four_whole : (j : ℕ) → ((0xF0010000 + 4 * j) % 4 == 0) ≡ true
    four_whole j = grind (arith, nat_tests)

    eight_whole : (j : ℕ) → j % 2 ≡ 0 → ((0xF0010000 + 4 * j) % 8 == 0) ≡ true
    eight_whole j even = let f : (0xF0010000 + 4 * j) % 8 ≡ 0 = omega arith in grind (arith, nat_tests)

    one_whole : (v : ℕ) → (v % 1 == 0) ≡ true
    one_whole v = let f : v % 1 ≡ 0 = omega arith in grind (arith, nat_tests)

    pub loads_local : (rd : ℕ) (o : Operand) (j : ℕ) → j < 12 → 16 ≤ rd → rd < 24 → address_of n here 19 o ≡ 0xF0010000 + 4 * j →
        Reaches n b mmu y root running old old c w x cells (Load loadings.Word) rd 19 o (goes (record x { row = slice_set x.row (rd - 8) (slice_index cells j) })) cells
    unfolding taken written advanced
    loads_local rd o j less low high at = record {
      va = 0xF0010000 + 4 * j;
      number = 0;
      v = slice_index cells j;
      pa = b + 0xA0000 + 4 * j;
      at = at;
      whole = four_whole j;
      pair = refl;
      out = refl;
      moves = λ ram kept. loads_word b mmu y.memory.device old ram cells kept root j less;
      is = local_written n c w x rd (slice_index cells j) there low high;
    }

    pub loads_pair : (rd j p q : ℕ) (o : Operand) → j + 1 < 12 → j % 2 ≡ 0 → 16 ≤ rd → rd < 24 → rd % 2 ≡ 0 →
        slice_index cells j ≡ p → slice_index cells (j + 1) ≡ q → q < 2 ^ 32 →
        address_of n here 19 o ≡ 0xF0010000 + 4 * j →
        Reaches n b mmu y root running old old c w x cells (Load loadings.Double) rd 19 o (goes (record x { row = slice_set (slice_set x.row (rd - 8) p) (rd - 7) q })) cells
    unfolding taken advanced
    loads_pair rd j p q o less even low high two first second small at =
        let number = slice_index cells j * 2 ^ 32 + slice_index cells (j + 1) in
        let top : number / 2 ^ 32 ≡ p = omega arith in
        let bottom : number % 2 ^ 32 ≡ q = omega arith in
        let splits : not (rd % 2 == 0) ≡ false = grind (arith, nat_tests) in
        record {
          va = 0xF0010000 + 4 * j;
          number = 0;
          v = number;
          pa = b + 0xA0000 + 4 * j;
          at = at;
          whole = eight_whole j even;
          pair = splits;
          out = refl;
          moves = λ ram kept. loads_two b mmu y.memory.device old ram cells kept root j less even;
          is = ap (λ v. with_regs then_control (with_reg n (with_reg n (registers w w x) rd v) (odd_of rd) (number % 2 ^ 32))) top
              ∙ ap (λ v. with_regs then_control (with_reg n (with_reg n (registers w w x) rd p) (odd_of rd) v)) bottom
              ∙ ap (with_regs then_control) (pair_own n w x rd p q there (omega arith) high two);
        }

    pub stores_local : (rd j v : ℕ) (o : Operand) → j < 12 → own rd ≡ v → v < 2 ^ 32 → address_of n here 19 o ≡ 0xF0010000 + 4 * j →
        Reaches n b mmu y root running old old c w x cells (Store Word) rd 19 o (goes x) (slice_set cells j v)
    unfolding taken advanced
    stores_local rd j v o less is small at = record {
      va = 0xF0010000 + 4 * j;
      number = v;
      v = 0;
      pa = b + 0xA0000 + 4 * j;
      at = at;
      whole = four_whole j;
      pair = refl;
      out = is;
      moves = λ ram kept. stores_word b mmu y.memory.device old ram cells kept root j v less small;
      is = refl;
    }

    pub stores_pair : (rd j p q : ℕ) (o : Operand) → j + 1 < 12 → j % 2 ≡ 0 → rd % 2 ≡ 0 → own rd ≡ p → own (odd_of rd) ≡ q → p < 2 ^ 32 → q < 2 ^ 32 →
        address_of n here 19 o ≡ 0xF0010000 + 4 * j →
        Reaches n b mmu y root running old old c w x cells (Store Double) rd 19 o (goes x) (slice_set (slice_set cells j p) (j + 1) q)
    unfolding taken advanced
    stores_pair rd j p q o less even two first second small_p small_q at =
        let splits : not (rd % 2 == 0) ≡ false = grind (arith, nat_tests) in
        record {
          va = 0xF0010000 + 4 * j;
          number = p * 2 ^ 32 + q;
          v = 0;
          pa = b + 0xA0000 + 4 * j;
          at = at;
          whole = eight_whole j even;
          pair = splits;
          out = ap (λ k. k * 2 ^ 32 + own (odd_of rd)) first ∙ ap (λ k. p * 2 ^ 32 + k) second;
          moves = λ ram kept. stores_two b mmu y.memory.device old ram cells kept root j p q less even small_p small_q;
          is = refl;
        }

    -- ldub [%l4],%i0
    pub loads_answer : (j : ℕ) (o : Operand) → j < 0x40000 → above n w ≢ w → address_of n here 20 o ≡ 0xF0040000 + j →
        Reaches n b mmu y root running old old c w x cells (Load loadings.UnsignedByte) 24 20 o
        (goes (record x { rows = with_cell x.rows (above n w) 0 (slice_index old (b + 0xC0000 + j)) })) cells
    unfolding taken advanced
    loads_answer j o less other at = record {
      va = 0xF0040000 + j;
      number = 0;
      v = slice_index old (b + 0xC0000 + j);
      pa = b + 0xC0000 + j;
      at = at;
      whole = one_whole (0xF0040000 + j);
      pair = refl;
      out = refl;
      moves = λ ram kept. loads_byte b mmu y.memory.device old ram cells kept root j less;
      is = ap (with_regs then_control) (answer_written n w x (slice_index old (b + 0xC0000 + j)) other);
    }

    -- stb %i0,[%l4]
    pub stores_answer : (j v : ℕ) (o : Operand) → j < 0x40000 → own 24 ≡ v → address_of n here 20 o ≡ 0xF0040000 + j →
        Reaches n b mmu y root running old (with_byte old (b + 0xC0000 + j) (v % 2 ^ 8)) c w x cells (Store Byte) 24 20 o (goes x) cells
    unfolding taken advanced
    stores_answer j v o less is at = record {
      va = 0xF0040000 + j;
      number = v % 2 ^ 8;
      v = 0;
      pa = b + 0xC0000 + j;
      at = at;
      whole = one_whole (0xF0040000 + j);
      pair = refl;
      out = ap (λ k. k % 2 ^ 8) is;
      moves = λ ram kept. stores_byte b mmu y.memory.device old ram cells kept root j (v % 2 ^ 8) less;
      is = refl;
    }
