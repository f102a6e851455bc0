-- Whatever an operation does to a processor, its registers stay words and its places stay those of instructions.
use Rattle.std.proofs.Common.{◌≡◌, ℕ, zero, suc, ◌+◌, ◌*◌, ◌%◌, ◌^◌, ◌<◌, ◌≤◌, Bool, true, false, cond, List, [], ◌∷◌, length, Option, Some, None, IfSome, refl}
use Rattle.std.proofs.Common.{sym, ap, ◌∙◌, subst, arith, lit<, rules}
use Rattle.std.specs.Prelude.{find, ◌==◌, not, slice_index}
use Rattle.std.proofs.lemmas.Bool.Decides.{nat_tests}
use Rattle.std.proofs.lemmas.Nat.{xor_lt}
use Rattle.v8_core.specs.Conditions.{holds}
use Rattle.v8_core.specs.Word.{bits_of, sign_extend}
use Rattle.v8_core.specs.Branch.{Branch}
use Rattle.v8_core.specs.Operand.{Operand}
use Rattle.v8_core.specs.Operand.TheVariants.{Register, Immediate}
use Rattle.v8_core.specs.Two.{Two}
use Rattle.v8_core.specs.AluOut.{AluOut}
use Rattle.v8_core.specs.Results.{from_flag}
use Rattle.v8_core.specs.Operands.{annuls, following, target}
use Rattle.v8_core.specs.Transfers.{loaded, loaded_size, received, size_of}
use Rattle.v8_core.specs.Exchange.TheVariants.{Ones, Register as Exchanged}
use Rattle.v8_core.specs.Loading.{Loading}
use Rattle.v8_core.specs.Loading.TheVariants as loadings
use Rattle.v8_core.specs.Operation.{Operation}
use Rattle.v8_core.specs.Operation.TheVariants.{Compute, Divide, TaggedTrap, SetHigh, ReadY, WriteY, ReadState, WriteState, Transfer, Save, Restore, Call}
use Rattle.v8_core.specs.Operation.TheVariants.{BranchOnCondition, JumpAndLink, ReturnFromTrap, TrapOnCondition, Nothing, Illegal, FloatingPoint, Coprocessor}
use Rattle.v8_core.specs.StateRegister.{StateRegister}
use Rattle.v8_core.specs.StateRegister.TheVariants.{Psr, Wim, Tbr}
use Rattle.v8_core.specs.Transfer.{Transfer as Moving}
use Rattle.v8_core.specs.Transfer.TheVariants as transfer
use Rattle.v8_core.specs.Meaning.{limit_of}
use Rattle.v8_core.specs.Windows.{IsFile, Windows, above, below, moved, trapped, with_reg}
use Rattle.v8_windows.proofs.AfterWrites.{above_less}
use Rattle.v8_windows.proofs.Masks.{low_bits}
use Rattle.v8_core.specs.Control.{Control}
use Rattle.v8_core.specs.Cpu.{Cpu}
use Rattle.v8_core.specs.Effects.{address_of, advanced, branched, computed, computed_from, effect, jumped, quotient_from, reg, returned, second_of}
use Rattle.v8_core.specs.Effects.{state_operand, stepped, tagged_from, taken, with_regs, written}
use Rattle.v8_core.specs.Registers.{psr_of, psr_window, state_word, tbr_of, trap_base, with_psr, with_state}
use Rattle.v8_core.specs.Traps.{applies, by_priority, entered, first_trap, state_applies}
use Rattle.v8_core.specs.Accesses.{faulted}
use Rattle.v8_core.specs.Steps.{skipped}
use Rattle.v8_loaded.specs.States.{IsSound}
use Rattle.v8_contained.proofs.Shapes.{below_less}
use Rattle.v8_core.proofs.Fields.{SmallOperand, SmallSecond}
use Rattle.v8_contained.proofs.Files.{AreWords, file_mask, file_moved, file_reg, file_regs, file_trapped, reads_word}
use Rattle.v8_alu.proofs.Outcomes.{AreResults, division_words, outcome_words, tagged_words}

-- ---- traps that did not apply

none_first : (p : ℕ → Bool) (x : ℕ) (xs : List ℕ) → find p (x ∷ xs) ≡ None → (p x ≡ false) × (find p xs ≡ None)
none_first p x xs e = by_test (p x) refl
  where
    by_test : (b : Bool) → p x ≡ b → (p x ≡ false) × (find p xs ≡ None)
    by_test true is = absurd (let no : Some x ≡ None = rw is at e in cc)
    by_test false is = (is, rw is at e)

none_at : (p : ℕ → Bool) (xs : List ℕ) (k : ℕ) → find p xs ≡ None → k < length xs → p (slice_index xs k) ≡ false
none_at p [] k e less = absurd (omega arith)
none_at p (x ∷ xs) zero e less = (none_first p x xs e).0
none_at p (x ∷ xs) (suc k) e less = none_at p xs k (none_first p x xs e).1 (omega arith)

not_zero_test : (a : ℕ) → not (a == 0) ≡ false → a ≡ 0
not_zero_test a e = grind (arith, nat_tests)

-- ---- places

following_word : (place : ℕ) → following place < 2 ^ 32
following_word place = omega arith

following_whole : (place : ℕ) → place % 4 ≡ 0 → following place % 4 ≡ 0
following_whole place whole = omega arith

target_word : (pc d : ℕ) → target pc d < 2 ^ 32
target_word pc d = omega arith

target_whole : (pc d : ℕ) → pc % 4 ≡ 0 → target pc d % 4 ≡ 0
target_whole pc d whole = omega arith

address_word : (n : ℕ) (cpu : Cpu n) (r : ℕ) (o : Operand) → address_of n cpu r o < 2 ^ 32
unfolding address_of
address_word n cpu r o = omega arith

-- ---- state registers

flag_small : (b : Bool) → from_flag b ≤ 1
flag_small true = omega arith
flag_small false = omega arith

psr_word : (n : ℕ) (cpu : Cpu n) → IsSound n cpu → psr_of n cpu < 2 ^ 32
unfolding psr_of
psr_word n cpu c =
    let a = flag_small cpu.control.icc.n in
    let b = flag_small cpu.control.icc.z in
    let d = flag_small cpu.control.icc.v in
    let e = flag_small cpu.control.icc.c in
    let f = flag_small cpu.control.s in
    let g = flag_small cpu.control.ps in
    let h = flag_small cpu.control.et in
    let p = c.pil in
    let w = c.file.current in
    let m = c.file.many in
    omega arith

power_most : (n : ℕ) → n ≤ 32 → 2 ^ n ≤ 2 ^ 32
power_most n most = search rules

read_word : (n : ℕ) (cpu : Cpu n) (r : StateRegister) → IsSound n cpu → state_word n cpu r < 2 ^ 32
unfolding tbr_of
read_word n cpu Psr c = psr_word n cpu c
read_word n cpu Wim c = let m = c.file.mask in let p = power_most n c.file.many in omega arith
read_word n cpu Tbr c = omega arith

-- ---- the processor

-- other registers, control registers whose places and words are such as these
sound_by : (n : ℕ) (cpu : Cpu n) (regs : Windows) (c : Control) → IsSound n cpu → IsFile n regs → c.y < 2 ^ 32 → c.pil ≡ cpu.control.pil → c.base ≡ cpu.control.base →
    c.pc < 2 ^ 32 → c.pc % 4 ≡ 0 → c.npc < 2 ^ 32 → c.npc % 4 ≡ 0 → IsSound n (record { regs = regs; control = c })
sound_by n cpu regs c s file y pil base pc pc4 npc npc4 = record {
  file = file;
  y_word = y;
  pil = subst (λ k. k < 16) (sym pil) s.pil;
  table = ap (λ b. b % 4096) base ∙ s.table;
  pc_word = pc;
  pc_whole = pc4;
  npc_word = npc;
  npc_whole = npc4;
}

sound_goes : (n : ℕ) (cpu : Cpu n) (regs : Windows) (c : Control) → IsSound n cpu → IsFile n regs → c.y < 2 ^ 32 → c.pil ≡ cpu.control.pil → c.base ≡ cpu.control.base →
    c.pc ≡ cpu.control.npc → c.npc ≡ following cpu.control.npc → IsSound n (record { regs = regs; control = c })
sound_goes n cpu regs c s file y pil base pc npc =
    sound_by n cpu regs c s file y pil base (subst (λ k. k < 2 ^ 32) (sym pc) s.npc_word) (ap (λ k. k % 4) pc ∙ s.npc_whole)
    (subst (λ k. k < 2 ^ 32) (sym npc) (following_word cpu.control.npc)) (ap (λ k. k % 4) npc ∙ following_whole cpu.control.npc s.npc_whole)

pub sound_faulted : (n : ℕ) (cpu : Cpu n) (st : ℕ) → IsSound n cpu → IsSound n (faulted n cpu st)
sound_faulted n cpu st s = record { file = s.file; y_word = s.y_word; pil = s.pil; table = s.table; pc_word = s.pc_word; pc_whole = s.pc_whole; npc_word = s.npc_word; npc_whole = s.npc_whole }

pub sound_skipped : (n : ℕ) (cpu : Cpu n) → IsSound n cpu → IsSound n (skipped n cpu)
unfolding advanced
sound_skipped n cpu s = sound_goes n cpu cpu.regs (record (advanced cpu.control) { annul = false }) s s.file s.y_word refl refl refl refl

-- a trap that is taken, or error mode
pub sound_entered : (n : ℕ) (cpu : Cpu n) (t : ℕ) → IsSound n cpu → IsSound n (entered n cpu t)
unfolding entered
sound_entered n cpu t s = by_mode cpu.control.et
  where
    taken_trap : Cpu n
    taken_trap = record {
      regs = trapped n cpu.regs cpu.control.pc cpu.control.npc;
      control = record cpu.control { et = false; ps = cpu.control.s; s = true; annul = false; tt = t; pc = (cpu.control.base + t * 16) % 2 ^ 32; npc = (cpu.control.base + t * 16 + 4) % 2 ^ 32 };
    }

    stuck : Cpu n
    stuck = record cpu { control = record cpu.control { tt = t; error = Some t } }

    by_mode : (b : Bool) → IsSound n (cond b taken_trap stuck)
    by_mode true =
        let base = s.table in
        sound_by n cpu (trapped n cpu.regs cpu.control.pc cpu.control.npc) taken_trap.control s (file_trapped n cpu.regs cpu.control.pc cpu.control.npc s.file s.pc_word s.npc_word) s.y_word refl refl
        (omega arith) (omega arith) (omega arith) (omega arith)
    by_mode false = record { file = s.file; y_word = s.y_word; pil = s.pil; table = s.table; pc_word = s.pc_word; pc_whole = s.pc_whole; npc_word = s.npc_word; npc_whole = s.npc_whole }

sound_written : (n : ℕ) (cpu : Cpu n) (rd x : ℕ) → IsSound n cpu → x < 2 ^ 32 → IsSound n (written n cpu rd x)
unfolding written advanced
sound_written n cpu rd x s small = sound_goes n cpu (with_reg n cpu.regs rd x) (advanced cpu.control) s (file_reg n cpu.regs rd x s.file small) s.y_word refl refl refl refl

sound_moved : (n : ℕ) (cpu : Cpu n) (w rd x : ℕ) → IsSound n cpu → w < n → x < 2 ^ 32 → IsSound n (written n (record cpu { regs = moved cpu.regs w }) rd x)
unfolding written advanced
sound_moved n cpu w rd x s less small =
    sound_goes n cpu (with_reg n (moved cpu.regs w) rd x) (advanced cpu.control) s
    (file_reg n (moved cpu.regs w) rd x (file_moved n cpu.regs w s.file less) small) s.y_word refl refl refl refl

sound_computed : (n : ℕ) (cpu : Cpu n) (rd : ℕ) (out : AluOut) → IsSound n cpu → AreResults out → IsSound n (computed n cpu rd out)
unfolding computed advanced
sound_computed n cpu rd out s small =
    sound_goes n cpu (with_reg n cpu.regs rd out.value) (record (advanced cpu.control) { icc = out.icc; y = out.y }) s
    (file_reg n cpu.regs rd out.value s.file small.0) small.1 refl refl refl refl

sound_from : (n : ℕ) (cpu : Cpu n) (rd : ℕ) (o : Option AluOut) → IsSound n cpu → IfSome o AreResults → IsSound n (computed_from n cpu rd o)
sound_from n cpu rd None s small = s
sound_from n cpu rd (Some out) s small = sound_computed n cpu rd out s small

sound_stepped : (n : ℕ) (cpu : Cpu n) → IsSound n cpu → IsSound n (stepped n cpu)
unfolding advanced
sound_stepped n cpu s = sound_goes n cpu cpu.regs (advanced cpu.control) s s.file s.y_word refl refl refl refl

sound_jumped : (n : ℕ) (cpu : Cpu n) (regs : Windows) (place : ℕ) → IsSound n cpu → IsFile n regs → place < 2 ^ 32 → place % 4 ≡ 0 →
    IsSound n (record { regs = regs; control = jumped cpu.control place })
unfolding jumped
sound_jumped n cpu regs place s file small whole = sound_by n cpu regs (jumped cpu.control place) s file s.y_word refl refl s.npc_word s.npc_whole small whole

sound_branched : (n : ℕ) (cpu : Cpu n) (b : Branch) → IsSound n cpu → IsSound n (record cpu { control = branched cpu.control b })
unfolding branched jumped advanced
sound_branched n cpu b s = by_test (holds b.cond cpu.control.icc)
  where
    by_test : (t : Bool) →
        IsSound n (record cpu {
          control =
              cond t (record cpu.control { pc = cpu.control.npc; npc = target cpu.control.pc b.displacement; annul = annuls b cpu.control.icc })
              (record cpu.control { pc = cpu.control.npc; npc = following cpu.control.npc; annul = annuls b cpu.control.icc });
        })
    by_test true =
        sound_by n cpu cpu.regs
        (record cpu.control {
          pc = cpu.control.npc;
          npc = target cpu.control.pc b.displacement;
          annul =
              annuls b cpu.control.icc;
        }) s s.file s.y_word refl refl s.npc_word s.npc_whole (target_word cpu.control.pc b.displacement)
        (target_whole cpu.control.pc b.displacement s.pc_whole)
    by_test false = sound_goes n cpu cpu.regs (record cpu.control { pc = cpu.control.npc; npc = following cpu.control.npc; annul = annuls b cpu.control.icc }) s s.file s.y_word refl refl refl refl

sound_returned : (n : ℕ) (cpu : Cpu n) (place : ℕ) → IsSound n cpu → place < 2 ^ 32 → place % 4 ≡ 0 → IsSound n (returned n cpu place)
unfolding returned jumped
sound_returned n cpu place s small whole =
    sound_by n cpu (moved cpu.regs (above n cpu.regs.current)) (returned n cpu place).control s
    (file_moved n cpu.regs (above n cpu.regs.current) s.file
    (above_less n cpu.regs.current s.file.few s.file.current)) s.y_word refl refl s.npc_word s.npc_whole small whole

-- ---- state registers that are written

pil_small : (w : ℕ) → bits_of w 8 4 < 16
pil_small w = omega arith

base_whole : (w : ℕ) → trap_base w % 4096 ≡ 0
base_whole w = omega arith

sound_state : (n : ℕ) (cpu : Cpu n) (r : StateRegister) (f : Two) → IsSound n cpu → state_applies n cpu r f 2 ≡ false → IsSound n (stepped n (with_state n cpu r (state_operand n cpu f)))
unfolding advanced with_psr
sound_state n cpu Psr f s calm =
    let w = state_operand n cpu f in
    let window : psr_window w < n = grind (arith, nat_tests) in
    record {
      file = file_moved n cpu.regs (psr_window w) s.file window;
      y_word = s.y_word;
      pil = pil_small w;
      table = s.table;
      pc_word = s.npc_word;
      pc_whole = s.npc_whole;
      npc_word = following_word cpu.control.npc;
      npc_whole = following_whole cpu.control.npc s.npc_whole;
    }
sound_state n cpu Wim f s calm =
    let w = state_operand n cpu f in
    sound_goes n cpu (record cpu.regs { mask = w % 2 ^ n }) (advanced cpu.control) s (file_mask n cpu.regs (w % 2 ^ n) s.file (low_bits w n)) s.y_word refl refl refl refl
sound_state n cpu Tbr f s calm =
    let w = state_operand n cpu f in
    record {
      file = s.file;
      y_word = s.y_word;
      pil = s.pil;
      table = base_whole w;
      pc_word = s.npc_word;
      pc_whole = s.npc_whole;
      npc_word = following_word cpu.control.npc;
      npc_whole = following_whole cpu.control.npc s.npc_whole;
    }

-- ---- operations

second_word : (n : ℕ) (cpu : Cpu n) (o : Operand) → IsSound n cpu → SmallOperand o → second_of n cpu o < 2 ^ 32
second_word n cpu (Register r) s small = reads_word n cpu.regs r s.file
second_word n cpu (Immediate k) s small = small

pub sound_effect : (n : ℕ) (cpu : Cpu n) (i : Operation) → IsSound n cpu → SmallSecond i → first_trap n cpu i ≡ None → IsSound n (effect n cpu i)
unfolding effect applies jumped quotient_from tagged_from
sound_effect n cpu (Compute op f) s small calm =
    sound_computed n cpu f.rd _ s
    (outcome_words op (reg n cpu f.rs1) (second_of n cpu f.operand2) cpu.control.icc cpu.control.y (reads_word n cpu.regs f.rs1 s.file)
    (second_word n cpu f.operand2 s small) s.y_word)
sound_effect n cpu (Divide op f) s small calm =
    sound_from n cpu f.rd (quotient_from n cpu op f) s (division_words op (reg n cpu f.rs1) (second_of n cpu f.operand2) cpu.control.icc cpu.control.y s.y_word)
sound_effect n cpu (TaggedTrap op f) s small calm =
    sound_from n cpu f.rd (tagged_from n cpu op f) s (tagged_words op (reg n cpu f.rs1) (second_of n cpu f.operand2) cpu.control.icc cpu.control.y s.y_word)
sound_effect n cpu (SetHigh f) s small calm = sound_written n cpu f.rd (f.imm22 * 2 ^ 10 % 2 ^ 32) s (omega arith)
sound_effect n cpu (ReadY rd) s small calm = sound_written n cpu rd cpu.control.y s s.y_word
sound_effect n cpu (WriteY f) s small calm =
    let new = sound_stepped n cpu s in
    record {
      file = s.file;
      y_word = xor_lt 32 (reg n cpu f.rs1) (second_of n cpu f.operand2) (reads_word n cpu.regs f.rs1 s.file) (second_word n cpu f.operand2 s small);
      pil = new.pil;
      table = new.table;
      pc_word = new.pc_word;
      pc_whole = new.pc_whole;
      npc_word = new.npc_word;
      npc_whole = new.npc_whole;
    }
sound_effect n cpu (ReadState r rd) s small calm = sound_written n cpu rd (state_word n cpu r) s (read_word n cpu r s)
sound_effect n cpu (WriteState r f) s small calm = sound_state n cpu r f s (none_at (applies n cpu (WriteState r f)) (by_priority 0) 1 calm (lit< tt))
sound_effect n cpu (Transfer t m) s small calm = s
sound_effect n cpu (Save f) s small calm =
    sound_moved n cpu (below n cpu.regs.current) f.rd (address_of n cpu f.rs1 f.operand2) s (below_less n cpu.regs.current s.file.few s.file.current)
    (address_word n cpu f.rs1 f.operand2)
sound_effect n cpu (Restore f) s small calm =
    sound_moved n cpu (above n cpu.regs.current) f.rd (address_of n cpu f.rs1 f.operand2) s (above_less n cpu.regs.current s.file.few s.file.current)
    (address_word n cpu f.rs1 f.operand2)
sound_effect n cpu (Call d) s small calm =
    sound_jumped n cpu (with_reg n cpu.regs 15 cpu.control.pc) (target cpu.control.pc d) s (file_reg n cpu.regs 15 cpu.control.pc s.file s.pc_word)
    (target_word cpu.control.pc d) (target_whole cpu.control.pc d s.pc_whole)
sound_effect n cpu (BranchOnCondition b) s small calm = sound_branched n cpu b s
sound_effect n cpu (JumpAndLink f) s small calm =
    sound_jumped n cpu (with_reg n cpu.regs f.rd cpu.control.pc) (address_of n cpu f.rs1 f.operand2) s (file_reg n cpu.regs f.rd cpu.control.pc s.file s.pc_word) (address_word n cpu f.rs1 f.operand2)
    (not_zero_test (address_of n cpu f.rs1 f.operand2 % 4) (none_at (applies n cpu (JumpAndLink f)) (by_priority 0) 6 calm (lit< tt)))
sound_effect n cpu (ReturnFromTrap f) s small calm =
    sound_returned n cpu (address_of n cpu f.rs1 f.operand2) s (address_word n cpu f.rs1 f.operand2)
    (not_zero_test (address_of n cpu f.rs1 f.operand2 % 4) (none_at (applies n cpu (ReturnFromTrap f)) (by_priority 0) 6 calm (lit< tt)))
sound_effect n cpu (TrapOnCondition t) s small calm = sound_stepped n cpu s
sound_effect n cpu Nothing s small calm = sound_stepped n cpu s
sound_effect n cpu Illegal s small calm = s
sound_effect n cpu FloatingPoint s small calm = s
sound_effect n cpu Coprocessor s small calm = s

-- ---- numbers that came in

filled_byte : (k : ℕ) → k < 2 ^ 8 → sign_extend 8 k < 2 ^ 32
filled_byte k small = grind (arith, nat_tests)

filled_half : (k : ℕ) → k < 2 ^ 16 → sign_extend 16 k < 2 ^ 32
filled_half k small = grind (arith, nat_tests)

loaded_words : (l : Loading) (rd k : ℕ) → k < limit_of (loaded_size l) → AreWords (loaded l rd k)
unfolding AreWords
loaded_words loadings.UnsignedByte rd k small = (omega arith, tt)
loaded_words loadings.SignedByte rd k small = (filled_byte k small, tt)
loaded_words loadings.UnsignedHalf rd k small = (omega arith, tt)
loaded_words loadings.SignedHalf rd k small = (filled_half k small, tt)
loaded_words loadings.Word rd k small = (small, tt)
loaded_words loadings.Double rd k small = (omega arith, (omega arith, tt))

received_words : (t : Moving) (rd k : ℕ) → k < limit_of (size_of t) → AreWords (received t rd k)
unfolding AreWords
received_words (transfer.Load l) rd k small = loaded_words l rd k small
received_words (transfer.Store size) rd k small = tt
received_words (transfer.Exchange Ones) rd k small = (omega arith, tt)
received_words (transfer.Exchange Exchanged) rd k small = (small, tt)

pub sound_taken : (n : ℕ) (cpu : Cpu n) (t : Moving) (rd k : ℕ) → IsSound n cpu → k < limit_of (size_of t) → IsSound n (taken n cpu t rd k)
unfolding taken advanced
sound_taken n cpu t rd k s small =
    sound_goes n cpu (with_regs n cpu.regs (received t rd k)) (advanced cpu.control) s
    (file_regs n cpu.regs (received t rd k) s.file (received_words t rd k small)) s.y_word refl refl refl refl
