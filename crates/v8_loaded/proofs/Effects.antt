-- What each word of the handlers does to a stage. `Does n cpu i new`: the processor is in a handler, the operation i meets no trap,
-- reaches no memory, and leads to `new`. By the names of Words:
--   computes_local, computes_global     a result to a local (16 to 23) of the trap's window, to %g1
--   goes_does      ba                   jumps_does   jmpl r,%g0      returns_does   rett r
--   saves_does, restores_does, nothing_does
--   address_of_local                    the address that a local holds
--   store_double_calm, load_double_calm     no trap of a double word on the stack applies
use Rattle.std.proofs.Common.{◌≡◌, ℕ, ◌+◌, ◌-◌, ◌%◌, ◌^◌, ◌<◌, ◌≤◌, true, false, length, None, refl, ap, ◌∙◌, arith}
use Rattle.std.specs.Prelude.{slice_index, slice_set, bit_or, bit_xor}
use Rattle.std.proofs.Math.Nat.{mod-eq_of_lt}
use Rattle.v8_core.specs.Cond.TheVariants.{Always}
use Rattle.v8_core.specs.Size.TheVariants.{Double}
use Rattle.v8_core.specs.Operand.{Operand}
use Rattle.v8_core.specs.Operand.TheVariants.{Register, Immediate}
use Rattle.v8_core.specs.Op.{Op}
use Rattle.v8_core.specs.Op.TheVariants as ops
use Rattle.v8_core.specs.Outcomes.{out, outcome}
use Rattle.v8_core.specs.Results.{shifted_left, shifted_right}
use Rattle.v8_core.specs.Operands.{second, target}
use Rattle.v8_core.specs.Operation.{Operation}
use Rattle.v8_core.specs.Operations.{load, store}
use Rattle.v8_core.specs.Loading.TheVariants as loadings
use Rattle.v8_core.specs.Operation.TheVariants.{Compute, SetHigh, ReadState, WriteState, Save, Restore, BranchOnCondition, JumpAndLink, ReturnFromTrap}
use Rattle.v8_core.specs.StateRegister.TheVariants.{Wim}
use Rattle.v8_core.specs.MmuRegs.{MmuRegs}
use Rattle.v8_core.specs.Windows.{reg_of, with_reg, below, above, is_masked, can_enter}
use Rattle.v8_core.specs.Control.{Control}
use Rattle.v8_core.specs.Cpu.{Cpu}
use Rattle.v8_core.specs.Effects.{effect, address_of, advanced, branched, computed, jumped, returned, written}
use Rattle.v8_core.specs.Traps.{applies, first_trap, memory_applies}
use Rattle.v8_core.specs.Accesses.{World, quiet}
use Rattle.v8_core.specs.Steps.{acts}
use Rattle.v8_memory.specs.Board.{Device, board}
use Rattle.v8_loaded.proofs.Words.{fields, source, at_stack}
use Rattle.v8_loaded.proofs.Stages.{Inside, registers, stage, onward, finished, read_zero, read_global, read_own, local_written, local_computed, global_computed}

-- an operation of the supervisor that takes no trap and no memory, and what it makes of the processor
pub record Does (n : ℕ) (cpu : Cpu n) (i : Operation) (new : Cpu n) : Type 0 where
  pub system : cpu.control.s ≡ true
  pub sane : cpu.control.error ≡ None
  pub straight : cpu.control.annul ≡ false
  pub calm : first_trap n cpu i ≡ None
  pub plain : (mmu : MmuRegs) (y : World n Device) → acts board n mmu i y ≡ (quiet, record y { cpu = effect n y.cpu i })
  pub is : effect n cpu i ≡ new

module _ (n : ℕ) (c : Control) (w : ℕ) (x : Inside) where
  -- an operation that leads to the next word, where the trap's window is the current one
  abbrev Next : Operation → Inside → Type 0
  Next i y = Does n (stage n c w w x) i (stage n c w w (onward y))

  abbrev own : ℕ → ℕ
  own r = reg_of n (registers w w x) r

  pub computes_local : (op : Op) (rd rs1 : ℕ) (o : Operand) (a b v : ℕ) → w < length x.rows → 16 ≤ rd → rd < 24 →
      own rs1 ≡ a → second own o ≡ b → outcome op a b c.icc c.y ≡ out v c.icc c.y → Next (Compute op (fields rd rs1 o)) (record x { row = slice_set x.row (rd - 8) v })
  unfolding effect applies
  computes_local op rd rs1 o a b v there low high first other is =
      let s = stage n c w w x in
      record {
        system = refl;
        sane = refl;
        straight = refl;
        calm = refl;
        plain = λ mmu y. refl;
        is = ap (λ k. computed n s rd (outcome op k (second own o) c.icc c.y)) first
            ∙ ap (λ k. computed n s rd (outcome op a k c.icc c.y)) other
            ∙ ap (λ r. computed n s rd r) is
            ∙ local_computed n c w x rd v there low high;
      }

  pub computes_global : (op : Op) (rs1 : ℕ) (o : Operand) (a b v : ℕ) → own rs1 ≡ a → second own o ≡ b →
      outcome op a b c.icc c.y ≡ out v c.icc c.y → Next (Compute op (fields 1 rs1 o)) (record x { globals = slice_set x.globals 1 v })
  unfolding effect applies
  computes_global op rs1 o a b v first other is =
      let s = stage n c w w x in
      record {
        system = refl;
        sane = refl;
        straight = refl;
        calm = refl;
        plain = λ mmu y. refl;
        is = ap (λ k. computed n s 1 (outcome op k (second own o) c.icc c.y)) first
            ∙ ap (λ k. computed n s 1 (outcome op a k c.icc c.y)) other
            ∙ ap (λ r. computed n s 1 r) is
            ∙ global_computed n c w x w v;
      }

  -- %g0, %g1, and a local of the trap's window
  zero_is : own 0 ≡ 0
  zero_is = read_zero n x.rows w x.globals x.row w x.mask

  global_is : own 1 ≡ slice_index x.globals 1
  global_is = read_global n x.rows w x.globals x.row w x.mask

  local_is : (r : ℕ) → w < length x.rows → 8 ≤ r → r < 24 → own r ≡ slice_index x.row (r - 8)
  local_is r there low high = read_own n x.rows w x.globals x.row x.mask r there low high

  -- rd %wim,%l3
  pub reads_mask_does : w < length x.rows → Next (ReadState Wim 19) (record x { row = slice_set x.row 11 x.mask })
  unfolding effect applies
  reads_mask_does there = record { system = refl; sane = refl; straight = refl; calm = refl; plain = λ mmu y. refl; is = local_written n c w x 19 x.mask there (omega arith) (omega arith) }

  -- or %g0,%g1,%l4
  pub saves_global_does : w < length x.rows →
      Next (Compute ops.Or (fields 20 0 (Register 1))) (record x { row = slice_set x.row 12 (slice_index x.globals 1) })
  unfolding outcome
  saves_global_does there =
      let g1 = slice_index x.globals 1 in
      computes_local ops.Or 20 0 (Register 1) 0 g1 g1 there (omega arith) (omega arith) zero_is global_is refl

  -- or %g0,%l4,%g1
  pub gives_global_does : w < length x.rows →
      Next (Compute ops.Or (fields 1 0 (Register 20))) (record x { globals = slice_set x.globals 1 (slice_index x.row 12) })
  unfolding outcome
  gives_global_does there =
      let l4 = slice_index x.row 12 in
      computes_global ops.Or 0 (Register 20) 0 l4 l4 zero_is (local_is 20 there (omega arith) (omega arith)) refl

  -- srl %l3,1,%g1
  pub shifts_mask_right_does : w < length x.rows →
      Next (Compute ops.Srl (fields 1 19 (Immediate 1))) (record x { globals = slice_set x.globals 1 (shifted_right (slice_index x.row 11) 1) })
  unfolding outcome
  shifts_mask_right_does there =
      let l3 = slice_index x.row 11 in
      computes_global ops.Srl 19 (Immediate 1) l3 1 (shifted_right l3 1) (local_is 19 there (omega arith) (omega arith)) refl refl

  -- sll %l3,k,%l5
  pub shifts_left_does : (k : ℕ) → w < length x.rows →
      Next (Compute ops.Sll (fields 21 19 (Immediate k))) (record x { row = slice_set x.row 13 (shifted_left (slice_index x.row 11) k) })
  unfolding outcome
  shifts_left_does k there =
      let l3 = slice_index x.row 11 in
      computes_local ops.Sll 21 19 (Immediate k) l3 k (shifted_left l3 k) there (omega arith) (omega arith) (local_is 19 there (omega arith) (omega arith)) refl refl

  -- srl %l3,k,%l5
  pub shifts_right_does : (k : ℕ) → w < length x.rows →
      Next (Compute ops.Srl (fields 21 19 (Immediate k))) (record x { row = slice_set x.row 13 (shifted_right (slice_index x.row 11) k) })
  unfolding outcome
  shifts_right_does k there =
      let l3 = slice_index x.row 11 in
      computes_local ops.Srl 21 19 (Immediate k) l3 k (shifted_right l3 k) there (omega arith) (omega arith) (local_is 19 there (omega arith) (omega arith)) refl refl

  -- sll %l3,1,%l4
  pub shifts_mask_left_does : w < length x.rows →
      Next (Compute ops.Sll (fields 20 19 (Immediate 1))) (record x { row = slice_set x.row 12 (shifted_left (slice_index x.row 11) 1) })
  unfolding outcome
  shifts_mask_left_does there =
      let l3 = slice_index x.row 11 in
      computes_local ops.Sll 20 19 (Immediate 1) l3 1 (shifted_left l3 1) there (omega arith) (omega arith) (local_is 19 there (omega arith) (omega arith)) refl refl

  -- or %l5,%g1,%g1
  pub joins_does : w < length x.rows →
      Next (Compute ops.Or (fields 1 21 (Register 1))) (record x { globals = slice_set x.globals 1 (bit_or (slice_index x.row 13) (slice_index x.globals 1)) })
  unfolding outcome
  joins_does there =
      let l5 = slice_index x.row 13 in
      let g1 = slice_index x.globals 1 in
      computes_global ops.Or 21 (Register 1) l5 g1 (bit_or l5 g1) (local_is 21 there (omega arith) (omega arith)) global_is refl

  -- or %l5,%l4,%l4
  pub joins_local_does : w < length x.rows →
      Next (Compute ops.Or (fields 20 21 (Register 20))) (record x { row = slice_set x.row 12 (bit_or (slice_index x.row 13) (slice_index x.row 12)) })
  unfolding outcome
  joins_local_does there =
      let l5 = slice_index x.row 13 in
      let l4 = slice_index x.row 12 in
      computes_local ops.Or 20 21 (Register 20) l5 l4 (bit_or l5 l4) there (omega arith) (omega arith)
      (local_is 21 there (omega arith) (omega arith)) (local_is 20 there (omega arith) (omega arith)) refl

  -- ---- the others

  -- sethi 0,%g0
  pub nothing_does : (u : ℕ) →
      Does n (stage n c w u x) (SetHigh (record { rd = 0; imm22 = 0 })) (stage n c w u (onward x))
  unfolding effect written with_reg advanced applies
  nothing_does u = record { system = refl; sane = refl; straight = refl; calm = refl; plain = λ mmu y. refl; is = refl }

  -- ba
  pub goes_does : (u d : ℕ) →
      Does n (stage n c w u x) (BranchOnCondition (record { annul = false; cond = Always; displacement = d })) (stage n c w u (record x { pc = x.npc; npc = target x.pc d }))
  unfolding effect branched jumped applies
  goes_does u d = record { system = refl; sane = refl; straight = refl; calm = refl; plain = λ mmu y. refl; is = refl }

  -- save %g0,%g0,%g0
  pub saves_does : (u : ℕ) → is_masked x.mask (below n u) ≡ false →
      Does n (stage n c w u x) (Save (fields 0 0 (Register 0))) (stage n c w (below n u) (onward x))
  unfolding effect written with_reg advanced applies can_enter
  saves_does u free = record { system = refl; sane = refl; straight = refl; calm = rw free refl; plain = λ mmu y. refl; is = refl }

  -- restore %g0,%g0,%g0
  pub restores_does : (u : ℕ) → is_masked x.mask (above n u) ≡ false →
      Does n (stage n c w u x) (Restore (fields 0 0 (Register 0))) (stage n c w (above n u) (onward x))
  unfolding effect written with_reg advanced applies can_enter
  restores_does u free = record { system = refl; sane = refl; straight = refl; calm = rw free refl; plain = λ mmu y. refl; is = refl }

  -- wr %g1,%g0,%wim
  pub writes_mask_does : (u : ℕ) →
      Does n (stage n c w u x) (WriteState Wim (source 1 (Register 0))) (stage n c w u (onward (record x { mask = bit_xor (slice_index x.globals 1) 0 % 2 ^ n })))
  unfolding effect reg_of advanced applies
  writes_mask_does u = record { system = refl; sane = refl; straight = refl; calm = refl; plain = λ mmu y. refl; is = refl }

  -- wr %l4,%g0,%wim
  pub writes_mask_local_does : w < length x.rows →
      Next (WriteState Wim (source 20 (Register 0))) (record x { mask = bit_xor (slice_index x.row 12) 0 % 2 ^ n })
  unfolding effect advanced applies
  writes_mask_local_does there =
      let with_mask : ℕ → Cpu n = λ m. stage n c w w (onward (record x { mask = m % 2 ^ n })) in
      record {
        system = refl;
        sane = refl;
        straight = refl;
        calm = refl;
        plain = λ mmu y. refl;
        is = ap (λ v. with_mask (bit_xor v (own 0))) (local_is 20 there (omega arith) (omega arith))
            ∙ ap (λ z. with_mask (bit_xor (slice_index x.row 12) z)) zero_is;
      }

  -- jmpl to an address, %g0
  pub jumps_does : (u rs1 : ℕ) (o : Operand) (to : ℕ) → address_of n (stage n c w u x) rs1 o ≡ to → to % 4 ≡ 0 →
      Does n (stage n c w u x) (JumpAndLink (fields 0 rs1 o)) (stage n c w u (record x { pc = x.npc; npc = to }))
  unfolding effect with_reg jumped applies
  jumps_does u rs1 o to is whole =
      let aligned : address_of n (stage n c w u x) rs1 o % 4 ≡ 0 = ap (λ q. q % 4) is ∙ whole in
      record {
        system = refl;
        sane = refl;
        straight = refl;
        calm = rw aligned refl;
        plain = λ mmu y. refl;
        is = ap (λ q. stage n c w u (record x { pc = x.npc; npc = q })) is;
      }

  -- rett to an address
  pub returns_does : (rs1 : ℕ) (o : Operand) (to : ℕ) → is_masked x.mask (above n w) ≡ false →
      address_of n (stage n c w w x) rs1 o ≡ to → to % 4 ≡ 0 →
      Does n (stage n c w w x) (ReturnFromTrap (source rs1 o)) (finished n c w (record x { pc = x.npc; npc = to }))
  unfolding effect returned jumped applies can_enter
  returns_does rs1 o to free is whole =
      let aligned : address_of n (stage n c w w x) rs1 o % 4 ≡ 0 = ap (λ q. q % 4) is ∙ whole in
      record {
        system = refl;
        sane = refl;
        straight = refl;
        calm = rw aligned (rw free refl);
        plain = λ mmu y. refl;
        is = ap (λ q. finished n c w (record x { pc = x.npc; npc = q })) is;
      }

  -- ---- addresses

  -- the address that a local of the trap's window holds
  pub address_of_local : (r v : ℕ) → w < length x.rows → 16 ≤ r → r < 24 → slice_index x.row (r - 8) ≡ v →
      v < 2 ^ 32 → address_of n (stage n c w w x) r (Register 0) ≡ v
  unfolding address_of
  address_of_local r v there low high is word =
      let none : v + 0 ≡ v = omega arith in
      ap (λ k. (k + own 0) % 2 ^ 32) (local_is r there (omega arith) high ∙ is)
      ∙ ap (λ z. (v + z) % 2 ^ 32) zero_is
      ∙ ap (λ k. k % 2 ^ 32) none ∙ mod-eq_of_lt word

  -- ---- double words on the stack

  pub store_double_calm : (u rd offset : ℕ) → rd % 2 ≡ 0 →
      address_of n (stage n c w u x) 14 (Immediate offset) % 8 ≡ 0 →
      first_trap n (stage n c w u x) (store Double (at_stack rd offset)) ≡ None
  unfolding applies memory_applies
  store_double_calm u rd offset even aligned = rw even (rw aligned refl)

  pub load_double_calm : (u rd offset : ℕ) → rd % 2 ≡ 0 →
      address_of n (stage n c w u x) 14 (Immediate offset) % 8 ≡ 0 →
      first_trap n (stage n c w u x) (load loadings.Double (at_stack rd offset)) ≡ None
  unfolding applies memory_applies
  load_double_calm u rd offset even aligned = rw even (rw aligned refl)
