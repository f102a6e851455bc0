-- What each word of the trap table and of the handlers asks for. `Asks word i`: the operation of the word is i.
--   overflow's vector      reads_mask, goes_overflow, saves_global
--   underflow's vector     reads_mask, goes_underflow, shifts_mask_left
--   overflow handler       shifts_mask_right, shifts_left, joins, saves, writes_mask, nothing, stores_0 .. stores_7, restores, gives_global, jumps, returns
--   underflow handler      shifts_right, joins_local, writes_mask_local, nothing, restores, loads_0 .. loads_7, saves, jumps, returns
use Rattle.std.proofs.Common.{◌≡◌, ℕ, ◌+◌, ◌-◌, ◌≤◌, false, refl, ap, ◌∙◌, arith}
use Rattle.std.specs.Prelude.{◌==◌, if◌then◌else◌}
use Rattle.v8_core.specs.Word.{bits_of}
use Rattle.v8_core.specs.Cond.TheVariants.{Always}
use Rattle.v8_core.specs.Table.{meaning}
use Rattle.v8_core.specs.Fields.{shift, short_operand}
use Rattle.v8_core.proofs.Keys.{by_opcodes}
use Rattle.v8_core.specs.Operand.{Operand}
use Rattle.v8_core.specs.Operand.TheVariants.{Register, Immediate}
use Rattle.v8_core.specs.Three.{Three}
use Rattle.v8_core.specs.Two.{Two}
use Rattle.v8_core.specs.Op.TheVariants as ops
use Rattle.v8_core.specs.Size.TheVariants.{Double}
use Rattle.v8_core.specs.Loading.TheVariants as loadings
use Rattle.v8_core.specs.Operations.{operation_of, load, store}
use Rattle.v8_core.specs.MemoryOperand.{MemoryOperand}
use Rattle.v8_core.specs.Operation.{Operation}
use Rattle.v8_core.specs.Operation.TheVariants.{Compute, SetHigh, ReadState, WriteState, Save, Restore, BranchOnCondition, JumpAndLink, ReturnFromTrap}
use Rattle.v8_core.specs.Space.TheVariants.{Normal}
use Rattle.v8_core.specs.StateRegister.TheVariants.{Wim}

abbrev pub fields : ℕ → ℕ → Operand → Three
fields d s o = record { rd = d; rs1 = s; operand2 = o }

abbrev pub source : ℕ → Operand → Two
source s o = record { rs1 = s; operand2 = o }

-- register d at the address that register s holds and an offset
abbrev pub memory_at : ℕ → ℕ → ℕ → MemoryOperand
memory_at d s offset = record { rd = d; rs1 = s; operand2 = Immediate offset; space = Normal }

abbrev pub at_stack : ℕ → ℕ → MemoryOperand
at_stack d offset = memory_at d 14 offset

abbrev pub Asks : ℕ → Operation → Type 0
Asks word i = operation_of (meaning word) ≡ i

-- ---- the vectors of window_overflow and window_underflow

pub reads_mask : Asks 0xA7500000 (ReadState Wim 19)
unfolding meaning operation_of
reads_mask = refl

pub goes_overflow : Asks 0x108003EB (BranchOnCondition (record { annul = false; cond = Always; displacement = 0x3EB }))
unfolding meaning operation_of
goes_overflow = refl

pub goes_underflow : Asks 0x10800407 (BranchOnCondition (record { annul = false; cond = Always; displacement = 0x407 }))
unfolding meaning operation_of
goes_underflow = refl

pub saves_global : Asks 0xA8100001 (Compute ops.Or (fields 20 0 (Register 1)))
unfolding meaning operation_of
saves_global = refl

pub shifts_mask_left : Asks 0xA92CE001 (Compute ops.Sll (fields 20 19 (Immediate 1)))
unfolding meaning operation_of
shifts_mask_left = refl

-- ---- the handlers

pub shifts_mask_right : Asks 0x8334E001 (Compute ops.Srl (fields 1 19 (Immediate 1)))
unfolding meaning operation_of
shifts_mask_right = refl

-- a shift by a count
shift_is : (w d s c : ℕ) → bits_of w 25 5 ≡ d → bits_of w 14 5 ≡ s → bits_of w 13 1 ≡ 1 → bits_of w 0 5 ≡ c →
    shift w ≡ fields d s (Immediate c)
shift_is w d s c p q i r =
    ap (λ x. fields x (bits_of w 14 5) (short_operand 5 w)) p
    ∙ ap (λ x. fields d x (short_operand 5 w)) q
    ∙ ap (λ (b : ℕ). fields d s (if b == 1 then Immediate (bits_of w 0 5) else Register (bits_of w 0 5))) i
    ∙ ap (λ x. fields d s (Immediate x)) r

-- the words that hold the number of windows
pub shifts_left : (n : ℕ) → 4 ≤ n → n ≤ 32 →
    Asks (0xAB2CE000 + (n - 1)) (Compute ops.Sll (fields 21 19 (Immediate (n - 1))))
unfolding operation_of
shifts_left n few many =
    ap operation_of (by_opcodes (0xAB2CE000 + (n - 1)) 2 37 (omega arith) (omega arith) (omega arith))
    ∙ ap (λ f. Compute ops.Sll f) (shift_is (0xAB2CE000 + (n - 1)) 21 19 (n - 1) (omega arith) (omega arith) (omega arith) (omega arith))

pub shifts_right : (n : ℕ) → 4 ≤ n → n ≤ 32 →
    Asks (0xAB34E000 + (n - 1)) (Compute ops.Srl (fields 21 19 (Immediate (n - 1))))
unfolding operation_of
shifts_right n few many =
    ap operation_of (by_opcodes (0xAB34E000 + (n - 1)) 2 38 (omega arith) (omega arith) (omega arith))
    ∙ ap (λ f. Compute ops.Srl f) (shift_is (0xAB34E000 + (n - 1)) 21 19 (n - 1) (omega arith) (omega arith) (omega arith) (omega arith))

pub joins : Asks 0x82154001 (Compute ops.Or (fields 1 21 (Register 1)))
unfolding meaning operation_of
joins = refl

pub joins_local : Asks 0xA8154014 (Compute ops.Or (fields 20 21 (Register 20)))
unfolding meaning operation_of
joins_local = refl

pub saves : Asks 0x81E00000 (Save (fields 0 0 (Register 0)))
unfolding meaning operation_of
saves = refl

pub restores : Asks 0x81E80000 (Restore (fields 0 0 (Register 0)))
unfolding meaning operation_of
restores = refl

pub writes_mask : Asks 0x81904000 (WriteState Wim (source 1 (Register 0)))
unfolding meaning operation_of
writes_mask = refl

pub writes_mask_local : Asks 0x81950000 (WriteState Wim (source 20 (Register 0)))
unfolding meaning operation_of
writes_mask_local = refl

pub nothing : Asks 0x01000000 (SetHigh (record { rd = 0; imm22 = 0 }))
unfolding meaning operation_of
nothing = refl

pub gives_global : Asks 0x82100014 (Compute ops.Or (fields 1 0 (Register 20)))
unfolding meaning operation_of
gives_global = refl

pub jumps : Asks 0x81C44000 (JumpAndLink (fields 0 17 (Register 0)))
unfolding meaning operation_of
jumps = refl

pub returns : Asks 0x81CC8000 (ReturnFromTrap (source 18 (Register 0)))
unfolding meaning operation_of
returns = refl

pub stores_0 : Asks 0xE03BA000 (store Double (at_stack 16 0))
unfolding meaning operation_of
stores_0 = refl

pub stores_1 : Asks 0xE43BA008 (store Double (at_stack 18 8))
unfolding meaning operation_of
stores_1 = refl

pub stores_2 : Asks 0xE83BA010 (store Double (at_stack 20 16))
unfolding meaning operation_of
stores_2 = refl

pub stores_3 : Asks 0xEC3BA018 (store Double (at_stack 22 24))
unfolding meaning operation_of
stores_3 = refl

pub stores_4 : Asks 0xF03BA020 (store Double (at_stack 24 32))
unfolding meaning operation_of
stores_4 = refl

pub stores_5 : Asks 0xF43BA028 (store Double (at_stack 26 40))
unfolding meaning operation_of
stores_5 = refl

pub stores_6 : Asks 0xF83BA030 (store Double (at_stack 28 48))
unfolding meaning operation_of
stores_6 = refl

pub stores_7 : Asks 0xFC3BA038 (store Double (at_stack 30 56))
unfolding meaning operation_of
stores_7 = refl

pub loads_0 : Asks 0xE01BA000 (load loadings.Double (at_stack 16 0))
unfolding meaning operation_of
loads_0 = refl

pub loads_1 : Asks 0xE41BA008 (load loadings.Double (at_stack 18 8))
unfolding meaning operation_of
loads_1 = refl

pub loads_2 : Asks 0xE81BA010 (load loadings.Double (at_stack 20 16))
unfolding meaning operation_of
loads_2 = refl

pub loads_3 : Asks 0xEC1BA018 (load loadings.Double (at_stack 22 24))
unfolding meaning operation_of
loads_3 = refl

pub loads_4 : Asks 0xF01BA020 (load loadings.Double (at_stack 24 32))
unfolding meaning operation_of
loads_4 = refl

pub loads_5 : Asks 0xF41BA028 (load loadings.Double (at_stack 26 40))
unfolding meaning operation_of
loads_5 = refl

pub loads_6 : Asks 0xF81BA030 (load loadings.Double (at_stack 28 48))
unfolding meaning operation_of
loads_6 = refl

pub loads_7 : Asks 0xFC1BA038 (load loadings.Double (at_stack 30 56))
unfolding meaning operation_of
loads_7 = refl
