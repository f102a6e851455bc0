-- What each word of the vectors and of the routines asks for, by its number.
use Rattle.std.proofs.Common.{refl}
use Rattle.std.specs.Prelude.{ℕ, slice_index, false}
use Rattle.v8_core.specs.Cond.{Cond}
use Rattle.v8_core.specs.Cond.TheVariants.{Always, Equal}
use Rattle.v8_core.specs.Loading.TheVariants as loadings
use Rattle.v8_core.specs.Op.TheVariants as ops
use Rattle.v8_core.specs.Operand.TheVariants.{Immediate, Register}
use Rattle.v8_core.specs.Operation.{Operation}
use Rattle.v8_core.specs.Operation.TheVariants.{BranchOnCondition, Compute, JumpAndLink, ReadState, ReturnFromTrap, SetHigh, Transfer, WriteState}
use Rattle.v8_core.specs.Operations.{operation_of}
use Rattle.v8_core.specs.Size.TheVariants.{Byte, Double, Word}
use Rattle.v8_core.specs.StateRegister.TheVariants.{Psr}
use Rattle.v8_core.specs.Table.{meaning}
use Rattle.v8_core.specs.Transfer.TheVariants.{Load, Store}
use Rattle.v8_loaded.proofs.Words.{Asks, fields, source}
use Rattle.v8_routines.specs.Services.{calls}
use Rattle.leon_words.specs.Words.{mail_routines, mail_vectors}
use Rattle.leon_services.proofs.Turns.{reach}

abbrev branch : Cond → ℕ → Operation
branch cond k = BranchOnCondition (record { annul = false; cond = cond; displacement = k })

abbrev set_mail : Operation
set_mail = SetHigh (record { rd = 19; imm22 = 0x3C0040 })

abbrev nothing : Operation
nothing = SetHigh (record { rd = 0; imm22 = 0 })

abbrev V : ℕ → Operation → Type 0
V k i = Asks (slice_index mail_vectors k) i

abbrev R : ℕ → Operation → Type 0
R k i = Asks (slice_index mail_routines k) i

pub vector_0 : V 0 (set_mail)
unfolding operation_of meaning
vector_0 = refl

pub vector_1 : V 1 (branch Always 0x25E)
unfolding operation_of meaning
vector_1 = refl

pub vector_2 : V 2 (Compute ops.Or (fields 23 0 (Immediate 1)))
unfolding operation_of meaning
vector_2 = refl

pub vector_4 : V 4 (set_mail)
unfolding operation_of meaning
vector_4 = refl

pub vector_5 : V 5 (branch Always 0x23B)
unfolding operation_of meaning
vector_5 = refl

pub vector_6 : V 6 (Transfer (Store Double) (reach 20 19 (Immediate 32)))
unfolding operation_of meaning
vector_6 = refl

pub vector_8 : V 8 (set_mail)
unfolding operation_of meaning
vector_8 = refl

pub vector_9 : V 9 (branch Always 0x249)
unfolding operation_of meaning
vector_9 = refl

pub vector_10 : V 10 (Transfer (Store Double) (reach 20 19 (Immediate 32)))
unfolding operation_of meaning
vector_10 = refl

pub routine_0 : R 0 (Transfer (Store Double) (reach 22 19 (Immediate 40)))
unfolding operation_of meaning
routine_0 = refl

pub routine_1 : R 1 (ReadState Psr 22)
unfolding operation_of meaning
routine_1 = refl

pub routine_2 : R 2 (Transfer (Load loadings.Word) (reach 20 19 (Register 0)))
unfolding operation_of meaning
routine_2 = refl

pub routine_3 : R 3 (Transfer (Load loadings.Word) (reach 21 19 (Immediate 4)))
unfolding operation_of meaning
routine_3 = refl

pub routine_4 : R 4 (Compute ops.SubCc (fields 0 20 (Register 21)))
unfolding operation_of meaning
routine_4 = refl

pub routine_5 : R 5 (branch Equal 5)
unfolding operation_of meaning
routine_5 = refl

pub routine_6 : R 6 (Compute ops.Or (fields 24 0 (Immediate 0xFFFFFFFF)))
unfolding operation_of meaning
routine_6 = refl

pub routine_7 : R 7 (Transfer (Load loadings.UnsignedByte) (reach 24 20 (Register 0)))
unfolding operation_of meaning
routine_7 = refl

pub routine_8 : R 8 (Compute ops.Add (fields 20 20 (Immediate 1)))
unfolding operation_of meaning
routine_8 = refl

pub routine_9 : R 9 (Transfer (Store Word) (reach 20 19 (Register 0)))
unfolding operation_of meaning
routine_9 = refl

pub routine_10 : R 10 (WriteState Psr (source 0 (Register 22)))
unfolding operation_of meaning
routine_10 = refl

pub routine_11 : R 11 (nothing)
unfolding operation_of meaning
routine_11 = refl

pub routine_12 : R 12 (nothing)
unfolding operation_of meaning
routine_12 = refl

pub routine_13 : R 13 (nothing)
unfolding operation_of meaning
routine_13 = refl

pub routine_14 : R 14 (Transfer (Load loadings.Double) (reach 20 19 (Immediate 32)))
unfolding operation_of meaning
routine_14 = refl

pub routine_15 : R 15 (Transfer (Load loadings.Double) (reach 22 19 (Immediate 40)))
unfolding operation_of meaning
routine_15 = refl

pub routine_16 : R 16 (JumpAndLink (fields 0 18 (Register 0)))
unfolding operation_of meaning
routine_16 = refl

pub routine_17 : R 17 (ReturnFromTrap (source 18 (Immediate 4)))
unfolding operation_of meaning
routine_17 = refl

pub routine_18 : R 18 (Transfer (Store Double) (reach 22 19 (Immediate 40)))
unfolding operation_of meaning
routine_18 = refl

pub routine_19 : R 19 (ReadState Psr 22)
unfolding operation_of meaning
routine_19 = refl

pub routine_20 : R 20 (Transfer (Load loadings.Word) (reach 20 19 (Immediate 8)))
unfolding operation_of meaning
routine_20 = refl

pub routine_21 : R 21 (Transfer (Load loadings.Word) (reach 21 19 (Immediate 12)))
unfolding operation_of meaning
routine_21 = refl

pub routine_22 : R 22 (Compute ops.SubCc (fields 0 20 (Register 21)))
unfolding operation_of meaning
routine_22 = refl

pub routine_23 : R 23 (branch Equal 8)
unfolding operation_of meaning
routine_23 = refl

pub routine_24 : R 24 (Compute ops.Or (fields 23 0 (Immediate 3)))
unfolding operation_of meaning
routine_24 = refl

pub routine_25 : R 25 (Transfer (Store Byte) (reach 24 20 (Register 0)))
unfolding operation_of meaning
routine_25 = refl

pub routine_26 : R 26 (Compute ops.Add (fields 20 20 (Immediate 1)))
unfolding operation_of meaning
routine_26 = refl

pub routine_27 : R 27 (branch Always 0xFFFFFFEF)
unfolding operation_of meaning
routine_27 = refl

pub routine_28 : R 28 (Transfer (Store Word) (reach 20 19 (Immediate 8)))
unfolding operation_of meaning
routine_28 = refl

pub routine_31 : R 31 (Transfer (Store Word) (reach 24 19 (Immediate 20)))
unfolding operation_of meaning
routine_31 = refl

pub routine_32 : R 32 (Transfer (Store Word) (reach 17 19 (Immediate 24)))
unfolding operation_of meaning
routine_32 = refl

pub routine_33 : R 33 (Transfer (Store Word) (reach 18 19 (Immediate 28)))
unfolding operation_of meaning
routine_33 = refl

pub routine_34 : R 34 (Transfer (Store Word) (reach 23 19 (Immediate 16)))
unfolding operation_of meaning
routine_34 = refl

pub routine_35 : R 35 (calls 0)
unfolding operation_of meaning
routine_35 = refl
