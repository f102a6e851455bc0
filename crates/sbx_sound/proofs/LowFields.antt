-- Each word's register fields are numbers of registers: by the rows of the format table.
use Rattle.std.proofs.Common.{ℕ, ◌^◌, ◌<◌, Bool, true, false, List, [], ◌∷◌, arith}
use Rattle.std.specs.Prelude.{if◌then◌else◌}
use Rattle.v8_formats.specs.declared.instr.Operand.{Operand}
use Rattle.v8_formats.specs.declared.instr.Operand.TheVariants.{Register, Immediate}
use Rattle.v8_meaning.specs.declared.operation.Operation.{Operation}
use Rattle.v8_meaning.specs.declared.operation.Operation.TheVariants.{Compute, Divide, TaggedTrap, SetHigh, ReadY, WriteY, Transfer, Save, Restore, JumpAndLink, TrapOnCondition}
use Rattle.std.specs.List.{AllByRecursion}
use Rattle.std.proofs.lemmas.Bool.Decides.{nat_tests}
use Rattle.v8_word.specs.Word.{bits_of, sign_extend}
use Rattle.v8_formats.specs.Fields.{is_immediate, operand2, place, rd, rs1, rs2, short_operand}
use Rattle.v8_formats.specs.Table.{Row, lookup, matches, meaning, table}
use Rattle.v8_formats.specs.declared.instr.Instr.{Instr}
use Rattle.v8_formats.specs.declared.instr.Instr.TheVariants.{Undefined}
use Rattle.v8_meaning.specs.Operations.{operation_of, second_of}
use Rattle.sbx_flat.specs.Turns.{asked}
use Rattle.v8_formats.specs.declared.instr.Operand.TheVariants as operands
use Rattle.v8_formats.specs.declared.instr.AlternateOperand.TheVariants as places

-- ---- which fields these are

abbrev pub LowOperand : Operand → Type 0
LowOperand (Register r) = r < 32
LowOperand (Immediate n) = n < 2 ^ 32

pub record LowThree (rd rs1 : ℕ) (operand2 : Operand) : Type 0 where
  pub rd_low : rd < 32
  pub rs1_low : rs1 < 32
  pub operand_low : LowOperand operand2

abbrev pub LowFields : Operation → Type 0
LowFields (Compute op f) = LowThree f.rd f.rs1 f.operand2
LowFields (Divide op f) = LowThree f.rd f.rs1 f.operand2
LowFields (TaggedTrap op f) = LowThree f.rd f.rs1 f.operand2
LowFields (SetHigh f) = f.rd < 32
LowFields (ReadY rd) = rd < 32
LowFields (WriteY f) = LowThree 0 f.rs1 f.operand2
LowFields (Transfer t m) = LowThree m.rd m.rs1 m.operand2
LowFields (Save f) = LowThree f.rd f.rs1 f.operand2
LowFields (Restore f) = LowThree f.rd f.rs1 f.operand2
LowFields (JumpAndLink f) = LowThree f.rd f.rs1 f.operand2
LowFields (TrapOnCondition t) = LowThree 0 t.rs1 t.operand2
LowFields _ = Unit {0}

-- ---- by the rows

low_bits : (w low : ℕ) → bits_of w low 5 < 32
low_bits w low = omega arith

extended : (w : ℕ) → sign_extend 13 (bits_of w 0 13) < 2 ^ 32
extended w = grind (arith, nat_tests)

short_five : (w : ℕ) → bits_of w 0 5 < 2 ^ 32
short_five w = omega arith

short_seven : (w : ℕ) → bits_of w 0 7 < 2 ^ 32
short_seven w = omega arith

either : (t : Bool) (n r : ℕ) → n < 2 ^ 32 → r < 32 → LowOperand (if t then operands.Immediate n else operands.Register r)
either true n r p q = p
either false n r p q = q

low_rd : (w : ℕ) → rd w < 32
low_rd w = low_bits w 25

low_three : (w : ℕ) → LowThree (rd w) (rs1 w) (operand2 w)
low_three w = record { rd_low = low_bits w 25; rs1_low = low_bits w 14; operand_low = either (is_immediate w) (sign_extend 13 (bits_of w 0 13)) (rs2 w) (extended w) (low_bits w 0) }

low_shift : (w : ℕ) → LowThree (rd w) (rs1 w) (short_operand 5 w)
low_shift w = record { rd_low = low_bits w 25; rs1_low = low_bits w 14; operand_low = either (is_immediate w) (bits_of w 0 5) (rs2 w) (short_five w) (low_bits w 0) }

low_two : (w : ℕ) → LowThree 0 (rs1 w) (operand2 w)
low_two w = record { rd_low = omega arith; rs1_low = low_bits w 14; operand_low = either (is_immediate w) (sign_extend 13 (bits_of w 0 13)) (rs2 w) (extended w) (low_bits w 0) }

low_trap : (w : ℕ) → LowThree 0 (rs1 w) (short_operand 7 w)
low_trap w = record { rd_low = omega arith; rs1_low = low_bits w 14; operand_low = either (is_immediate w) (bits_of w 0 7) (rs2 w) (short_seven w) (low_bits w 0) }

second_low : (t : Bool) (n r a : ℕ) → n < 2 ^ 32 → r < 32 → LowOperand (second_of (if t then places.Immediate n else places.Register r a))
second_low true n r a p q = p
second_low false n r a p q = q

low_alternate : (w : ℕ) → LowThree (rd w) (rs1 w) (second_of (place w))
low_alternate w =
    record {
      rd_low = low_bits w 25;
      rs1_low = low_bits w 14;
      operand_low =
          second_low (is_immediate w) (sign_extend 13 (bits_of w 0 13)) (rs2 w) (bits_of w 5 8) (extended w) (low_bits w 0);
    }

-- what each row gives, and an undefined word, holds of every word
by_match : (t : Bool) (P : Instr → Type 0) (x y : Instr) → P x → P y → P (if t then x else y)
by_match true P x y p q = p
by_match false P x y p q = q

looked_up : (P : Instr → Type 0) (rows : List Row) → ((w : ℕ) → P (Undefined w)) → AllByRecursion (λ (r : Row). (w : ℕ) → P (r.gives w)) rows → (w : ℕ) → P (lookup rows w)
looked_up P [] none each w = none w
looked_up P (r ∷ rs) none each w = by_match (matches r w) P (r.gives w) (lookup rs w) (each.0 w) (looked_up P rs none each.1 w)

abbrev Low : Instr → Type 0
Low i = LowFields (operation_of i)

rows_low : AllByRecursion (λ (r : Row). (w : ℕ) → Low (r.gives w)) table
unfolding operation_of
rows_low = ((λ w. low_three w), ((λ w. low_three w), ((λ w. low_three w), ((λ w. low_three w), ((λ w. low_three w), ((λ w. low_three w), ((λ w. low_three w), ((λ w. low_three w), ((λ w. low_three w), ((λ w. low_three w), ((λ w. low_three w), ((λ w. low_three w), ((λ w. low_three w), ((λ w. low_three w), ((λ w. low_three w), ((λ w. low_three w), ((λ w. low_three w), ((λ w. low_three w), ((λ w. low_three w), ((λ w. low_three w), ((λ w. low_three w), ((λ w. low_three w), ((λ w. low_three w), ((λ w. low_three w), ((λ w. low_three w), ((λ w. low_three w), ((λ w. low_three w), ((λ w. low_three w), ((λ w. low_three w), ((λ w. low_three w), ((λ w. low_three w), ((λ w. low_three w), ((λ w. low_three w), ((λ w. low_shift w), ((λ w. low_shift w), ((λ w. low_shift w), ((λ w. low_rd w), ((λ w. tt), ((λ w. tt), ((λ w. tt), ((λ w. tt), ((λ w. low_two w), ((λ w. tt), ((λ w. tt), ((λ w. tt), ((λ w. tt), ((λ w. tt), ((λ w. tt), ((λ w. tt), ((λ w. low_three w), ((λ w. low_three w), ((λ w. low_three w), ((λ w. low_trap w), ((λ w. low_three w), ((λ w. low_three w), ((λ w. low_three w), ((λ w. low_three w), ((λ w. low_three w), ((λ w. low_three w), ((λ w. low_three w), ((λ w. low_three w), ((λ w. low_three w), ((λ w. low_three w), ((λ w. low_three w), ((λ w. low_three w), ((λ w. low_alternate w), ((λ w. low_alternate w), ((λ w. low_alternate w), ((λ w. low_alternate w), ((λ w. low_alternate w), ((λ w. low_alternate w), ((λ w. low_alternate w), ((λ w. low_alternate w), ((λ w. low_alternate w), ((λ w. low_alternate w), ((λ w. low_alternate w), ((λ w. low_alternate w), ((λ w. tt), ((λ w. tt), ((λ w. tt), ((λ w. tt), ((λ w. tt), ((λ w. low_rd w), ((λ w. tt), ((λ w. tt), tt)))))))))))))))))))))))))))))))))))))))))))))))))))))))))))))))))))))))))))))))))))))

undefined_low : (w : ℕ) → Low (Undefined w)
unfolding operation_of
undefined_low w = tt

pub low_fields : (w : ℕ) → LowFields (asked w)
unfolding meaning
low_fields w = looked_up Low table undefined_low rows_low w
