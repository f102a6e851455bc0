-- The register numbers of every word are below 32, and its immediates are words.
use Rattle.std.proofs.Common.{◌≡◌, ℕ, ◌^◌, ◌<◌, Bool, true, false, cond, List, [], ◌∷◌, arith}
use Rattle.std.specs.Prelude.{if◌then◌else◌}
use Rattle.std.specs.List.{AllByRecursion}
use Rattle.std.proofs.lemmas.Bool.Decides.{nat_tests}
use Rattle.v8_core.specs.Word.{bits_of, sign_extend}
use Rattle.v8_core.specs.Fields.{alternate, is_immediate, place, rd, rs2, three, two, shift}
use Rattle.v8_core.specs.Table.{Row, lookup, matches, meaning, table}
use Rattle.v8_core.specs.Instr.{Instr}
use Rattle.v8_core.specs.Instr.TheVariants.{Undefined}
use Rattle.v8_core.specs.Operand.{Operand}
use Rattle.v8_core.specs.Operand.TheVariants.{Register, Immediate}
use Rattle.v8_core.specs.AlternateOperand.{AlternateOperand}
use Rattle.v8_core.specs.AlternateOperand.TheVariants as places
use Rattle.v8_core.specs.Three.{Three}
use Rattle.v8_core.specs.Two.{Two}
use Rattle.v8_core.specs.Spaces.{is_normal}
use Rattle.v8_core.specs.Operations.{elsewhere, normal, operation_of, space_of}
use Rattle.v8_core.specs.MemoryOperand.{MemoryOperand}
use Rattle.v8_core.specs.Operation.{Operation}
use Rattle.v8_core.specs.Operation.TheVariants.{Compute, Divide, TaggedTrap, SetHigh, ReadY, WriteY, Transfer, Save, Restore, JumpAndLink}

abbrev pub SecondIn : Operand → Type 0
SecondIn (Register r) = r < 32
SecondIn (Immediate n) = n < 2 ^ 32

pub record ThreeIn (f : Three) : Type 0 where
  pub destination : f.rd < 32
  pub first : f.rs1 < 32
  pub second : SecondIn f.operand2

pub record TwoIn (f : Two) : Type 0 where
  pub first : f.rs1 < 32
  pub second : SecondIn f.operand2

pub record MemoryIn (m : MemoryOperand) : Type 0 where
  pub destination : m.rd < 32
  pub first : m.rs1 < 32
  pub second : is_normal m.space ≡ true → SecondIn m.operand2

abbrev pub FieldsIn : Operation → Type 0
FieldsIn (Compute op f) = ThreeIn f
FieldsIn (Divide op f) = ThreeIn f
FieldsIn (TaggedTrap op f) = ThreeIn f
FieldsIn (SetHigh f) = f.rd < 32
FieldsIn (ReadY rd) = rd < 32
FieldsIn (WriteY f) = TwoIn f
FieldsIn (Transfer t m) = MemoryIn m
FieldsIn (Save f) = ThreeIn f
FieldsIn (Restore f) = ThreeIn f
FieldsIn (JumpAndLink f) = ThreeIn f
FieldsIn _ = Unit {0}

signed_in : (n : ℕ) → n < 2 ^ 13 → sign_extend 13 n < 2 ^ 32
signed_in n small = grind (arith, nat_tests)

second_in : (w : ℕ) (b : Bool) → SecondIn (if b then Immediate (sign_extend 13 (bits_of w 0 13)) else Register (rs2 w))
second_in w true = signed_in (bits_of w 0 13) (omega arith)
second_in w false = omega arith

short_in : (w : ℕ) (b : Bool) → SecondIn (if b then Immediate (bits_of w 0 5) else Register (rs2 w))
short_in w true = omega arith
short_in w false = omega arith

rd_in : (w : ℕ) → rd w < 32
rd_in w = omega arith

three_in : (w : ℕ) → ThreeIn (three w)
three_in w = record { destination = omega arith; first = omega arith; second = second_in w (is_immediate w) }

two_in : (w : ℕ) → TwoIn (two w)
two_in w = record { first = omega arith; second = second_in w (is_immediate w) }

shift_in : (w : ℕ) → ThreeIn (shift w)
shift_in w = record { destination = omega arith; first = omega arith; second = short_in w (is_immediate w) }

-- what all rows give is what a table gives
one_of : (P : Instr → Type 0) (b : Bool) (x y : Instr) → P x → P y → P (cond b x y)
one_of P true x y p q = p
one_of P false x y p q = q

found_in : (P : Instr → Type 0) (rows : List Row) (w : ℕ) → AllByRecursion (λ r. P (r.gives w)) rows → P (Undefined w) → P (lookup rows w)
found_in P [] w all none = none
found_in P (r ∷ rows) w all none = one_of P (matches r w) (r.gives w) (lookup rows w) all.0 (found_in P rows w all.1 none)

memory_in : (w : ℕ) → MemoryIn (normal (three w))
memory_in w = record { destination = omega arith; first = omega arith; second = λ e. second_in w (is_immediate w) }

not_normal : (p : AlternateOperand) → is_normal (space_of p) ≡ true → ⊥
not_normal (places.Register r asi) e = cc
not_normal (places.Immediate n) e = cc

alternate_in : (w : ℕ) → MemoryIn (elsewhere (alternate w))
alternate_in w = record { destination = omega arith; first = omega arith; second = λ e. absurd (not_normal (place w) e) }

each_row : (w : ℕ) → AllByRecursion (λ r. FieldsIn (operation_of (r.gives w))) table
unfolding operation_of
each_row w = (three_in w, (three_in w, (three_in w, (three_in w, (three_in w, (three_in w, (three_in w, (three_in w, (three_in w, (three_in w, (three_in w, (three_in w, (three_in w, (three_in w, (three_in w, (three_in w, (three_in w, (three_in w, (three_in w, (three_in w, (three_in w, (three_in w, (three_in w, (three_in w, (three_in w, (three_in w, (three_in w, (three_in w, (three_in w, (three_in w, (three_in w, (three_in w, (three_in w, (shift_in w, (shift_in w, (shift_in w, (rd_in w, (tt, (tt, (tt, (tt, (two_in w, (tt, (tt, (tt, (tt, (tt, (tt, (tt, (three_in w, (three_in w, (three_in w, (tt, (memory_in w, (memory_in w, (memory_in w, (memory_in w, (memory_in w, (memory_in w, (memory_in w, (memory_in w, (memory_in w, (memory_in w, (memory_in w, (memory_in w, (alternate_in w, (alternate_in w, (alternate_in w, (alternate_in w, (alternate_in w, (alternate_in w, (alternate_in w, (alternate_in w, (alternate_in w, (alternate_in w, (alternate_in w, (alternate_in w, (tt, (tt, (tt, (tt, (tt, (rd_in w, (tt, (tt, tt)))))))))))))))))))))))))))))))))))))))))))))))))))))))))))))))))))))))))))))))))))))

undefined_in : (w : ℕ) → FieldsIn (operation_of (Undefined w))
unfolding operation_of
undefined_in w = tt

-- of every word
pub fields_in : (w : ℕ) → FieldsIn (operation_of (meaning w))
unfolding meaning
fields_in w = found_in (λ i. FieldsIn (operation_of i)) table w (each_row w) (undefined_in w)
