-- What each operation does to the processor, and that it meets no trap.
use Rattle.std.proofs.Common.{◌≡◌, ℕ, ◌*◌, ◌%◌, ◌^◌, true, false, Some, None, refl, ap, arith}
use Rattle.std.specs.Prelude.{◌==◌}
use Rattle.std.proofs.lemmas.Bool.Decides.{nat_tests}
use Rattle.v8_core.specs.Icc.{Icc}
use Rattle.v8_core.specs.Branch.{Branch}
use Rattle.v8_core.specs.Operand.{Operand}
use Rattle.v8_core.specs.Three.{Three}
use Rattle.v8_core.specs.Two.{Two}
use Rattle.v8_core.specs.Upper.{Upper}
use Rattle.v8_core.specs.Division.{Division}
use Rattle.v8_core.specs.Op.{Op}
use Rattle.v8_core.specs.TaggedOp.{TaggedOp}
use Rattle.v8_core.specs.AluOut.{AluOut}
use Rattle.v8_core.specs.Outcomes.{outcome}
use Rattle.v8_core.specs.Operands.{following, target}
use Rattle.v8_core.specs.Transfers.{bytes_in, size_of, splits_pair}
use Rattle.v8_core.specs.Operation.TheVariants.{Compute, Divide, TaggedTrap, SetHigh, ReadY, WriteY, Save, Restore, Call, BranchOnCondition, JumpAndLink}
use Rattle.v8_core.specs.Operation.TheVariants as operation
use Rattle.v8_core.specs.Space.TheVariants.{Normal}
use Rattle.v8_core.specs.Transfer.{Transfer}
use Rattle.v8_core.specs.Windows.{above, below, can_enter, with_reg}
use Rattle.v8_core.specs.Effects.{address_of, advanced, branched, computed, computed_from, effect, jumped, quotient_from, reg, second_of, state_operand, tagged_from, written}
use Rattle.v8_core.specs.Traps.{applies, first_trap, memory_applies}
use Rattle.v8_core.specs.Control.{Control}
use Rattle.v8_core.specs.Cpu.{Cpu}

-- on to the next instruction, with these codes and Y
abbrev pub moved_on : Control → Icc → ℕ → Control
moved_on c f y = record c { pc = c.npc; npc = following c.npc; icc = f; y = y }

abbrev pub with_result : (n : ℕ) → Cpu n → ℕ → AluOut → Cpu n
with_result n c rd out = record { regs = with_reg n c.regs rd out.value; control = moved_on c.control out.icc out.y }

-- a register written, with the codes and Y as they are
abbrev pub with_value : (n : ℕ) → Cpu n → ℕ → ℕ → Cpu n
with_value n c rd v = record { regs = with_reg n c.regs rd v; control = advanced c.control }

-- the result of the operands that the board reads
abbrev pub board_outcome : (n : ℕ) → Cpu n → Op → Three → AluOut
board_outcome n c op f = outcome op (reg n c f.rs1) (second_of n c f.operand2) c.control.icc c.control.y

pub computes : (n : ℕ) (c : Cpu n) (op : Op) (f : Three) → effect n c (Compute op f) ≡ with_result n c f.rd (board_outcome n c op f)
unfolding effect computed advanced
computes n c op f = refl

pub divides : (n : ℕ) (c : Cpu n) (op : Division) (f : Three) (out : AluOut) → quotient_from n c op f ≡ Some out → effect n c (Divide op f) ≡ with_result n c f.rd out
unfolding effect computed advanced
divides n c op f out is = ap (computed_from n c f.rd) is

pub adds_tagged : (n : ℕ) (c : Cpu n) (op : TaggedOp) (f : Three) (out : AluOut) → tagged_from n c op f ≡ Some out → effect n c (TaggedTrap op f) ≡ with_result n c f.rd out
unfolding effect computed advanced
adds_tagged n c op f out is = ap (computed_from n c f.rd) is

pub sets_high : (n : ℕ) (c : Cpu n) (f : Upper) → effect n c (SetHigh f) ≡ with_value n c f.rd (f.imm22 * 2 ^ 10 % 2 ^ 32)
unfolding effect written
sets_high n c f = refl

pub reads_y : (n : ℕ) (c : Cpu n) (rd : ℕ) → effect n c (ReadY rd) ≡ with_value n c rd c.control.y
unfolding effect written
reads_y n c rd = refl

pub writes_y : (n : ℕ) (c : Cpu n) (f : Two) → effect n c (WriteY f) ≡ record c { control = moved_on c.control c.control.icc (state_operand n c f) }
unfolding effect advanced
writes_y n c f = refl

pub calls_to : (n : ℕ) (c : Cpu n) (d : ℕ) → effect n c (Call d) ≡ record { regs = with_reg n c.regs 15 c.control.pc; control = jumped c.control (target c.control.pc d) }
unfolding effect
calls_to n c d = refl

pub jumps_to : (n : ℕ) (c : Cpu n) (f : Three) (a : ℕ) → address_of n c f.rs1 f.operand2 ≡ a →
    effect n c (JumpAndLink f) ≡ record { regs = with_reg n c.regs f.rd c.control.pc; control = jumped c.control a }
unfolding effect
jumps_to n c f a place = ap (λ p. record { regs = with_reg n c.regs f.rd c.control.pc; control = jumped c.control p }) place

pub branches_to : (n : ℕ) (c : Cpu n) (b : Branch) → effect n c (BranchOnCondition b) ≡ record c { control = branched c.control b }
unfolding effect
branches_to n c b = refl

-- ---- none of them traps

pub calm_compute : (n : ℕ) (c : Cpu n) (op : Op) (f : Three) → first_trap n c (Compute op f) ≡ None
unfolding applies
calm_compute n c op f = refl

pub calm_divide : (n : ℕ) (c : Cpu n) (op : Division) (f : Three) (out : AluOut) → quotient_from n c op f ≡ Some out → first_trap n c (Divide op f) ≡ None
unfolding applies
calm_divide n c op f out is = rw is refl

pub calm_tagged : (n : ℕ) (c : Cpu n) (op : TaggedOp) (f : Three) (out : AluOut) → tagged_from n c op f ≡ Some out → first_trap n c (TaggedTrap op f) ≡ None
unfolding applies
calm_tagged n c op f out is = rw is refl

pub calm_high : (n : ℕ) (c : Cpu n) (f : Upper) → first_trap n c (SetHigh f) ≡ None
unfolding applies
calm_high n c f = refl

pub calm_read : (n : ℕ) (c : Cpu n) (rd : ℕ) → first_trap n c (ReadY rd) ≡ None
unfolding applies
calm_read n c rd = refl

pub calm_write : (n : ℕ) (c : Cpu n) (f : Two) → first_trap n c (WriteY f) ≡ None
unfolding applies
calm_write n c f = refl

pub calm_call : (n : ℕ) (c : Cpu n) (d : ℕ) → first_trap n c (Call d) ≡ None
unfolding applies
calm_call n c d = refl

pub calm_branch : (n : ℕ) (c : Cpu n) (b : Branch) → first_trap n c (BranchOnCondition b) ≡ None
unfolding applies
calm_branch n c b = refl

pub calm_jump : (n : ℕ) (c : Cpu n) (f : Three) (a : ℕ) → address_of n c f.rs1 f.operand2 ≡ a → a % 4 ≡ 0 → first_trap n c (JumpAndLink f) ≡ None
unfolding applies
calm_jump n c f a place whole = let test : (a % 4 == 0) ≡ true = grind (arith, nat_tests) in rw place (rw test refl)

pub calm_save : (n : ℕ) (c : Cpu n) (f : Three) → can_enter c.regs (below n c.regs.current) ≡ true → first_trap n c (Save f) ≡ None
unfolding applies
calm_save n c f free = rw free refl

pub calm_restore : (n : ℕ) (c : Cpu n) (f : Three) → can_enter c.regs (above n c.regs.current) ≡ true → first_trap n c (Restore f) ≡ None
unfolding applies
calm_restore n c f free = rw free refl

-- a load or a store at a whole place
pub calm_transfer : (n : ℕ) (c : Cpu n) (t : Transfer) (rd rs1 : ℕ) (o : Operand) (a : ℕ) → address_of n c rs1 o ≡ a → (a % bytes_in (size_of t) == 0) ≡ true → splits_pair (size_of t) rd ≡ false →
    first_trap n c (operation.Transfer t (record { rd = rd; rs1 = rs1; operand2 = o; space = Normal })) ≡ None
unfolding applies memory_applies
calm_transfer n c t rd rs1 o a place whole pair = rw place (rw whole (rw pair refl))
