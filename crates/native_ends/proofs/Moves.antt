-- What transfers of control and services come to on the flat machine.
use Rattle.std.proofs.Common.{◌≡◌, ℕ, ◌+◌, ◌%◌, ◌^◌, ◌<◌, Bool, true, false, Option, Some, None, refl, sym, ap, ◌∙◌, subst, arith}
use Rattle.std.specs.Prelude.{◌==◌, ◌&&◌, ◌||◌, if◌then◌else◌}
use Rattle.std.proofs.lemmas.Bool.Decides.{nat_tests}
use Rattle.v8_formats.specs.declared.instr.Branch.{Branch}
use Rattle.v8_formats.specs.declared.instr.Operand.{Operand}
use Rattle.v8_formats.specs.declared.instr.Operand.TheVariants.{Immediate, Register}
use Rattle.v8_formats.specs.declared.instr.Three.{Three}
use Rattle.v8_formats.specs.declared.instr.Trap.{Trap}
use Rattle.v8_meaning.specs.Admitted.{is_admitted, is_immediate_of, is_ret, is_retl}
use Rattle.v8_meaning.specs.Operands.{address, second, sum_address, target}
use Rattle.v8_meaning.specs.declared.operation.Operation.{Operation}
use Rattle.v8_meaning.specs.declared.operation.Operation.TheVariants.{BranchOnCondition, Call, JumpAndLink, TrapOnCondition}
use Rattle.sbx_image.specs.Parts.{Parts}
use Rattle.sbx_image.specs.Services.{Services}
use Rattle.sbx_flat.specs.Effects.{branches, declares, does, performs, served, serves, service_of}
use Rattle.sbx_flat.specs.Registers.{Fresh, written}
use Rattle.sbx_flat.specs.States.{State, Fails, Goes, Turn, advanced, reg, transferred, with_reg}
use Rattle.sbx_flat.specs.declared.path.Wrong.TheVariants.{Misaligned, NotAdmitted}

one_state : (a b : State) → Goes a ≡ Goes b → b ≡ a
one_state a b e = cc

goes_if : (b : Bool) (t : Turn) (why : _) (next : State) → (if b then t else Fails why) ≡ Goes next → (b ≡ true) × (t ≡ Goes next)
goes_if true t why next e = (refl, e)
goes_if false t why next e = absurd (cc)

module _ (parts : Parts) (fresh : Fresh) (s next : State) where
  pub admitted_goes : (op : Operation) → performs parts fresh op s ≡ Goes next → (is_admitted op ≡ true) × (does parts fresh op s ≡ Goes next)
  admitted_goes op e = goes_if (is_admitted op) (does parts fresh op s) NotAdmitted next e

  pub branch_goes : (b : Branch) → performs parts fresh (BranchOnCondition b) s ≡ Goes next → next ≡ branches b s
  branch_goes b e = one_state (branches b s) next (admitted_goes (BranchOnCondition b) e).1

  pub call_goes : (d : ℕ) → performs parts fresh (Call d) s ≡ Goes next → next ≡ transferred (target s.pc d) (with_reg 15 s.pc s)
  call_goes d e = one_state (transferred (target s.pc d) (with_reg 15 s.pc s)) next (admitted_goes (Call d) e).1

  -- ---- `ret` and `retl`

  is_eight : (o : Operand) → is_immediate_of 8 o ≡ true → o ≡ Immediate 8
  is_eight (Immediate n) h = ap Immediate (let x : n ≡ 8 = grind (arith, nat_tests) in x)
  is_eight (Register r) h = absurd (cc)

  both : (a b c : Bool) → (a && b && c) ≡ true → (a ≡ true) × (c ≡ true) × (b ≡ true)
  both true true true h = (refl, refl, refl)
  both true true false h = absurd (cc)
  both true false c h = absurd (cc)
  both false b c h = absurd (cc)

  either : (a b : Bool) → (a || b) ≡ true → (P : Type 0) → (a ≡ true → P) → (b ≡ true → P) → P
  either true b h P p q = p refl
  either false true h P p q = q refl
  either false false h P p q = absurd (cc)

  abbrev IsPlainJump : Three → Type 0
  IsPlainJump f = (f.rd ≡ 0) × (f.operand2 ≡ Immediate 8) × (f.rs1 < 32)

  equal : (a b : ℕ) → (a == b) ≡ true → a ≡ b
  equal a b h = grind (arith, nat_tests)

  plain_jump : (f : Three) (r : ℕ) → r < 32 → (f.rd == 0 && f.rs1 == r && is_immediate_of 8 f.operand2) ≡ true → IsPlainJump f
  plain_jump f r low h =
      let e = both (f.rd == 0) (f.rs1 == r) (is_immediate_of 8 f.operand2) h in
      (equal f.rd 0 e.0, is_eight f.operand2 e.1, subst (λ x. x < 32) (sym (equal f.rs1 r e.2)) low)

  jump_admitted : (f : Three) → is_admitted (JumpAndLink f) ≡ true → IsPlainJump f
  unfolding is_admitted
  jump_admitted f h = either (is_ret f) (is_retl f) h (IsPlainJump f) (λ e. plain_jump f 31 (omega arith) e) (λ e. plain_jump f 15 (omega arith) e)

  nothing_linked : (t v : ℕ) → transferred t (with_reg 0 v s) ≡ transferred t s
  unfolding written
  nothing_linked t v = refl

  pub jump_low : (f : Three) → performs parts fresh (JumpAndLink f) s ≡ Goes next → f.rs1 < 32
  jump_low f e = (jump_admitted f (admitted_goes (JumpAndLink f) e).0).2

  pub jump_goes : (f : Three) → performs parts fresh (JumpAndLink f) s ≡ Goes next → next ≡ transferred ((reg s f.rs1 + 8) % 2 ^ 32) s
  jump_goes f e =
      let on = admitted_goes (JumpAndLink f) e in
      let plain = jump_admitted f on.0 in
      let t = address (reg s) f.rs1 f.operand2 in
      let goes = goes_if (t % 4 == 0) (Goes (transferred t (with_reg f.rd s.pc s))) Misaligned next on.1 in
      one_state (transferred t (with_reg f.rd s.pc s)) next goes.1
      ∙ ap (λ (k : ℕ). transferred t (with_reg k s.pc s)) plain.0 ∙ nothing_linked t s.pc
      ∙ ap (λ (o : Operand). transferred (sum_address (reg s f.rs1) (second (reg s) o)) s) plain.1

  -- ---- services

  serves_some : (services : Services) (o : Option ℕ) (k : ℕ) → o ≡ Some k → serves services o s ≡ Goes next → (declares services k ≡ true) × (next ≡ advanced (served k s))
  serves_some services None k is e = absurd (cc)
  serves_some services (Some j) k is e =
      let same : j ≡ k = cc in
      let on = goes_if (declares services j) (Goes (advanced (served j s))) _ next e in
      (ap (declares services) (sym same) ∙ on.0, one_state (advanced (served j s)) next on.1 ∙ ap (λ (x : ℕ). advanced (served x s)) same)

  pub service_goes : (t : Trap) (k : ℕ) → service_of t ≡ Some k → performs parts fresh (TrapOnCondition t) s ≡ Goes next → (declares parts.services k ≡ true) × (next ≡ advanced (served k s))
  service_goes t k is e = serves_some parts.services (service_of t) k is (admitted_goes (TrapOnCondition t) e).1

  serves_none : (services : Services) (o : Option ℕ) → serves services o s ≡ Goes next → (k : ℕ) × (o ≡ Some k)
  serves_none services None e = absurd (cc)
  serves_none services (Some k) e = (k, refl)

  pub some_service : (t : Trap) → performs parts fresh (TrapOnCondition t) s ≡ Goes next → (k : ℕ) × (service_of t ≡ Some k)
  some_service t e = serves_none parts.services (service_of t) (admitted_goes (TrapOnCondition t) e).1
