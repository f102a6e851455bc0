-- Each word that is no transfer of control and no service goes on to nPC, and the word behind that comes next.
use Rattle.std.proofs.Common.{◌≡◌, ℕ, ◌%◌, true, List, [], ◌∷◌, Option, Some, None, refl, ap, ◌∙◌, subst}
use Rattle.std.specs.Prelude.{◌==◌, ◌&&◌, ◌||◌, if◌then◌else◌}
use Rattle.v8_alu.specs.declared.AluOut.{AluOut}
use Rattle.v8_alu.specs.Outcomes.{outcome, division_of, tagged_outcome}
use Rattle.v8_meaning.specs.Admitted.{is_admitted}
use Rattle.v8_meaning.specs.Operands.{address, following}
use Rattle.v8_meaning.specs.Transfers.{bytes_in, received, sent, size_of, writes_memory}
use Rattle.v8_meaning.specs.declared.operation.Operation.{Operation}
use Rattle.v8_meaning.specs.declared.operation.Operation.TheVariants.{Compute, Divide, TaggedTrap, SetHigh, ReadY, WriteY, ReadState, WriteState, Save, Restore}
use Rattle.v8_meaning.specs.declared.operation.Operation.TheVariants.{Call, BranchOnCondition, JumpAndLink, ReturnFromTrap, TrapOnCondition, Nothing, Illegal}
use Rattle.v8_meaning.specs.declared.operation.Operation.TheVariants.{FloatingPoint, Coprocessor}
use Rattle.v8_meaning.specs.declared.operation.Operation.TheVariants as operation
use Rattle.v8_meaning.specs.declared.operation.Transfer.{Transfer}
use Rattle.sbx_image.specs.Parts.{Parts}
use Rattle.sbx_flat.specs.Effects.{address_in, does, found, high_word, is_base, is_stack_pointer, leaves_in_data, leaves_in_slot, operand_value}
use Rattle.sbx_flat.specs.Effects.{performs, restores, slot_of, takes, transfers_data, transfers_in, with_regs, writes, writes_some}
use Rattle.sbx_flat.specs.Memory.{with_number}
use Rattle.sbx_flat.specs.Registers.{Fresh, Registers, popped, pushed, with_slot}
use Rattle.sbx_flat.specs.declared.path.Wrong.{Wrong}
use Rattle.sbx_flat.specs.declared.path.Wrong.TheVariants.{NotAdmitted, Misaligned, ZeroDivisor, TagOverflow, BadFrame, StackPointer}
use Rattle.sbx_flat.specs.States.{State, reg, with_reg, advanced, Turn, Goes, Fails, Over}
use Rattle.sbx_flat.proofs.Kept.{pick}
use Rattle.native_results.specs.Words.{is_straight}

-- where it goes on, it goes on to such a state
abbrev Comes : (State → Type 0) → Turn → Type 0
Comes P (Goes next) = P next
Comes P (Fails why) = Unit {0}
Comes P Over = Unit {0}

-- On to the next word, with nothing annulled that wasn't, and no exit word.
pub record GoesOnFrom (s next : State) : Type 0 where
  pub pc : next.pc ≡ s.npc
  pub npc : next.npc ≡ following s.npc
  pub annulled : next.annulled ≡ s.annulled
  pub exit : next.exit ≡ s.exit

module _ (old : State) where
  record Has (s : State) : Type 0 where
    npc : s.npc ≡ old.npc
    annulled : s.annulled ≡ old.annulled
    exit : s.exit ≡ old.exit

  abbrev On : State → Type 0
  On next = GoesOnFrom old next

  on : (s : State) → Has s → On (advanced s)
  on s h = record { pc = h.npc; npc = ap following h.npc; annulled = h.annulled; exit = h.exit }

  same : (s t : State) → t.npc ≡ s.npc → t.annulled ≡ s.annulled → t.exit ≡ s.exit → Has s → Has t
  same s t e a f h = record { npc = e ∙ h.npc; annulled = a ∙ h.annulled; exit = f ∙ h.exit }

  writes_on : (n v : ℕ) (s : State) → Has s → Comes On (writes n v s)
  writes_on n v s h =
      pick (Comes On) ((n == 14) || (n == 30)) (Fails StackPointer) (Goes (advanced (with_reg n v s))) (λ e. tt)
      (λ e. on (with_reg n v s) (same s (with_reg n v s) refl refl refl h))

  some_on : (rd : ℕ) (why : Wrong) (o : Option AluOut) (s : State) → Has s → Comes On (writes_some rd why o s)
  some_on rd why None s h = tt
  some_on rd why (Some out) s h =
      let t : State = record s { icc = out.icc; y = out.y } in writes_on rd out.value t (same s t refl refl refl h)

  regs_on : (words : List (ℕ × ℕ)) (s : State) → Has s → Has (with_regs words s)
  regs_on [] s h = h
  regs_on (w ∷ rest) s h = let t = with_regs rest s in same t (with_reg w.0 w.1 t) refl refl refl (regs_on rest s h)

  takes_on : (words : List (ℕ × ℕ)) (s : State) → Has s → Comes On (takes words s)
  takes_on words s h =
      pick (Comes On) (is_stack_pointer words) (Fails StackPointer) (Goes (advanced (with_regs words s))) (λ e. tt)
      (λ e. on (with_regs words s) (regs_on words s h))

  data_on : (t : Transfer) (rd a : ℕ) (o : Option ℕ) (s : State) → Has s → Comes On (transfers_data t rd a o s)
  data_on t rd a None s h = tt
  data_on t rd a (Some n) s h =
      let left : State = record s { memory = with_number s.memory a (bytes_in (size_of t)) (sent (reg s) t rd) } in
      takes_on (received t rd n) (leaves_in_data t a (sent (reg s) t rd) s)
      (pick Has (writes_memory t) left s (λ e. same s left refl refl refl h) (λ e. h))

  transfer_on : (parts : Parts) (t : Transfer) (rd a : ℕ) (o : Option ℕ) (s : State) → Has s → Comes On (transfers_in parts t rd a o s)
  transfer_on parts t rd a None s h = data_on t rd a (found parts t a s.memory) s h
  transfer_on parts t rd a (Some word) s h =
      let left : State = record s { registers = with_slot a (sent (reg s) t rd) s.registers } in
      takes_on (received t rd word) (leaves_in_slot t a (sent (reg s) t rd) s)
      (pick Has (writes_memory t) left s (λ e. same s left refl refl refl h) (λ e. h))

  saves_on : (parts : Parts) (fresh : Fresh) (rd b : ℕ) (s : State) → Has s →
      Comes On (if (rd == 14) && is_base parts (reg s 14) b then Goes (advanced (record s { registers = pushed fresh b s.registers })) else Fails BadFrame)
  saves_on parts fresh rd b s h =
      let t : State = record s { registers = pushed fresh b s.registers } in
      pick (Comes On) ((rd == 14) && is_base parts (reg s 14) b) (Goes (advanced t)) (Fails BadFrame) (λ e. on t (same s t refl refl refl h)) (λ e. tt)

  restores_on : (rd v : ℕ) (o : Option Registers) (s : State) → Has s → Comes On (restores rd v o s)
  restores_on rd v None s h = tt
  restores_on rd v (Some file) s h = let t : State = record s { registers = file } in writes_on rd v t (same s t refl refl refl h)

module _ (parts : Parts) (fresh : Fresh) where
  here : (s : State) → Has s s
  here s = record { npc = refl; annulled = refl; exit = refl }

  does_on : (op : Operation) (s : State) → is_straight op ≡ true → Comes (GoesOnFrom s) (does parts fresh op s)
  does_on (Compute op f) s straight =
      let out = outcome op (reg s f.rs1) (operand_value s f.operand2) s.icc s.y in
      let t : State = record s { icc = out.icc; y = out.y } in
      writes_on s f.rd out.value t (same s s t refl refl refl (here s))
  does_on (Divide op f) s straight = some_on s f.rd ZeroDivisor (division_of op (reg s f.rs1) (operand_value s f.operand2) s.icc s.y) s (here s)
  does_on (TaggedTrap op f) s straight = some_on s f.rd TagOverflow (tagged_outcome op (reg s f.rs1) (operand_value s f.operand2) s.icc s.y) s (here s)
  does_on (SetHigh f) s straight = writes_on s f.rd (high_word f) s (here s)
  does_on (ReadY rd) s straight = writes_on s rd s.y s (here s)
  does_on (WriteY f) s straight = record { pc = refl; npc = refl; annulled = refl; exit = refl }
  does_on (operation.Transfer t m) s straight =
      let a = address_in s m in
      pick (Comes (GoesOnFrom s)) (a % bytes_in (size_of t) == 0) (transfers_in parts t m.rd a (slot_of t s a) s) (Fails Misaligned)
      (λ e. transfer_on s parts t m.rd a (slot_of t s a) s (here s)) (λ e. tt)
  does_on (Save f) s straight = saves_on s parts fresh f.rd (address (reg s) f.rs1 f.operand2) s (here s)
  does_on (Restore f) s straight = restores_on s f.rd (address (reg s) f.rs1 f.operand2) (popped s.registers) s (here s)
  does_on (Call displacement) s straight = absurd (cc)
  does_on (BranchOnCondition b) s straight = absurd (cc)
  does_on (JumpAndLink f) s straight = absurd (cc)
  does_on (TrapOnCondition t) s straight = absurd (cc)
  does_on (ReadState r rd) s straight = tt
  does_on (WriteState r f) s straight = tt
  does_on (ReturnFromTrap f) s straight = tt
  does_on Nothing s straight = tt
  does_on Illegal s straight = tt
  does_on FloatingPoint s straight = tt
  does_on Coprocessor s straight = tt

  performed : (op : Operation) (s : State) → is_straight op ≡ true → Comes (GoesOnFrom s) (performs parts fresh op s)
  performed op s straight = pick (Comes (GoesOnFrom s)) (is_admitted op) (does parts fresh op s) (Fails NotAdmitted) (λ e. does_on op s straight) (λ e. tt)

  pub goes_on_from : (op : Operation) (s next : State) → is_straight op ≡ true → performs parts fresh op s ≡ Goes next → GoesOnFrom s next
  goes_on_from op s next straight e = subst (Comes (GoesOnFrom s)) e (performed op s straight)
