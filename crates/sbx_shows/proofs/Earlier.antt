-- A state that a port had put something out before goes on as the same state would without: nothing reads the output.
use Rattle.std.proofs.Common.{◌≡◌, ℕ, zero, suc, ◌*◌, ◌%◌, ◌^◌, Bool, true, false, List, [], ◌∷◌, Option, Some, None, refl, sym, ap, ◌∙◌}
use Rattle.std.specs.Prelude.{◌==◌, ◌||◌, if◌then◌else◌}
use Rattle.std.proofs.lemmas.List.{append_assoc}
use Rattle.v8_core.specs.AluOut.{AluOut}
use Rattle.v8_core.specs.Outcomes.{division_of, tagged_outcome}
use Rattle.v8_core.specs.Size.TheVariants as sizes
use Rattle.v8_core.specs.Admitted.{is_admitted}
use Rattle.v8_core.specs.Operands.{address}
use Rattle.v8_core.specs.Transfers.{bytes_in, received, sent, size_of}
use Rattle.v8_core.specs.Loading.TheVariants as loadings
use Rattle.v8_core.specs.Operation.{Operation}
use Rattle.v8_core.specs.Operation.TheVariants.{BranchOnCondition, Call, Compute, Coprocessor, Divide, FloatingPoint, Illegal, JumpAndLink, Nothing, ReadState}
use Rattle.v8_core.specs.Operation.TheVariants.{ReadY, Restore, ReturnFromTrap, Save, SetHigh, TaggedTrap, TrapOnCondition, WriteState, WriteY}
use Rattle.v8_core.specs.Operation.TheVariants as operation
use Rattle.v8_core.specs.Transfer.{Transfer}
use Rattle.v8_core.specs.Transfer.TheVariants.{Load, Store, Exchange}
use Rattle.sbx_flat.specs.Parts.{Parts}
use Rattle.sbx_flat.specs.Services.{Services}
use Rattle.sbx_flat.specs.Effects.{aligned, declares, does, found, gets, is_stack_pointer, leaves_in_data, leaves_in_slot, operand_value, restores, served}
use Rattle.sbx_flat.specs.Effects.{serves, service_of, slot_of, takes, transfers_data, transfers_in, with_regs, writes, writes_some}
use Rattle.sbx_flat.specs.Registers.{Fresh, Registers, popped, written}
use Rattle.sbx_flat.specs.Runs.{place_of, reached_at, reached_by}
use Rattle.sbx_flat.specs.States.{Fails, Goes, Over, State, Turn, advanced, reg}
use Rattle.sbx_flat.specs.Turns.{IsWrong, Step, asked, fetches, goes_on, turn, word_at}
use Rattle.sbx_flat.specs.declared.path.Wrong.{Wrong}
use Rattle.sbx_flat.specs.declared.path.Wrong.TheVariants.{Misaligned, NoService, NotAdmitted, StackPointer, TagOverflow, ZeroDivisor}
use Rattle.sbx_shows.specs.WholeRuns.{with_earlier}

module _ (b : List ℕ) where
  -- what comes of the state with it
  abbrev along : Turn → Turn
  along (Goes t) = Goes (with_earlier b t)
  along (Fails why) = Fails why
  along Over = Over

  by_test : (c : Bool) (x y p q : Turn) → x ≡ along p → y ≡ along q → (if c then x else y) ≡ along (if c then p else q)
  by_test true x y p q e f = e
  by_test false x y p q e f = f

  writes_same : (n v : ℕ) (s : State) → writes n v (with_earlier b s) ≡ along (writes n v s)
  writes_same n v s = by_test ((n == 14) || (n == 30)) _ _ (Fails StackPointer) _ refl refl

  some_same : (rd : ℕ) (why : Wrong) (o : Option AluOut) (s : State) → writes_some rd why o (with_earlier b s) ≡ along (writes_some rd why o s)
  some_same rd why None s = refl
  some_same rd why (Some out) s = writes_same rd out.value (record s { icc = out.icc; y = out.y })

  -- ---- loads and stores

  slot_same : (t : Transfer) (s : State) (a : ℕ) → slot_of t (with_earlier b s) a ≡ slot_of t s a
  slot_same (Load loadings.UnsignedByte) s a = refl
  slot_same (Load loadings.SignedByte) s a = refl
  slot_same (Load loadings.UnsignedHalf) s a = refl
  slot_same (Load loadings.SignedHalf) s a = refl
  slot_same (Load loadings.Word) s a = refl
  slot_same (Load loadings.Double) s a = refl
  slot_same (Store sizes.Byte) s a = refl
  slot_same (Store sizes.Half) s a = refl
  slot_same (Store sizes.Word) s a = refl
  slot_same (Store sizes.Double) s a = refl
  slot_same (Exchange e) s a = refl

  regs_same : (words : List (ℕ × ℕ)) (s : State) → with_regs words (with_earlier b s) ≡ with_earlier b (with_regs words s)
  regs_same [] s = refl
  regs_same (w ∷ rest) s = ap (λ (t : State). record t { registers = written w.0 w.1 t.registers }) (regs_same rest s)

  takes_same : (words : List (ℕ × ℕ)) (s : State) → takes words (with_earlier b s) ≡ along (takes words s)
  takes_same words s = by_test (is_stack_pointer words) _ _ (Fails StackPointer) _ refl (ap (λ (t : State). Goes (advanced t)) (regs_same words s))

  in_slot_same : (t : Transfer) (a n : ℕ) (s : State) → leaves_in_slot t a n (with_earlier b s) ≡ with_earlier b (leaves_in_slot t a n s)
  in_slot_same (Load l) a n s = refl
  in_slot_same (Store size) a n s = refl
  in_slot_same (Exchange e) a n s = refl

  in_data_same : (t : Transfer) (a n : ℕ) (s : State) → leaves_in_data t a n (with_earlier b s) ≡ with_earlier b (leaves_in_data t a n s)
  in_data_same (Load l) a n s = refl
  in_data_same (Store size) a n s = refl
  in_data_same (Exchange e) a n s = refl

  data_same : (t : Transfer) (rd a : ℕ) (o : Option ℕ) (s : State) → transfers_data t rd a o (with_earlier b s) ≡ along (transfers_data t rd a o s)
  unfolding reg
  data_same t rd a None s = refl
  data_same t rd a (Some number) s = ap (takes (received t rd number)) (in_data_same t a (sent (reg s) t rd) s) ∙ takes_same (received t rd number) (leaves_in_data t a (sent (reg s) t rd) s)

  moved_same : (parts : Parts) (t : Transfer) (rd a : ℕ) (o : Option ℕ) (s : State) → transfers_in parts t rd a o (with_earlier b s) ≡ along (transfers_in parts t rd a o s)
  unfolding reg
  moved_same parts t rd a (Some word) s = ap (takes (received t rd word)) (in_slot_same t a (sent (reg s) t rd) s) ∙ takes_same (received t rd word) (leaves_in_slot t a (sent (reg s) t rd) s)
  moved_same parts t rd a None s = data_same t rd a (found parts t a s.memory) s

  transfers_same : (parts : Parts) (t : Transfer) (rd a : ℕ) (s : State) →
      aligned (bytes_in (size_of t)) a (transfers_in parts t rd a (slot_of t (with_earlier b s) a) (with_earlier b s)) ≡
      along (aligned (bytes_in (size_of t)) a (transfers_in parts t rd a (slot_of t s a) s))
  transfers_same parts t rd a s =
      by_test (a % bytes_in (size_of t) == 0) _ _ (transfers_in parts t rd a (slot_of t s a) s) (Fails Misaligned)
      (ap (λ o. transfers_in parts t rd a o (with_earlier b s)) (slot_same t s a) ∙ moved_same parts t rd a (slot_of t s a) s) refl

  -- ---- services

  gets_same : (l : List ℕ) (s : State) → gets l (with_earlier b s) ≡ with_earlier b (gets l s)
  gets_same [] s = refl
  gets_same (byte ∷ rest) s = refl

  served_same : (n : ℕ) (s : State) → served n (with_earlier b s) ≡ with_earlier b (served n s)
  unfolding reg
  served_same zero s = refl
  served_same (suc zero) s = gets_same s.input s
  served_same (suc (suc n)) s = ap (λ (o : List ℕ). record s { output = o }) (append_assoc b s.output ((reg s 8 % 2 ^ 8) ∷ []))

  serves_same : (services : Services) (o : Option ℕ) (s : State) → serves services o (with_earlier b s) ≡ along (serves services o s)
  serves_same services None s = refl
  serves_same services (Some n) s = by_test (declares services n) _ _ _ (Fails NoService) (ap (λ (t : State). Goes (advanced t)) (served_same n s)) refl

  -- ---- operations

  restores_same : (rd v : ℕ) (o : Option Registers) (s : State) → restores rd v o (with_earlier b s) ≡ along (restores rd v o s)
  restores_same rd v None s = refl
  restores_same rd v (Some file) s = writes_same rd v (record s { registers = file })

  does_same : (parts : Parts) (fresh : Fresh) (op : Operation) (s : State) → does parts fresh op (with_earlier b s) ≡ along (does parts fresh op s)
  unfolding reg
  does_same parts fresh (Compute op f) s = writes_same f.rd _ (record s { icc = _; y = _ })
  does_same parts fresh (Divide op f) s = some_same f.rd ZeroDivisor (division_of op (reg s f.rs1) (operand_value s f.operand2) s.icc s.y) s
  does_same parts fresh (TaggedTrap op f) s = some_same f.rd TagOverflow (tagged_outcome op (reg s f.rs1) (operand_value s f.operand2) s.icc s.y) s
  does_same parts fresh (SetHigh f) s = writes_same f.rd (f.imm22 * 2 ^ 10 % 2 ^ 32) s
  does_same parts fresh (ReadY rd) s = writes_same rd s.y s
  does_same parts fresh (WriteY f) s = refl
  does_same parts fresh (operation.Transfer t m) s = transfers_same parts t m.rd (address (reg s) m.rs1 m.operand2) s
  does_same parts fresh (Save f) s = by_test _ _ _ _ _ refl refl
  does_same parts fresh (Restore f) s = restores_same f.rd (address (reg s) f.rs1 f.operand2) (popped s.registers) s
  does_same parts fresh (Call displacement) s = refl
  does_same parts fresh (BranchOnCondition k) s = refl
  does_same parts fresh (JumpAndLink f) s = by_test (address (reg s) f.rs1 f.operand2 % 4 == 0) _ _ _ (Fails Misaligned) refl refl
  does_same parts fresh (TrapOnCondition t) s = serves_same parts.services (service_of t) s
  does_same parts fresh (ReadState r rd) s = refl
  does_same parts fresh (WriteState r f) s = refl
  does_same parts fresh (ReturnFromTrap f) s = refl
  does_same parts fresh Nothing s = refl
  does_same parts fresh Illegal s = refl
  does_same parts fresh FloatingPoint s = refl
  does_same parts fresh Coprocessor s = refl

  fetches_same : (parts : Parts) (fresh : Fresh) (o : Option ℕ) (s : State) → fetches parts fresh o (with_earlier b s) ≡ along (fetches parts fresh o s)
  fetches_same parts fresh None s = refl
  fetches_same parts fresh (Some word) s = by_test (is_admitted (asked word)) _ _ (does parts fresh (asked word) s) (Fails NotAdmitted) (does_same parts fresh (asked word) s) refl

  goes_same : (parts : Parts) (fresh : Fresh) (s : State) (exit : Option ℕ) (annulled : Bool) → goes_on parts fresh (with_earlier b s) exit annulled ≡ along (goes_on parts fresh s exit annulled)
  goes_same parts fresh s (Some status) annulled = refl
  goes_same parts fresh s None true = refl
  goes_same parts fresh s None false = fetches_same parts fresh (word_at parts.words s.pc) s

  turn_same : (parts : Parts) (fresh : Fresh) (s : State) → turn parts fresh (with_earlier b s) ≡ along (turn parts fresh s)
  unfolding turn
  turn_same parts fresh s = goes_same parts fresh s s.exit s.annulled

  -- ---- steps and places

  pub earlier_step : (parts : Parts) (s to : State) → Step parts (with_earlier b s) to → (t : State) × Step parts s t × (to ≡ with_earlier b t)
  earlier_step parts s to (fresh, words, goes) = by_turn (turn parts fresh s) refl (sym (turn_same parts fresh s) ∙ goes)
    where
      by_turn : (k : Turn) → turn parts fresh s ≡ k → along k ≡ Goes to → (t : State) × Step parts s t × (to ≡ with_earlier b t)
      by_turn (Goes t) e f = (t, (fresh, words, e), cc)
      by_turn (Fails why) e f = absurd (cc)
      by_turn Over e f = absurd (cc)

  pub earlier_wrong : (parts : Parts) (s : State) → IsWrong parts (with_earlier b s) → IsWrong parts s
  earlier_wrong parts s (fresh, words, why, fails) = by_turn (turn parts fresh s) refl (sym (turn_same parts fresh s) ∙ fails)
    where
      by_turn : (k : Turn) → turn parts fresh s ≡ k → along k ≡ Fails why → IsWrong parts s
      by_turn (Goes t) e f = absurd (cc)
      by_turn (Fails other) e f = (fresh, words, other, e)
      by_turn Over e f = absurd (cc)

  reached_same : (op : Operation) (s : State) → reached_by op (with_earlier b s) ≡ reached_by op s
  unfolding reg
  reached_same (operation.Transfer t m) s = refl
  reached_same _ s = refl

  reached_word : (o : Option ℕ) (s : State) → reached_at o (with_earlier b s) ≡ reached_at o s
  reached_word None s = refl
  reached_word (Some word) s = reached_same (asked word) s

  pub earlier_place : (parts : Parts) (s : State) → place_of parts (with_earlier b s) ≡ place_of parts s
  unfolding place_of
  earlier_place parts s =
      ap (λ (o : Option ℕ). record { pc = s.pc; annulled = s.annulled; address = if s.annulled then None else o }) (reached_word (word_at parts.words s.pc) s)
