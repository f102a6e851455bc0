-- A state without an exit word is never over: it goes on, or it is wrong.
use Rattle.std.proofs.Common.{◌≡◌, ℕ, Bool, true, false, List, Option, Some, None, refl, ap, ◌∙◌}
use Rattle.std.specs.Prelude.{◌%◌, ◌==◌, ◌&&◌, ◌||◌, if◌then◌else◌}
use Rattle.v8_alu.specs.declared.AluOut.{AluOut}
use Rattle.v8_alu.specs.Outcomes.{outcome, division_of, tagged_outcome}
use Rattle.v8_meaning.specs.Admitted.{is_admitted}
use Rattle.v8_meaning.specs.Operands.{address}
use Rattle.v8_meaning.specs.Transfers.{bytes_in, size_of, sent, received}
use Rattle.v8_meaning.specs.declared.operation.Operation.{Operation}
use Rattle.v8_meaning.specs.declared.operation.Operation.TheVariants.{Compute, Divide, TaggedTrap, SetHigh, ReadY, WriteY, ReadState, WriteState, Save, Restore}
use Rattle.v8_meaning.specs.declared.operation.Operation.TheVariants.{Call, BranchOnCondition, JumpAndLink, ReturnFromTrap, TrapOnCondition, Nothing, Illegal}
use Rattle.v8_meaning.specs.declared.operation.Operation.TheVariants.{FloatingPoint, Coprocessor}
use Rattle.v8_meaning.specs.declared.operation.Operation.TheVariants as operation
use Rattle.v8_meaning.specs.declared.operation.Transfer.{Transfer}
use Rattle.sbx_image.specs.Parts.{Parts}
use Rattle.sbx_image.specs.Services.{Services}
use Rattle.sbx_flat.specs.Effects.{address_in, declares, does, found, high_word, is_base, is_stack_pointer, leaves_in_data, leaves_in_slot, operand_value}
use Rattle.sbx_flat.specs.Effects.{restores, served, serves, service_of, slot_of, takes, transfers_data, transfers_in, with_regs, writes, writes_some}
use Rattle.sbx_flat.specs.Registers.{Fresh, IsFresh, Registers, popped, pushed}
use Rattle.sbx_flat.specs.States.{State, reg, with_reg, advanced, transferred, Turn, Goes, Fails, Over, Wrong, NotAdmitted, Misaligned, ZeroDivisor, TagOverflow, NoService, BadFrame, StackPointer}
use Rattle.sbx_flat.specs.Turns.{IsWrong, asked, fetches, goes_on, turn, word_at}

abbrev is_over : Turn → Bool
is_over (Goes next) = false
is_over (Fails why) = false
is_over Over = true

-- a test decides between two that are not over
fails_or : (b : Bool) (why : Wrong) (next : State) → is_over (if b then Fails why else Goes next) ≡ false
fails_or true why next = refl
fails_or false why next = refl

or_fails : (b : Bool) (why : Wrong) (t : Turn) → is_over t ≡ false → is_over (if b then t else Fails why) ≡ false
or_fails true why t e = e
or_fails false why t e = refl

written_goes : (n v : ℕ) (s : State) → is_over (writes n v s) ≡ false
written_goes n v s = fails_or ((n == 14) || (n == 30)) StackPointer (advanced (with_reg n v s))

some_goes : (rd : ℕ) (why : Wrong) (o : Option AluOut) (s : State) → is_over (writes_some rd why o s) ≡ false
some_goes rd why None s = refl
some_goes rd why (Some out) s = written_goes rd out.value (record s { icc = out.icc; y = out.y })

taken : (words : List (ℕ × ℕ)) (s : State) → is_over (takes words s) ≡ false
taken words s = fails_or (is_stack_pointer words) StackPointer (advanced (with_regs words s))

data_goes : (t : Transfer) (rd a : ℕ) (o : Option ℕ) (s : State) → is_over (transfers_data t rd a o s) ≡ false
data_goes t rd a None s = refl
data_goes t rd a (Some number) s = taken (received t rd number) (leaves_in_data t a (sent (reg s) t rd) s)

transfer_goes : (parts : Parts) (t : Transfer) (rd a : ℕ) (o : Option ℕ) (s : State) → is_over (transfers_in parts t rd a o s) ≡ false
transfer_goes parts t rd a None s = data_goes t rd a (found parts t a s.memory) s
transfer_goes parts t rd a (Some word) s = taken (received t rd word) (leaves_in_slot t a (sent (reg s) t rd) s)

restored_goes : (rd v : ℕ) (o : Option Registers) (s : State) → is_over (restores rd v o s) ≡ false
restored_goes rd v None s = refl
restored_goes rd v (Some file) s = written_goes rd v (record s { registers = file })

served_goes : (services : Services) (o : Option ℕ) (s : State) → is_over (serves services o s) ≡ false
served_goes services None s = refl
served_goes services (Some n) s = or_fails (declares services n) NoService (Goes (advanced (served n s))) refl

does_goes : (parts : Parts) (fresh : Fresh) (op : Operation) (s : State) → is_over (does parts fresh op s) ≡ false
does_goes parts fresh (Compute op f) s = let out = outcome op (reg s f.rs1) (operand_value s f.operand2) s.icc s.y in written_goes f.rd out.value (record s { icc = out.icc; y = out.y })
does_goes parts fresh (Divide op f) s = some_goes f.rd ZeroDivisor (division_of op (reg s f.rs1) (operand_value s f.operand2) s.icc s.y) s
does_goes parts fresh (TaggedTrap op f) s = some_goes f.rd TagOverflow (tagged_outcome op (reg s f.rs1) (operand_value s f.operand2) s.icc s.y) s
does_goes parts fresh (SetHigh f) s = written_goes f.rd (high_word f) s
does_goes parts fresh (ReadY rd) s = written_goes rd s.y s
does_goes parts fresh (WriteY f) s = refl
does_goes parts fresh (operation.Transfer t m) s =
    let a = address_in s m in
    or_fails (a % bytes_in (size_of t) == 0) Misaligned (transfers_in parts t m.rd a (slot_of t s a) s) (transfer_goes parts t m.rd a (slot_of t s a) s)
does_goes parts fresh (Save f) s =
    let b = address (reg s) f.rs1 f.operand2 in
    or_fails ((f.rd == 14) && is_base parts (reg s 14) b) BadFrame (Goes (advanced (record s { registers = pushed fresh b s.registers }))) refl
does_goes parts fresh (Restore f) s = restored_goes f.rd (address (reg s) f.rs1 f.operand2) (popped s.registers) s
does_goes parts fresh (Call displacement) s = refl
does_goes parts fresh (BranchOnCondition b) s = refl
does_goes parts fresh (JumpAndLink f) s =
    let t = address (reg s) f.rs1 f.operand2 in
    or_fails (t % 4 == 0) Misaligned (Goes (transferred t (with_reg f.rd s.pc s))) refl
does_goes parts fresh (TrapOnCondition t) s = served_goes parts.services (service_of t) s
does_goes parts fresh (ReadState r rd) s = refl
does_goes parts fresh (WriteState r f) s = refl
does_goes parts fresh (ReturnFromTrap f) s = refl
does_goes parts fresh Nothing s = refl
does_goes parts fresh Illegal s = refl
does_goes parts fresh FloatingPoint s = refl
does_goes parts fresh Coprocessor s = refl

fetched_goes : (parts : Parts) (fresh : Fresh) (o : Option ℕ) (s : State) → is_over (fetches parts fresh o s) ≡ false
fetched_goes parts fresh None s = refl
fetched_goes parts fresh (Some word) s = or_fails (is_admitted (asked word)) NotAdmitted (does parts fresh (asked word) s) (does_goes parts fresh (asked word) s)

going : (parts : Parts) (fresh : Fresh) (s : State) (annulled : Bool) → is_over (goes_on parts fresh s None annulled) ≡ false
going parts fresh s true = refl
going parts fresh s false = fetched_goes parts fresh (word_at parts.words s.pc) s

never_over : (parts : Parts) (fresh : Fresh) (s : State) → s.exit ≡ None → is_over (turn parts fresh s) ≡ false
unfolding turn
never_over parts fresh s e = ap (λ x. is_over (goes_on parts fresh s x s.annulled)) e ∙ going parts fresh s s.annulled

by_turn : (parts : Parts) (fresh : Fresh) (s : State) (t : Turn) → IsFresh fresh → turn parts fresh s ≡ t → is_over t ≡ false → (IsWrong parts s → ⊥) →
    (next : State) × (turn parts fresh s ≡ Goes next)
by_turn parts fresh s (Goes next) is_fresh e on fine = (next, e)
by_turn parts fresh s (Fails why) is_fresh e on fine = absurd (fine (fresh, is_fresh, why, e))
by_turn parts fresh s Over is_fresh e on fine = absurd (cc)

-- a state that isn't wrong and has no exit word goes on, whatever the fresh words are
pub goes : (parts : Parts) (fresh : Fresh) (s : State) → IsFresh fresh → s.exit ≡ None → (IsWrong parts s → ⊥) → (next : State) × (turn parts fresh s ≡ Goes next)
goes parts fresh s is_fresh e fine = by_turn parts fresh s (turn parts fresh s) is_fresh refl (never_over parts fresh s e) fine
