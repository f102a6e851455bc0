-- How each step moves the frames: SAVE pushes one, RESTORE pops one, all else leaves as many as there were.
use Rattle.std.proofs.Common.{◌≡◌, ℕ, zero, suc, ◌-◌, ◌%◌, ◌^◌, List, [], ◌∷◌, length, Option, Some, None, refl, sym, ap, ◌∙◌}
use Rattle.std.specs.Prelude.{◌==◌, ◌&&◌, ◌||◌, if◌then◌else◌}
use Rattle.v8_alu.specs.declared.AluOut.{AluOut}
use Rattle.v8_meaning.specs.Admitted.{is_admitted}
use Rattle.v8_meaning.specs.Operands.{address}
use Rattle.v8_meaning.specs.Transfers.{bytes_in, received, sent, size_of, writes_memory}
use Rattle.v8_meaning.specs.declared.operation.Operation.{Operation}
use Rattle.v8_meaning.specs.declared.operation.Operation.TheVariants.{Compute, Divide, TaggedTrap, SetHigh, ReadY, WriteY, ReadState, WriteState, Save, Restore}
use Rattle.v8_meaning.specs.declared.operation.Operation.TheVariants.{Call, BranchOnCondition, JumpAndLink, ReturnFromTrap, TrapOnCondition, Nothing, Illegal}
use Rattle.v8_meaning.specs.declared.operation.Operation.TheVariants.{FloatingPoint, Coprocessor}
use Rattle.v8_meaning.specs.declared.operation.Operation.TheVariants as operation
use Rattle.v8_meaning.specs.declared.operation.Transfer.{Transfer}
use Rattle.v8_alu.specs.Outcomes.{outcome, division_of, tagged_outcome}
use Rattle.sbx_image.specs.Parts.{Parts}
use Rattle.sbx_image.specs.Services.{Services}
use Rattle.sbx_flat.specs.Effects.{address_in, declares, does, found, gets, high_word, is_base, is_stack_pointer, leaves_in_data, leaves_in_slot, operand_value}
use Rattle.sbx_flat.specs.Effects.{performs, restores, served, serves, service_of, slot_of, takes, transfers_data, transfers_in, with_regs, writes, writes_some}
use Rattle.sbx_flat.specs.Memory.{with_number}
use Rattle.sbx_flat.specs.Registers.{Frame, Fresh, Registers, Words, popped, pushed, with_in, with_slot, written}
use Rattle.sbx_flat.specs.declared.path.Wrong.{Wrong}
use Rattle.sbx_flat.specs.declared.path.Wrong.TheVariants.{NotAdmitted, Misaligned, ZeroDivisor, TagOverflow, NoService, BadFrame, StackPointer}
use Rattle.sbx_flat.specs.States.{State, reg, with_reg, advanced, transferred, Turn, Goes, Fails, Over}
use Rattle.sbx_flat.proofs.Kept.{by_class, pick}

-- how many frames are pushed above the first
abbrev pub above : State → ℕ
above s = length s.registers.older

-- what a step does to the frames; a SAVE doesn't end the run
abbrev pub Frames : Operation → State → State → Type 0
Frames (Save f) s next = (above next ≡ suc (above s)) × (next.exit ≡ s.exit)
Frames (Restore f) s next = suc (above next) ≡ above s
Frames _ s next = above next ≡ above s

-- where a turn goes on, it goes on to such a state
abbrev pub Comes : (State → Type 0) → Turn → Type 0
Comes P (Goes next) = P next
Comes P (Fails why) = Unit {0}
Comes P Over = Unit {0}

-- ---- writes

written_in : (n v count : ℕ) (globals : Words) (newest : Frame) (older : List Frame) (oldest : Words) → length older ≡ count →
    let file : Registers = record { globals = globals; newest = newest; older = older; oldest_ins = oldest } in
    length (with_in n v file).older ≡ count
written_in n v count globals newest [] oldest h = h
written_in n v count globals newest (f ∷ fs) oldest h = h

-- a written register leaves the frames
pub written_keeps : (n v count : ℕ) (file : Registers) → length file.older ≡ count → length (written n v file).older ≡ count
written_keeps n v count file h = by_class (λ r. length r.older ≡ count) n v file h h (λ low high. h) h (λ high. written_in n v count file.globals file.newest file.older file.oldest_ins h)

module _ (count : ℕ) where
  abbrev Has : State → Type 0
  Has s = above s ≡ count

  writes_keeps : (n v : ℕ) (s : State) → Has s → Comes Has (writes n v s)
  writes_keeps n v s h = pick (Comes Has) ((n == 14) || (n == 30)) (Fails StackPointer) (Goes (advanced (with_reg n v s))) (λ e. tt) (λ e. written_keeps n v count s.registers h)

  some_keeps : (rd : ℕ) (why : Wrong) (o : Option AluOut) (s : State) → Has s → Comes Has (writes_some rd why o s)
  some_keeps rd why None s h = tt
  some_keeps rd why (Some out) s h = writes_keeps rd out.value (record s { icc = out.icc; y = out.y }) h

  regs_keep : (words : List (ℕ × ℕ)) (s : State) → Has s → Has (with_regs words s)
  regs_keep [] s h = h
  regs_keep (w ∷ rest) s h = written_keeps w.0 w.1 count (with_regs rest s).registers (regs_keep rest s h)

  takes_keeps : (words : List (ℕ × ℕ)) (s : State) → Has s → Comes Has (takes words s)
  takes_keeps words s h = pick (Comes Has) (is_stack_pointer words) (Fails StackPointer) (Goes (advanced (with_regs words s))) (λ e. tt) (λ e. regs_keep words s h)

  -- ---- loads and stores

  data_keeps : (t : Transfer) (rd a : ℕ) (o : Option ℕ) (s : State) → Has s → Comes Has (transfers_data t rd a o s)
  data_keeps t rd a None s h = tt
  data_keeps t rd a (Some n) s h =
      takes_keeps (received t rd n) (leaves_in_data t a (sent (reg s) t rd) s)
      (pick Has (writes_memory t) (record s { memory = with_number s.memory a (bytes_in (size_of t)) (sent (reg s) t rd) }) s (λ e. h) (λ e. h))

  transfer_keeps : (parts : Parts) (t : Transfer) (rd a : ℕ) (o : Option ℕ) (s : State) → Has s → Comes Has (transfers_in parts t rd a o s)
  transfer_keeps parts t rd a None s h = data_keeps t rd a (found parts t a s.memory) s h
  transfer_keeps parts t rd a (Some word) s h =
      takes_keeps (received t rd word) (leaves_in_slot t a (sent (reg s) t rd) s)
      (pick Has (writes_memory t) (record s { registers = with_slot a (sent (reg s) t rd) s.registers }) s (λ e. h) (λ e. h))

  -- ---- services

  got : (input : List ℕ) (s : State) → Has s → Has (gets input s)
  got [] s h = written_keeps 8 (2 ^ 32 - 1) count s.registers h
  got (byte ∷ rest) s h = written_keeps 8 byte count s.registers h

  served_keeps : (n : ℕ) (s : State) → Has s → Has (served n s)
  served_keeps zero s h = h
  served_keeps (suc zero) s h = got s.input s h
  served_keeps (suc (suc n)) s h = h

  service_keeps : (services : Services) (o : Option ℕ) (s : State) → Has s → Comes Has (serves services o s)
  service_keeps services None s h = tt
  service_keeps services (Some n) s h = pick (Comes Has) (declares services n) (Goes (advanced (served n s))) (Fails NoService) (λ e. served_keeps n s h) (λ e. tt)

  jumped_keeps : (rd t : ℕ) (s : State) → Has s → Comes Has (if t % 4 == 0 then Goes (transferred t (with_reg rd s.pc s)) else Fails Misaligned)
  jumped_keeps rd t s h = pick (Comes Has) (t % 4 == 0) (Goes (transferred t (with_reg rd s.pc s))) (Fails Misaligned) (λ e. written_keeps rd s.pc count s.registers h) (λ e. tt)

-- ---- frames

saved_frames : (parts : Parts) (fresh : Fresh) (rd b : ℕ) (s : State)
    → Comes (λ next. (above next ≡ suc (above s)) × (next.exit ≡ s.exit))
    (if (rd == 14) && is_base parts (reg s 14) b then Goes (advanced (record s { registers = pushed fresh b s.registers })) else Fails BadFrame)
saved_frames parts fresh rd b s =
    pick (Comes (λ next. (above next ≡ suc (above s)) × (next.exit ≡ s.exit))) ((rd == 14) && is_base parts (reg s 14) b)
    (Goes (advanced (record s { registers = pushed fresh b s.registers }))) (Fails BadFrame)
    (λ e. (refl, refl)) (λ e. tt)

one_less : (globals : Words) (newest : Frame) (older : List Frame) (oldest : Words) (left : Registers) →
    let file : Registers = record { globals = globals; newest = newest; older = older; oldest_ins = oldest } in
    popped file ≡ Some left → suc (length left.older) ≡ length older
one_less globals newest [] oldest left e = absurd (cc)
one_less globals newest (f ∷ fs) oldest left e =
    let same : record { globals = globals; newest = f; older = fs; oldest_ins = oldest } ≡ left = some_is (record { globals = globals; newest = f; older = fs; oldest_ins = oldest }) left e in
    sym (ap (λ (r : Registers). suc (length r.older)) same)
  where
    some_is : (a b : Registers) → Some a ≡ Some b → a ≡ b
    some_is a b e = cc

restored_frames : (rd v : ℕ) (o : Option Registers) (s : State) → popped s.registers ≡ o → Comes (λ next. suc (above next) ≡ above s) (restores rd v o s)
restored_frames rd v None s e = tt
restored_frames rd v (Some file) s e =
    pick (Comes (λ next. suc (above next) ≡ above s)) ((rd == 14) || (rd == 30)) (Fails StackPointer) (Goes (advanced (with_reg rd v (record s { registers = file })))) (λ f. tt)
    (λ f. ap suc (written_keeps rd v (length file.older) file refl) ∙ one_less s.registers.globals s.registers.newest s.registers.older s.registers.oldest_ins file e)

-- ---- the step

does_frames : (parts : Parts) (fresh : Fresh) (op : Operation) (s : State) → Comes (Frames op s) (does parts fresh op s)
does_frames parts fresh (Compute op f) s =
    let out = outcome op (reg s f.rs1) (operand_value s f.operand2) s.icc s.y in
    writes_keeps (above s) f.rd out.value (record s { icc = out.icc; y = out.y }) refl
does_frames parts fresh (Divide op f) s = some_keeps (above s) f.rd ZeroDivisor (division_of op (reg s f.rs1) (operand_value s f.operand2) s.icc s.y) s refl
does_frames parts fresh (TaggedTrap op f) s = some_keeps (above s) f.rd TagOverflow (tagged_outcome op (reg s f.rs1) (operand_value s f.operand2) s.icc s.y) s refl
does_frames parts fresh (SetHigh f) s = writes_keeps (above s) f.rd (high_word f) s refl
does_frames parts fresh (ReadY rd) s = writes_keeps (above s) rd s.y s refl
does_frames parts fresh (WriteY f) s = refl
does_frames parts fresh (operation.Transfer t m) s =
    let a = address_in s m in
    pick (Comes (λ next. above next ≡ above s)) (a % bytes_in (size_of t) == 0) (transfers_in parts t m.rd a (slot_of t s a) s) (Fails Misaligned)
    (λ e. transfer_keeps (above s) parts t m.rd a (slot_of t s a) s refl) (λ e. tt)
does_frames parts fresh (Save f) s = saved_frames parts fresh f.rd (address (reg s) f.rs1 f.operand2) s
does_frames parts fresh (Restore f) s = restored_frames f.rd (address (reg s) f.rs1 f.operand2) (popped s.registers) s refl
does_frames parts fresh (Call displacement) s = written_keeps 15 s.pc (above s) s.registers refl
does_frames parts fresh (BranchOnCondition b) s = refl
does_frames parts fresh (JumpAndLink f) s = jumped_keeps (above s) f.rd (address (reg s) f.rs1 f.operand2) s refl
does_frames parts fresh (TrapOnCondition t) s = service_keeps (above s) parts.services (service_of t) s refl
does_frames parts fresh (ReadState r rd) s = tt
does_frames parts fresh (WriteState r f) s = tt
does_frames parts fresh (ReturnFromTrap f) s = tt
does_frames parts fresh Nothing s = tt
does_frames parts fresh Illegal s = tt
does_frames parts fresh FloatingPoint s = tt
does_frames parts fresh Coprocessor s = tt

-- whether sandboxed code may have the operation or not
pub performed_frames : (parts : Parts) (fresh : Fresh) (op : Operation) (s : State) → Comes (Frames op s) (performs parts fresh op s)
performed_frames parts fresh op s = pick (Comes (Frames op s)) (is_admitted op) (does parts fresh op s) (Fails NotAdmitted) (λ e. does_frames parts fresh op s) (λ e. tt)
