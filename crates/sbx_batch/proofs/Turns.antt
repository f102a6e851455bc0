-- What a step of one board leaves of the entries of pages: a function of where it stands, what it reaches, and the base of the frame that it spills or fills.
use Rattle.std.proofs.Common.{◌≡◌, ℕ, zero, suc, ◌+◌, ◌-◌, ◌<◌, ◌≤◌, Bool, true, false, length, Option, Some, None, refl, sym, ap, ◌∙◌, subst, arith}
use Rattle.std.specs.Prelude.{◌&&◌}
use Rattle.v8_core.specs.Admitted.{is_admitted}
use Rattle.v8_core.specs.Spaces.{is_normal}
use Rattle.v8_core.specs.MemoryOperand.{MemoryOperand}
use Rattle.v8_core.specs.Three.{Three}
use Rattle.v8_core.specs.Transfer.{Transfer as Moving}
use Rattle.v8_core.specs.Transfers.{writes_memory}
use Rattle.v8_core.specs.Trap.{Trap}
use Rattle.v8_core.specs.Operation.{Operation}
use Rattle.v8_core.specs.Operation.TheVariants.{BranchOnCondition, Call, Compute, Coprocessor, Divide, FloatingPoint, Illegal, JumpAndLink, Nothing, ReadState}
use Rattle.v8_core.specs.Operation.TheVariants.{ReadY, Restore, ReturnFromTrap, Save, SetHigh, TaggedTrap, Transfer, TrapOnCondition, WriteState, WriteY}
use Rattle.v8_core.specs.MmuRegs.{MmuRegs}
use Rattle.v8_core.specs.declared.turn.Turn.{Turn}
use Rattle.v8_core.specs.Accesses.{World}
use Rattle.v8_loaded.specs.Board.{Device, board}
use Rattle.v8_loaded.specs.Turns.{world_after}
use Rattle.v8_loaded.specs.Users.{AsksFor, RunsUser}
use Rattle.v8_routines.specs.Services.{calls}
use Rattle.v8_routines.specs.Overflow.{stack_pointer as spilled_pointer}
use Rattle.v8_routines.specs.Underflow.{stack_pointer as refilled_pointer}
use Rattle.v8_board.specs.Start.{pages_of}
use Rattle.v8_marks.specs.Marks.{entry_at, reached}
use Rattle.v8_marks.specs.Handlers.{after_handler}
use Rattle.v8_marks.specs.Users.{after_reach, reach_of}
use Rattle.v8_marks.proofs.Overflow.{overflow_marks}
use Rattle.v8_marks.proofs.Underflow.{underflow_marks}
use Rattle.v8_marks.proofs.Services.{exit_marks, get_marks, put_marks}
use Rattle.v8_marks.proofs.Users.{plain_marks, ran_marks}
use Rattle.sbx_flat.specs.Parts.{Parts}
use Rattle.sbx_flat.specs.Calls.{base, depth}
use Rattle.sbx_flat.specs.Effects.{address_in}
use Rattle.sbx_flat.specs.States.{State}
use Rattle.sbx_flat.specs.Turns.{IsWrong}
use Rattle.sbx_flat.specs.declared.path.Wrong.TheVariants.{NoService}
use Rattle.sbx_shows.specs.Laws.{turns_of}
use Rattle.sbx_shows.specs.Shows.{Shows}
use Rattle.sbx_shows.specs.Steps.{Stands}
use Rattle.sbx_shows.proofs.Advancing.{annulled_turn, one_ran}
use Rattle.sbx_shows.proofs.Callers.{returns}
use Rattle.sbx_shows.proofs.Overflow as spilling
use Rattle.sbx_shows.proofs.Underflow as filling
use Rattle.sbx_shows.proofs.Places.{fails_not, fields, same_address, user}
use Rattle.sbx_shows.proofs.Services.{may_return}
use Rattle.sbx_shows.proofs.Transfers.{transfer_turn}
use Rattle.sbx_shows.proofs.Whole.{admitted, called}

-- what an operation reaches on the flat machine
abbrev pub flat_reach : State → Operation → Option (ℕ × Bool)
flat_reach s (Transfer t m) = Some (address_in s m, writes_memory t)
flat_reach s _ = None

-- ---- an annulled instruction

pub annulled_marks : (n : ℕ) (parts : Parts) (mmu : MmuRegs) (x : World n Device) (s : State) (r e : ℕ) → Shows n parts x s r → s.annulled ≡ true →
    entry_at (world_after board n mmu 1 x).memory.ram e ≡ entry_at x.memory.ram e
annulled_marks n parts mmu x s r e h annul =
    ap (λ (p : Turn × World n Device). entry_at p.1.memory.ram e) (annulled_turn n mmu x h.device.running h.control.sane (h.control.annul ∙ annul))

first_of : (a b : Bool) → (a && b) ≡ true → a ≡ true
first_of true b e = refl
first_of false b e = absurd (cc)

module _ (n : ℕ) (parts : Parts) (mmu : MmuRegs) (x : World n Device) (s : State) (r i : ℕ) (h : Stands n parts mmu x s r i) (good : IsWrong parts s → ⊥) (e : ℕ) (less : e < 192) where
  -- after the fetch
  abbrev fetched : Option ℕ
  fetched = reached e s.pc false (entry_at x.memory.ram e)

  here : RunsUser n (pages_of parts) parts.words mmu x i
  here = user n parts mmu x s r i h

  same_fetch : reached e x.cpu.control.pc false (entry_at x.memory.ram e) ≡ fetched
  same_fetch = ap (λ p. reached e p false (entry_at x.memory.ram e)) h.shows.control.pc

  -- ---- an operation without a window trap

  plain : (op : Operation) → AsksFor parts.words i op → reach_of n x.cpu op ≡ None → entry_at (world_after board n mmu 1 x).memory.ram e ≡ fetched
  plain op is none = plain_marks n (pages_of parts) parts.words mmu x i here e less op is none ∙ same_fetch

  moving : (t : Moving) (m : MemoryOperand) → AsksFor parts.words i (Transfer t m) → is_admitted (Transfer t m) ≡ true →
      entry_at (world_after board n mmu 1 x).memory.ram e ≡ reached e (address_in s m) (writes_memory t) fetched
  unfolding is_admitted
  moving t m is may =
      let one = transfer_turn n parts mmu x s r i h good t m is may in
      let fit = fields n parts mmu x s r i h (Transfer t m) is in
      ran_marks n (pages_of parts) parts.words mmu x i here e less (Transfer t m) is (one_ran n parts mmu x s r i h (Transfer t m) is may r one)
      ∙ ap (λ a. reached e a (writes_memory t) (reached e x.cpu.control.pc false (entry_at x.memory.ram e)))
      (same_address n parts mmu x s r i h m.rs1 m.operand2 fit.first (fit.second (first_of (is_normal m.space) _ may)))
      ∙ ap (reached e (address_in s m) (writes_memory t)) same_fetch

  by_service : (k : ℕ) → AsksFor parts.words i (calls k) → entry_at (world_after board n mmu (turns_of (calls k)) x).memory.ram e ≡ fetched
  unfolding is_admitted
  by_service zero is = exit_marks n (pages_of parts) parts.words mmu x i here e less is ∙ same_fetch
  by_service (suc zero) is = get_marks n (pages_of parts) parts.words mmu x i here e less (may_return n parts mmu x s r i h) is ∙ same_fetch
  by_service (suc (suc zero)) is = put_marks n (pages_of parts) parts.words mmu x i here e less (may_return n parts mmu x s r i h) is ∙ same_fetch
  by_service (suc (suc (suc k))) is = absurd (fails_not n parts mmu x s r i h (calls (suc (suc (suc k)))) is refl good NoService refl)

  serving : (t : Trap) → AsksFor parts.words i (TrapOnCondition t) → is_admitted (TrapOnCondition t) ≡ true → entry_at (world_after board n mmu (turns_of (TrapOnCondition t)) x).memory.ram e ≡ fetched
  unfolding is_admitted
  serving t is may =
      let c = called t.cond t.rs1 t.operand2 may in
      subst (λ (q : Trap). entry_at (world_after board n mmu (turns_of (TrapOnCondition q)) x).memory.ram e ≡ fetched) (sym c.is)
      (by_service c.number (subst (λ (q : Trap). AsksFor parts.words i (TrapOnCondition q)) c.is is))

  by_operation : (op : Operation) → AsksFor parts.words i op → is_admitted op ≡ true → entry_at (world_after board n mmu (turns_of op) x).memory.ram e ≡ after_reach e (flat_reach s op) fetched
  by_operation (Transfer t m) is may = moving t m is may
  by_operation (TrapOnCondition t) is may = serving t is may
  by_operation (Compute op f) is may = plain (Compute op f) is refl
  by_operation (Divide op f) is may = plain (Divide op f) is refl
  by_operation (TaggedTrap op f) is may = plain (TaggedTrap op f) is refl
  by_operation (SetHigh f) is may = plain (SetHigh f) is refl
  by_operation (ReadY rd) is may = plain (ReadY rd) is refl
  by_operation (WriteY f) is may = plain (WriteY f) is refl
  by_operation (Save f) is may = plain (Save f) is refl
  by_operation (Restore f) is may = plain (Restore f) is refl
  by_operation (Call d) is may = plain (Call d) is refl
  by_operation (BranchOnCondition b) is may = plain (BranchOnCondition b) is refl
  by_operation (JumpAndLink f) is may = plain (JumpAndLink f) is refl
  by_operation (ReadState q rd) is may = plain (ReadState q rd) is refl
  by_operation (WriteState q f) is may = plain (WriteState q f) is refl
  by_operation (ReturnFromTrap f) is may = plain (ReturnFromTrap f) is refl
  by_operation Nothing is may = plain Nothing is refl
  by_operation Illegal is may = plain Illegal is refl
  by_operation FloatingPoint is may = plain FloatingPoint is refl
  by_operation Coprocessor is may = plain Coprocessor is refl

  pub calm_marks : (op : Operation) → AsksFor parts.words i op → entry_at (world_after board n mmu (turns_of op) x).memory.ram e ≡ after_reach e (flat_reach s op) fetched
  calm_marks op is = by_operation op is (admitted n parts mmu x s r i h good op is)

  -- ---- a SAVE that finds no window

  pub spill_marks : (f : Three) → AsksFor parts.words i (Save f) → r + 1 ≡ n →
      entry_at (world_after board n mmu 25 x).memory.ram e ≡ reached e s.pc false (after_handler e s.pc (base s.registers (r - 1)) true (entry_at x.memory.ram e))
  spill_marks f is full =
      let mid = world_after board n mmu 24 x in
      let shown = spilling.overflow_shows n parts mmu x s r i h f is full in
      let again : Stands n parts mmu mid s (r - 1) i = record { fits = h.fits; root = h.root; shows = shown; straight = h.straight; place = h.place; within = h.within } in
      plain_marks n (pages_of parts) parts.words mmu mid i (user n parts mmu mid s (r - 1) i again) e less (Save f) is refl
      ∙ ap (λ p. reached e p false (entry_at mid.memory.ram e)) shown.control.pc
      ∙ ap (reached e s.pc false)
      (overflow_marks n (pages_of parts) parts.words mmu x i e (spilling.overflows n parts mmu x s r i h f is full) (spilling.room n parts mmu x s r i h f is full) less
      ∙ ap (λ p. after_handler e p (spilled_pointer n x.cpu) true (entry_at x.memory.ram e)) h.shows.control.pc
      ∙ ap (λ q. after_handler e s.pc q true (entry_at x.memory.ram e)) (spilling.pointer_is n parts mmu x s r i h f is full))

-- ---- a RESTORE that finds none

pub fill_marks : (n : ℕ) (parts : Parts) (mmu : MmuRegs) (x : World n Device) (s : State) (i : ℕ) → Stands n parts mmu x s 1 i → (IsWrong parts s → ⊥) →
    (e : ℕ) → e < 192 → (f : Three) → AsksFor parts.words i (Restore f) →
    entry_at (world_after board n mmu 25 x).memory.ram e ≡ reached e s.pc false (after_handler e s.pc (base s.registers 1) false (entry_at x.memory.ram e))
fill_marks n parts mmu x s i h good e less f is =
    let back = returns n parts mmu x s 1 i h f is good in
    let deep : length s.registers.older ≡ suc (length back.older) = ap length back.is in
    let two : 2 ≤ depth s.registers = omega arith in
    let mid = world_after board n mmu 24 x in
    let shown = filling.underflow_shows n parts mmu x s i h f is two in
    let again : Stands n parts mmu mid s 2 i = record { fits = h.fits; root = h.root; shows = shown; straight = h.straight; place = h.place; within = h.within } in
    plain_marks n (pages_of parts) parts.words mmu mid i (user n parts mmu mid s 2 i again) e less (Restore f) is refl
    ∙ ap (λ p. reached e p false (entry_at mid.memory.ram e)) shown.control.pc
    ∙ ap (reached e s.pc false)
    (underflow_marks n (pages_of parts) parts.words mmu x i e (filling.underflows n parts mmu x s i h f is two) (filling.frame n parts mmu x s i h f is two) less
    ∙ ap (λ p. after_handler e p (refilled_pointer n x.cpu) false (entry_at x.memory.ram e)) h.shows.control.pc
    ∙ ap (λ q. after_handler e s.pc q false (entry_at x.memory.ram e)) (filling.pointer_is n parts mmu x s i h f is two))

-- its caller is there
pub caller_there : (n : ℕ) (parts : Parts) (mmu : MmuRegs) (x : World n Device) (s : State) (i : ℕ) → Stands n parts mmu x s 1 i → (IsWrong parts s → ⊥) →
    (f : Three) → AsksFor parts.words i (Restore f) → 1 < depth s.registers
caller_there n parts mmu x s i h good f is =
    let back = returns n parts mmu x s 1 i h f is good in
    let deep : length s.registers.older ≡ suc (length back.older) = ap length back.is in
    omega arith
