-- What an operation of user code does, whichever it is.
use Rattle.std.proofs.Common.{◌≡◌, ℕ, ◌+◌, ◌*◌, ◌%◌, ◌^◌, ◌<◌, ◌≤◌, Bool, true, false, cond, List, [], ◌∷◌, Option, Some, None, IfSome, refl, sym, ap, ◌∙◌, subst, arith, lit<}
use Rattle.std.specs.Prelude.{◌&&◌, not, find}
use Rattle.v8_core.specs.Conditions.{holds}
use Rattle.v8_core.specs.Branch.{Branch}
use Rattle.v8_core.specs.Two.{Two}
use Rattle.v8_core.specs.AluOut.{AluOut}
use Rattle.v8_core.specs.Operands.{annuls, following, target}
use Rattle.v8_core.specs.Spaces.{is_normal}
use Rattle.v8_core.specs.Transfers.{received, sent, size_of, writes_memory}
use Rattle.v8_core.specs.MemoryOperand.{MemoryOperand}
use Rattle.v8_core.specs.Operation.{Operation}
use Rattle.v8_core.specs.Operation.TheVariants.{Compute, Divide, TaggedTrap, SetHigh, ReadY, WriteY, ReadState, WriteState, Transfer, Save, Restore, Call}
use Rattle.v8_core.specs.Operation.TheVariants.{BranchOnCondition, JumpAndLink, ReturnFromTrap, TrapOnCondition, Nothing, Illegal, FloatingPoint, Coprocessor}
use Rattle.v8_core.specs.Transfer.{Transfer as Moving}
use Rattle.v8_core.specs.Space.{Space}
use Rattle.v8_core.specs.Space.TheVariants as spaces
use Rattle.v8_core.specs.StateRegister.{StateRegister}
use Rattle.v8_core.specs.StateRegister.TheVariants.{Psr, Wim, Tbr}
use Rattle.v8_core.specs.Access.{Access}
use Rattle.v8_core.specs.MmuRegs.{MmuRegs}
use Rattle.v8_core.specs.Walked.{root_of}
use Rattle.v8_core.specs.Windows.{Windows, above, below, moved, with_reg}
use Rattle.v8_windows.proofs.AfterWrites.{above_less}
use Rattle.v8_core.specs.Control.{Control}
use Rattle.v8_core.specs.Cpu.{Cpu}
use Rattle.v8_core.specs.Effects.{reg, address_of, advanced, jumped, branched, stepped, written, with_regs, taken, computed, computed_from, quotient_from, tagged_from, effect}
use Rattle.v8_core.specs.Traps.{applies, memory_applies, state_applies, first_trap, by_priority, software_of}
use Rattle.v8_core.specs.declared.access.Moved.{Moved}
use Rattle.v8_core.specs.declared.access.Moved.TheVariants.{Done, Fault}
use Rattle.v8_core.specs.declared.turn.Outcome.{Outcome}
use Rattle.v8_core.specs.Memory.{Memory, moves}
use Rattle.v8_core.specs.Accesses.{World, world, faulted, place_of, access_of, data_kind, transfer_ends, transfers}
use Rattle.v8_core.specs.Steps.{acts}
use Rattle.v8_loaded.specs.Layout.{Pages, AreFew}
use Rattle.v8_loaded.specs.Board.{Device, board}
use Rattle.v8_contained.specs.Contained.{Contents, IsKept, IsShaped, IsUser, IsOwnAccess}
use Rattle.v8_contained.proofs.Shapes.{shaped_reg, shaped_regs, shaped_moved, below_less}
use Rattle.v8_contained.proofs.Accesses.{mem_of, data_access, MoveIs, move_is}

-- ---- traps

pub AreSmall : List ℕ → Type 0
AreSmall [] = Unit
AreSmall (x ∷ xs) = (x < 256) × AreSmall xs

found_small : (p : ℕ → Bool) (xs : List ℕ) (t : ℕ) → AreSmall xs → find p xs ≡ Some t → t < 256
unfolding AreSmall
found_small p [] t small e = cc
found_small p (x ∷ xs) t small e = by_test (p x) refl (found_small p xs t small.1)
  where
    by_test : (b : Bool) → p x ≡ b → (find p xs ≡ Some t → t < 256) → t < 256
    by_test true is rest = let same : Some x ≡ Some t = rw is at e in let eq : x ≡ t = cc in subst (λ k. k < 256) eq small.0
    by_test false is rest = rest (rw is at e)

software_small : (n : ℕ) (cpu : Cpu n) (i : Operation) → software_of n cpu i < 256
software_small n cpu (TrapOnCondition i) = omega arith
software_small n cpu _ = lit< tt

pub trap_small : (n : ℕ) (cpu : Cpu n) (i : Operation) (t : ℕ) → first_trap n cpu i ≡ Some t → t < 256
unfolding AreSmall
trap_small n cpu i t e =
    found_small (applies n cpu i) (by_priority (software_of n cpu i)) t
    (lit< tt, (lit< tt, (lit< tt, (lit< tt, (lit< tt, (lit< tt, (lit< tt, (lit< tt, (lit< tt, (lit< tt, (software_small n cpu i, tt))))))))))) e

-- no trap is told: the first that is asked for, privileged_instruction, does not apply
pub not_privileged : (n : ℕ) (cpu : Cpu n) (i : Operation) → first_trap n cpu i ≡ None → applies n cpu i 3 ≡ false
not_privileged n cpu i e = by_test (applies n cpu i 3) refl
  where
    by_test : (b : Bool) → applies n cpu i 3 ≡ b → applies n cpu i 3 ≡ false
    by_test true is = absurd (let no : Some 3 ≡ None = rw is at e in cc)
    by_test false is = is

normal_is : (s : Space) (mode : Bool) → mode ≡ false → (not (is_normal s) && not mode) ≡ false → s ≡ spaces.Normal
normal_is spaces.Normal mode user e = refl
normal_is (spaces.Alternate asi) mode user e = absurd (let no : true ≡ false = rw user at e in cc)
normal_is spaces.Missing mode user e = absurd (let no : true ≡ false = rw user at e in cc)

-- ---- the processor

small_word : (a : ℕ) → a % 2 ^ 32 < 2 ^ 32
small_word a = omega arith

pub user_goes : (n : ℕ) (cpu : Cpu n) (regs : Windows) (c : Control) → IsUser n cpu → IsShaped n regs → c.s ≡ cpu.control.s → c.et ≡ cpu.control.et →
    c.base ≡ cpu.control.base → c.error ≡ cpu.control.error → c.pc < 2 ^ 32 → c.npc < 2 ^ 32 →
    IsUser n (record { regs = regs; control = c })
user_goes n cpu regs c u shape s et base error pc npc =
    record { shape = shape; user = s ∙ u.user; traps = et ∙ u.traps; table = base ∙ u.table; sane = error ∙ u.sane; pc_word = pc; npc_word = npc }

pub user_written : (n : ℕ) (cpu : Cpu n) (rd x : ℕ) → 4 ≤ n → IsUser n cpu → IsUser n (written n cpu rd x)
unfolding written advanced
user_written n cpu rd x few u =
    user_goes n cpu (with_reg n cpu.regs rd x) (advanced cpu.control) u (shaped_reg n cpu.regs rd x few u.shape) refl refl refl refl u.npc_word
    (small_word (cpu.control.npc + 4))

pub user_taken : (n : ℕ) (cpu : Cpu n) (t : Moving) (rd number : ℕ) → 4 ≤ n → IsUser n cpu → IsUser n (taken n cpu t rd number)
unfolding taken advanced
user_taken n cpu t rd number few u =
    user_goes n cpu (with_regs n cpu.regs (received t rd number)) (advanced cpu.control) u
    (shaped_regs n cpu.regs (received t rd number) few u.shape) refl refl refl refl u.npc_word (small_word (cpu.control.npc + 4))

pub user_stepped : (n : ℕ) (cpu : Cpu n) → IsUser n cpu → IsUser n (stepped n cpu)
unfolding advanced
user_stepped n cpu u = user_goes n cpu cpu.regs (advanced cpu.control) u u.shape refl refl refl refl u.npc_word (small_word (cpu.control.npc + 4))

pub user_faulted : (n : ℕ) (cpu : Cpu n) (st : ℕ) → IsUser n cpu → IsUser n (faulted n cpu st)
user_faulted n cpu st u = user_goes n cpu cpu.regs (record cpu.control { status = st }) u u.shape refl refl refl refl u.pc_word u.npc_word

user_computed : (n : ℕ) (cpu : Cpu n) (rd : ℕ) (out : AluOut) → 4 ≤ n → IsUser n cpu → IsUser n (computed n cpu rd out)
unfolding computed advanced
user_computed n cpu rd out few u =
    user_goes n cpu (with_reg n cpu.regs rd out.value) (record (advanced cpu.control) { icc = out.icc; y = out.y }) u
    (shaped_reg n cpu.regs rd out.value few u.shape) refl refl refl refl u.npc_word (small_word (cpu.control.npc + 4))

user_from : (n : ℕ) (cpu : Cpu n) (rd : ℕ) (o : Option AluOut) → 4 ≤ n → IsUser n cpu → IsUser n (computed_from n cpu rd o)
user_from n cpu rd None few u = u
user_from n cpu rd (Some out) few u = user_computed n cpu rd out few u

user_moved : (n : ℕ) (cpu : Cpu n) (w : ℕ) → w < n → IsUser n cpu → IsUser n (record cpu { regs = moved cpu.regs w })
user_moved n cpu w less u = user_goes n cpu (moved cpu.regs w) cpu.control u (shaped_moved n cpu.regs w u.shape less) refl refl refl refl u.pc_word u.npc_word

user_jumped : (n : ℕ) (cpu : Cpu n) (rd x place : ℕ) → 4 ≤ n → place < 2 ^ 32 → IsUser n cpu → IsUser n (record { regs = with_reg n cpu.regs rd x; control = jumped cpu.control place })
unfolding jumped
user_jumped n cpu rd x place few small u = user_goes n cpu (with_reg n cpu.regs rd x) (jumped cpu.control place) u (shaped_reg n cpu.regs rd x few u.shape) refl refl refl refl u.npc_word small

user_branched : (n : ℕ) (cpu : Cpu n) (b : Branch) → IsUser n cpu → IsUser n (record cpu { control = branched cpu.control b })
unfolding branched jumped advanced
user_branched n cpu b u = by_test (holds b.cond cpu.control.icc)
  where
    by_test : (t : Bool) →
        IsUser n (record cpu {
          control =
              cond t (record cpu.control { pc = cpu.control.npc; npc = target cpu.control.pc b.displacement; annul = annuls b cpu.control.icc })
              (record cpu.control { pc = cpu.control.npc; npc = following cpu.control.npc; annul = annuls b cpu.control.icc });
        })
    by_test true =
        user_goes n cpu cpu.regs
        (record cpu.control {
          pc = cpu.control.npc;
          npc = target cpu.control.pc b.displacement;
          annul =
              annuls b cpu.control.icc;
        }) u u.shape refl refl refl refl u.npc_word (small_word (cpu.control.pc + 4 * b.displacement))
    by_test false =
        user_goes n cpu cpu.regs
        (record cpu.control {
          pc = cpu.control.npc;
          npc = following cpu.control.npc;
          annul =
              annuls b cpu.control.icc;
        }) u u.shape refl refl refl refl u.npc_word (small_word (cpu.control.npc + 4))

user_address : (n : ℕ) (cpu : Cpu n) (o : MemoryOperand) → place_of n cpu o < 2 ^ 32
unfolding address_of
user_address n cpu o = small_word _

no_user : (mode : Bool) → mode ≡ false → not mode ≡ false → ⊥
no_user mode user e = let no : true ≡ false = rw user at e in cc

state_refused : (n : ℕ) (cpu : Cpu n) (r : StateRegister) (f : Two) → cpu.control.s ≡ false → state_applies n cpu r f 3 ≡ false → ⊥
state_refused n cpu Psr f user e = no_user cpu.control.s user e
state_refused n cpu Wim f user e = no_user cpu.control.s user e
state_refused n cpu Tbr f user e = no_user cpu.control.s user e

-- an operation that reaches no memory
pub user_effect : (n : ℕ) (cpu : Cpu n) (i : Operation) → 4 ≤ n → IsUser n cpu → applies n cpu i 3 ≡ false → IsUser n (effect n cpu i)
unfolding effect applies address_of jumped advanced
user_effect n cpu (Compute op f) few u calm = user_computed n cpu f.rd _ few u
user_effect n cpu (Divide op f) few u calm = user_from n cpu f.rd (quotient_from n cpu op f) few u
user_effect n cpu (TaggedTrap op f) few u calm = user_from n cpu f.rd (tagged_from n cpu op f) few u
user_effect n cpu (SetHigh f) few u calm = user_written n cpu f.rd _ few u
user_effect n cpu (ReadY rd) few u calm = user_written n cpu rd cpu.control.y few u
user_effect n cpu (WriteY f) few u calm = user_goes n cpu cpu.regs _ u u.shape refl refl refl refl u.npc_word (small_word (cpu.control.npc + 4))
user_effect n cpu (ReadState r rd) few u calm = absurd (no_user cpu.control.s u.user calm)
user_effect n cpu (WriteState r f) few u calm = absurd (state_refused n cpu r f u.user calm)
user_effect n cpu (Transfer t m) few u calm = u
user_effect n cpu (Save f) few u calm =
    user_written n (record cpu { regs = moved cpu.regs (below n cpu.regs.current) }) f.rd _ few
    (user_moved n cpu (below n cpu.regs.current) (below_less n cpu.regs.current few u.shape.current) u)
user_effect n cpu (Restore f) few u calm =
    user_written n (record cpu { regs = moved cpu.regs (above n cpu.regs.current) }) f.rd _ few
    (user_moved n cpu (above n cpu.regs.current) (above_less n cpu.regs.current few u.shape.current) u)
user_effect n cpu (Call d) few u calm = user_jumped n cpu 15 cpu.control.pc _ few (small_word (cpu.control.pc + 4 * d)) u
user_effect n cpu (BranchOnCondition b) few u calm = user_branched n cpu b u
user_effect n cpu (JumpAndLink f) few u calm = user_jumped n cpu f.rd cpu.control.pc _ few (small_word _) u
user_effect n cpu (ReturnFromTrap f) few u calm = absurd (no_user cpu.control.s u.user calm)
user_effect n cpu (TrapOnCondition t) few u calm = user_stepped n cpu u
user_effect n cpu Nothing few u calm = user_stepped n cpu u
user_effect n cpu Illegal few u calm = u
user_effect n cpu FloatingPoint few u calm = u
user_effect n cpu Coprocessor few u calm = u

-- ---- with memory

-- where a turn of user code ends: RAM keeps what is held, the device stays, the processor is the user's, and the access its own
pub record UserEnds (n : ℕ) (g : Pages) (held : Contents) (d : Device) (o : Outcome × World n Device) : Type 0 where
  pub kept : IsKept n g held o.1.memory.ram
  pub device : o.1.memory.device ≡ d
  pub cpu : IsUser n o.1.cpu
  pub trap : IfSome o.0.trap (λ t. t < 256)
  pub access : IsOwnAccess g o.0.access

module _ (n : ℕ) (g : Pages) (held : Contents) (ram : List ℕ) (d : Device) (mmu : MmuRegs) (cpu : Cpu n) (few : 4 ≤ n) (pages : AreFew g)
    (root : root_of mmu ≡ 0x2000) (kept : IsKept n g held ram) (u : IsUser n cpu) where
  ended : (va rd : ℕ) (t : Moving) (e : Moved) (m : Memory Device) → MoveIs n g held d true (writes_memory t) va (size_of t) (e, m) → UserEnds n g held d (transfer_ends n va t rd cpu e m)
  ended va rd t (Done v pa) m h = record { kept = h.kept; device = h.device; cpu = user_taken n cpu t rd v few u; trap = tt; access = h.owns }
  ended va rd t (Fault st) m h = record { kept = h.kept; device = h.device; cpu = user_faulted n cpu st u; trap = lit< tt; access = tt }

  accessed : (s : Space) (t : Moving) → s ≡ spaces.Normal → access_of n cpu (writes_memory t) s ≡ data_access true t
  accessed s t e = ap (access_of n cpu (writes_memory t)) e ∙ ap (λ (b : Bool). record { user = not b; kind = data_kind (writes_memory t) }) u.user

  user_transfers : (t : Moving) (o : MemoryOperand) → o.space ≡ spaces.Normal → UserEnds n g held d (transfers board n mmu t o (world n cpu ram d))
  unfolding transfers
  user_transfers t o normal =
      let va = place_of n cpu o in
      let x = sent (reg n cpu) t o.rd in
      let r = moves board mmu va (data_access true t) t x (mem_of ram d) in
      subst (λ (a : Access). UserEnds n g held d
      (transfer_ends n va t o.rd cpu (moves board mmu va a t x (mem_of ram d)).0 (moves board mmu va a t x (mem_of ram d)).1))
      (sym (accessed o.space t normal))
      (ended va o.rd t r.0 r.1 (move_is n g held ram d mmu true va t x pages root kept (user_address n cpu o) tt))

  plainly : (new : Cpu n) → IsUser n new → UserEnds n g held d (record { access = None; trap = None }, world n new ram d)
  plainly new h = record { kept = kept; device = refl; cpu = h; trap = tt; access = tt }

  pub user_acts : (i : Operation) → applies n cpu i 3 ≡ false → UserEnds n g held d (acts board n mmu i (world n cpu ram d))
  unfolding applies memory_applies
  user_acts (Transfer t m) calm = user_transfers t m (normal_is m.space cpu.control.s u.user calm)
  user_acts (Compute op f) calm = plainly (effect n cpu (Compute op f)) (user_effect n cpu (Compute op f) few u calm)
  user_acts (Divide op f) calm = plainly (effect n cpu (Divide op f)) (user_effect n cpu (Divide op f) few u calm)
  user_acts (TaggedTrap op f) calm = plainly (effect n cpu (TaggedTrap op f)) (user_effect n cpu (TaggedTrap op f) few u calm)
  user_acts (SetHigh f) calm = plainly (effect n cpu (SetHigh f)) (user_effect n cpu (SetHigh f) few u calm)
  user_acts (ReadY rd) calm = plainly (effect n cpu (ReadY rd)) (user_effect n cpu (ReadY rd) few u calm)
  user_acts (WriteY f) calm = plainly (effect n cpu (WriteY f)) (user_effect n cpu (WriteY f) few u calm)
  user_acts (ReadState r rd) calm = plainly (effect n cpu (ReadState r rd)) (user_effect n cpu (ReadState r rd) few u calm)
  user_acts (WriteState r f) calm = plainly (effect n cpu (WriteState r f)) (user_effect n cpu (WriteState r f) few u calm)
  user_acts (Save f) calm = plainly (effect n cpu (Save f)) (user_effect n cpu (Save f) few u calm)
  user_acts (Restore f) calm = plainly (effect n cpu (Restore f)) (user_effect n cpu (Restore f) few u calm)
  user_acts (Call k) calm = plainly (effect n cpu (Call k)) (user_effect n cpu (Call k) few u calm)
  user_acts (BranchOnCondition b) calm = plainly (effect n cpu (BranchOnCondition b)) (user_effect n cpu (BranchOnCondition b) few u calm)
  user_acts (JumpAndLink f) calm = plainly (effect n cpu (JumpAndLink f)) (user_effect n cpu (JumpAndLink f) few u calm)
  user_acts (ReturnFromTrap f) calm = plainly (effect n cpu (ReturnFromTrap f)) (user_effect n cpu (ReturnFromTrap f) few u calm)
  user_acts (TrapOnCondition t) calm = plainly (effect n cpu (TrapOnCondition t)) (user_effect n cpu (TrapOnCondition t) few u calm)
  user_acts Nothing calm = plainly (effect n cpu Nothing) (user_effect n cpu Nothing few u calm)
  user_acts Illegal calm = plainly (effect n cpu Illegal) (user_effect n cpu Illegal few u calm)
  user_acts FloatingPoint calm = plainly (effect n cpu FloatingPoint) (user_effect n cpu FloatingPoint few u calm)
  user_acts Coprocessor calm = plainly (effect n cpu Coprocessor) (user_effect n cpu Coprocessor few u calm)
