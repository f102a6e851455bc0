-- What a turn that ran told of its access: the operation's address, and whether it stores.
use Rattle.std.proofs.Common.{◌≡◌, ℕ, Bool, true, false, List, Option, Some, None, Ok, refl, sym, ap, ◌∙◌, subst}
use Rattle.std.specs.Prelude.{if◌then◌else◌}
use Rattle.v8_core.specs.Table.{meaning}
use Rattle.v8_core.specs.Operation.{Operation}
use Rattle.v8_core.specs.Operation.TheVariants.{Transfer}
use Rattle.v8_core.specs.Operations.{operation_of}
use Rattle.v8_core.specs.Transfer.{Transfer as Moving}
use Rattle.v8_core.specs.Transfers.{sent, writes_memory}
use Rattle.v8_core.specs.MemoryOperand.{MemoryOperand}
use Rattle.v8_core.specs.Windows.{reg_of}
use Rattle.v8_core.specs.AccessKind.TheVariants.{Fetch}
use Rattle.v8_core.specs.MmuRegs.{MmuRegs}
use Rattle.v8_core.specs.Cpu.{Cpu}
use Rattle.v8_core.specs.Traps.{first_trap}
use Rattle.v8_core.specs.declared.access.Moved.{Moved}
use Rattle.v8_core.specs.declared.access.Moved.TheVariants.{Done, Fault}
use Rattle.v8_core.specs.declared.turn.DataAccess.{DataAccess}
use Rattle.v8_core.specs.declared.turn.Event.TheVariants.{ErrorMode, Ran, Trapped}
use Rattle.v8_core.specs.declared.turn.Outcome.{Outcome}
use Rattle.v8_core.specs.declared.turn.Turn.{Turn}
use Rattle.v8_core.specs.Memory.{Memory, fetches, moves}
use Rattle.v8_core.specs.Accesses.{World, access_of, is_user, place_of, transfer_ends, transfers, world}
use Rattle.v8_core.specs.Steps.{acts, attempts, ends, executes, executes_or, next, tries}
use Rattle.v8_core.proofs.Turns.{Ready, tries_as}
use Rattle.v8_loaded.specs.Board.{Device, board}
use Rattle.v8_marks.specs.Marks.{after_access, reached}
use Rattle.v8_marks.specs.Users.{after_reach, reach_of}

-- an access is that
abbrev pub Reaches : Option (ℕ × Bool) → Option DataAccess → Type 0
Reaches None access = access ≡ None
Reaches (Some r) None = ⊥
Reaches (Some r) (Some a) = (a.va ≡ r.0) × (a.store ≡ r.1)

pub reaches_are : (i : ℕ) (r : Option (ℕ × Bool)) (access : Option DataAccess) (entry : Option ℕ) → Reaches r access → after_access i access entry ≡ after_reach i r entry
reaches_are i None access entry e = ap (λ o. after_access i o entry) e
reaches_are i (Some r) None entry e = absurd e
reaches_are i (Some r) (Some a) entry (at, store) = ap (λ va. reached i va a.store entry) at ∙ ap (λ s. reached i r.0 s entry) store

-- ---- an operation

abbrev Fine : Option (ℕ × Bool) → Outcome → Type 0
Fine r o = o.trap ≡ None → Reaches r o.access

moving_fine : (n va : ℕ) (t : Moving) (rd : ℕ) (cpu : Cpu n) (r : Moved) (m : Memory Device) → Fine (Some (va, writes_memory t)) (transfer_ends n va t rd cpu r m).0
moving_fine n va t rd cpu (Done v pa) m e = (refl, refl)
moving_fine n va t rd cpu (Fault st) m e = absurd (cc)

transfer_fine : (n : ℕ) (mmu : MmuRegs) (t : Moving) (o : MemoryOperand) (x : World n Device) → Fine (Some (place_of n x.cpu o, writes_memory t)) (transfers board n mmu t o x).0
unfolding transfers
transfer_fine n mmu t o x =
    let e = moves board mmu (place_of n x.cpu o) (access_of n x.cpu (writes_memory t) o.space) t (sent (reg_of n x.cpu.regs) t o.rd) x.memory in
    moving_fine n (place_of n x.cpu o) t o.rd x.cpu e.0 e.1

acts_fine : (n : ℕ) (mmu : MmuRegs) (op : Operation) (x : World n Device) → Fine (reach_of n x.cpu op) (acts board n mmu op x).0
acts_fine n mmu (Transfer t o) x = transfer_fine n mmu t o x
acts_fine n mmu _ x = λ e. refl

executes_fine : (n : ℕ) (mmu : MmuRegs) (op : Operation) (x : World n Device) (o : Option ℕ) → Fine (reach_of n x.cpu op) (executes_or board n mmu op x o).0
executes_fine n mmu op x None = acts_fine n mmu op x
executes_fine n mmu op x (Some t) = λ e. absurd (cc)

-- an operation that is no load or store reaches nothing
acts_none : (n : ℕ) (mmu : MmuRegs) (op : Operation) (x : World n Device) → reach_of n x.cpu op ≡ None → (acts board n mmu op x).0.access ≡ None
acts_none n mmu (Transfer t o) x none = absurd (cc)
acts_none n mmu _ x none = refl

executes_none : (n : ℕ) (mmu : MmuRegs) (op : Operation) (x : World n Device) (o : Option ℕ) → reach_of n x.cpu op ≡ None → (executes_or board n mmu op x o).0.access ≡ None
executes_none n mmu op x None none = acts_none n mmu op x none
executes_none n mmu op x (Some t) none = refl

-- ---- a turn

not_ran : (traps : Bool) (t : ℕ) → (if traps then Trapped t else ErrorMode t) ≡ Ran → ⊥
not_ran true t e = cc
not_ran false t e = cc

end_fine : (n : ℕ) (x : World n Device) (r : Option (ℕ × Bool)) (w : ℕ) (access : Option DataAccess) (t : Option ℕ) (mid : World n Device) →
    Fine r (record { access = access; trap = t }) → (ends board n x (Some w) access t mid).0.event ≡ Ran →
    Reaches r (ends board n x (Some w) access t mid).0.access
end_fine n x r w access None mid fine ran = fine refl
end_fine n x r w access (Some t) mid fine ran = absurd (not_ran mid.cpu.control.et t ran)

end_word : (n : ℕ) (x : World n Device) (w : ℕ) (access : Option DataAccess) (t : Option ℕ) (mid : World n Device) → (ends board n x (Some w) access t mid).0.word ≡ Some w
end_word n x w access None mid = refl
end_word n x w access (Some t) mid = refl

end_pc : (n : ℕ) (x : World n Device) (w : ℕ) (access : Option DataAccess) (t : Option ℕ) (mid : World n Device) → (ends board n x (Some w) access t mid).0.pc ≡ x.cpu.control.pc
end_pc n x w access None mid = refl
end_pc n x w access (Some t) mid = refl

end_access : (n : ℕ) (x : World n Device) (w : ℕ) (access : Option DataAccess) (t : Option ℕ) (mid : World n Device) → (ends board n x (Some w) access t mid).0.access ≡ access
end_access n x w access None mid = refl
end_access n x w access (Some t) mid = refl

module _ (n : ℕ) (mmu : MmuRegs) (x : World n Device) (w : ℕ) (marks : List ℕ) (op : Operation) (ready : Ready board n x.cpu x.memory.device)
    (fetch : fetches mmu x.cpu.control.pc (record { user = is_user n x.cpu; kind = Fetch }) x.memory.ram ≡ (Ok w, marks)) (asks : operation_of (meaning w) ≡ op) where
  abbrev mid : World n Device
  mid = world n x.cpu marks x.memory.device

  abbrev done : Outcome × World n Device
  done = executes_or board n mmu op mid (first_trap n x.cpu op)

  told : next board n mmu x ≡ ends board n x (Some w) done.0.access done.0.trap done.1
  unfolding tries attempts executes
  told = tries_as board n mmu x.cpu x.memory.ram x.memory.device ready ∙ rw fetch (rw asks refl)

  pub fetched_word : (next board n mmu x).0.word ≡ Some w
  fetched_word = ap (λ (t : Turn × World n Device). t.0.word) told ∙ end_word n x w done.0.access done.0.trap done.1

  pub fetched_at : (next board n mmu x).0.pc ≡ x.cpu.control.pc
  fetched_at = ap (λ (t : Turn × World n Device). t.0.pc) told ∙ end_pc n x w done.0.access done.0.trap done.1

  pub ran_reaches : (next board n mmu x).0.event ≡ Ran → Reaches (reach_of n x.cpu op) (next board n mmu x).0.access
  ran_reaches ran =
      subst (λ (t : Turn × World n Device). Reaches (reach_of n x.cpu op) t.0.access) (sym told)
      (end_fine n x (reach_of n x.cpu op) w done.0.access done.0.trap done.1 (executes_fine n mmu op mid (first_trap n x.cpu op)) (sym (ap (λ (t : Turn × World n Device). t.0.event) told) ∙ ran))

  pub none_reached : reach_of n x.cpu op ≡ None → (next board n mmu x).0.access ≡ None
  none_reached none =
      ap (λ (t : Turn × World n Device). t.0.access) told ∙ end_access n x w done.0.access done.0.trap done.1 ∙ executes_none n mmu op mid (first_trap n x.cpu op) none
