-- One walk through a turn for any two devices that stay related: a turn of the board is the same from both, as long as the first
-- device is in good order after it.
use Rattle.std.proofs.Common.{◌≡◌, ℕ, Bool, true, false, List, Option, None, Some, Result, Ok, Err, refl, ap, subst}
use Rattle.v8_core.specs.Table.{meaning}
use Rattle.v8_core.specs.Operations.{operation_of}
use Rattle.v8_core.specs.Transfers.{sent, writes_memory}
use Rattle.v8_core.specs.Operation.{Operation}
use Rattle.v8_core.specs.Operation.TheVariants as operations
use Rattle.v8_core.specs.Transfer.{Transfer}
use Rattle.v8_core.specs.Paths.{marked_ram}
use Rattle.v8_core.specs.Walked.{Page, walked, root_of}
use Rattle.v8_core.specs.Access.{Access}
use Rattle.v8_core.specs.AccessKind.TheVariants.{Fetch}
use Rattle.v8_core.specs.Stop.{Stop}
use Rattle.v8_core.specs.MmuFault.{MmuFault}
use Rattle.v8_core.specs.MmuRegs.{MmuRegs}
use Rattle.v8_core.specs.Windows.{reg_of}
use Rattle.v8_core.specs.Traps.{first_trap, entered}
use Rattle.v8_core.specs.Cpu.{Cpu}
use Rattle.v8_core.specs.declared.access.Moved.{Moved}
use Rattle.v8_core.specs.declared.access.Moved.TheVariants as ends_of
use Rattle.v8_core.specs.declared.turn.DataAccess.{DataAccess}
use Rattle.v8_core.specs.declared.turn.Outcome.{Outcome}
use Rattle.v8_core.specs.declared.turn.Turn.{Turn}
use Rattle.v8_core.specs.Memory.{Memory, answers, fetches, moves, move_answered, move_through}
use Rattle.v8_core.specs.Accesses.{World, world, access_of, is_user, place_of, transfer_ends, transfers}
use Rattle.v8_core.specs.Steps.{acts, attempts, ends, executes, executes_or, goes_on, next, proceeds, ran_event, tries, trap_event, turn_of}
use Rattle.v8_board.specs.Board.{Device, board}

-- ---- answers of two devices that are related by R wherever the first is in good order, F

abbrev pub SameAnswer : (Device → Device → Type 0) → (Device → Type 0) → Option (ℕ × List ℕ × Device) → Option (ℕ × List ℕ × Device) → Type 0
SameAnswer R F (Some x) (Some y) = F x.2 → (x.0 ≡ y.0) × (x.1 ≡ y.1) × R x.2 y.2
SameAnswer R F (Some x) None = ⊥
SameAnswer R F None (Some y) = ⊥
SameAnswer R F None None = Unit {0}

abbrev pub SameMemory : (Device → Device → Type 0) → Memory Device → Memory Device → Type 0
SameMemory R a b = (a.ram ≡ b.ram) × R a.device b.device

abbrev pub SameWorld : (Device → Device → Type 0) → (n : ℕ) → World n Device → World n Device → Type 0
SameWorld R n v w = (v.cpu ≡ w.cpu) × SameMemory R v.memory w.memory

abbrev SameMoved : (Device → Device → Type 0) → (Device → Type 0) → Moved × Memory Device → Moved × Memory Device → Type 0
SameMoved R F x y = F x.1.device → (x.0 ≡ y.0) × SameMemory R x.1 y.1

abbrev SameDone : (Device → Device → Type 0) → (Device → Type 0) → (n : ℕ) → Outcome × World n Device → Outcome × World n Device → Type 0
SameDone R F n x y = F x.1.memory.device → (x.0 ≡ y.0) × SameWorld R n x.1 y.1

abbrev SameTried : (Device → Device → Type 0) → (Device → Type 0) → (n : ℕ) → Option ℕ × (Outcome × World n Device) → Option ℕ × (Outcome × World n Device) → Type 0
SameTried R F n x y = F x.1.1.memory.device → (x.0 ≡ y.0) × ((x.1.0 ≡ y.1.0) × SameWorld R n x.1.1 y.1.1)

abbrev pub SameTurn : (Device → Device → Type 0) → (Device → Type 0) → (n : ℕ) → Turn × World n Device → Turn × World n Device → Type 0
SameTurn R F n x y = F x.1.memory.device → (x.0 ≡ y.0) × SameWorld R n x.1 y.1

abbrev pub memory_of : List ℕ → Device → Memory Device
memory_of ram d = record { ram = ram; device = d }

module _ (R : Device → Device → Type 0) (F : Device → Type 0)
    (stopping : (d e : Device) → R d e → d.stopped ≡ e.stopped)
    (answering : (ram : List ℕ) (pa : ℕ) (t : Transfer) (v : ℕ) (d e : Device) → R d e → SameAnswer R F (answers board ram d pa t v) (answers board ram e pa t v))
  where
    -- ---- memory

    move_answered_same : (a b : Memory Device) → SameMemory R a b → (page : Page) (access : Access) (x y : Option (ℕ × List ℕ × Device)) → SameAnswer R F x y
        → SameMoved R F (move_answered a page access x) (move_answered b page access y)
    move_answered_same a b old page access (Some x) (Some y) same = λ fine. (ap (λ (v : ℕ). ends_of.Done v page.pa) (same fine).0, ((same fine).1, (same fine).2))
    move_answered_same a b old page access (Some x) None same = absurd same
    move_answered_same a b old page access None (Some y) same = absurd same
    move_answered_same a b old page access None None same = λ fine. (refl, old)

    move_through_same : (access : Access) (t : Transfer) (v : ℕ) (ram : List ℕ) (d e : Device) → R d e → (r : Result Page MmuFault)
        → SameMoved R F (move_through board access t v (memory_of ram d) r) (move_through board access t v (memory_of ram e) r)
    move_through_same access t v ram d e same (Ok page) =
        let marks = marked_ram ram page.place (writes_memory t) in
        move_answered_same (memory_of ram d) (memory_of ram e) (refl, same) page access
        (answers board marks d page.pa t v) (answers board marks e page.pa t v) (answering marks page.pa t v d e same)
    move_through_same access t v ram d e same (Err fault) = λ fine. (refl, (refl, same))

    moves_same : (mmu : MmuRegs) (va : ℕ) (access : Access) (t : Transfer) (v : ℕ) (ram : List ℕ) (d e : Device) → R d e
        → SameMoved R F (moves board mmu va access t v (memory_of ram d)) (moves board mmu va access t v (memory_of ram e))
    unfolding moves
    moves_same mmu va access t v ram d e same = move_through_same access t v ram d e same (walked ram (root_of mmu) va access)

    -- ---- instructions

    transfer_ends_alike : (n va : ℕ) (t : Transfer) (rd : ℕ) (cpu : Cpu n) (l k : Moved) (a b : Memory Device) → (F a.device → (l ≡ k) × SameMemory R a b)
        → SameDone R F n (transfer_ends n va t rd cpu l a) (transfer_ends n va t rd cpu k b)
    transfer_ends_alike n va t rd cpu (ends_of.Done v pa) k a b same = λ fine.
        let left : Outcome × World n Device = transfer_ends n va t rd cpu (ends_of.Done v pa) a in
        let s = same fine in
        subst (λ (x : Moved). let right = transfer_ends n va t rd cpu x b in (left.0 ≡ right.0) × SameWorld R n left.1 right.1) s.0 (refl, (refl, s.1))
    transfer_ends_alike n va t rd cpu (ends_of.Fault st) k a b same = λ fine.
        let left : Outcome × World n Device = transfer_ends n va t rd cpu (ends_of.Fault st) a in
        let s = same fine in
        subst (λ (x : Moved). let right = transfer_ends n va t rd cpu x b in (left.0 ≡ right.0) × SameWorld R n left.1 right.1) s.0 (refl, (refl, s.1))

    module _ (n : ℕ) (mmu : MmuRegs) (cpu : Cpu n) (ram : List ℕ) (d e : Device) (same : R d e) where
      acts_same : (i : Operation) → SameDone R F n (acts board n mmu i (world n cpu ram d)) (acts board n mmu i (world n cpu ram e))
      unfolding transfers
      acts_same (operations.Transfer t o) =
          let va = place_of n cpu o in
          let access = access_of n cpu (writes_memory t) o.space in
          let v = sent (reg_of n cpu.regs) t o.rd in
          let x = moves board mmu va access t v (memory_of ram d) in
          let y = moves board mmu va access t v (memory_of ram e) in
          transfer_ends_alike n va t o.rd cpu x.0 y.0 x.1 y.1 (moves_same mmu va access t v ram d e same)
      acts_same (operations.Compute op f) = λ fine. (refl, (refl, (refl, same)))
      acts_same (operations.Divide op f) = λ fine. (refl, (refl, (refl, same)))
      acts_same (operations.TaggedTrap op f) = λ fine. (refl, (refl, (refl, same)))
      acts_same (operations.SetHigh f) = λ fine. (refl, (refl, (refl, same)))
      acts_same (operations.ReadY r) = λ fine. (refl, (refl, (refl, same)))
      acts_same (operations.WriteY f) = λ fine. (refl, (refl, (refl, same)))
      acts_same (operations.ReadState s r) = λ fine. (refl, (refl, (refl, same)))
      acts_same (operations.WriteState s f) = λ fine. (refl, (refl, (refl, same)))
      acts_same (operations.Save f) = λ fine. (refl, (refl, (refl, same)))
      acts_same (operations.Restore f) = λ fine. (refl, (refl, (refl, same)))
      acts_same (operations.Call displacement) = λ fine. (refl, (refl, (refl, same)))
      acts_same (operations.BranchOnCondition b) = λ fine. (refl, (refl, (refl, same)))
      acts_same (operations.JumpAndLink f) = λ fine. (refl, (refl, (refl, same)))
      acts_same (operations.ReturnFromTrap f) = λ fine. (refl, (refl, (refl, same)))
      acts_same (operations.TrapOnCondition t) = λ fine. (refl, (refl, (refl, same)))
      acts_same operations.Nothing = λ fine. (refl, (refl, (refl, same)))
      acts_same operations.Illegal = λ fine. (refl, (refl, (refl, same)))
      acts_same operations.FloatingPoint = λ fine. (refl, (refl, (refl, same)))
      acts_same operations.Coprocessor = λ fine. (refl, (refl, (refl, same)))

      executes_or_same : (i : Operation) (t : Option ℕ) → SameDone R F n (executes_or board n mmu i (world n cpu ram d) t) (executes_or board n mmu i (world n cpu ram e) t)
      executes_or_same i None = acts_same i
      executes_or_same i (Some t) = λ fine. (refl, (refl, (refl, same)))

      executes_same : (i : Operation) → SameDone R F n (executes board n mmu i (world n cpu ram d)) (executes board n mmu i (world n cpu ram e))
      unfolding executes
      executes_same i = executes_or_same i (first_trap n cpu i)

    -- ---- a turn

    proceeds_same : (n : ℕ) (mmu : MmuRegs) (cpu : Cpu n) (ram : List ℕ) (d e : Device) → R d e → (fetched : Result ℕ ℕ) (marked : List ℕ)
        → SameTried R F n (proceeds board n mmu (world n cpu ram d) fetched marked) (proceeds board n mmu (world n cpu ram e) fetched marked)
    proceeds_same n mmu cpu ram d e same (Ok w) marked = λ fine. (refl, executes_same n mmu cpu marked d e same (operation_of (meaning w)) fine)
    proceeds_same n mmu cpu ram d e same (Err st) marked = λ fine. (refl, (refl, (refl, (refl, same))))

    attempts_same : (n : ℕ) (mmu : MmuRegs) (cpu : Cpu n) (ram : List ℕ) (d e : Device) → R d e
        → SameTried R F n (attempts board n mmu (world n cpu ram d)) (attempts board n mmu (world n cpu ram e))
    unfolding attempts
    attempts_same n mmu cpu ram d e same =
        let f = fetches mmu cpu.control.pc (record { user = is_user n cpu; kind = Fetch }) ram in
        proceeds_same n mmu cpu ram d e same f.0 f.1

    ends_alike : (n : ℕ) (cpu : Cpu n) (ram : List ℕ) (d e : Device) (word : Option ℕ) (access : Option DataAccess) (t : Option ℕ) (v w : World n Device) → SameWorld R n v w
        → SameTurn R F n (ends board n (world n cpu ram d) word access t v) (ends board n (world n cpu ram e) word access t w)
    ends_alike n cpu ram d e word access None v w same = λ fine.
        (ap (λ (s : Option Stop). turn_of n cpu (ran_event s) word access) (stopping v.memory.device w.memory.device same.1.1), same)
    ends_alike n cpu ram d e word access (Some t) v w same = λ fine.
        (ap (λ (c : Cpu n). turn_of n cpu (trap_event n c t) word access) same.0, (ap (λ (c : Cpu n). entered n c t) same.0, same.1))

    -- an end of a turn leaves the device that it finds
    ends_device : (n : ℕ) (old : World n Device) (word : Option ℕ) (access : Option DataAccess) (t : Option ℕ) (v : World n Device)
        → (ends board n old word access t v).1.memory.device ≡ v.memory.device
    ends_device n old word access None v = refl
    ends_device n old word access (Some t) v = refl

    ends_same : (n : ℕ) (cpu : Cpu n) (ram : List ℕ) (d e : Device) (x y : Option ℕ × (Outcome × World n Device)) → SameTried R F n x y
        → SameTurn R F n (ends board n (world n cpu ram d) x.0 x.1.0.access x.1.0.trap x.1.1) (ends board n (world n cpu ram e) y.0 y.1.0.access y.1.0.trap y.1.1)
    ends_same n cpu ram d e x y tried = λ fine.
        let left = ends board n (world n cpu ram d) x.0 x.1.0.access x.1.0.trap x.1.1 in
        let same = tried (subst F (ends_device n (world n cpu ram d) x.0 x.1.0.access x.1.0.trap x.1.1) fine) in
        let one = ends_alike n cpu ram d e x.0 x.1.0.access x.1.0.trap x.1.1 y.1.1 same.1.1 in
        let two = subst (λ (word : Option ℕ). SameTurn R F n left (ends board n (world n cpu ram e) word x.1.0.access x.1.0.trap y.1.1)) same.0 one in
        subst (λ (out : Outcome). SameTurn R F n left (ends board n (world n cpu ram e) y.0 out.access out.trap y.1.1)) same.1.0 two fine

    tries_same : (n : ℕ) (mmu : MmuRegs) (cpu : Cpu n) (ram : List ℕ) (d e : Device) → R d e
        → SameTurn R F n (tries board n mmu (world n cpu ram d)) (tries board n mmu (world n cpu ram e))
    unfolding tries
    tries_same n mmu cpu ram d e same =
        ends_same n cpu ram d e (attempts board n mmu (world n cpu ram d)) (attempts board n mmu (world n cpu ram e)) (attempts_same n mmu cpu ram d e same)

    goes_on_same : (n : ℕ) (mmu : MmuRegs) (cpu : Cpu n) (ram : List ℕ) (d e : Device) → R d e → (stop : Option Stop) (error : Option ℕ) (annul : Bool)
        → SameTurn R F n (goes_on board n mmu (world n cpu ram d) stop error annul) (goes_on board n mmu (world n cpu ram e) stop error annul)
    goes_on_same n mmu cpu ram d e same (Some s) error annul = λ fine. (refl, (refl, (refl, same)))
    goes_on_same n mmu cpu ram d e same None (Some t) annul = λ fine. (refl, (refl, (refl, same)))
    goes_on_same n mmu cpu ram d e same None None true = λ fine. (refl, (refl, (refl, same)))
    goes_on_same n mmu cpu ram d e same None None false = tries_same n mmu cpu ram d e same

    pub next_same : (n : ℕ) (mmu : MmuRegs) (cpu : Cpu n) (ram : List ℕ) (d e : Device) → R d e
        → SameTurn R F n (next board n mmu (world n cpu ram d)) (next board n mmu (world n cpu ram e))
    unfolding next
    next_same n mmu cpu ram d e same =
        subst (λ (st : Option Stop). SameTurn R F n (goes_on board n mmu (world n cpu ram d) d.stopped cpu.control.error cpu.control.annul)
        (goes_on board n mmu (world n cpu ram e) st cpu.control.error cpu.control.annul))
        (stopping d e same)
        (goes_on_same n mmu cpu ram d e same d.stopped cpu.control.error cpu.control.annul)
