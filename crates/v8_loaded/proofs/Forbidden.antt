-- A store of user code to where what is there may be read and not written.
use Rattle.std.proofs.Common.{◌≡◌, ℕ, ◌%◌, ◌^◌, ◌<◌, Bool, true, false, List, Some, None, Result, ap, ◌∙◌, arith}
use Rattle.std.specs.Prelude.{not, slice_index, if◌then◌else◌}
use Rattle.v8_core.specs.Operation.{Operation}
use Rattle.v8_core.specs.Operation.TheVariants.{Transfer}
use Rattle.v8_core.specs.Transfer.{Transfer as Moving}
use Rattle.v8_core.specs.Transfers.{sent, writes_memory}
use Rattle.v8_core.specs.MemoryOperand.{MemoryOperand}
use Rattle.v8_core.specs.Space.{Space}
use Rattle.v8_core.specs.Space.TheVariants.{Normal}
use Rattle.v8_core.specs.Access.{Access}
use Rattle.v8_core.specs.AccessKind.TheVariants.{Store}
use Rattle.v8_core.specs.MmuFault.{MmuFault}
use Rattle.v8_core.specs.MmuRegs.{MmuRegs}
use Rattle.v8_core.specs.Walked.{Page, walked}
use Rattle.v8_core.specs.Windows.{reg_of}
use Rattle.v8_core.specs.Effects.{address_of}
use Rattle.v8_core.specs.Traps.{entered, first_trap}
use Rattle.v8_core.specs.declared.turn.Event.TheVariants.{Trapped, ErrorMode}
use Rattle.v8_core.specs.declared.turn.Outcome.{Outcome}
use Rattle.v8_core.specs.Memory.{move_through, moves}
use Rattle.v8_core.specs.Accesses.{World, access_of, faulted, place_of, transfer_ends, transfers, trapping, world}
use Rattle.v8_core.specs.Steps.{acts, attempts, executes, next, tries, turn_of}
use Rattle.v8_core.proofs.Turns.{tries_as}
use Rattle.v8_layout.specs.Layout.{Pages}
use Rattle.v8_layout.specs.AddressMap.{may_be_read, may_be_written}
use Rattle.v8_layout.specs.Laws.{user_store}
use Rattle.v8_layout.proofs.Rights.{stores_are_forbidden}
use Rattle.v8_memory.specs.Board.{Device, board}
use Rattle.v8_loaded.specs.Laws.{ForbiddenStoresTrap, forbidden_store}
use Rattle.v8_loaded.specs.Places.{code_marked}
use Rattle.v8_loaded.specs.Users.{AsksFor, RunsUser}
use Rattle.v8_loaded.proofs.Users.{user_fetches, user_kept, user_ready}

module _ (n : ℕ) (g : Pages) (words : List ℕ) (mmu : MmuRegs) (x : World n Device) (i : ℕ) (u : RunsUser n g words mmu x i) where
  abbrev marks : List ℕ
  marks = code_marked i x.memory.ram

  abbrev fetched : World n Device
  fetched = world n x.cpu marks x.memory.device

  -- a turn whose operation takes a trap as it reaches memory
  traps_there : (op : Operation) (t : ℕ) (new : World n Device) → AsksFor words i op → first_trap n x.cpu op ≡ None →
      acts board n mmu op fetched ≡ (trapping t, new) → new.cpu.control.et ≡ true →
      next board n mmu x ≡ (turn_of n x.cpu (Trapped t) (Some (slice_index words i)) None, record new { cpu = entered n new.cpu t })
  unfolding tries attempts executes
  traps_there op t new is calm does on =
      tries_as board n mmu x.cpu x.memory.ram x.memory.device (user_ready n g words mmu x i u)
      ∙ rw (user_fetches n g words mmu x i u) (rw is (rw calm (rw does
      (ap (λ (b : Bool). (turn_of n x.cpu (if b then Trapped t else ErrorMode t) (Some (slice_index words i)) None, record new { cpu = entered n new.cpu t })) on))))

  small : (o : MemoryOperand) → place_of n x.cpu o < 2 ^ 32
  unfolding address_of
  small o = let less : (a : ℕ) → a % 2 ^ 32 < 2 ^ 32 = λ (a : ℕ). omega arith in less _

  by_user : (store : Bool) (s : Space) → store ≡ true → s ≡ Normal → access_of n x.cpu store s ≡ user_store
  by_user store s stores normal =
      ap (λ b. access_of n x.cpu b s) stores ∙ ap (λ s. access_of n x.cpu true s) normal ∙ ap (λ (b : Bool). record { user = not b; kind = Store }) u.user

  -- the walk ends in a fault, and so does the transfer
  refused : (t : Moving) (o : MemoryOperand) → o.space ≡ Normal → writes_memory t ≡ true → may_be_read g (place_of n x.cpu o) ≡ true → may_be_written g (place_of n x.cpu o) ≡ false →
      transfers board n mmu t o fetched ≡ (trapping 9, world n (faulted n x.cpu forbidden_store) marks x.memory.device)
  unfolding transfers moves
  refused t o normal stores read written =
      let va = place_of n x.cpu o in
      let v = sent (reg_of n x.cpu.regs) t o.rd in
      let by : Access → Outcome × World n Device =
      λ (a : Access). (let e = moves board mmu va a t v fetched.memory in transfer_ends n va t o.rd x.cpu e.0 e.1) in
      let through : Result Page MmuFault → Outcome × World n Device =
      λ (r : Result Page MmuFault). (let e = move_through board user_store t v fetched.memory r in transfer_ends n va t o.rd x.cpu e.0 e.1) in
      ap by (by_user (writes_memory t) o.space stores normal)
      ∙ ap through (ap (λ r. walked marks r va user_store) u.root ∙ stores_are_forbidden g marks va u.few (user_kept n g words mmu x i u).tables (small o) read written)

pub forbidden_stores_trap : ForbiddenStoresTrap
forbidden_stores_trap n g words mmu x i t o u asks normal stores calm read written =
    traps_there n g words mmu x i u (Transfer t o) 9 _ asks calm (refused n g words mmu x i u t o normal stores read written) u.traps
