-- Where each flat step goes: to nPC, and with an exit word after the word that ends the run alone.
use Rattle.std.proofs.Common.{◌≡◌, ℕ, zero, suc, ◌-◌, ◌%◌, ◌^◌, Bool, true, false, List, [], ◌∷◌, Option, Some, None, refl, sym, ◌∙◌, subst, arith}
use Rattle.std.specs.Prelude.{◌==◌, ◌&&◌, ◌||◌, if◌then◌else◌}
use Rattle.std.proofs.lemmas.Bool.Decides.{nat_tests}
use Rattle.v8_alu.specs.declared.AluOut.{AluOut}
use Rattle.v8_alu.specs.Outcomes.{outcome, division_of, tagged_outcome}
use Rattle.v8_meaning.specs.Admitted.{is_admitted}
use Rattle.v8_meaning.specs.Operands.{address}
use Rattle.v8_meaning.specs.Transfers.{bytes_in, received, sent, size_of, writes_memory}
use Rattle.v8_meaning.specs.declared.operation.Operation.{Operation}
use Rattle.v8_meaning.specs.declared.operation.Operation.TheVariants.{Compute, Divide, TaggedTrap, SetHigh, ReadY, WriteY, ReadState, WriteState, Save, Restore}
use Rattle.v8_meaning.specs.declared.operation.Operation.TheVariants.{Call, BranchOnCondition, JumpAndLink, ReturnFromTrap, TrapOnCondition, Nothing, Illegal}
use Rattle.v8_meaning.specs.declared.operation.Operation.TheVariants.{FloatingPoint, Coprocessor}
use Rattle.v8_meaning.specs.declared.operation.Operation.TheVariants as operation
use Rattle.v8_meaning.specs.declared.operation.Transfer.{Transfer}
use Rattle.sbx_image.specs.Parts.{Parts}
use Rattle.sbx_image.specs.Services.{Services}
use Rattle.sbx_flat.specs.Effects.{address_in, declares, does, found, gets, high_word, is_base, is_stack_pointer, leaves_in_data, leaves_in_slot, operand_value}
use Rattle.sbx_flat.specs.Effects.{performs, restores, served, serves, service_of, slot_of, takes, transfers_data, transfers_in, with_regs, writes, writes_some}
use Rattle.sbx_flat.specs.Memory.{with_number}
use Rattle.sbx_flat.specs.Registers.{Fresh, Registers, popped, pushed, with_slot}
use Rattle.sbx_flat.specs.declared.path.Wrong.{Wrong}
use Rattle.sbx_flat.specs.declared.path.Wrong.TheVariants.{NotAdmitted, Misaligned, ZeroDivisor, TagOverflow, NoService, BadFrame, StackPointer}
use Rattle.sbx_flat.specs.States.{State, reg, with_reg, advanced, transferred, Turn, Goes, Fails, Over}
use Rattle.sbx_flat.specs.Turns.{Step, asked, fetches, goes_on, turn, word_at}
use Rattle.sbx_flat.proofs.Kept.{pick}
use Rattle.sbx_rules.specs.Places.{ends_run, is_exit}

-- where a turn goes on, it goes on to such a state
abbrev pub Comes : (State → Type 0) → Turn → Type 0
Comes P (Goes next) = P next
Comes P (Fails why) = Unit {0}
Comes P Over = Unit {0}

-- an exit word comes, or what was there stays
abbrev pub Exits : Bool → Option ℕ → State → Type 0
Exits true exit next = (word : ℕ) × (next.exit ≡ Some word)
Exits false exit next = next.exit ≡ exit

-- A step to a place, that ends the run or doesn't.
pub record Flows (place : ℕ) (ends : Bool) (exit : Option ℕ) (next : State) : Type 0 where
  pub pc : next.pc ≡ place
  pub exits : Exits ends exit next

-- whether a word that isn't annulled, or is, ends the run
abbrev pub ends_by : Bool → Option ℕ → Bool
ends_by true o = false
ends_by false None = false
ends_by false (Some word) = ends_run (asked word)

module _ (place : ℕ) (exit : Option ℕ) where
  -- a state before its place is left
  record Has (s : State) : Type 0 where
    npc : s.npc ≡ place
    open_still : s.exit ≡ exit

  abbrev On : State → Type 0
  On next = Flows place false exit next

  on : (s : State) → Has s → On (advanced s)
  on s h = record { pc = h.npc; exits = h.open_still }

  moved : (to : ℕ) (s : State) → Has s → On (transferred to s)
  moved to s h = record { pc = h.npc; exits = h.open_still }

  same : (s t : State) → t.npc ≡ s.npc → t.exit ≡ s.exit → Has s → Has t
  same s t e f h = record { npc = e ∙ h.npc; open_still = f ∙ h.open_still }

  -- ---- writes

  writes_on : (n v : ℕ) (s : State) → Has s → Comes On (writes n v s)
  writes_on n v s h =
      pick (Comes On) ((n == 14) || (n == 30)) (Fails StackPointer) (Goes (advanced (with_reg n v s))) (λ e. tt)
      (λ e. on (with_reg n v s) (same s (with_reg n v s) refl refl h))

  some_on : (rd : ℕ) (why : Wrong) (o : Option AluOut) (s : State) → Has s → Comes On (writes_some rd why o s)
  some_on rd why None s h = tt
  some_on rd why (Some out) s h =
      let t : State = record s { icc = out.icc; y = out.y } in writes_on rd out.value t (same s t refl refl h)

  regs_on : (words : List (ℕ × ℕ)) (s : State) → Has s → Has (with_regs words s)
  regs_on [] s h = h
  regs_on (w ∷ rest) s h = let t = with_regs rest s in same t (with_reg w.0 w.1 t) refl refl (regs_on rest s h)

  takes_on : (words : List (ℕ × ℕ)) (s : State) → Has s → Comes On (takes words s)
  takes_on words s h =
      pick (Comes On) (is_stack_pointer words) (Fails StackPointer) (Goes (advanced (with_regs words s))) (λ e. tt)
      (λ e. on (with_regs words s) (regs_on words s h))

  -- ---- loads and stores

  data_on : (t : Transfer) (rd a : ℕ) (o : Option ℕ) (s : State) → Has s → Comes On (transfers_data t rd a o s)
  data_on t rd a None s h = tt
  data_on t rd a (Some n) s h =
      let left : State = record s { memory = with_number s.memory a (bytes_in (size_of t)) (sent (reg s) t rd) } in
      takes_on (received t rd n) (leaves_in_data t a (sent (reg s) t rd) s)
      (pick Has (writes_memory t) left s (λ e. same s left refl refl h) (λ e. h))

  transfer_on : (parts : Parts) (t : Transfer) (rd a : ℕ) (o : Option ℕ) (s : State) → Has s → Comes On (transfers_in parts t rd a o s)
  transfer_on parts t rd a None s h = data_on t rd a (found parts t a s.memory) s h
  transfer_on parts t rd a (Some word) s h =
      let left : State = record s { registers = with_slot a (sent (reg s) t rd) s.registers } in
      takes_on (received t rd word) (leaves_in_slot t a (sent (reg s) t rd) s)
      (pick Has (writes_memory t) left s (λ e. same s left refl refl h) (λ e. h))

  -- ---- frames and jumps

  saves_on : (parts : Parts) (fresh : Fresh) (rd b : ℕ) (s : State) → Has s →
      Comes On (if (rd == 14) && is_base parts (reg s 14) b then Goes (advanced (record s { registers = pushed fresh b s.registers })) else Fails BadFrame)
  saves_on parts fresh rd b s h =
      let t : State = record s { registers = pushed fresh b s.registers } in
      pick (Comes On) ((rd == 14) && is_base parts (reg s 14) b) (Goes (advanced t)) (Fails BadFrame) (λ e. on t (same s t refl refl h)) (λ e. tt)

  restores_on : (rd v : ℕ) (o : Option Registers) (s : State) → Has s → Comes On (restores rd v o s)
  restores_on rd v None s h = tt
  restores_on rd v (Some file) s h = let t : State = record s { registers = file } in writes_on rd v t (same s t refl refl h)

  jumps_on : (rd t : ℕ) (s : State) → Has s → Comes On (if t % 4 == 0 then Goes (transferred t (with_reg rd s.pc s)) else Fails Misaligned)
  jumps_on rd t s h =
      let u = with_reg rd s.pc s in
      pick (Comes On) (t % 4 == 0) (Goes (transferred t u)) (Fails Misaligned) (λ e. moved t u (same s u refl refl h)) (λ e. tt)

  -- ---- services

  got : (input : List ℕ) (s : State) → Has s → Has (gets input s)
  got [] s h = same s (with_reg 8 (2 ^ 32 - 1) s) refl refl h
  got (byte ∷ rest) s h = let t : State = record s { input = rest } in same s (with_reg 8 byte t) refl refl h

  later : (n : ℕ) (next : State) → On next → Flows place (suc n == 0) exit next
  later n next h = let e : (suc n == 0) ≡ false = grind (arith, nat_tests) in subst (λ ends. Flows place ends exit next) (sym e) h

  served_on : (n : ℕ) (s : State) → Has s → Flows place (n == 0) exit (advanced (served n s))
  served_on zero s h = record { pc = h.npc; exits = (reg s 8, refl) }
  served_on (suc zero) s h = later 0 (advanced (gets s.input s)) (on (gets s.input s) (got s.input s h))
  served_on (suc (suc n)) s h = later (suc n) (advanced (served (suc (suc n)) s)) (record { pc = h.npc; exits = h.open_still })

-- ---- the step

module _ (parts : Parts) (fresh : Fresh) where
  service_flows : (services : Services) (o : Option ℕ) (ends : Option ℕ → Bool) (s : State) → ((n : ℕ) → ends (Some n) ≡ (n == 0)) →
      Comes (Flows s.npc (ends o) s.exit) (serves services o s)
  service_flows services None ends s e = tt
  service_flows services (Some n) ends s e =
      let P : State → Type 0 = Flows s.npc (ends (Some n)) s.exit in
      pick (Comes P) (declares services n) (Goes (advanced (served n s))) (Fails NoService)
      (λ f. subst (λ b. Flows s.npc b s.exit (advanced (served n s))) (sym (e n)) (served_on s.npc s.exit n s (record { npc = refl; open_still = refl })))
      (λ f. tt)

  abbrev Flow : Operation → State → State → Type 0
  Flow op s next = Flows s.npc (ends_run op) s.exit next

  here : (s : State) → Has s.npc s.exit s
  here s = record { npc = refl; open_still = refl }

  does_flow : (op : Operation) (s : State) → Comes (Flow op s) (does parts fresh op s)
  does_flow (Compute op f) s =
      let out = outcome op (reg s f.rs1) (operand_value s f.operand2) s.icc s.y in
      let t : State = record s { icc = out.icc; y = out.y } in
      writes_on s.npc s.exit f.rd out.value t (same s.npc s.exit s t refl refl (here s))
  does_flow (Divide op f) s = some_on s.npc s.exit f.rd ZeroDivisor (division_of op (reg s f.rs1) (operand_value s f.operand2) s.icc s.y) s (here s)
  does_flow (TaggedTrap op f) s = some_on s.npc s.exit f.rd TagOverflow (tagged_outcome op (reg s f.rs1) (operand_value s f.operand2) s.icc s.y) s (here s)
  does_flow (SetHigh f) s = writes_on s.npc s.exit f.rd (high_word f) s (here s)
  does_flow (ReadY rd) s = writes_on s.npc s.exit rd s.y s (here s)
  does_flow (WriteY f) s = record { pc = refl; exits = refl }
  does_flow (operation.Transfer t m) s =
      let a = address_in s m in
      pick (Comes (Flow (operation.Transfer t m) s)) (a % bytes_in (size_of t) == 0) (transfers_in parts t m.rd a (slot_of t s a) s) (Fails Misaligned)
      (λ e. transfer_on s.npc s.exit parts t m.rd a (slot_of t s a) s (here s)) (λ e. tt)
  does_flow (Save f) s = saves_on s.npc s.exit parts fresh f.rd (address (reg s) f.rs1 f.operand2) s (here s)
  does_flow (Restore f) s = restores_on s.npc s.exit f.rd (address (reg s) f.rs1 f.operand2) (popped s.registers) s (here s)
  does_flow (Call displacement) s = record { pc = refl; exits = refl }
  does_flow (BranchOnCondition b) s = record { pc = refl; exits = refl }
  does_flow (JumpAndLink f) s = jumps_on s.npc s.exit f.rd (address (reg s) f.rs1 f.operand2) s (here s)
  does_flow (TrapOnCondition t) s = service_flows parts.services (service_of t) is_exit s (λ n. refl)
  does_flow (ReadState r rd) s = tt
  does_flow (WriteState r f) s = tt
  does_flow (ReturnFromTrap f) s = tt
  does_flow Nothing s = tt
  does_flow Illegal s = tt
  does_flow FloatingPoint s = tt
  does_flow Coprocessor s = tt

  -- whether sandboxed code may have the operation or not
  performed : (op : Operation) (s : State) → Comes (Flow op s) (performs parts fresh op s)
  performed op s = pick (Comes (Flow op s)) (is_admitted op) (does parts fresh op s) (Fails NotAdmitted) (λ e. does_flow op s) (λ e. tt)

  fetched : (o : Option ℕ) (s : State) → Comes (Flows s.npc (ends_by false o) s.exit) (fetches parts fresh o s)
  fetched None s = tt
  fetched (Some word) s = performed (asked word) s

  going : (s : State) (exit : Option ℕ) (annulled : Bool) → Comes (Flows s.npc (ends_by annulled (word_at parts.words s.pc)) s.exit) (goes_on parts fresh s exit annulled)
  going s (Some status) annulled = tt
  going s None true = record { pc = refl; exits = refl }
  going s None false = fetched (word_at parts.words s.pc) s

  turned : (s : State) → Comes (Flows s.npc (ends_by s.annulled (word_at parts.words s.pc)) s.exit) (turn parts fresh s)
  unfolding turn
  turned s = going s s.exit s.annulled

-- each step goes to nPC, and ends the run by its word alone
pub flows : (parts : Parts) (s next : State) → Step parts s next → Flows s.npc (ends_by s.annulled (word_at parts.words s.pc)) s.exit next
flows parts s next step = subst (Comes (Flows s.npc (ends_by s.annulled (word_at parts.words s.pc)) s.exit)) step.2 (turned parts step.0 s)
