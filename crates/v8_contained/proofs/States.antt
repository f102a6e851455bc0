-- Every turn of a board leaves its state a state, whatever runs there.
use Rattle.std.proofs.Common.{◌≡◌, ℕ, suc, ◌+◌, ◌-◌, ◌*◌, ◌/◌, ◌%◌, ◌^◌, ◌<◌, Bool, true, false, cond, List, [], ◌∷◌, ◌++◌, length, Option, Some, None, IfSome, Result, Ok, Err, refl, ◌∙◌, arith, lit<}
use Rattle.std.specs.Prelude.{◌==◌, nat_lt, if◌then◌else◌}
use Rattle.v8_core.specs.Size.{Size}
use Rattle.v8_core.specs.Size.TheVariants as sizes
use Rattle.v8_core.specs.Table.{meaning}
use Rattle.v8_core.specs.Operations.{operation_of}
use Rattle.v8_core.specs.Transfers.{exchanged_size, loaded_size, sent, size_of, stored, writes_memory}
use Rattle.v8_core.specs.Exchange.TheVariants.{Ones, Register}
use Rattle.v8_core.specs.MemoryOperand.{MemoryOperand}
use Rattle.v8_core.specs.Operation.{Operation}
use Rattle.v8_core.specs.Operation.TheVariants.{Compute, Divide, TaggedTrap, SetHigh, ReadY, WriteY, ReadState, WriteState, Transfer, Save, Restore, Call}
use Rattle.v8_core.specs.Operation.TheVariants.{BranchOnCondition, JumpAndLink, ReturnFromTrap, TrapOnCondition, Nothing, Illegal, FloatingPoint, Coprocessor}
use Rattle.v8_core.specs.Transfer.{Transfer as Moving}
use Rattle.v8_core.specs.Transfer.TheVariants as transfer
use Rattle.v8_core.specs.Meaning.{exchanged_after, limit_of, stored_after}
use Rattle.v8_core.specs.Paths.{marked_ram}
use Rattle.v8_core.specs.Ram.{AreBytes, entry_of, number_at}
use Rattle.v8_core.specs.Walked.{Page, root_of, walked}
use Rattle.v8_core.specs.Access.{Access}
use Rattle.v8_core.specs.AccessKind.TheVariants as kinds
use Rattle.v8_core.specs.Stop.{Stop}
use Rattle.v8_core.specs.Stop.TheVariants.{Exit, Trapped}
use Rattle.v8_core.specs.MmuFault.{MmuFault}
use Rattle.v8_core.specs.MmuRegs.{MmuRegs}
use Rattle.v8_mmu.proofs.RamLemmas.{length-marked_ram}
use Rattle.v8_core.specs.Windows.{Windows, IsFile, reg_of}
use Rattle.v8_core.specs.Cpu.{Cpu}
use Rattle.v8_core.specs.Effects.{effect}
use Rattle.v8_core.specs.Traps.{first_trap}
use Rattle.v8_core.specs.declared.access.Moved.{Moved}
use Rattle.v8_core.specs.declared.access.Moved.TheVariants.{Done, Fault}
use Rattle.v8_core.specs.declared.turn.DataAccess.{DataAccess}
use Rattle.v8_core.specs.Accesses.{World, access_of, is_user, place_of, transfer_ends, transfers, world}
use Rattle.v8_core.specs.Memory.{Memory, answers, fetch_answered, fetch_through, fetches, loaded_from, move_answered, move_through, moves}
use Rattle.v8_core.specs.Steps.{acts, attempts, ends, executes, executes_or, goes_on, next, proceeds, tries}
use Rattle.v8_loaded.specs.Board.{Device, beside, board, board_load, board_store, device_base, device_load, device_store, gets, got_from, overwritten, with_ram}
use Rattle.v8_loaded.specs.Input.{next_byte}
use Rattle.v8_loaded.specs.States.{IsSound}
use Rattle.v8_contained.specs.Laws.{StatesStay}
use Rattle.v8_contained.proofs.Bytes.{mark_bytes, number_bytes, number_fits}
use Rattle.v8_core.proofs.Fields.{SmallSecond, small_second}
use Rattle.v8_contained.proofs.Files.{reads_word}
use Rattle.v8_contained.proofs.Sound.{sound_effect, sound_entered, sound_faulted, sound_skipped, sound_taken}
use Rattle.v8_contained.proofs.Stays.{number_is, with_number_size}

-- ---- memory and input

-- RAM of 1 MiB of bytes, and an input of bytes
record AreHeld (ram : List ℕ) (d : Device) : Type 0 where
  pub size : length ram ≡ 0x100000
  pub bytes : AreBytes ram
  pub input : AreBytes d.input

abbrev Gives : ℕ → ℕ × Device → Type 0
Gives bound x = (x.0 < bound) × AreBytes x.1.input

next_fits : (input : List ℕ) → AreBytes input → IfSome (next_byte input).0 (λ b. b < 256) × AreBytes (next_byte input).1
next_fits [] a = (tt, a)
next_fits (b ∷ left) a = (a 0, λ i. a (suc i))

got_fits : (d : Device) (o : Option ℕ) (left : List ℕ) → IfSome o (λ b. b < 256) → AreBytes left → Gives (2 ^ 32) (got_from d (o, left))
got_fits d None left small a = (lit< tt, a)
got_fits d (Some b) left small a = (omega arith, a)

gets_by : (d : Device) (b : Bool) → AreBytes d.input → Gives (2 ^ 32) (cond b (0xFFFFFFFF, d) (got_from d (next_byte d.input)))
gets_by d true a = (lit< tt, a)
gets_by d false a = let f = next_fits d.input a in got_fits d (next_byte d.input).0 (next_byte d.input).1 f.0 f.1

gets_fit : (d : Device) → AreBytes d.input → Gives (2 ^ 32) (gets d)
unfolding gets
gets_fit d a = gets_by d d.ended a

given_or_none : (b : Bool) (bound : ℕ) (x : ℕ × Device) → Gives bound x → IfSome (if b then Some x else None) (Gives bound)
given_or_none true bound x g = g
given_or_none false bound x g = tt

device_gives : (d : Device) (place : ℕ) (size : Size) → AreBytes d.input → IfSome (device_load d place size) (Gives (limit_of size))
unfolding device_load
device_gives d place sizes.Byte a = tt
device_gives d place sizes.Half a = tt
device_gives d place sizes.Word a = given_or_none (place == 0) (2 ^ 32) (gets d) (gets_fit d a)
device_gives d place sizes.Double a = tt

ram_gives : (ram : List ℕ) (d : Device) (pa : ℕ) (size : Size) (o : Option ℕ) → number_at ram pa size ≡ o → AreBytes ram → AreBytes d.input → IfSome (beside d o) (Gives (limit_of size))
ram_gives ram d pa size None e a b = tt
ram_gives ram d pa size (Some v) e a b = (number_fits ram pa size v a e, b)

load_by : (ram : List ℕ) (d : Device) (pa : ℕ) (size : Size) (b : Bool) → AreHeld ram d →
    IfSome (cond b (beside d (number_at ram pa size)) (device_load d (pa - device_base) size)) (Gives (limit_of size))
load_by ram d pa size true h = ram_gives ram d pa size (number_at ram pa size) refl h.bytes h.input
load_by ram d pa size false h = device_gives d (pa - device_base) size h.input

load_gives : (ram : List ℕ) (d : Device) (pa : ℕ) (size : Size) → AreHeld ram d → IfSome (board_load ram d pa size) (Gives (limit_of size))
unfolding board_load
load_gives ram d pa size h = load_by ram d pa size (nat_lt pa device_base) h

-- ---- stores

abbrev Leaves : List ℕ × Device → Type 0
Leaves x = AreHeld x.0 x.1

put_by : (d : Device) (v : ℕ) (a b c : Bool) → AreBytes d.input →
    IfSome (if a then Some (record d { output = d.output ++ (v % 2 ^ 8) ∷ [] })
    else (if b then Some (record d { stopped = Some (Exit v) }) else (if c then Some (record d { stopped = Some Trapped }) else None)))
    (λ e. AreBytes e.input)
put_by d v true b c i = i
put_by d v false true c i = i
put_by d v false false true i = i
put_by d v false false false i = tt

device_leaves : (d : Device) (place : ℕ) (size : Size) (v : ℕ) → AreBytes d.input → IfSome (device_store d place size v) (λ e. AreBytes e.input)
unfolding device_store
device_leaves d place sizes.Byte v i = tt
device_leaves d place sizes.Half v i = tt
device_leaves d place sizes.Word v i = put_by d v (place == 4) (place == 8) (place == 12) i
device_leaves d place sizes.Double v i = tt

with_device : (ram : List ℕ) (o : Option Device) → length ram ≡ 0x100000 → AreBytes ram → IfSome o (λ e. AreBytes e.input) → IfSome (with_ram ram o) Leaves
with_device ram None size bytes i = tt
with_device ram (Some e) size bytes i = record { size = size; bytes = bytes; input = i }

over_leaves : (ram : List ℕ) (d : Device) (pa : ℕ) (size : Size) (v : ℕ) (o : Option ℕ) → number_at ram pa size ≡ o → v < limit_of size → AreHeld ram d → IfSome (overwritten ram d pa size v o) Leaves
over_leaves ram d pa size v None e small h = tt
over_leaves ram d pa size v (Some was) e small h =
    let there = number_is ram pa size was e in
    record { size = with_number_size ram pa size v there.fits ∙ h.size; bytes = number_bytes ram pa size v h.bytes small; input = h.input }

store_by : (ram : List ℕ) (d : Device) (pa : ℕ) (size : Size) (v : ℕ) (b : Bool) → v < limit_of size → AreHeld ram d →
    IfSome (cond b (overwritten ram d pa size v (number_at ram pa size)) (with_ram ram (device_store d (pa - device_base) size v))) Leaves
store_by ram d pa size v true small h = over_leaves ram d pa size v (number_at ram pa size) refl small h
store_by ram d pa size v false small h = with_device ram (device_store d (pa - device_base) size v) h.size h.bytes (device_leaves d (pa - device_base) size v h.input)

store_leaves : (ram : List ℕ) (d : Device) (pa : ℕ) (size : Size) (v : ℕ) → v < limit_of size → AreHeld ram d → IfSome (board_store ram d pa size v) Leaves
unfolding board_store
store_leaves ram d pa size v small h = store_by ram d pa size v (nat_lt pa device_base) small h

-- ---- transfers

abbrev Answers : ℕ → ℕ × List ℕ × Device → Type 0
Answers bound x = (x.0 < bound) × AreHeld x.1 x.2

some_room : (size : Size) → 0 < limit_of size
some_room sizes.Byte = lit< tt
some_room sizes.Half = lit< tt
some_room sizes.Word = lit< tt
some_room sizes.Double = lit< tt

loaded_answers : (ram : List ℕ) (d : Device) (bound : ℕ) (o : Option (ℕ × Device)) → AreHeld ram d → IfSome o (Gives bound) → IfSome (loaded_from ram o) (Answers bound)
loaded_answers ram d bound None h g = tt
loaded_answers ram d bound (Some x) h g = (g.0, record { size = h.size; bytes = h.bytes; input = g.1 })

stored_answers : (bound was : ℕ) (o : Option (List ℕ × Device)) → was < bound → IfSome o Leaves → IfSome (stored_after was o) (Answers bound)
stored_answers bound was None small l = tt
stored_answers bound was (Some x) small l = (small, l)

exchanged_answers : (ram : List ℕ) (d : Device) (pa : ℕ) (size : Size) (v : ℕ) (o : Option (ℕ × Device)) → v < limit_of size → AreHeld ram d →
    IfSome o (Gives (limit_of size)) → IfSome (exchanged_after board_store ram pa size v o) (Answers (limit_of size))
exchanged_answers ram d pa size v None small h g = tt
exchanged_answers ram d pa size v (Some x) small h g =
    stored_answers (limit_of size) x.0 (board_store ram x.1 pa size v) g.0 (store_leaves ram x.1 pa size v small (record { size = h.size; bytes = h.bytes; input = g.1 }))

answers_fit : (ram : List ℕ) (d : Device) (pa : ℕ) (t : Moving) (v : ℕ) → v < limit_of (size_of t) → AreHeld ram d → IfSome (answers board ram d pa t v) (Answers (limit_of (size_of t)))
answers_fit ram d pa (transfer.Load l) v small h = loaded_answers ram d (limit_of (loaded_size l)) (board_load ram d pa (loaded_size l)) h (load_gives ram d pa (loaded_size l) h)
answers_fit ram d pa (transfer.Store size) v small h = stored_answers (limit_of size) 0 (board_store ram d pa size v) (some_room size) (store_leaves ram d pa size v small h)
answers_fit ram d pa (transfer.Exchange e) v small h =
    let size = exchanged_size e in
    exchanged_answers ram d pa size v (board_load ram d pa size) small h (load_gives ram d pa size h)

abbrev OnDone : Moved → (ℕ → Type 0) → Type 0
OnDone (Done v pa) P = P v
OnDone (Fault st) P = Unit

abbrev MovesTo : ℕ → Moved × Memory Device → Type 0
MovesTo bound r = OnDone r.0 (λ v. v < bound) × AreHeld r.1.ram r.1.device

answered_to : (ram : List ℕ) (d : Device) (page : Page) (a : Access) (bound : ℕ) (o : Option (ℕ × List ℕ × Device)) → AreHeld ram d → IfSome o (Answers bound) →
    MovesTo bound (move_answered (record { ram = ram; device = d }) page a o)
answered_to ram d page a bound None h g = (tt, h)
answered_to ram d page a bound (Some x) h g = g

marks_held : (ram : List ℕ) (d : Device) (place : ℕ) (store : Bool) → AreHeld ram d → AreHeld (marked_ram ram place store) d
marks_held ram d place store h = record { size = length-marked_ram ram place store ∙ h.size; bytes = mark_bytes ram place store h.bytes; input = h.input }

through_to : (ram : List ℕ) (d : Device) (a : Access) (t : Moving) (v : ℕ) (r : Result Page MmuFault) → v < limit_of (size_of t) → AreHeld ram d →
    MovesTo (limit_of (size_of t)) (move_through board a t v (record { ram = ram; device = d }) r)
through_to ram d a t v (Err e) small h = (tt, h)
through_to ram d a t v (Ok page) small h =
    let marks = marked_ram ram page.place (writes_memory t) in
    answered_to ram d page a (limit_of (size_of t)) (answers board marks d page.pa t v) h (answers_fit marks d page.pa t v small (marks_held ram d page.place (writes_memory t) h))

moves_to : (mmu : MmuRegs) (va : ℕ) (a : Access) (t : Moving) (v : ℕ) (ram : List ℕ) (d : Device) → v < limit_of (size_of t) → AreHeld ram d →
    MovesTo (limit_of (size_of t)) (moves board mmu va a t v (record { ram = ram; device = d }))
unfolding moves
moves_to mmu va a t v ram d small h = through_to ram d a t v (walked ram (root_of mmu) va a) small h

stored_fits : (n : ℕ) (v : Windows) (size : Size) (rd : ℕ) → IsFile n v → stored (reg_of n v) size rd < limit_of size
stored_fits n v sizes.Byte rd f = omega arith
stored_fits n v sizes.Half rd f = omega arith
stored_fits n v sizes.Word rd f = reads_word n v rd f
stored_fits n v sizes.Double rd f = let p = reads_word n v rd f in let q = reads_word n v (rd / 2 * 2 + 1) f in omega arith

sent_fits : (n : ℕ) (v : Windows) (t : Moving) (rd : ℕ) → IsFile n v → sent (reg_of n v) t rd < limit_of (size_of t)
sent_fits n v (transfer.Load l) rd f = some_room (loaded_size l)
sent_fits n v (transfer.Store size) rd f = stored_fits n v size rd f
sent_fits n v (transfer.Exchange Ones) rd f = lit< tt
sent_fits n v (transfer.Exchange Register) rd f = reads_word n v rd f

-- ---- a turn

-- a sound processor beside such a RAM and input
record IsFine (n : ℕ) (x : World n Device) : Type 0 where
  pub cpu : IsSound n x.cpu
  pub held : AreHeld x.memory.ram x.memory.device

transferred : (n va : ℕ) (t : Moving) (rd : ℕ) (cpu : Cpu n) (e : Moved) (m : Memory Device) → IsSound n cpu → MovesTo (limit_of (size_of t)) (e, m) → IsFine n (transfer_ends n va t rd cpu e m).1
transferred n va t rd cpu (Done v pa) m s r = record { cpu = sound_taken n cpu t rd v s r.0; held = r.1 }
transferred n va t rd cpu (Fault st) m s r = record { cpu = sound_faulted n cpu st s; held = r.1 }

module _ (n : ℕ) (mmu : MmuRegs) (cpu : Cpu n) (d : Device) (s : IsSound n cpu) where
  transfers_fine : (ram : List ℕ) (t : Moving) (o : MemoryOperand) → AreHeld ram d → IsFine n (transfers board n mmu t o (world n cpu ram d)).1
  unfolding transfers
  transfers_fine ram t o h =
      let va = place_of n cpu o in
      let a = access_of n cpu (writes_memory t) o.space in
      let v = sent (reg_of n cpu.regs) t o.rd in
      let r = moves board mmu va a t v (record { ram = ram; device = d }) in
      transferred n va t o.rd cpu r.0 r.1 s (moves_to mmu va a t v ram d (sent_fits n cpu.regs t o.rd s.file) h)

  plainly : (ram : List ℕ) (i : Operation) → AreHeld ram d → SmallSecond i → first_trap n cpu i ≡ None → IsFine n (world n (effect n cpu i) ram d)
  plainly ram i h small calm = record { cpu = sound_effect n cpu i s small calm; held = h }

  acts_fine : (ram : List ℕ) (i : Operation) → AreHeld ram d → SmallSecond i → first_trap n cpu i ≡ None → IsFine n (acts board n mmu i (world n cpu ram d)).1
  acts_fine ram (Transfer t m) h small calm = transfers_fine ram t m h
  acts_fine ram (Compute op f) h small calm = plainly ram (Compute op f) h small calm
  acts_fine ram (Divide op f) h small calm = plainly ram (Divide op f) h small calm
  acts_fine ram (TaggedTrap op f) h small calm = plainly ram (TaggedTrap op f) h small calm
  acts_fine ram (SetHigh f) h small calm = plainly ram (SetHigh f) h small calm
  acts_fine ram (ReadY rd) h small calm = plainly ram (ReadY rd) h small calm
  acts_fine ram (WriteY f) h small calm = plainly ram (WriteY f) h small calm
  acts_fine ram (ReadState r rd) h small calm = plainly ram (ReadState r rd) h small calm
  acts_fine ram (WriteState r f) h small calm = plainly ram (WriteState r f) h small calm
  acts_fine ram (Save f) h small calm = plainly ram (Save f) h small calm
  acts_fine ram (Restore f) h small calm = plainly ram (Restore f) h small calm
  acts_fine ram (Call k) h small calm = plainly ram (Call k) h small calm
  acts_fine ram (BranchOnCondition b) h small calm = plainly ram (BranchOnCondition b) h small calm
  acts_fine ram (JumpAndLink f) h small calm = plainly ram (JumpAndLink f) h small calm
  acts_fine ram (ReturnFromTrap f) h small calm = plainly ram (ReturnFromTrap f) h small calm
  acts_fine ram (TrapOnCondition t) h small calm = plainly ram (TrapOnCondition t) h small calm
  acts_fine ram Nothing h small calm = plainly ram Nothing h small calm
  acts_fine ram Illegal h small calm = plainly ram Illegal h small calm
  acts_fine ram FloatingPoint h small calm = plainly ram FloatingPoint h small calm
  acts_fine ram Coprocessor h small calm = plainly ram Coprocessor h small calm

  executed : (ram : List ℕ) (i : Operation) (o : Option ℕ) → AreHeld ram d → SmallSecond i → first_trap n cpu i ≡ o → IsFine n (executes_or board n mmu i (world n cpu ram d) o).1
  executed ram i None h small calm = acts_fine ram i h small calm
  executed ram i (Some t) h small e = record { cpu = s; held = h }

  proceeded : (ram : List ℕ) (r : Result ℕ ℕ) (marks : List ℕ) → AreHeld marks d → IsFine n (proceeds board n mmu (world n cpu ram d) r marks).1.1
  unfolding executes
  proceeded ram (Ok w) marks h = let i = operation_of (meaning w) in executed marks i (first_trap n cpu i) h (small_second w) refl
  proceeded ram (Err st) marks h = record { cpu = sound_faulted n cpu st s; held = h }

fetch_held : (ram marks : List ℕ) (d : Device) (page : Page) (a : Access) (o p : Option ℕ) → AreHeld ram d → AreHeld marks d → AreHeld (fetch_answered ram page a marks o p).1 d
fetch_held ram marks d page a None p h m = h
fetch_held ram marks d page a (Some u) None h m = h
fetch_held ram marks d page a (Some u) (Some w) h m = m

fetched_held : (ram : List ℕ) (d : Device) (a : Access) (r : Result Page MmuFault) → AreHeld ram d → AreHeld (fetch_through a ram r).1 d
fetched_held ram d a (Err e) h = h
fetched_held ram d a (Ok page) h =
    let marks = marked_ram ram page.place false in
    fetch_held ram marks d page a (entry_of ram page.pa) (entry_of marks page.pa) h (marks_held ram d page.place false h)

fetches_held : (mmu : MmuRegs) (va : ℕ) (a : Access) (ram : List ℕ) (d : Device) → AreHeld ram d → AreHeld (fetches mmu va a ram).1 d
unfolding fetches
fetches_held mmu va a ram d h = fetched_held ram d a (walked ram (root_of mmu) va a) h

ended_fine : (n : ℕ) (old : World n Device) (word : Option ℕ) (access : Option DataAccess) (trap : Option ℕ) (mid : World n Device) → IsFine n mid → IsFine n (ends board n old word access trap mid).1
ended_fine n old word access None mid f = f
ended_fine n old word access (Some t) mid f = record { cpu = sound_entered n mid.cpu t f.cpu; held = f.held }

tries_fine : (n : ℕ) (mmu : MmuRegs) (x : World n Device) → IsFine n x → IsFine n (tries board n mmu x).1
unfolding tries attempts
tries_fine n mmu x f =
    let fetch = fetches mmu x.cpu.control.pc (record { user = is_user n x.cpu; kind = kinds.Fetch }) x.memory.ram in
    let a = proceeds board n mmu x fetch.0 fetch.1 in
    ended_fine n x a.0 a.1.0.access a.1.0.trap a.1.1
    (proceeded n mmu x.cpu x.memory.device f.cpu x.memory.ram fetch.0 fetch.1
    (fetches_held mmu x.cpu.control.pc (record { user = is_user n x.cpu; kind = kinds.Fetch }) x.memory.ram x.memory.device f.held))

goes_on_fine : (n : ℕ) (mmu : MmuRegs) (x : World n Device) (stop : Option Stop) (error : Option ℕ) (annul : Bool) → IsFine n x → IsFine n (goes_on board n mmu x stop error annul).1
goes_on_fine n mmu x (Some st) error annul f = f
goes_on_fine n mmu x None (Some t) annul f = f
goes_on_fine n mmu x None None true f = record { cpu = sound_skipped n x.cpu f.cpu; held = f.held }
goes_on_fine n mmu x None None false f = tries_fine n mmu x f

next_fine : (n : ℕ) (mmu : MmuRegs) (x : World n Device) → IsFine n x → IsFine n (next board n mmu x).1
unfolding next
next_fine n mmu x f = goes_on_fine n mmu x x.memory.device.stopped x.cpu.control.error x.cpu.control.annul f

pub states_stay : StatesStay
states_stay n mmu x st input =
    let f = next_fine n mmu x (record { cpu = st.cpu; held = record { size = st.size; bytes = st.bytes; input = input } }) in
    (record { cpu = f.cpu; size = f.held.size; bytes = f.held.bytes; root = st.root }, f.held.input)
