-- Turns of user code that load, store or exchange, in a slot of the newest call or in the data.
use Rattle.std.proofs.Common.{◌≡◌, ℕ, ◌+◌, ◌*◌, ◌/◌, ◌%◌, ◌^◌, ◌<◌, ◌≤◌, Bool, true, false, not, List, Option, Some, None, Ok, refl, sym, ap, ◌∙◌, subst, arith}
use Rattle.std.specs.Prelude.{◌==◌, ◌&&◌, ◌||◌, nat_lt, if◌then◌else◌}
use Rattle.std.proofs.lemmas.Bool.Decides.{nat_tests}
use Rattle.v8_loaded.specs.Areas.{area_of}
use Rattle.v8_map.specs.declared.TheConstants.{STACK_END, RAM}
use Rattle.v8_core.specs.Size.{Size}
use Rattle.v8_core.specs.Size.TheVariants as sizes
use Rattle.v8_core.specs.Operand.{Operand}
use Rattle.v8_core.specs.Admitted.{is_admitted}
use Rattle.v8_core.specs.Operands.{address}
use Rattle.v8_core.specs.Spaces.{is_normal}
use Rattle.v8_core.specs.Transfers.{bytes_in, received, sent, size_of, splits_pair, writes_memory}
use Rattle.v8_core.specs.Exchange.TheVariants as exchanges
use Rattle.v8_core.specs.Loading.TheVariants as loadings
use Rattle.v8_core.specs.MemoryOperand.{MemoryOperand}
use Rattle.v8_core.specs.Operation.{Operation}
use Rattle.v8_core.specs.Operation.TheVariants as operation
use Rattle.v8_core.specs.Space.{Space}
use Rattle.v8_core.specs.Space.TheVariants.{Alternate, Missing, Normal}
use Rattle.v8_core.specs.Transfer.{Transfer}
use Rattle.v8_core.specs.Transfer.TheVariants.{Load, Store, Exchange}
use Rattle.v8_core.specs.Meaning.{limit_of}
use Rattle.v8_core.specs.Permissions.{permits, rights_of}
use Rattle.v8_core.specs.Paths.{marked_ram}
use Rattle.v8_core.specs.Ram.{entry_of, number_at as board_number}
use Rattle.v8_core.specs.Walked.{Page, root_of, walked}
use Rattle.v8_core.specs.Access.{Access}
use Rattle.v8_core.specs.MmuRegs.{MmuRegs}
use Rattle.v8_core.specs.Windows.{reg_of}
use Rattle.v8_core.specs.Effects.{address_of, advanced as board_advanced, taken, with_regs as board_with_regs}
use Rattle.v8_core.specs.Cpu.{Cpu}
use Rattle.v8_core.specs.declared.access.Moved.{Moved}
use Rattle.v8_core.specs.declared.turn.DataAccess.{DataAccess}
use Rattle.v8_core.specs.declared.turn.Event.TheVariants.{Ran}
use Rattle.v8_core.specs.declared.turn.Outcome.{Outcome}
use Rattle.v8_core.specs.Accesses.{World, data_kind, moving, transfer_ends, transfers as board_transfers, world}
use Rattle.v8_core.specs.Memory.{Memory, answers, move_answered, move_through, moves}
use Rattle.v8_core.specs.Steps.{acts, next, ran_event, turn_of}
use Rattle.v8_layout.proofs.Map.{stack_at}
use Rattle.v8_loaded.specs.Board.{Device, board, device_base}
use Rattle.v8_loaded.specs.Places.{stack_entry_place}
use Rattle.v8_loaded.specs.Users.{AsksFor}
use Rattle.v8_loaded.proofs.Fetches.{walk_at}
use Rattle.v8_loaded.proofs.Users.{user_runs}
use Rattle.v8_contained.proofs.Files.{reads_word}
use Rattle.v8_board.specs.Start.{pages_of}
use Rattle.v8_board.proofs.Placed.{pages_few}
use Rattle.sbx_flat.specs.Parts.{Parts}
use Rattle.sbx_flat.specs.Regions.{in_one_region}
use Rattle.sbx_flat.specs.Effects.{does, found, is_stack_pointer, leaves_in_data, leaves_in_slot, slot_of, takes, transfers_data, transfers_in, with_regs}
use Rattle.sbx_flat.specs.Memory.{number_at}
use Rattle.sbx_flat.specs.Registers.{still}
use Rattle.sbx_flat.specs.States.{Fails, Goes, State, advanced, reg}
use Rattle.sbx_flat.specs.OwnPages.{is_own_data_page}
use Rattle.sbx_flat.specs.Turns.{IsWrong}
use Rattle.sbx_flat.specs.declared.path.Wrong.TheVariants.{Misaligned, OutsideData, StackPointer}
use Rattle.sbx_flat.proofs.Law.{still_is_fresh}
use Rattle.sbx_flat.specs.Calls.{slot}
use Rattle.sbx_shows.specs.Shows.{Shows, data_area}
use Rattle.sbx_shows.specs.Steps.{OneTurn, Stands}
use Rattle.sbx_shows.proofs.Data.{IsReached, data_at, data_entry_place, data_marks, data_own, data_stored_shows, is_reached}
use Rattle.sbx_shows.proofs.Fields.{MemoryIn}
use Rattle.sbx_shows.proofs.Moved.{answers_ram, brought, left, received_brought, received_shows, same_sent, sent_byte}
use Rattle.sbx_shows.proofs.Numbers.{number_fits, number_there, some_bytes}
use Rattle.sbx_shows.proofs.Places.{fails_not, fetched, fields, marks, same_address, same_reg, user, word}
use Rattle.sbx_shows.proofs.Processor.{calm_transfer}
use Rattle.sbx_shows.proofs.Slots.{slot_stored_shows, stack_marks}
use Rattle.sbx_shows.proofs.Stacks.{stack_own}
use Rattle.sbx_shows.proofs.Users.{marked_shows, next_shows}

-- an access of the mode's own data
abbrev pub at_operand : ℕ → ℕ → Operand → MemoryOperand
at_operand rd rs1 o = record { rd = rd; rs1 = rs1; operand2 = o; space = Normal }

abbrev access_by_user : Bool → Access
access_by_user store = record { user = true; kind = data_kind store }

-- where the two machines' places lie
abbrev page : ℕ → ℕ → Page
page pa entry = record { pa = pa; level = 3; place = entry }

-- the page's right lets it move
may_move : (store right : Bool) → (not store || right) ≡ true → permits (rights_of (if right then 1 else 0) true) (data_kind store) ≡ true
may_move true true e = refl
may_move true false e = absurd (cc)
may_move false true e = refl
may_move false false e = refl

or_true : (b : Bool) → (b || true) ≡ true
or_true true = refl
or_true false = refl

in_ram : (pa : ℕ) → pa < RAM → nat_lt pa device_base ≡ true
in_ram pa less = grind (arith, nat_tests)

module _ (n : ℕ) (parts : Parts) (mmu : MmuRegs) (x : World n Device) (s : State) (r i : ℕ) (h : Stands n parts mmu x s r i) (good : IsWrong parts s → ⊥)
    (t : Transfer) (rd rs1 : ℕ) (o : Operand) (is : AsksFor parts.words i (operation.Transfer t (at_operand rd rs1 o)))
    (pair : splits_pair (size_of t) rd ≡ false) (fit : MemoryIn (at_operand rd rs1 o)) where
  abbrev op : Operation
  op = operation.Transfer t (at_operand rd rs1 o)

  abbrev c : Cpu n
  c = x.cpu

  abbrev ram : List ℕ
  ram = fetched n parts mmu x s r i h

  -- the address, and the number that goes out, on the flat machine
  abbrev a : ℕ
  a = address (reg s) rs1 o

  abbrev v : ℕ
  v = sent (reg s) t rd

  abbrev size : Size
  size = size_of t

  less : rd < 32
  less = fit.destination

  place : address_of n c rs1 o ≡ a
  place = same_address n parts mmu x s r i h rs1 o fit.first (fit.second refl)

  value : sent (reg_of n c.regs) t rd ≡ v
  value = same_sent (reg_of n c.regs) (reg s) t rd (same_reg n parts mmu x s r i h) less

  admitted : is_admitted op ≡ true
  unfolding is_admitted
  admitted = ap not pair

  -- ---- the board's turn

  abbrev access : ℕ → DataAccess
  access pa = record { va = a; pa = pa; size = size; store = writes_memory t }

  abbrev marked : ℕ → List ℕ
  marked entry = marked_ram ram entry (writes_memory t)

  moved : (pa entry number : ℕ) (new : List ℕ) → walked ram (root_of mmu) a (access_by_user (writes_memory t)) ≡ Ok (page pa entry) →
      answers board (marked entry) x.memory.device pa t v ≡ Some (number, new, x.memory.device) →
      acts board n mmu op (world n c ram x.memory.device) ≡ (moving a pa size (writes_memory t), world n (taken n c t rd number) new x.memory.device)
  unfolding board_transfers moves
  moved pa entry number new walk answer =
      let memory : Memory Device = record { ram = ram; device = x.memory.device } in
      let F : ℕ → Moved × Memory Device → Outcome × World n Device = λ p q. transfer_ends n p t rd c q.0 q.1 in
      ap (λ b. F (address_of n c rs1 o)
      (moves board mmu (address_of n c rs1 o) (record { user = not b; kind = data_kind (writes_memory t) }) t
      (sent (reg_of n c.regs) t rd) memory)) h.shows.control.user
      ∙ ap (λ p. F p (moves board mmu p (access_by_user (writes_memory t)) t (sent (reg_of n c.regs) t rd) memory)) place
      ∙ ap (λ w. F a (moves board mmu a (access_by_user (writes_memory t)) t w memory)) value
      ∙ ap (λ k. F a (move_through board (access_by_user (writes_memory t)) t v memory k)) walk
      ∙ ap (λ k. F a (move_answered memory (page pa entry) (access_by_user (writes_memory t)) k)) answer

  turned : (pa entry number : ℕ) (new : List ℕ) → (a % bytes_in size == 0) ≡ true → walked ram (root_of mmu) a (access_by_user (writes_memory t)) ≡ Ok (page pa entry) →
      answers board (marked entry) x.memory.device pa t v ≡ Some (number, new, x.memory.device) →
      next board n mmu x ≡ (turn_of n c Ran (Some (word n parts mmu x s r i h)) (Some (access pa)), world n (taken n c t rd number) new x.memory.device)
  turned pa entry number new whole walk answer =
      let to = world n (taken n c t rd number) new x.memory.device in
      user_runs n (pages_of parts) parts.words mmu x i (user n parts mmu x s r i h) op (Some (access pa)) to is
      (calm_transfer n c t rd rs1 o a place whole pair) (moved pa entry number new walk answer)
      ∙ ap (λ e. (turn_of n c (ran_event e) (Some (word n parts mmu x s r i h)) (Some (access pa)), to)) h.shows.device.running

  -- both machines, from what is shown once the number has gone out
  ends : (pa entry number : ℕ) (new : List ℕ) (mid : State) → (a % bytes_in size == 0) ≡ true → walked ram (root_of mmu) a (access_by_user (writes_memory t)) ≡ Ok (page pa entry) →
      answers board (marked entry) x.memory.device pa t v ≡ Some (brought t number, new, x.memory.device) → is_own_data_page parts (writes_memory t) (a / 4096) ≡ true →
      does parts still op s ≡ takes (received t rd number) mid → Shows n parts (world n c new x.memory.device) mid r → number < limit_of size → OneTurn n parts mmu x s op r
  unfolding taken
  ends pa entry number new mid whole walk answer own goes shown small = by_free (is_stack_pointer (received t rd number)) refl
    where
      by_free : (b : Bool) → is_stack_pointer (received t rd number) ≡ b → OneTurn n parts mmu x s op r
      by_free true e =
          absurd (fails_not n parts mmu x s r i h op is admitted good StackPointer
          (goes ∙ ap (λ (b : Bool). if b then Fails StackPointer else Goes (advanced (with_regs (received t rd number) mid))) e))
      by_free false e =
          let regs = board_with_regs n c.regs (received t rd number) in
          let same : board_with_regs n c.regs (received t rd (brought t number)) ≡ regs = ap (board_with_regs n c.regs) (received_brought t rd number) in
          let there = received_shows n parts (world n c new x.memory.device) mid r rd number shown less t e pair small in
          record {
            fresh = still;
            is_fresh = still_is_fresh;
            next_state = advanced (with_regs (received t rd number) mid);
            goes = goes ∙ ap (λ (b : Bool). if b then Fails StackPointer else Goes (advanced (with_regs (received t rd number) mid))) e;
            word = word n parts mmu x s r i h;
            access = Some (access pa);
            new = world n (record { regs = regs; control = board_advanced c.control }) new x.memory.device;
            turn = turned pa entry (brought t number) new whole walk answer
                ∙ ap (λ g. (
                  turn_of n c Ran (Some (word n parts mmu x s r i h)) (Some (access pa)),
                  world n (record { regs = g; control = board_advanced c.control }) new x.memory.device,
                )) same;
            reaches = own;
            shows = next_shows n parts (world n (record c { regs = regs }) new x.memory.device) (with_regs (received t rd number) mid) r there;
          }

  -- ---- in the data

  found_is : in_one_region parts.regions a (bytes_in size) (writes_memory t) ≡ true → found parts t a s.memory ≡ number_at s.memory a (bytes_in size)
  found_is lies = ap (λ (b : Bool). if b then number_at s.memory a (bytes_in size) else None) lies

  data_walk : (p : IsReached parts a (writes_memory t)) → walked ram (root_of mmu) a (access_by_user (writes_memory t)) ≡ Ok (page (data_area a) (data_entry_place a))
  data_walk p =
      let high = p.high in
      let most = h.fits.pages in
      walk_at (pages_of parts) ram mmu a (access_by_user (writes_memory t)) (data_area a) (if p.right then 1 else 0) (data_entry_place a)
      (marks n parts mmu x s r i h).loaded.tables (pages_few parts) h.root (omega arith)
      (data_at parts a (writes_memory t) h.fits p) (may_move (writes_memory t) p.right p.may)

  -- what is shown once the number has gone out
  data_left : (mid : List ℕ) (number : ℕ) (b : Bool) → writes_memory t ≡ b → number_at s.memory a (bytes_in size) ≡ Some number → Shows n parts (world n c mid x.memory.device) s r →
      Shows n parts (world n c (left t mid (data_area a) v) x.memory.device) (leaves_in_data t a v s) r
  data_left mid number false e found shown = rw e shown
  data_left mid number true e found shown = rw e (data_stored_shows n parts (world n c mid x.memory.device) s r a number v size h.fits shown found (sent_byte (reg s) t rd))

  in_data : (number : ℕ) → (a % bytes_in size == 0) ≡ true → slot_of t s a ≡ None → in_one_region parts.regions a (bytes_in size) (writes_memory t) ≡ true →
      number_at s.memory a (bytes_in size) ≡ Some number → OneTurn n parts mmu x s op r
  in_data number whole none lies is_number =
      let p = is_reached parts a (bytes_in size) (writes_memory t) (some_bytes size) lies in
      let low = p.low in
      let high = p.high in
      let most = h.fits.pages in
      let m = data_marks n parts x.memory.ram ram a (writes_memory t) h.fits (marks n parts mmu x s r i h) p in
      let shown = marked_shows n parts x s r (marked (data_entry_place a)) h.shows m in
      let zero_rest : a % bytes_in size ≡ 0 = grind (arith, nat_tests, whole) in
      let there = number_there parts s.memory (marked (data_entry_place a)) a number size h.fits shown.bytes m.loaded.tables.size zero_rest is_number in
      let goes : does parts still op s ≡ takes (received t rd number) (leaves_in_data t a v s) =
      ap (λ (b : Bool). if b then transfers_in parts t rd a (slot_of t s a) s else Fails Misaligned) whole
      ∙ ap (λ q. transfers_in parts t rd a q s) none
      ∙ ap (λ q. transfers_data t rd a q s) (found_is lies ∙ is_number) in
      ends (data_area a) (data_entry_place a) number (left t (marked (data_entry_place a)) (data_area a) v) (leaves_in_data t a v s) whole (data_walk p)
      (answers_ram (marked (data_entry_place a)) x.memory.device (data_area a) v number (in_ram (data_area a) (omega arith)) t there)
      (data_own parts a (writes_memory t) p) goes (data_left (marked (data_entry_place a)) number (writes_memory t) refl is_number shown)
      (number_fits parts s.memory x.memory.ram a number size h.shows.bytes is_number)

  -- ---- in a slot

  -- a word is loaded or stored there
  word_of : (old : ℕ) → slot_of t s a ≡ Some old → (size ≡ sizes.Word) × (s.registers.newest.slots a ≡ Some old)
  word_of old e = by_transfer t e
    where
      by_transfer : (k : Transfer) → slot_of k s a ≡ Some old → (size_of k ≡ sizes.Word) × (s.registers.newest.slots a ≡ Some old)
      by_transfer (Load loadings.Word) f = (refl, f)
      by_transfer (Store sizes.Word) f = (refl, f)
      by_transfer (Load loadings.UnsignedByte) f = absurd (cc)
      by_transfer (Load loadings.SignedByte) f = absurd (cc)
      by_transfer (Load loadings.UnsignedHalf) f = absurd (cc)
      by_transfer (Load loadings.SignedHalf) f = absurd (cc)
      by_transfer (Load loadings.Double) f = absurd (cc)
      by_transfer (Store sizes.Byte) f = absurd (cc)
      by_transfer (Store sizes.Half) f = absurd (cc)
      by_transfer (Store sizes.Double) f = absurd (cc)
      by_transfer (Exchange e) f = absurd (cc)

  sent_word : (k : Transfer) → size_of k ≡ sizes.Word → sent (reg s) k rd < 2 ^ 32
  sent_word (Load l) e = omega arith
  sent_word (Store sizes.Word) e = subst (λ q. q < 2 ^ 32) (same_reg n parts mmu x s r i h rd less) (reads_word n c.regs rd h.shows.file)
  sent_word (Store sizes.Byte) e = absurd (cc)
  sent_word (Store sizes.Half) e = absurd (cc)
  sent_word (Store sizes.Double) e = absurd (cc)
  sent_word (Exchange exchanges.Register) e = subst (λ q. q < 2 ^ 32) (same_reg n parts mmu x s r i h rd less) (reads_word n c.regs rd h.shows.file)
  sent_word (Exchange exchanges.Ones) e = absurd (cc)

  slot_walk : STACK_END ≤ a + 4096 * (pages_of parts).stack_count → a < STACK_END → walked ram (root_of mmu) a (access_by_user (writes_memory t)) ≡ Ok (page (area_of a) (stack_entry_place a))
  slot_walk low high =
      walk_at (pages_of parts) ram mmu a (access_by_user (writes_memory t)) (area_of a) 1 (stack_entry_place a) (marks n parts mmu x s r i h).loaded.tables (pages_few parts) h.root (omega arith)
      (stack_at (pages_of parts) a (pages_few parts) (omega arith) high) (may_move (writes_memory t) true (or_true (not (writes_memory t))))

  held_at : (old : ℕ) → s.registers.newest.slots a ≡ Some old → slot s.registers 0 a ≡ Some old
  unfolding slot
  held_at old e = e

  slot_left : (mid : List ℕ) (old : ℕ) (b : Bool) → writes_memory t ≡ b → size ≡ sizes.Word → slot s.registers 0 a ≡ Some old → Shows n parts (world n c mid x.memory.device) s r →
      Shows n parts (world n c (left t mid (area_of a) v) x.memory.device) (leaves_in_slot t a v s) r
  slot_left mid old false e four held shown = rw e shown
  slot_left mid old true e four held shown = rw e (rw four (slot_stored_shows n parts (world n c mid x.memory.device) s r a old v h.fits shown held (sent_word t four)))

  in_slot : (old : ℕ) → (a % bytes_in size == 0) ≡ true → slot_of t s a ≡ Some old → OneTurn n parts mmu x s op r
  in_slot old whole there =
      let which = word_of old there in
      let held = held_at old which.1 in
      let p = h.shows.slots 0 a old (omega arith) held in
      let floor = h.shows.stacked.low 0 (omega arith) in
      let above = p.place.low in
      let top = p.place.high in
      let few = (pages_few parts).stack in
      let low : STACK_END ≤ a + 4096 * (pages_of parts).stack_count = omega arith in
      let high : a < STACK_END = omega arith in
      let m = stack_marks n parts x.memory.ram ram a (writes_memory t) h.fits (marks n parts mmu x s r i h) low high in
      let shown = marked_shows n parts x s r (marked (stack_entry_place a)) h.shows m in
      let word_there : entry_of (marked (stack_entry_place a)) (area_of a) ≡ Some old = (shown.slots 0 a old (omega arith) held).there in
      let number : board_number (marked (stack_entry_place a)) (area_of a) size ≡ Some old =
      subst (λ z. board_number (marked (stack_entry_place a)) (area_of a) z ≡ Some old) (sym which.0) word_there in
      let small : old < limit_of size = subst (λ z. old < limit_of z) (sym which.0) (h.shows.stack (area_of a) old (omega arith) p.there) in
      let goes : does parts still op s ≡ takes (received t rd old) (leaves_in_slot t a v s) =
      ap (λ (b : Bool). if b then transfers_in parts t rd a (slot_of t s a) s else Fails Misaligned) whole
      ∙ ap (λ p. transfers_in parts t rd a p s) there in
      ends (area_of a) (stack_entry_place a) old (left t (marked (stack_entry_place a)) (area_of a) v) (leaves_in_slot t a v s) whole (slot_walk low high)
      (answers_ram (marked (stack_entry_place a)) x.memory.device (area_of a) v old (in_ram (area_of a) (omega arith)) t number)
      (stack_own parts (writes_memory t) a h.fits low high) goes (slot_left (marked (stack_entry_place a)) old (writes_memory t) refl which.0 held shown) small

  -- ---- wherever it is

  outside : (a % bytes_in size == 0) ≡ true → slot_of t s a ≡ None → found parts t a s.memory ≡ None → OneTurn n parts mmu x s op r
  outside whole e f =
      absurd (fails_not n parts mmu x s r i h op is admitted good OutsideData
      (ap (λ (b : Bool). if b then transfers_in parts t rd a (slot_of t s a) s else Fails Misaligned) whole ∙ ap (λ p. transfers_in parts t rd a p s) e ∙ ap (λ p. transfers_data t rd a p s) f))

  by_place : (p q : Option ℕ) (lies : Bool) → (a % bytes_in size == 0) ≡ true → slot_of t s a ≡ p → number_at s.memory a (bytes_in size) ≡ q →
      in_one_region parts.regions a (bytes_in size) (writes_memory t) ≡ lies → OneTurn n parts mmu x s op r
  by_place (Some old) q lies whole e f g = in_slot old whole e
  by_place None (Some number) true whole e f g = in_data number whole e g f
  by_place None None true whole e f g = outside whole e (found_is g ∙ f)
  by_place None q false whole e f g = outside whole e (ap (λ (b : Bool). if b then number_at s.memory a (bytes_in size) else None) g)

  by_alignment : (b : Bool) → (a % bytes_in size == 0) ≡ b → OneTurn n parts mmu x s op r
  by_alignment false e = absurd (fails_not n parts mmu x s r i h op is admitted good Misaligned (ap (λ (b : Bool). if b then transfers_in parts t rd a (slot_of t s a) s else Fails Misaligned) e))
  by_alignment true e = by_place (slot_of t s a) (number_at s.memory a (bytes_in size)) (in_one_region parts.regions a (bytes_in size) (writes_memory t)) e refl refl refl

  pub moves_one : OneTurn n parts mmu x s op r
  moves_one = by_alignment (a % bytes_in size == 0) refl

normal_is : (p : Space) → is_normal p ≡ true → p ≡ Normal
normal_is Normal e = refl
normal_is (Alternate asi) e = absurd (cc)
normal_is Missing e = absurd (cc)

first_of : (a b : Bool) → (a && b) ≡ true → a ≡ true
first_of true b e = refl
first_of false b e = absurd (cc)

second_of : (a b : Bool) → (a && not b) ≡ true → b ≡ false
second_of true false e = refl
second_of true true e = absurd (cc)
second_of false b e = absurd (cc)

-- a transfer of sandboxed code: in its own data space, and not of half a pair
pub transfer_turn : (n : ℕ) (parts : Parts) (mmu : MmuRegs) (x : World n Device) (s : State) (r i : ℕ) (h : Stands n parts mmu x s r i) → (IsWrong parts s → ⊥) → (t : Transfer) (m : MemoryOperand) →
    AsksFor parts.words i (operation.Transfer t m) → is_admitted (operation.Transfer t m) ≡ true → OneTurn n parts mmu x s (operation.Transfer t m) r
unfolding is_admitted
transfer_turn n parts mmu x s r i h good t m is admitted =
    let normal = normal_is m.space (first_of (is_normal m.space) (not (splits_pair (size_of t) m.rd)) admitted) in
    let pair = second_of (is_normal m.space) (splits_pair (size_of t) m.rd) admitted in
    let same : m ≡ at_operand m.rd m.rs1 m.operand2 = ap (λ p. record { rd = m.rd; rs1 = m.rs1; operand2 = m.operand2; space = p }) normal in
    let fit = subst MemoryIn same (fields n parts mmu x s r i h (operation.Transfer t m) is) in
    let here = subst (λ k. AsksFor parts.words i (operation.Transfer t k)) same is in
    subst (λ k. OneTurn n parts mmu x s (operation.Transfer t k) r) (sym same) (moves_one n parts mmu x s r i h good t m.rd m.rs1 m.operand2 here pair fit)
