-- Loads and stores of double words on the stack, as turns of a handler.
--   word_in, word_there         the word of RAM at a place
--   OnStack, on_stack           an address whose eight bytes lie in the stack's pages, as those of a save area do
--   stack_walk, stack_spot      its walk, and its page's entry
--   stack_address               the address of a double word in the save area at %sp
--   in_store      one turn more: a std of the next two words of the save area
--   in_load       one turn more: an ldd of two words that lie in RAM
use Rattle.std.proofs.Common.{◌≡◌, ◌≢◌, ℕ, suc, ◌+◌, ◌-◌, ◌*◌, ◌/◌, ◌%◌, ◌^◌, ◌<◌, ◌≤◌, inl, inr, Bool, true, false, List, [], length, get_or, take, drop, Some}
use Rattle.std.proofs.Common.{None, Ok, refl, sym, ap, ◌∙◌, subst, arith}
use Rattle.std.specs.Int.{w32, from_be_bytes}
use Rattle.std.specs.Prelude.{nat_lt, slice_index}
use Rattle.std.proofs.lemmas.Bool.Decides.{nat_tests}
use Rattle.std.proofs.Math.Nat.{mod-eq_of_lt}
use Rattle.v8_core.specs.Size.TheVariants.{Double}
use Rattle.v8_core.specs.Operand.TheVariants.{Immediate}
use Rattle.v8_core.specs.Operations.{load, store}
use Rattle.v8_core.specs.Transfers.{odd_of}
use Rattle.v8_core.specs.Loading.TheVariants as loadings
use Rattle.v8_core.specs.Transfer.TheVariants.{Load, Store}
use Rattle.v8_core.specs.Meaning.{stored_after}
use Rattle.v8_core.specs.Ram.{entry_of, with_entry, with_double}
use Rattle.v8_core.specs.Paths.{marked_ram}
use Rattle.v8_core.specs.Walked.{walked, root_of}
use Rattle.v8_core.specs.Access.{Access}
use Rattle.v8_core.specs.AccessKind.TheVariants.{Fetch, Load as LoadKind, Store as StoreKind}
use Rattle.v8_core.specs.MmuRegs.{MmuRegs}
use Rattle.v8_core.specs.Permissions.{permits, rights_of}
use Rattle.v8_core.proofs.RamLemmas.{length-with_entry, within_entry}
use Rattle.v8_core.proofs.RamNumbers.{has_double}
use Rattle.v8_core.specs.Control.{Control}
use Rattle.v8_core.specs.Cpu.{Cpu}
use Rattle.v8_core.specs.Effects.{address_of, advanced, reg, taken}
use Rattle.v8_core.specs.declared.access.Moved.{Moved}
use Rattle.v8_core.specs.declared.access.Moved.TheVariants.{Done}
use Rattle.v8_core.specs.declared.turn.DataAccess.{DataAccess}
use Rattle.v8_core.specs.declared.turn.Event.TheVariants.{Ran}
use Rattle.v8_core.specs.declared.turn.Outcome.{Outcome}
use Rattle.v8_core.specs.Memory.{Memory, fetches, loaded_from, moves, move_through, move_answered}
use Rattle.v8_core.specs.Accesses.{World, world, transfer_ends, transfers}
use Rattle.v8_core.specs.Steps.{acts, ran_event, turn_of}
use Rattle.v8_core.proofs.Turns.{runs_to}
use Rattle.v8_layout.specs.Handlers.{handler_word}
use Rattle.v8_layout.specs.Layout.{Pages, AreFew, IsLoaded}
use Rattle.v8_layout.proofs.Map.{stack_at}
use Rattle.v8_layout.proofs.Marks.{Markable, kept_elsewhere, mark_keeps, stack_markable, store_keeps}
use Rattle.v8_memory.specs.Board.{Device, board, board_load, board_store, beside, overwritten}
use Rattle.v8_loaded.specs.Areas.{HasRoom, area_of}
use Rattle.v8_loaded.specs.Places.{handlers_marked, stack_entry_place}
use Rattle.v8_loaded.proofs.Fetches.{by_supervisor, fetches_handlers, handlers_kept, handlers_page, page, walk_at}
use Rattle.v8_loaded.proofs.Words.{Asks, at_stack}
use Rattle.v8_loaded.proofs.Stages.{Inside, stage, onward, read_other, written_pair}
use Rattle.v8_loaded.proofs.Effects.{load_double_calm, store_double_calm}
use Rattle.v8_loaded.proofs.Turns.{Setting, saving, filling, Keeps, keeps_marked, keeps_reached, keeps_stored, Comes, one_more}

-- ---- double words of RAM

abbrev pub word_in : List ℕ → ℕ → ℕ
word_in ram p = from_be_bytes w32 (take 4 (drop p ram))

pub word_there : (ram : List ℕ) (p : ℕ) → length ram ≡ 0x100000 → p % 4 ≡ 0 → p + 4 ≤ 0x100000 →
    entry_of ram p ≡ Some (word_in ram p)
word_there ram p size aligned fits = within_entry ram p (record { aligned = aligned; fits = omega (arith, size) })

in_ram : (pa : ℕ) → pa + 8 ≤ 0x100000 → nat_lt pa 0x100000000 ≡ true
in_ram pa low = grind (arith, nat_tests)

double_loaded : (ram : List ℕ) (device : Device) (pa x y : ℕ) → pa % 8 ≡ 0 → pa + 8 ≤ 0x100000 →
    entry_of ram pa ≡ Some x → entry_of ram (pa + 4) ≡ Some y →
    board_load ram device pa Double ≡ Some (x * 2 ^ 32 + y, device)
unfolding board_load
double_loaded ram device pa x y whole fits first second = rw (in_ram pa fits) (ap (λ o. beside device o) (has_double ram pa x y whole first second))

double_stored : (ram : List ℕ) (device : Device) (pa v : ℕ) → length ram ≡ 0x100000 → pa % 8 ≡ 0 → pa + 8 ≤ 0x100000 →
    board_store ram device pa Double v ≡ Some (with_double ram pa v, device)
unfolding board_store
double_stored ram device pa v size whole fits =
    rw (in_ram pa fits) (ap (λ o. overwritten ram device pa Double v o)
    (has_double ram pa (word_in ram pa) (word_in ram (pa + 4)) whole (word_there ram pa size (omega arith) (omega arith)) (word_there ram (pa + 4) size (omega arith) (omega arith))))

-- two words joined, and taken apart again
high_of : (x y : ℕ) → y < 2 ^ 32 → (x * 2 ^ 32 + y) / 2 ^ 32 ≡ x
high_of x y small = omega arith

low_of : (x y : ℕ) → y < 2 ^ 32 → (x * 2 ^ 32 + y) % 2 ^ 32 ≡ y
low_of x y small = omega arith

double_is : (ram : List ℕ) (p x y : ℕ) → y < 2 ^ 32 →
    with_double ram p (x * 2 ^ 32 + y) ≡ with_entry (with_entry ram p x) (p + 4) y
unfolding with_double
double_is ram p x y small =
    ap (λ a. with_entry (with_entry ram p a) (p + 4) ((x * 2 ^ 32 + y) % 2 ^ 32)) (high_of x y small)
    ∙ ap (λ b. with_entry (with_entry ram p x) (p + 4) b) (low_of x y small)

-- ---- the stack's pages

-- eight bytes of the stack's pages, at a multiple of 8
pub record OnStack (g : Pages) (va : ℕ) : Type 0 where
  pub low : 0x100000 ≤ va + 4096 * g.stack_count
  pub high : va + 8 ≤ 0x100000
  pub aligned : va % 8 ≡ 0

pub on_stack : (g : Pages) (sp j : ℕ) → HasRoom g sp → j < 8 → OnStack g (sp + 8 * j)
on_stack g sp j room small =
    let low = room.low in
    let high = room.high in
    let aligned = room.aligned in
    record { low = omega arith; high = omega arith; aligned = omega arith }

-- the entry of a stack address's page, but for marks
abbrev pub stack_word : ℕ → ℕ
stack_word va = 0x9006 + 0x100 * ((va - 0xC0000) / 4096 - 48)

abbrev load_access : Access
load_access = by_supervisor LoadKind

abbrev store_access : Access
store_access = by_supervisor StoreKind

abbrev memory_of : List ℕ → Device → Memory Device
memory_of ram device = record { ram = ram; device = device }

abbrev access_of : ℕ → Bool → DataAccess
access_of va store = record { va = va; pa = area_of va; size = Double; store = store }

module _ (n : ℕ) (g : Pages) (words ram : List ℕ) (mmu : MmuRegs) (few : AreFew g) (loaded : IsLoaded n g words ram) (root : root_of mmu ≡ 0x2000) (va : ℕ) (on : OnStack g va) where
  pub stack_spot : Markable ram (stack_entry_place va) (stack_word va)
  stack_spot =
      let most = few.stack in
      let low = on.low in
      let high = on.high in
      stack_markable g ram loaded.tables few ((va - 0xC0000) / 4096) (omega arith) (omega arith)

  pub stack_walk : (a : Access) → permits (rights_of 1 a.user) a.kind ≡ true →
      walked ram (root_of mmu) va a ≡ Ok (page (area_of va) (stack_entry_place va))
  stack_walk a may =
      let most = few.stack in
      let low = on.low in
      let high = on.high in
      walk_at g ram mmu va a (area_of va) 1 (stack_entry_place va) loaded.tables few root (omega arith) (stack_at g va few (omega arith) (omega arith)) may

  pub stack_kept : (store : Bool) → IsLoaded n g words (marked_ram ram (stack_entry_place va) store)
  stack_kept store = mark_keeps n g words ram (stack_entry_place va) (stack_word va) store loaded stack_spot

  stores_there : (device : Device) (v : ℕ) →
      moves board mmu va store_access (Store Double) v (memory_of ram device) ≡ (Done 0 (area_of va), memory_of (with_double (marked_ram ram (stack_entry_place va) true) (area_of va) v) device)
  unfolding moves
  stores_there device v =
      let low = on.low in
      let high = on.high in
      let aligned = on.aligned in
      let most = few.stack in
      let marks = marked_ram ram (stack_entry_place va) true in
      ap (λ o. move_through board store_access (Store Double) v (memory_of ram device) o) (stack_walk store_access refl)
      ∙ ap (λ o. move_answered (memory_of ram device) (page (area_of va) (stack_entry_place va)) store_access (stored_after 0 o))
      (double_stored marks device (area_of va) v (stack_kept true).tables.size (omega arith) (omega arith))

  loads_there : (device : Device) (x y : ℕ) → entry_of ram (area_of va) ≡ Some x →
      entry_of ram (area_of va + 4) ≡ Some y →
      moves board mmu va load_access (Load loadings.Double) 0 (memory_of ram device) ≡ (Done (x * 2 ^ 32 + y) (area_of va), memory_of (marked_ram ram (stack_entry_place va) false) device)
  unfolding moves
  loads_there device x y first second =
      let low = on.low in
      let high = on.high in
      let aligned = on.aligned in
      let most = few.stack in
      let marks = marked_ram ram (stack_entry_place va) false in
      let kept : (p : ℕ) → 0x2E00 ≤ p →
      entry_of marks p ≡ entry_of ram p =
      λ (p : ℕ) (above : 0x2E00 ≤ p). kept_elsewhere ram (stack_entry_place va) (stack_word va) false stack_spot p (inr (omega arith)) in
      ap (λ o. move_through board load_access (Load loadings.Double) 0 (memory_of ram device) o) (stack_walk load_access refl)
      ∙ ap (λ o. move_answered (memory_of ram device) (page (area_of va) (stack_entry_place va)) load_access (loaded_from marks o))
      (double_loaded marks device (area_of va) x y (omega arith) (omega arith) (kept (area_of va) (omega arith) ∙ first) (kept (area_of va + 4) (omega arith) ∙ second))

-- ---- turns

module _ (n : ℕ) (g : Pages) (words : List ℕ) (mmu : MmuRegs) (device : Device) (s : Setting n g mmu device) (c : Control) (w u : ℕ) (x : Inside) where
  abbrev cpu : Cpu n
  cpu = stage n c w u x

  -- the address of a double word at %sp of another window
  pub stack_address : (offset sp : ℕ) → u ≢ w → slice_index (get_or x.rows u []) 6 ≡ sp → sp + offset < 2 ^ 32 →
      address_of n cpu 14 (Immediate offset) ≡ sp + offset
  unfolding address_of
  stack_address offset sp other is small =
      ap (λ a. (a + offset) % 2 ^ 32) (read_other n x.rows w x.globals x.row u x.mask 14 other (omega arith) (omega arith) ∙ is)
      ∙ mod-eq_of_lt small

  store_acts : (rd offset va a b : ℕ) (ram new : List ℕ) → address_of n cpu 14 (Immediate offset) ≡ va →
      reg n cpu rd ≡ a → reg n cpu (odd_of rd) ≡ b →
      moves board mmu va store_access (Store Double) (a * 2 ^ 32 + b) (memory_of ram device) ≡ (Done 0 (area_of va), memory_of new device) →
      acts board n mmu (store Double (at_stack rd offset)) (world n cpu ram device) ≡ (record { access = Some (access_of va true); trap = None }, world n (stage n c w u (onward x)) new device)
  unfolding transfers taken advanced
  store_acts rd offset va a b ram new at first second there =
      let mem = memory_of ram device in
      let first_word = reg n cpu rd in
      let second_word = reg n cpu (odd_of rd) in
      let to : ℕ → ℕ → ℕ → Moved × Memory Device = λ p v k. moves board mmu p store_access (Store Double) (v * 2 ^ 32 + k) mem in
      let end : ℕ → Moved × Memory Device → Outcome × World n Device = λ p l. transfer_ends n p (Store Double) rd cpu l.0 l.1 in
      ap (λ p. end p (to p first_word second_word)) at ∙ ap (λ v. end va (to va v second_word)) first
      ∙ ap (λ k. end va (to va a k)) second ∙ ap (end va) there

  load_acts : (rd offset va a b : ℕ) (ram new : List ℕ) (next_cpu : Cpu n) →
      address_of n cpu 14 (Immediate offset) ≡ va → b < 2 ^ 32 →
      moves board mmu va load_access (Load loadings.Double) 0 (memory_of ram device) ≡ (Done (a * 2 ^ 32 + b) (area_of va), memory_of new device) → written_pair n cpu rd a b ≡ next_cpu →
      acts board n mmu (load loadings.Double (at_stack rd offset)) (world n cpu ram device) ≡ (record { access = Some (access_of va false); trap = None }, world n next_cpu new device)
  unfolding transfers taken
  load_acts rd offset va a b ram new next_cpu at small there does =
      let mem = memory_of ram device in
      let end : ℕ → Moved × Memory Device → Outcome × World n Device = λ p l. transfer_ends n p (Load loadings.Double) rd cpu l.0 l.1 in
      ap (λ p. end p (moves board mmu p load_access (Load loadings.Double) 0 mem)) at
      ∙ ap (end va) there
      ∙ ap (λ q. (record { access = Some (access_of va false); trap = None }, world n q new device))
      (ap (λ h. written_pair n cpu rd h ((a * 2 ^ 32 + b) % 2 ^ 32)) (high_of a b small) ∙ ap (λ k. written_pair n cpu rd a k) (low_of a b small) ∙ does)

  pub in_store : (base : ℕ) (word : ℕ → ℕ) (stored : ℕ) (old : World n Device) (j k rd offset va : ℕ) →
      Comes n g words mmu device (saving base word stored) j old cpu →
      k < 1024 → x.pc ≡ 0xF0001000 + 4 * k → Asks (handler_word n k) (store Double (at_stack rd offset)) → rd % 2 ≡ 0 →
      address_of n cpu 14 (Immediate offset) ≡ va → OnStack g va → va ≡ base + 0x60000 + 4 * stored →
      reg n cpu rd ≡ word stored → reg n cpu (odd_of rd) ≡ word (suc stored) → word stored < 2 ^ 32 → word (suc stored) < 2 ^ 32 →
      Comes n g words mmu device (saving base word (suc (suc stored))) (suc j) old (stage n c w u (onward x))
  in_store base word stored old j k rd offset va before small at is even address on place first second fits fits_too =
      let low = on.low in
      let high = on.high in
      let aligned = on.aligned in
      let most = s.pages.stack in
      let handlers = handlers_page n g words before.ram s.pages before.loaded in
      let marks = handlers_marked before.ram in
      let loaded = handlers_kept n g words before.ram s.pages before.loaded in
      let spot = stack_spot n g words marks mmu s.pages loaded s.root va on in
      let marks2 = marked_ram marks (stack_entry_place va) true in
      let loaded2 = stack_kept n g words marks mmu s.pages loaded s.root va on true in
      let a = word stored in
      let b = word (suc stored) in
      let p = base + 4 * stored in
      let pa : va - 0x60000 ≡ p = omega arith in
      let mid = with_entry marks2 p a in
      let final = with_entry mid (p + 4) b in
      let size = loaded2.tables.size in
      let mid_size : length mid ≡ 0x100000 = length-with_entry marks2 p a (omega arith) ∙ size in
      let mid_loaded = store_keeps n g words marks2 p a s.pages loaded2 (omega arith) (omega arith) (omega arith) in
      let next_place : p + 4 ≡ base + 4 * suc stored = omega arith in
      let r = suc (suc stored) in
      let area = saving base word stored in
      let kept = keeps_reached area r stored old.memory.ram marks (stack_entry_place va) (stack_word va) true
      (keeps_marked area old.memory.ram before.ram 0x2D04 0x11A false before.keeps handlers (omega arith)) spot (ap stack_entry_place place) (omega arith) (omega arith) in
      let kept1 = keeps_stored base word stored r true old.memory.ram marks2 kept (omega arith) (omega arith) fits in
      let kept2 = keeps_stored base word (suc stored) r true old.memory.ram mid kept1 (omega arith) (omega arith) fits_too in
      let is_stored = stores_there n g words marks mmu s.pages loaded s.root va on device (a * 2 ^ 32 + b)
      ∙ ap (λ q. (Done 0 (va - 0x60000), memory_of (with_double marks2 q (a * 2 ^ 32 + b)) device)) pa
      ∙ ap (λ m. (Done 0 (va - 0x60000), memory_of m device)) (double_is marks2 p a b fits_too) in
      let new = stage n c w u (onward x) in
      let fetch = ap (λ q. fetches mmu q (by_supervisor Fetch) before.ram) at
      ∙ fetches_handlers n g words before.ram mmu s.pages before.loaded s.root k small in
      one_more n g words mmu device s area r r j old cpu new final (turn_of n cpu Ran (Some (handler_word n k)) (Some (access_of va true))) before
      (runs_to board n mmu cpu before.ram marks device (handler_word n k) (store Double (at_stack rd offset)) (Some (access_of va true)) (world n new final device)
      (record { running = s.running; sane = refl; straight = refl }) fetch is
      (store_double_calm n c w x u rd offset even (ap (λ q. q % 8) address ∙ aligned))
      (store_acts rd offset va a b marks final address first second is_stored)
      ∙ ap (λ e. (turn_of n cpu (ran_event e) (Some (handler_word n k)) (Some (access_of va true)), world n new final device)) s.running)
      (record { event = refl; system = refl; page = inr (omega arith); access = (omega arith, omega arith, aligned, refl, refl) }) (omega arith)
      (subst (λ q. Keeps (saving base word r) old.memory.ram (with_entry mid q b)) (sym next_place) kept2)
      (store_keeps n g words mid (p + 4) b s.pages mid_loaded (omega arith) (omega arith) (omega arith))

  pub in_load : (base reached i r : ℕ) (old : World n Device) (j k rd offset va a b : ℕ) (new : Cpu n) →
      Comes n g words mmu device (filling base reached) j old cpu →
      k < 1024 → x.pc ≡ 0xF0001000 + 4 * k → Asks (handler_word n k) (load loadings.Double (at_stack rd offset)) → rd % 2 ≡ 0 →
      address_of n cpu 14 (Immediate offset) ≡ va → OnStack g va → va ≡ base + 0x60000 + 4 * i → i < r → reached ≤ r →
      entry_of old.memory.ram (area_of va) ≡ Some a → entry_of old.memory.ram (area_of va + 4) ≡ Some b → b < 2 ^ 32 → written_pair n cpu rd a b ≡ new →
      Comes n g words mmu device (filling base r) (suc j) old new
  in_load base reached i r old j k rd offset va a b new before small at is even address on place within more first second fits does =
      let low = on.low in
      let high = on.high in
      let aligned = on.aligned in
      let most = s.pages.stack in
      let handlers = handlers_page n g words before.ram s.pages before.loaded in
      let marks = handlers_marked before.ram in
      let loaded = handlers_kept n g words before.ram s.pages before.loaded in
      let spot = stack_spot n g words marks mmu s.pages loaded s.root va on in
      let marks2 = marked_ram marks (stack_entry_place va) false in
      let area = filling base reached in
      let kept = keeps_marked area old.memory.ram before.ram 0x2D04 0x11A false before.keeps handlers (omega arith) in
      let first_there : entry_of marks (va - 0x60000) ≡ Some a = kept.words (va - 0x60000) (omega arith) (inl refl)
      ∙ first in
      let second_there : entry_of marks (va - 0x60000 + 4) ≡ Some b = kept.words (va - 0x60000 + 4) (omega arith) (inl refl)
      ∙ second in
      let fetch = ap (λ q. fetches mmu q (by_supervisor Fetch) before.ram) at
      ∙ fetches_handlers n g words before.ram mmu s.pages before.loaded s.root k small in
      one_more n g words mmu device s area 0 r j old cpu new marks2 (turn_of n cpu Ran (Some (handler_word n k)) (Some (access_of va false))) before
      (runs_to board n mmu cpu before.ram marks device (handler_word n k) (load loadings.Double (at_stack rd offset)) (Some (access_of va false)) (world n new marks2 device)
      (record { running = s.running; sane = refl; straight = refl }) fetch is
      (load_double_calm n c w x u rd offset even (ap (λ q. q % 8) address ∙ aligned))
      (load_acts rd offset va a b marks marks2 new address fits (loads_there n g words marks mmu s.pages loaded s.root va on device a b first_there second_there) does)
      ∙ ap (λ e. (turn_of n cpu (ran_event e) (Some (handler_word n k)) (Some (access_of va false)), world n new marks2 device)) s.running)
      (record { event = refl; system = refl; page = inr (omega arith); access = (omega arith, omega arith, aligned, refl, refl) }) more
      (keeps_reached area r i old.memory.ram marks (stack_entry_place va) (stack_word va) false kept spot (ap stack_entry_place place) within more)
      (stack_kept n g words marks mmu s.pages loaded s.root va on false)
