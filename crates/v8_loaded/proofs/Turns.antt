-- Turns of a handler in a row, from the state that the trap enters.
--   Setting            what every turn needs of the machine: the tables' root, a device that hasn't stopped, 4 to 32 windows
--   Area, Keeps        the save area, and what RAM is beside the old one: the words that were stored there, and else what it was but for marks
--   marked_byte        the bytes above the tables after a mark
--   keeps_all, keeps_marked, keeps_reached, keeps_stored      RAM at first; after a mark of a system page, of a page of the save area, after a store there
--   Comes              after j turns the processor is `new`: its RAM, that all is loaded still, and what the turns were
--   starts             no turn yet
--   one_more           one turn more, whatever it does
--   table, handler     one turn more: a word of the trap table, of the handlers, that reaches no memory
use Rattle.std.proofs.Common.{◌≡◌, ◌≢◌, ℕ, suc, ◌+◌, ◌*◌, ◌%◌, ◌^◌, ◌<◌, ◌≤◌, ◌⊎◌, inl, inr, Bool, true, false, List, length, Option, Some, None, Ok, refl, sym, ap, ◌∙◌, subst, arith}
use Rattle.std.specs.Prelude.{not, slice_index}
use Rattle.v8_core.specs.Operation.{Operation}
use Rattle.v8_core.specs.Ram.{entry_of, with_entry}
use Rattle.v8_core.specs.Paths.{marked, marked_ram}
use Rattle.v8_core.specs.Walked.{root_of}
use Rattle.v8_core.specs.AccessKind.TheVariants.{Fetch}
use Rattle.v8_core.specs.MmuRegs.{MmuRegs}
use Rattle.v8_core.proofs.RamLemmas.{Within, entry_is, entry_of-with_entry}
use Rattle.v8_core.proofs.RamMore.{byte_beside_entry, entry_elsewhere, marked_is}
use Rattle.v8_core.specs.Cpu.{Cpu}
use Rattle.v8_core.specs.declared.turn.DataAccess.{DataAccess}
use Rattle.v8_core.specs.declared.turn.Event.TheVariants.{Ran}
use Rattle.v8_core.specs.declared.turn.Turn.{Turn}
use Rattle.v8_core.specs.Accesses.{World, world, quiet}
use Rattle.v8_core.specs.Memory.{fetches}
use Rattle.v8_core.specs.Steps.{next, ran_event, turn_of}
use Rattle.v8_core.proofs.Turns.{runs_to}
use Rattle.v8_layout.specs.Handlers.{trap_word, handler_word}
use Rattle.v8_layout.specs.Layout.{Pages, AreFew, IsLoaded}
use Rattle.v8_layout.proofs.Marks.{Markable, kept_elsewhere, sides}
use Rattle.v8_memory.specs.Board.{Device, board}
use Rattle.v8_loaded.specs.Areas.{IsBeside}
use Rattle.v8_loaded.specs.Places.{stack_entry_place, table_marked, handlers_marked}
use Rattle.v8_loaded.specs.Turns.{IsHandlers, ReachesArea, world_after, turn_at}
use Rattle.v8_loaded.proofs.Fetches.{by_supervisor, fetches_handlers, fetches_table, handlers_kept, handlers_page, table_kept, table_page}
use Rattle.v8_loaded.proofs.Effects.{Does}
use Rattle.v8_loaded.proofs.Words.{Asks}

-- what holds around the turns: the context's table, a device that goes on, 4 to 32 windows, pages that have room
pub record Setting (n : ℕ) (g : Pages) (mmu : MmuRegs) (device : Device) : Type 0 where
  pub root : root_of mmu ≡ 0x2000
  pub running : device.stopped ≡ None
  pub few : 4 ≤ n
  pub many : n ≤ 32
  pub pages : AreFew g

-- ---- RAM

-- The save area of a window in physical memory: where it begins, its words, how many of them have been stored, how many have been
-- reached by a load or a store, and whether the handler stores them.
pub record Area : Type 0 where
  pub base : ℕ
  pub word : ℕ → ℕ
  pub stored : ℕ
  pub reached : ℕ
  pub store : Bool

-- so many words stored; so many loaded
abbrev pub saving : ℕ → (ℕ → ℕ) → ℕ → Area
saving base word count = record { base = base; word = word; stored = count; reached = count; store = true }

abbrev pub filling : ℕ → ℕ → Area
filling base count = record { base = base; word = λ i. 0; stored = 0; reached = count; store = false }

-- with so many words reached
abbrev pub reaching : Area → ℕ → Area
reaching a r = record a { reached = r }

-- The words that were stored are there. Above the tables all else is as it was; below the system's table of pages all but the
-- entries of pages of the save area.
pub record Keeps (a : Area) (old new : List ℕ) : Type 0 where
  pub area : 0x2E00 ≤ a.base
  pub stored : (i : ℕ) → i < a.stored → entry_of new (a.base + 4 * i) ≡ Some (a.word i)
  pub words : (p : ℕ) → 0x2E00 ≤ p → IsBeside p 4 a.base (4 * a.stored) → entry_of new p ≡ entry_of old p
  pub bytes : (p : ℕ) → 0x2E00 ≤ p → IsBeside p 1 a.base (4 * a.stored) → slice_index new p ≡ slice_index old p
  pub entries : (p : ℕ) → p < 0x2D00 → p % 4 ≡ 0 → ((i : ℕ) → i < a.reached →
      p ≢ stack_entry_place (a.base + 0x60000 + 4 * i)) → entry_of new p ≡ entry_of old p

pub keeps_all : (a : Area) (ram : List ℕ) → 0x2E00 ≤ a.base → a.stored ≡ 0 → Keeps a ram ram
keeps_all a ram high none = record {
  area = high;
  stored = λ i less. absurd (omega arith);
  words = λ p above apart. refl;
  bytes = λ p above apart. refl;
  entries = λ p low whole apart. refl;
}

-- the bytes above the tables after a mark
pub marked_byte : (ram : List ℕ) (place t : ℕ) (store : Bool) → Markable ram place t → (p : ℕ) → 0x2E00 ≤ p →
    slice_index (marked_ram ram place store) p ≡ slice_index ram p
marked_byte ram place t store h p above =
    let high = h.high in
    let aligned = h.aligned in
    ap (λ r. slice_index r p) (marked_is ram place h.entry.word store h.entry.there)
    ∙ byte_beside_entry ram place (marked h.entry.word store) p (entry_is ram place h.entry.word h.entry.there).0.fits (inr (omega arith))

-- a mark of a system page
pub keeps_marked : (a : Area) (old ram : List ℕ) (place t : ℕ) (store : Bool) → Keeps a old ram →
    Markable ram place t → 0x2D00 ≤ place → Keeps a old (marked_ram ram place store)
keeps_marked a old ram place t store k h system =
    let high = h.high in
    let aligned = h.aligned in
    let above_tables = k.area in
    record {
      area = above_tables;
      stored = λ i less. kept_elsewhere ram place t store h (a.base + 4 * i) (inr (omega arith)) ∙ k.stored i less;
      words = λ p above apart. kept_elsewhere ram place t store h p (inr (omega arith)) ∙ k.words p above apart;
      bytes = λ p above apart. marked_byte ram place t store h p above ∙ k.bytes p above apart;
      entries = λ p low whole apart. kept_elsewhere ram place t store h p (inl (omega arith))
          ∙ k.entries p low whole apart;
    }

-- a mark of the page in which word i of the save area lies, i < r
pub keeps_reached : (a : Area) (r i : ℕ) (old ram : List ℕ) (place t : ℕ) (store : Bool) →
    Keeps a old ram → Markable ram place t → place ≡ stack_entry_place (a.base + 0x60000 + 4 * i) → i < r → a.reached ≤ r → Keeps (reaching a r) old (marked_ram ram place store)
keeps_reached a r i old ram place t store k h is within more =
    let high = h.high in
    let aligned = h.aligned in
    let above_tables = k.area in
    record {
      area = above_tables;
      stored = λ q less. kept_elsewhere ram place t store h (a.base + 4 * q) (inr (omega arith)) ∙ k.stored q less;
      words = λ p above apart. kept_elsewhere ram place t store h p (inr (omega arith)) ∙ k.words p above apart;
      bytes = λ p above apart. marked_byte ram place t store h p above ∙ k.bytes p above apart;
      entries = λ p low whole apart.
          kept_elsewhere ram place t store h p (sides p place whole aligned (λ e. apart i within (e ∙ is)))
          ∙ k.entries p low whole (λ q less. apart q (omega arith));
    }

-- beside one word more is beside the words before it, and beside that word
beside_fewer : (p size at stored : ℕ) → IsBeside p size at (4 * suc stored) → IsBeside p size at (4 * stored)
beside_fewer p size at stored (inl none) = absurd (omega arith)
beside_fewer p size at stored (inr (inl under)) = inr (inl under)
beside_fewer p size at stored (inr (inr over)) = inr (inr (omega arith))

beside_last : (p size at stored : ℕ) → IsBeside p size at (4 * suc stored) →
    (p + size ≤ at + 4 * stored) ⊎ (at + 4 * stored + 4 ≤ p)
beside_last p size at stored (inl none) = absurd (omega arith)
beside_last p size at stored (inr (inl under)) = inl (omega arith)
beside_last p size at stored (inr (inr over)) = inr (omega arith)

byte_side : (p q : ℕ) → (p + 1 ≤ q) ⊎ (q + 4 ≤ p) → (p < q) ⊎ (q + 4 ≤ p)
byte_side p q (inl under) = inl (omega arith)
byte_side p q (inr over) = inr over

-- a word stored
pub keeps_stored : (base : ℕ) (word : ℕ → ℕ) (stored reached : ℕ) (store : Bool) (old ram : List ℕ) →
    Keeps (record { base = base; word = word; stored = stored; reached = reached; store = store }) old ram → base % 4 ≡ 0 → base + 4 * stored + 4 ≤ length ram → word stored < 2 ^ 32 →
    Keeps (record { base = base; word = word; stored = suc stored; reached = reached; store = store }) old (with_entry ram (base + 4 * stored) (word stored))
keeps_stored base word stored reached store old ram k whole fits small =
    let above_tables = k.area in
    let spot = base + 4 * stored in
    let there : Within ram spot = record { aligned = omega arith; fits = fits } in
    record {
      area = above_tables;
      stored = λ i less.
          let split : (i < stored) ⊎ (i ≡ stored) = search arith in
          elim split [
            | inl before ↦ entry_elsewhere ram spot (base + 4 * i) (word stored) there (inl (omega arith))
                ∙ k.stored i before
            | inr same ↦ ap (λ j. entry_of (with_entry ram spot (word stored)) (base + 4 * j)) same
                ∙ entry_of-with_entry ram spot (word stored) there small ∙ ap (λ j. Some (word j)) (sym same)
          ];
      words = λ p above apart. entry_elsewhere ram spot p (word stored) there (beside_last p 4 base stored apart)
          ∙ k.words p above (beside_fewer p 4 base stored apart);
      bytes = λ p above apart. byte_beside_entry ram spot (word stored) p fits (byte_side p spot (beside_last p 1 base stored apart))
          ∙ k.bytes p above (beside_fewer p 1 base stored apart);
      entries = λ p low four apart. entry_elsewhere ram spot p (word stored) there (inl (omega arith))
          ∙ k.entries p low four apart;
    }

-- ---- turns

-- the turns reached no more than the area
abbrev pub IsWithin : Area → Turn → Type 0
IsWithin a turn = IsHandlers (a.base + 0x60000) (4 * a.reached) a.store turn

-- so many turns lead to this processor: RAM keeps all but the save area and marks, and each turn stays within handlers and area
pub record Comes (n : ℕ) (g : Pages) (words : List ℕ) (mmu : MmuRegs) (device : Device) (a : Area) (j : ℕ) (old : World n Device) (new : Cpu n) : Type 0 where
  pub ram : List ℕ
  pub keeps : Keeps a old.memory.ram ram
  pub loaded : IsLoaded n g words ram
  pub is : world_after board n mmu j old ≡ world n new ram device
  pub turns : (i : ℕ) → i < j → IsWithin a (turn_at board n mmu i old)

reaches_more : (from few many : ℕ) (store : Bool) (o : Option DataAccess) → few ≤ many →
    ReachesArea from few store o → ReachesArea from many store o
reaches_more from few many store None more h = tt
reaches_more from few many store (Some access) more (low, high, eight, double, kind) = (low, omega arith, eight, double, kind)

wider : (a : Area) (r : ℕ) (t : Turn) → a.reached ≤ r → IsWithin a t → IsWithin (reaching a r) t
wider a r t more h = record { event = h.event; system = h.system; page = h.page; access = reaches_more (a.base + 0x60000) (4 * a.reached) (4 * r) a.store t.access (omega arith) h.access }

module _ (n : ℕ) (g : Pages) (words : List ℕ) (mmu : MmuRegs) (device : Device) (s : Setting n g mmu device) where
  abbrev At : Area → ℕ → World n Device → Cpu n → Type 0
  At a j old cpu = Comes n g words mmu device a j old cpu

  pub starts : (a : Area) (cpu : Cpu n) (ram : List ℕ) → 0x2E00 ≤ a.base → a.stored ≡ 0 → IsLoaded n g words ram →
      At a 0 (world n cpu ram device) cpu
  starts a cpu ram high none loaded = record { ram = ram; keeps = keeps_all a ram high none; loaded = loaded; is = refl; turns = λ i less. absurd (omega arith) }

  pub one_more : (a : Area) (stored r j : ℕ) (old : World n Device) (cpu new : Cpu n) (ram : List ℕ) (t : Turn) →
      (before : At a j old cpu) →
      next board n mmu (world n cpu before.ram device) ≡ (t, world n new ram device) → IsWithin (reaching a r) t → a.reached ≤ r →
      Keeps (record a { stored = stored; reached = r }) old.memory.ram ram → IsLoaded n g words ram → At (record a { stored = stored; reached = r }) (suc j) old new
  one_more a stored r j old cpu new ram t before turn here more keeps loaded = record {
    ram = ram;
    keeps = keeps;
    loaded = loaded;
    is = ap (λ x. (next board n mmu x).1) before.is ∙ ap (λ p. p.1) turn;
    turns = λ i less.
        let split : (i < j) ⊎ (i ≡ j) = search arith in
        elim split [
          | inl earlier ↦ wider a r (turn_at board n mmu i old) more (before.turns i earlier)
          | inr last ↦
              let same : turn_at board n mmu i old ≡ t = ap (λ k. turn_at board n mmu k old) last
              ∙ ap (λ x. (next board n mmu x).0) before.is ∙ ap (λ p. p.0) turn in
              subst (IsWithin (reaching a r)) (sym same) here
        ];
  }

  -- a word of a system page that reaches no memory
  quiet_turn : {cpu new : Cpu n} {i : Operation} (ram marks : List ℕ) (word : ℕ) →
      fetches mmu cpu.control.pc (by_supervisor Fetch) ram ≡ (Ok word, marks) → Asks word i → Does n cpu i new →
      next board n mmu (world n cpu ram device) ≡ (turn_of n cpu Ran (Some word) None, world n new marks device)
  quiet_turn {cpu} {new} {i} ram marks word fetch asks d =
      runs_to board n mmu cpu ram marks device word i None (world n new marks device)
      (record { running = s.running; sane = d.sane; straight = d.straight })
      (ap (λ b. fetches mmu cpu.control.pc (record { user = not b; kind = Fetch }) ram) d.system ∙ fetch) asks d.calm
      (d.plain mmu (world n cpu marks device) ∙ ap (λ (c : Cpu n). (quiet, world n c marks device)) d.is)
      ∙ ap (λ e. (turn_of n cpu (ran_event e) (Some word) None, world n new marks device)) s.running

  pub handler : {a : Area} {old : World n Device} {cpu new : Cpu n} {i : Operation} (j k : ℕ) → At a j old cpu →
      k < 1024 → cpu.control.pc ≡ 0xF0001000 + 4 * k → Asks (handler_word n k) i → Does n cpu i new →
      At a (suc j) old new
  handler {a} {old} {cpu} {new} {i} j k before small at asks d =
      let marks = handlers_marked before.ram in
      let page = handlers_page n g words before.ram s.pages before.loaded in
      let fetch = ap (λ p. fetches mmu p (by_supervisor Fetch) before.ram) at
      ∙ fetches_handlers n g words before.ram mmu s.pages before.loaded s.root k small in
      one_more a a.stored a.reached j old cpu new marks (turn_of n cpu Ran (Some (handler_word n k)) None) before
      (quiet_turn before.ram marks (handler_word n k) fetch asks d)
      (record { event = refl; system = ap not d.system; page = inr (omega arith); access = tt }) (omega arith)
      (keeps_marked a old.memory.ram before.ram 0x2D04 0x11A false before.keeps page (omega arith))
      (handlers_kept n g words before.ram s.pages before.loaded)

  pub table : {a : Area} {old : World n Device} {cpu new : Cpu n} {i : Operation} (j k : ℕ) → At a j old cpu →
      k < 1024 → cpu.control.pc ≡ 0xF0000000 + 4 * k → Asks (trap_word k) i → Does n cpu i new → At a (suc j) old new
  table {a} {old} {cpu} {new} {i} j k before small at asks d =
      let marks = table_marked before.ram in
      let page = table_page n g words before.ram s.pages before.loaded in
      let fetch = ap (λ p. fetches mmu p (by_supervisor Fetch) before.ram) at
      ∙ fetches_table n g words before.ram mmu s.pages before.loaded s.root k small in
      one_more a a.stored a.reached j old cpu new marks (turn_of n cpu Ran (Some (trap_word k)) None) before
      (quiet_turn before.ram marks (trap_word k) fetch asks d)
      (record { event = refl; system = ap not d.system; page = inl (omega arith); access = tt }) (omega arith)
      (keeps_marked a old.memory.ram before.ram 0x2D00 0x1A false before.keeps page (omega arith))
      (table_kept n g words before.ram s.pages before.loaded)
