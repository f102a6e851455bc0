-- A turn of user code on a loaded board.
--   pc_word, user_fetches, user_ready     its place, the fetch, that the machine may turn
--   user_runs          an operation that meets no trap, whatever it reaches
--   user_traps         an operation that meets a trap before memory
--   plain_turn, trap_turn     the same as a turn with its event: an operation that reaches no memory; the entry into the trap's vector
use Rattle.std.proofs.Common.{◌≡◌, ℕ, ◌+◌, ◌^◌, ◌/◌, ◌<◌, ◌≤◌, Bool, true, List, Option, Some, None, Ok, refl, sym, ap, ◌∙◌, subst, arith}
use Rattle.std.specs.Prelude.{slice_index, not, if◌then◌else◌}
use Rattle.v8_core.specs.Operation.{Operation}
use Rattle.v8_core.specs.Windows.{trapped}
use Rattle.v8_core.specs.AccessKind.TheVariants.{Fetch}
use Rattle.v8_core.specs.MmuRegs.{MmuRegs}
use Rattle.v8_core.specs.Effects.{effect}
use Rattle.v8_core.specs.Traps.{entered, first_trap}
use Rattle.v8_core.specs.Cpu.{Cpu}
use Rattle.v8_core.specs.declared.turn.DataAccess.{DataAccess}
use Rattle.v8_core.specs.declared.turn.Event.{Event}
use Rattle.v8_core.specs.declared.turn.Event.TheVariants.{Ran, Trapped, ErrorMode}
use Rattle.v8_core.specs.declared.turn.Turn.{Turn}
use Rattle.v8_core.specs.Accesses.{World, world, quiet}
use Rattle.v8_core.specs.Memory.{fetches}
use Rattle.v8_core.specs.Steps.{acts, next, ran_event, turn_of}
use Rattle.v8_core.proofs.Turns.{Ready, runs_to, traps_to}
use Rattle.v8_layout.specs.Layout.{Pages, IsLoaded}
use Rattle.v8_layout.proofs.Marks.{Markable}
use Rattle.v8_memory.specs.Board.{Device, board}
use Rattle.v8_loaded.specs.Places.{code_entry_place, code_marked}
use Rattle.v8_loaded.specs.Turns.{Touches, TurnsTo}
use Rattle.v8_loaded.specs.Users.{AsksFor, RunsUser, in_vector}
use Rattle.v8_loaded.proofs.Fetches.{code_entry_word, code_kept, code_page, fetches_code, user_fetch}
use Rattle.v8_loaded.proofs.Entered.{after_place, vector_entered, vector_place}

module _ (n : ℕ) (g : Pages) (words : List ℕ) (mmu : MmuRegs) (x : World n Device) (i : ℕ) (u : RunsUser n g words mmu x i) where
  abbrev marks : List ℕ
  marks = code_marked i x.memory.ram

  abbrev word : ℕ
  word = slice_index words i

  pub pc_word : x.cpu.control.pc < 2 ^ 32
  pc_word = let code = u.few.code in let less = u.within in let at = u.place in omega arith

  -- the page of its code, and what is loaded after its fetch
  pub user_page : Markable x.memory.ram (code_entry_place i) (code_entry_word i)
  user_page = code_page n g words x.memory.ram u.few u.loaded i u.within

  pub user_kept : IsLoaded n g words marks
  user_kept = code_kept n g words x.memory.ram u.few u.loaded i u.within

  pub user_fetches : fetches mmu x.cpu.control.pc (record { user = not x.cpu.control.s; kind = Fetch }) x.memory.ram ≡ (Ok word, marks)
  user_fetches =
      ap (λ b. fetches mmu x.cpu.control.pc (record { user = not b; kind = Fetch }) x.memory.ram) u.user
      ∙ ap (λ p. fetches mmu p user_fetch x.memory.ram) u.place
      ∙ fetches_code n g words x.memory.ram mmu u.few u.loaded u.root i u.within

  pub user_ready : Ready board n x.cpu x.memory.device
  user_ready = record { running = u.running; sane = u.sane; straight = u.straight }

  pub user_runs : (op : Operation) (access : Option DataAccess) (new : World n Device) → AsksFor words i op →
      first_trap n x.cpu op ≡ None →
      acts board n mmu op (world n x.cpu marks x.memory.device) ≡ (record { access = access; trap = None }, new) →
      next board n mmu x ≡ (turn_of n x.cpu (ran_event new.memory.device.stopped) (Some word) access, new)
  user_runs op access new is calm does = runs_to board n mmu x.cpu x.memory.ram marks x.memory.device word op access new user_ready user_fetches is calm does

  pub user_traps : (op : Operation) (t : ℕ) → AsksFor words i op → first_trap n x.cpu op ≡ Some t →
      next board n mmu x ≡ (turn_of n x.cpu (Trapped t) (Some word) None, world n (entered n x.cpu t) marks x.memory.device)
  user_traps op t is meets =
      let new = world n (entered n x.cpu t) marks x.memory.device in
      traps_to board n mmu x.cpu x.memory.ram marks x.memory.device word op t user_ready user_fetches is meets
      ∙ ap (λ (b : Bool). (turn_of n x.cpu (if b then Trapped t else ErrorMode t) (Some word) None, new)) u.traps

  -- user code is fetched from the code's pages
  user_touches : (t : Turn) (event : Event) → t ≡ turn_of n x.cpu event (Some word) None →
      Touches g t.user t.pc t.access
  user_touches t event is =
      let less = u.within in
      let at = u.place in
      let low : 0x40 ≤ x.cpu.control.pc / 4096 = omega arith in
      let high : x.cpu.control.pc / 4096 < 0x40 + g.code_count = omega arith in
      let here : Touches g true x.cpu.control.pc None = (low, high, refl) in
      subst (λ (o : Turn). Touches g o.user o.pc o.access) (sym is) (subst (λ b. Touches g (not b) x.cpu.control.pc None) (sym u.user) here)

  -- a turn with this event that reaches no data
  quiet_turn : (event : Event) (new : World n Device) →
      next board n mmu x ≡ (turn_of n x.cpu event (Some word) None, new) → TurnsTo n g mmu x event new
  quiet_turn event new turn = record {
    running = u.running;
    sane = u.sane;
    tells = ap (λ (p : Turn × World n Device). p.0.event) turn;
    touches = user_touches (next board n mmu x).0 event (ap (λ (p : Turn × World n Device). p.0) turn);
    is = ap (λ (p : Turn × World n Device). p.1) turn;
  }

  pub trap_turn : (op : Operation) (t : ℕ) → AsksFor words i op → first_trap n x.cpu op ≡ Some t →
      TurnsTo n g mmu x (Trapped t)
      (world n (in_vector n x.cpu t (trapped n x.cpu.regs x.cpu.control.pc x.cpu.control.npc) (vector_place 0xF0000000 t)
      (after_place 0xF0000000 t)) marks x.memory.device)
  trap_turn op t is meets =
      let to : Cpu n → World n Device = λ c. world n c marks x.memory.device in
      quiet_turn (Trapped t) _ (user_traps op t is meets ∙ ap (λ (c : Cpu n). (turn_of n x.cpu (Trapped t) (Some word) None, to c)) (vector_entered n x.cpu t u.traps u.table))

-- an operation that reaches no memory: the processor goes on as it says
pub plain_turn : (n : ℕ) (g : Pages) (words : List ℕ) (mmu : MmuRegs) (x : World n Device) (i : ℕ) (op : Operation) →
    RunsUser n g words mmu x i →
    AsksFor words i op → first_trap n x.cpu op ≡ None → ((y : World n Device) → acts board n mmu op y ≡ (quiet, record y { cpu = effect n y.cpu op })) →
    TurnsTo n g mmu x Ran (world n (effect n x.cpu op) (code_marked i x.memory.ram) x.memory.device)
plain_turn n g words mmu x i op u is calm plain =
    let marks = code_marked i x.memory.ram in
    let new = world n (effect n x.cpu op) marks x.memory.device in
    quiet_turn n g words mmu x i u Ran new
    (user_runs n g words mmu x i u op None new is calm (plain (world n x.cpu marks x.memory.device))
    ∙ ap (λ e. (turn_of n x.cpu e (Some (slice_index words i)) None, new)) (ap ran_event u.running))
