-- A turn in the vector of a trap that user code took: a word of the trap table, which may reach the device.
use Rattle.std.proofs.Common.{◌≡◌, ℕ, ◌+◌, ◌*◌, ◌/◌, ◌<◌, List, Option, None, refl, sym, ap, ◌∙◌, subst, arith}
use Rattle.v8_core.specs.Operation.{Operation}
use Rattle.v8_core.specs.Windows.{Windows}
use Rattle.v8_core.specs.AccessKind.TheVariants.{Fetch}
use Rattle.v8_core.specs.MmuRegs.{MmuRegs}
use Rattle.v8_core.specs.Traps.{first_trap}
use Rattle.v8_core.specs.declared.turn.DataAccess.{DataAccess}
use Rattle.v8_core.specs.declared.turn.Event.{Event}
use Rattle.v8_core.specs.declared.turn.Turn.{Turn}
use Rattle.v8_core.specs.Accesses.{World, world}
use Rattle.v8_core.specs.Memory.{fetches}
use Rattle.v8_core.specs.Steps.{acts, ran_event}
use Rattle.v8_core.proofs.Turns.{Ready, runs_to}
use Rattle.v8_layout.specs.Handlers.{trap_word}
use Rattle.v8_layout.specs.Layout.{Pages, IsLoaded}
use Rattle.v8_memory.specs.Board.{Device, board}
use Rattle.v8_loaded.specs.Places.{table_marked}
use Rattle.v8_loaded.specs.Turns.{ReachesDevice, Touches, TurnsTo}
use Rattle.v8_loaded.specs.Users.{RunsUser, in_vector}
use Rattle.v8_loaded.proofs.Fetches.{by_supervisor, fetches_table}
use Rattle.v8_loaded.proofs.Words.{Asks}

-- `regs`, `pc`, `npc` are those of the vector, `k` is the word's number in the table
pub vector_turn : (n : ℕ) (g : Pages) (words : List ℕ) (mmu : MmuRegs) (x : World n Device) (i : ℕ) →
    RunsUser n g words mmu x i → (t : ℕ) (regs : Windows) (pc npc k : ℕ) (ram : List ℕ) (d : Device)
    (op : Operation) (access : Option DataAccess) (new : World n Device) (event : Event) →
    IsLoaded n g words ram → d.stopped ≡ None → k < 1024 → pc ≡ 0xF0000000 + 4 * k →
    Asks (trap_word k) op → first_trap n (in_vector n x.cpu t regs pc npc) op ≡ None →
    acts board n mmu op (world n (in_vector n x.cpu t regs pc npc) (table_marked ram) d) ≡ (record { access = access; trap = None }, new) →
    ran_event new.memory.device.stopped ≡ event → ReachesDevice access →
    TurnsTo n g mmu (world n (in_vector n x.cpu t regs pc npc) ram d) event new
vector_turn n g words mmu x i u t regs pc npc k ram d op access new event loaded running small at is calm does tells device =
    let cpu = in_vector n x.cpu t regs pc npc in
    let fetch = ap (λ p. fetches mmu p (by_supervisor Fetch) ram) at
    ∙ fetches_table n g words ram mmu u.few loaded u.root k small in
    let ready : Ready board n cpu d = record { running = running; sane = u.sane; straight = refl } in
    let page : pc / 4096 ≡ 0xF0000 = omega arith in
    let turn = runs_to board n mmu cpu ram (table_marked ram) d (trap_word k) op access new ready fetch is calm does in
    record {
      running = running;
      sane = u.sane;
      tells = ap (λ (p : Turn × World n Device). p.0.event) turn ∙ tells;
      touches = subst (λ (o : Turn). Touches g o.user o.pc o.access) (sym (ap (λ (p : Turn × World n Device). p.0) turn)) (page, device);
      is = ap (λ (p : Turn × World n Device). p.1) turn;
    }
