-- A window trap that user code takes, and the turns of its handler after it.
--   setting       what every turn needs
--   begun, begins     the state after the trap is the handler's first
--   handled       the trap's turn and the handler's
--   ends          the state after them
--   same_but      RAM after them
use Rattle.std.proofs.Common.{◌≡◌, ℕ, suc, ◌+◌, ◌*◌, ◌<◌, inr, false, List, Some, sym, ap, ◌∙◌, subst, arith}
use Rattle.v8_core.specs.Operation.{Operation}
use Rattle.v8_core.specs.MmuRegs.{MmuRegs}
use Rattle.v8_core.specs.Windows.{below}
use Rattle.v8_core.specs.Cpu.{Cpu}
use Rattle.v8_core.specs.Traps.{first_trap}
use Rattle.v8_core.specs.Accesses.{World, world}
use Rattle.v8_core.specs.Steps.{next}
use Rattle.v8_layout.specs.Layout.{Pages}
use Rattle.v8_layout.proofs.Marks.{kept_elsewhere}
use Rattle.v8_memory.specs.Board.{Device, board}
use Rattle.v8_loaded.specs.Areas.{SameBut}
use Rattle.v8_loaded.specs.Places.{code_entry_place, code_marked, entered_window}
use Rattle.v8_loaded.specs.Turns.{IsHandlers, world_after, turn_at}
use Rattle.v8_loaded.specs.Users.{AsksFor, IsHandled, RunsUser}
use Rattle.v8_loaded.proofs.Fetches.{code_entry_word}
use Rattle.v8_loaded.proofs.Windows.{below_within}
use Rattle.v8_loaded.proofs.Stages.{stage}
use Rattle.v8_loaded.proofs.Entered.{caught, first_inside, first_stage}
use Rattle.v8_loaded.proofs.Leading.{shifted, turn_later}
use Rattle.v8_loaded.proofs.Turns.{Area, Comes, Setting, marked_byte}
use Rattle.v8_loaded.proofs.Users.{user_page, user_traps}

pub setting : (n : ℕ) (g : Pages) (words : List ℕ) (mmu : MmuRegs) (x : World n Device) (i : ℕ) →
    RunsUser n g words mmu x i → Setting n g mmu x.memory.device
setting n g words mmu x i u = record { root = u.root; running = u.running; few = u.file.few; many = u.file.many; pages = u.few }

-- the handler's first state, after a trap of type t where WIM is this mask
abbrev pub begun : (n : ℕ) → World n Device → ℕ → ℕ → ℕ → World n Device
begun n x i t mask =
    let w = entered_window n x.cpu in
    world n (stage n (caught x.cpu.control t) w w (first_inside n x.cpu t mask)) (code_marked i x.memory.ram) x.memory.device

module _ (n : ℕ) (g : Pages) (words : List ℕ) (mmu : MmuRegs) (x : World n Device) (i : ℕ) (u : RunsUser n g words mmu x i)
    (op : Operation) (t mask : ℕ) (asks : AsksFor words i op) (meets : first_trap n x.cpu op ≡ Some t) (is : x.cpu.regs.mask ≡ mask) where
  pub begins : (next board n mmu x).1 ≡ begun n x i t mask
  begins =
      let counted = u.file.rows.count in
      let within : below n x.cpu.regs.current < n = below_within n x.cpu.regs.current u.file.few u.file.many u.file.current in
      ap (λ p. p.1) (user_traps n g words mmu x i u op t asks meets)
      ∙ ap (λ (c : Cpu n). world n c (code_marked i x.memory.ram) x.memory.device) (first_stage n x.cpu t mask u.traps u.table u.sane is (omega arith))

  module _ (a : Area) (last : Cpu n) (c : Comes n g words mmu x.memory.device a 23 (begun n x i t mask) last) (all : a.reached ≡ 16) where
    pub handled : (sp : ℕ) → a.base + 0x60000 ≡ sp → IsHandled n words mmu x i t sp a.store
    handled sp at = record {
      trap = ap (λ p. p.0) (user_traps n g words mmu x i u op t asks meets);
      turns = λ k less.
          let first = turn_at board n mmu k (begun n x i t mask) in
          let turn = turn_at board n mmu (suc k) x in
          let here : turn ≡ first = turn_later board n mmu k x ∙ ap (turn_at board n mmu k) begins in
          let made = subst (λ r. IsHandlers (a.base + 0x60000) (4 * r) a.store first) all (c.turns k less) in
          subst (λ q. IsHandlers q 64 a.store turn) at (subst (IsHandlers (a.base + 0x60000) 64 a.store) (sym here) made);
    }

    pub ends : world_after board n mmu 24 x ≡ world n last c.ram x.memory.device
    ends = shifted board n mmu 23 x ∙ ap (world_after board n mmu 23) begins ∙ c.is

    pub same_but : SameBut i a.base (4 * a.stored) x.memory.ram c.ram
    same_but =
        let page = user_page n g words mmu x i u in
        let place = code_entry_place i in
        let word = code_entry_word i in
        let high = page.high in
        record {
          bytes = λ p above apart. c.keeps.bytes p above apart ∙ marked_byte x.memory.ram place word false page p above;
          words = λ p above apart. c.keeps.words p above apart
              ∙ kept_elsewhere x.memory.ram place word false page p (inr (omega arith));
          entries = λ p low whole apart. c.keeps.entries p low whole (λ j less. apart j (omega arith));
        }
