-- Turns in a row.
--   shifted, turn_later      one turn and then k are k + 1
--   leads_none, leads_more, leads_one, leads_rest     turns with their events, one after the other
use Rattle.std.proofs.Common.{◌≡◌, ℕ, zero, suc, List, [], ◌∷◌, length, Some, refl, sym, ap, ◌∙◌, subst}
use Rattle.std.specs.Prelude.{slice_get}
use Rattle.std.proofs.lemmas.Option.{same_Some}
use Rattle.v8_core.specs.Meaning.{Meaning}
use Rattle.v8_core.specs.MmuRegs.{MmuRegs}
use Rattle.v8_core.specs.declared.turn.Event.{Event}
use Rattle.v8_core.specs.Accesses.{World}
use Rattle.v8_core.specs.Steps.{next}
use Rattle.v8_layout.specs.Layout.{Pages}
use Rattle.v8_memory.specs.Board.{Device, board}
use Rattle.v8_loaded.specs.Turns.{Leads, TurnsTo, world_after, turn_at}

pub shifted : {D : Type 0} (m : Meaning D) (n : ℕ) (mmu : MmuRegs) (k : ℕ) (old : World n D) →
    world_after m n mmu (suc k) old ≡ world_after m n mmu k (next m n mmu old).1
shifted m n mmu zero old = refl
shifted m n mmu (suc k) old = ap (λ x. (next m n mmu x).1) (shifted m n mmu k old)

pub turn_later : {D : Type 0} (m : Meaning D) (n : ℕ) (mmu : MmuRegs) (k : ℕ) (old : World n D) →
    turn_at m n mmu (suc k) old ≡ turn_at m n mmu k (next m n mmu old).1
turn_later m n mmu k old = ap (λ x. (next m n mmu x).0) (shifted m n mmu k old)

module _ {n : ℕ} {g : Pages} {mmu : MmuRegs} where
  pub leads_none : {x : World n Device} → Leads n g mmu x [] x
  leads_none = record { is = refl; turns = λ k event there. absurd (cc) }

  pub leads_more : {old mid new : World n Device} {event : Event} {events : List Event} →
      TurnsTo n g mmu old event mid → Leads n g mmu mid events new → Leads n g mmu old (event ∷ events) new
  leads_more {old} {mid} {new} {event} {events} first rest = record {
    is = shifted board n mmu (length events) old ∙ ap (world_after board n mmu (length events)) first.is ∙ rest.is;
    turns = by_number;
  }
    where
      by_number : (k : ℕ) (e : Event) → slice_get (event ∷ events) k ≡ Some e →
          TurnsTo n g mmu (world_after board n mmu k old) e (world_after board n mmu (suc k) old)
      by_number zero e there =
          subst (λ a. TurnsTo n g mmu old a (next board n mmu old).1) (same_Some event e there)
          (record { running = first.running; sane = first.sane; tells = first.tells; touches = first.touches; is = refl })
      by_number (suc k) e there =
          let here = shifted board n mmu k old ∙ ap (world_after board n mmu k) first.is in
          subst (λ (x : World n Device). TurnsTo n g mmu x e (next board n mmu x).1) (sym here) (rest.turns k e there)

  pub leads_one : {old new : World n Device} {event : Event} → TurnsTo n g mmu old event new →
      Leads n g mmu old (event ∷ []) new
  leads_one first = leads_more first leads_none

  -- after the first turn
  pub leads_rest : {old new : World n Device} {event : Event} {events : List Event} →
      Leads n g mmu old (event ∷ events) new → Leads n g mmu (next board n mmu old).1 events new
  leads_rest {old} {new} {event} {events} all = record {
    is = sym (shifted board n mmu (length events) old) ∙ all.is;
    turns = λ k e there. subst (λ (x : World n Device). TurnsTo n g mmu x e (next board n mmu x).1) (shifted board n mmu k old) (all.turns (suc k) e there);
  }
