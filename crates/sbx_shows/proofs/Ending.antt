-- A whole run of a safe image.
use Rattle.std.proofs.Common.{◌≡◌, ℕ, suc, ◌+◌, ◌-◌, ◌*◌, ◌/◌, ◌%◌, ◌<◌, ◌≤◌, ◌⊎◌, inl, inr, Bool, true, false, List, [], length, Option, Some, None, refl, sym, ap, ◌∙◌, subst, arith}
use Rattle.std.specs.Prelude.{slice_get, slice_index, ◌==◌, ◌&&◌, nat_le, if◌then◌else◌}
use Rattle.std.proofs.lemmas.Bool.Decides.{nat_tests}
use Rattle.std.proofs.lemmas.Option.{slice_get_within}
use Rattle.v8_map.specs.declared.TheConstants.{CODE_START, CONTEXT_TABLE}
use Rattle.v8_core.specs.Operation.{Operation}
use Rattle.v8_core.specs.Operation.TheVariants.{Restore, Save}
use Rattle.v8_core.specs.Walked.{root_of}
use Rattle.v8_core.specs.Accesses.{World}
use Rattle.v8_loaded.specs.Board.{Device}
use Rattle.v8_loaded.specs.Users.{AsksFor}
use Rattle.v8_board.specs.Seen.{State as BoardState}
use Rattle.sbx_flat.specs.Rules.{code_start}
use Rattle.sbx_flat.specs.Parts.{Parts}
use Rattle.sbx_flat.specs.Registers.{still}
use Rattle.sbx_flat.specs.Runs.{AreBytes, FlatRun, FlatSafe, budget}
use Rattle.sbx_flat.specs.States.{State}
use Rattle.sbx_flat.specs.Turns.{IsWrong, asked, fetches, goes_on, turn, word_at}
use Rattle.sbx_flat.specs.declared.path.Place.{Place}
use Rattle.sbx_flat.specs.declared.path.Wrong.TheVariants.{OutsideCode}
use Rattle.sbx_flat.proofs.Law.{still_is_fresh}
use Rattle.sbx_shows.specs.Laws.{HasWindow, turns_of, windows_after}
use Rattle.sbx_shows.specs.Shows.{Shows}
use Rattle.sbx_shows.specs.Steps.{Stands}
use Rattle.sbx_shows.proofs.Whole.{annulled_turns_keep, user_turns_keep}
use Rattle.sbx_shows.specs.WholeRuns.{Came, IsImage, RunsToItsEnd, stands, with_earlier}
use Rattle.sbx_shows.proofs.Earlier.{earlier_wrong}
use Rattle.sbx_shows.proofs.Induction.{Taken, ends_from}
use Rattle.sbx_shows.proofs.Retries.{restores_underflow, saves_overflow}
use Rattle.sbx_shows.proofs.Start.{boot, flat_start, is_flat_start, start_shows}

-- ---- the word that is fetched

-- an address of the code, by the number of its word
pub record Located (words : List ℕ) (pc : ℕ) : Type 0 where
  pub index : ℕ
  pub place : pc ≡ CODE_START + 4 * index
  pub within : index < length words

located_by : (words : List ℕ) (pc word : ℕ) (b : Bool) → (nat_le code_start pc && (pc % 4 == 0)) ≡ b → (if b then slice_get words ((pc - code_start) / 4) else None) ≡ Some word → Located words pc
located_by words pc word true on_code e =
    let low : code_start ≤ pc = grind (arith, nat_tests) in
    let whole : pc % 4 ≡ 0 = grind (arith, nat_tests) in
    record { index = (pc - code_start) / 4; place = omega arith; within = slice_get_within words ((pc - code_start) / 4) word e }
located_by words pc word false on_code e = absurd (cc)

pub located : (words : List ℕ) (pc word : ℕ) → word_at words pc ≡ Some word → Located words pc
unfolding word_at
located words pc word e = located_by words pc word (nat_le code_start pc && (pc % 4 == 0)) refl e

module _ (n : ℕ) (parts : Parts) (input earlier : List ℕ) (start : BoardState n) (image : IsImage parts) (safe : FlatSafe parts) (bytes : AreBytes input)
    (root : root_of start.mmu ≡ CONTEXT_TABLE) where
  abbrev Next : World n Device → State → ℕ → Type 0
  Next x s r = Taken n parts input earlier start safe bytes image.budget_fits x s r

  -- an operation that meets no window trap
  calm : (x : World n Device) (s : State) (r i : ℕ) (op : Operation) → Stands n parts start.mmu x (with_earlier earlier s) r i → AsksFor parts.words i op →
      (IsWrong parts (with_earlier earlier s) → ⊥) → HasWindow n r op → Next x s r
  calm x s r i op h is good has =
      record {
        count = turns_of op;
        overflows = 0;
        underflows = 0;
        windows = windows_after op r;
        few = (omega arith, omega arith);
        advances =
            user_turns_keep n parts start.mmu x (with_earlier earlier s) r i op h is good has;
      }

  by_operation : (x : World n Device) (s : State) (r i : ℕ) (op : Operation) → Stands n parts start.mmu x (with_earlier earlier s) r i →
      AsksFor parts.words i op → (IsWrong parts (with_earlier earlier s) → ⊥) → Next x s r
  by_operation x s r i (Save f) h is good =
      let most = h.shows.calls.most in
      let split : (r + 1 < n) ⊎ (r + 1 ≡ n) = search arith in
      elim split [
        | inl free ↦ calm x s r i (Save f) h is good free
        | inr full ↦ record {
          count = 25;
          overflows = 1;
          underflows = 0;
          windows = r;
          few = (omega arith, omega arith);
          advances =
              (saves_overflow n parts start.mmu x (with_earlier earlier s) r i f h is good full).2;
        }
      ]
  by_operation x s r i (Restore f) h is good =
      let some = h.shows.calls.some in
      let split : (1 < r) ⊎ (1 ≡ r) = search arith in
      elim split [
        | inl more ↦ calm x s r i (Restore f) h is good more
        | inr last ↦
            let one = subst (λ q. Stands n parts start.mmu x (with_earlier earlier s) q i) (sym last) h in
            subst (Next x s) last
            (record {
              count = 25;
              overflows = 0;
              underflows = 1;
              windows = 1;
              few = (omega arith, omega arith);
              advances =
                  (restores_underflow n parts start.mmu x (with_earlier earlier s) i f one is good).2;
            })
      ]
  by_operation x s r i op h is good = calm x s r i op h is good tt

  advance : (x : World n Device) (s : State) (r : ℕ) (way : List Place) → FlatRun parts input way s → Shows n parts x (with_earlier earlier s) r → Next x s r
  unfolding turn
  advance x s r way run h = by_annul s.annulled refl
    where
      good : IsWrong parts (with_earlier earlier s) → ⊥
      good wrong = (safe input bytes).3.never_wrong way s run (earlier_wrong earlier parts s wrong)

      by_word : s.annulled ≡ false → (o : Option ℕ) → word_at parts.words s.pc ≡ o → Next x s r
      by_word straight None e =
          absurd (good (
            still,
            still_is_fresh,
            OutsideCode,
            ap (λ o. goes_on parts still (with_earlier earlier s) o s.annulled) h.going
                ∙ ap (goes_on parts still (with_earlier earlier s) None) straight ∙ ap (λ o. fetches parts still o (with_earlier earlier s)) e,
          ))
      by_word straight (Some word) e =
          let l = located parts.words s.pc word e in
          let here : Stands n parts start.mmu x (with_earlier earlier s) r l.index = record { fits = image.fits; root = root; shows = h; straight = straight; place = l.place; within = l.within } in
          by_operation x s r l.index (asked (slice_index parts.words l.index)) here refl good

      by_annul : (t : Bool) → s.annulled ≡ t → Next x s r
      by_annul true e =
          record {
            count = 1;
            overflows = 0;
            underflows = 0;
            windows = r;
            few = (omega arith, omega arith);
            advances =
                annulled_turns_keep n parts start.mmu x (with_earlier earlier s) r h e;
          }
      by_annul false e = by_word e (word_at parts.words s.pc) refl

-- From any board that has been loaded.
pub runs_to_its_end : RunsToItsEnd
runs_to_its_end n parts input made start image safe bytes any loaded =
    let earlier = made.world.memory.device.output in
    let s = flat_start parts input (boot n made.world.cpu.regs) made.world.cpu.control.y in
    let shown = start_shows n parts input made start image bytes any loaded in
    let flat = is_flat_start n parts input made any in
    let mmu : root_of start.mmu ≡ CONTEXT_TABLE = ap root_of loaded.mmu ∙ any.state.root in
    let came : Came n parts input earlier start start.world s 1 = record {
      path = [];
      run = (s, flat, refl);
      turns = 0;
      overflows = 0;
      underflows = 0;
      traffic_is = refl;
      few = (omega arith, omega arith, omega arith);
      board_stands = ap (stands n start.world start.mmu) loaded.counts;
      going = λ j less. absurd (omega arith);
      each = λ j less. absurd (omega arith);
    } in
    ends_from n parts input earlier start safe bytes image.budget_fits (advance n parts input earlier start image safe bytes mmu) (suc (budget parts)) start.world s 1 came shown (omega arith)
