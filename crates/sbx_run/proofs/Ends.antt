-- What the law of whole runs makes of a board run of a safe image.
use Rattle.std.proofs.Common.{◌≡◌, ℕ, ◌<◌, ◌≤◌, ◌⊎◌, inl, inr, List, Option, Some, None, refl, sym, ap, ◌∙◌, subst, arith}
use Rattle.v8_mmu.specs.declared.bus.Stop.{Stop}
use Rattle.v8_mmu.specs.declared.bus.Stop.TheVariants as stops
use Rattle.v8_core.specs.Accesses.{World}
use Rattle.v8_memory.specs.Board.{Device}
use Rattle.v8_loaded.specs.States.{IsState}
use Rattle.v8_board.specs.declared.outcome.Counts.{Counts}
use Rattle.v8_board.specs.declared.outcome.Ending.{Ending}
use Rattle.v8_board.specs.declared.outcome.Ending.TheVariants.{Exit}
use Rattle.v8_board.specs.declared.outcome.Outcome.{Outcome}
use Rattle.v8_board.specs.Marks.{page_use_of}
use Rattle.v8_board.specs.Runs.{IsRun, state_after, ending_or_limit, outcome_of}
use Rattle.v8_board.specs.Seen.{State as BoardState, ending_by, ending_of}
use Rattle.v8_board.specs.Start.{IsStart}
use Rattle.v8_board.proofs.Running.{Counted}
use Rattle.sbx_image.specs.Parts.{Parts}
use Rattle.sbx_flat.specs.Runs.{AreBytes, Behaves, FlatSafe, budget}
use Rattle.sbx_flat.specs.declared.path.Place.{Place}
use Rattle.sbx_flat.specs.declared.path.Traffic.{Traffic}
use Rattle.sbx_shows.specs.WholeRuns.{Finishes, IsImage, IsTurnBeside}
use Rattle.sbx_shows.proofs.Ending.{runs_to_its_end}
use Rattle.sbx_run.specs.Answer.{ExitsAsFlat, SafeImagesExit}
use Rattle.sbx_run.specs.Pages.{UsesOwnPages}
use Rattle.sbx_run.proofs.Again.{is_any, loaded_again, with_device}
use Rattle.sbx_run.proofs.Pages.{uses_own}

-- a run that may go on to an end ends there
pub same_end : (n limit k : ℕ) (start last stop : BoardState n) → IsRun n limit start last → Counted n start stop k → k ≤ limit → (ending_of n stop.world ≡ None → ⊥) → last ≡ stop
same_end n limit k start last stop run (t, so_many) within over =
    let split : (run.turns.count < k) ⊎ (k ≤ run.turns.count) = search arith in
    elim split [
      | inl before ↦
          let going : ending_of n last.world ≡ None = ap (λ (s : BoardState n). ending_of n s.world) run.turns.is ∙ t.running run.turns.count (omega arith) in
          let whole = run.whole going in
          absurd (omega arith)
      | inr past ↦
          let more : (k < run.turns.count) ⊎ (k ≡ run.turns.count) = search arith in
          elim more [
            | inl beyond ↦ absurd (over (ap (λ (s : BoardState n). ending_of n s.world) (t.is ∙ ap (λ j. state_after n j start) so_many) ∙ run.turns.running k beyond))
            | inr same ↦ run.turns.is ∙ ap (λ j. state_after n j start) (sym same ∙ sym so_many) ∙ sym t.is
          ]
    ]

-- ---- ends

ended_as : (n : ℕ) (w : World n Device) (status : ℕ) → w.memory.device.stopped ≡ Some (stops.Exit status) → ending_of n w ≡ Some (Exit status)
unfolding ending_of
ended_as n w status stopped = ap (λ (k : Option Stop). ending_by k w.cpu.control.tt w.cpu.control.error) stopped

some_not_none : (o : Option Ending) (e : Ending) → o ≡ Some e → o ≡ None → ⊥
some_not_none o e p q = cc

abbrev outcome_with : Counts → ℕ → Outcome
outcome_with c status = record { ending = Exit status; turns = c.turns; overflows = c.overflows; underflows = c.underflows }

outcome_is : (n : ℕ) (s : BoardState n) (status : ℕ) → ending_of n s.world ≡ Some (Exit status) → outcome_of n s ≡ outcome_with s.counts status
unfolding outcome_of
outcome_is n s status e = ap (λ (o : Option Ending). record { ending = ending_or_limit o; turns = s.counts.turns; overflows = s.counts.overflows; underflows = s.counts.underflows }) e

-- ---- the law

module _ (n : ℕ) (parts : Parts) (made start end : BoardState n) (image : IsImage parts) (safe : FlatSafe parts)
    (bytes : AreBytes made.world.memory.device.input) (loaded : IsStart n parts made start) (state : IsState n start.mmu start.world)
    (run : IsRun n (budget parts) start end) where
  abbrev input : List ℕ
  input = made.world.memory.device.input

  abbrev earlier : List ℕ
  earlier = made.world.memory.device.output

  finishes : Finishes n parts input earlier start
  finishes =
      let d = made.world.memory.device in
      runs_to_its_end n parts input (with_device n parts made start loaded state d) start image safe bytes (is_any n parts made start loaded state d)
      (loaded_again n parts made start loaded state d start.world.memory.device loaded.device)

  pub ends : ExitsAsFlat n parts input earlier start end
  ends =
      let f = finishes in
      let c = f.came in
      let s = safe input bytes in
      let a = s.3.one_answer c.path f.state f.status c.run f.over.exit in
      let top = s.3.within_budget c.path f.state c.run in
      let few = c.few.2 in
      let over : ending_of n f.last ≡ Some (Exit f.status) = ended_as n f.last f.status f.over.stopped in
      let still : ending_of n (state_after n c.turns start).world ≡ None → ⊥ =
      λ none. some_not_none (ending_of n f.last) (Exit f.status) over (ap (λ (b : BoardState n). ending_of n b.world) (sym c.board_stands) ∙ none) in
      let last : end ≡ state_after n c.turns start =
      same_end n (budget parts) c.turns start end (state_after n c.turns start) run (record { count = c.turns; running = c.going; is = refl }, refl)
      (omega arith) still in
      let stands = last ∙ c.board_stands in
      let outcome : outcome_of n end ≡ record { ending = Exit f.status; turns = c.turns; overflows = c.overflows; underflows = c.underflows } =
      ap (outcome_of n) stands ∙ outcome_is n _ f.status over in
      let so_many : (outcome_of n end).turns ≡ c.turns = ap (λ (o : Outcome). o.turns) outcome in
      record {
        status = f.status;
        output = f.state.output;
        put_out = ap (λ (b : BoardState n). b.world.memory.device.output) stands ∙ f.over.output;
        flat = record {
          path = c.path;
          behaves = subst (λ (p : List Place). Behaves parts input f.state.output f.status p) (sym a.2)
              (subst (λ w. Behaves parts input f.state.output w s.2) (sym a.1) (subst (λ (o : List ℕ). Behaves parts input o s.1 s.2) (sym a.0) s.3));
          exits = ap (λ (o : Outcome). o.ending) outcome;
          turns = so_many ∙ sym (ap (λ (t : Traffic). t.turns) c.traffic_is);
          overflows = ap (λ (o : Outcome). o.overflows) outcome ∙ sym (ap (λ (t : Traffic). t.overflows) c.traffic_is);
          underflows = ap (λ (o : Outcome). o.underflows) outcome ∙ sym (ap (λ (t : Traffic). t.underflows) c.traffic_is);
          within = omega (arith, so_many);
        };
        last = last ∙ ap (λ k. state_after n k start) (sym so_many);
        own = record {
          path = c.path;
          last = f.state;
          word = f.status;
          run = c.run;
          exit = f.over.exit;
          each = subst (λ k. (j : ℕ) → j < k → IsTurnBeside n parts earlier c.path c.run.0 f.state j (state_after n j start)) (sym so_many) c.each;
          pages = subst (λ (b : BoardState n). UsesOwnPages parts (page_use_of b.world.memory.ram)) (sym stands) (uses_own parts f.last.memory.ram f.over.marks);
        };
      }

pub safe_images_exit : SafeImagesExit
safe_images_exit n parts made start end image safe bytes loaded state run = ends n parts made start end image safe bytes loaded state run
