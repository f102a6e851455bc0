-- What is told of two runs of a safe image on one input is alike, whatever the boards held.
use Rattle.std.proofs.Common.{◌≡◌, ℕ, List, [], refl, sym, ap, ◌∙◌, subst}
use Rattle.v8_loaded.specs.Board.{Device}
use Rattle.v8_loaded.specs.States.{IsState}
use Rattle.v8_board.specs.declared.outcome.Ending.{Ending}
use Rattle.v8_board.specs.declared.outcome.Ending.TheVariants.{Exit}
use Rattle.v8_board.specs.declared.outcome.Outcome.{Outcome}
use Rattle.v8_board.specs.Contains.{Contains}
use Rattle.v8_board.specs.Seen.{State}
use Rattle.v8_board.specs.Start.{IsStart}
use Rattle.sbx_image.specs.Parts.{Parts}
use Rattle.sbx_flat.specs.Runs.{AreBytes, FlatSafe}
use Rattle.sbx_sound.specs.Law.{IsFormed}
use Rattle.sbx_sound.specs.Verdicts.{Checked}
use Rattle.sbx_flat.specs.Traffic.{traffic}
use Rattle.sbx_flat.specs.declared.path.Place.{Place}
use Rattle.sbx_shows.specs.WholeRuns.{Finishes, IsAnyBoard, IsImage}
use Rattle.sbx_shows.proofs.Ending.{runs_to_its_end}
use Rattle.sbx_run.specs.Answer.{EndsOn, IsAnswer, IsFlatEnd, KeepsItsDepth, told_of}
use Rattle.sbx_run.specs.declared.runner.Finished.{Finished}
use Rattle.sbx_run.proofs.Again.{is_any, loaded_again, with_device}
use Rattle.sbx_batch.specs.Reuse.{Ran}
use Rattle.sbx_batch.proofs.Law.{runs_use_the_same}
use Rattle.sbx_batch.specs.Batches.{IsNext, ended_of, with_input}

-- ---- two flat ends

abbrev outcome_with : Ending → ℕ → ℕ → ℕ → Outcome
outcome_with e t o v = record { ending = e; turns = t; overflows = o; underflows = v }

same_outcome : (e f : Ending) (t u o p v w : ℕ) → e ≡ f → t ≡ u → o ≡ p → v ≡ w → outcome_with e t o v ≡ outcome_with f u p w
same_outcome e f t u o p v w ending turns overflows underflows = rw (ending, turns, overflows, underflows) refl

module _ (n : ℕ) (parts : Parts) (input earlier : List ℕ) (start : State n) (f : Finishes n parts input earlier start) where
  told_alike : (s t : List ℕ) (v w : ℕ) (a b : Outcome) → IsFlatEnd parts n input s v a → IsFlatEnd parts n input t w b → (a ≡ b) × (s ≡ t)
  told_alike s t v w a b x y =
      let one = x.behaves.one_answer f.came.path f.state f.status f.came.run f.over.exit in
      let two = y.behaves.one_answer f.came.path f.state f.status f.came.run f.over.exit in
      let path : x.path ≡ y.path = sym one.2 ∙ two.2 in
      let status : v ≡ w = sym one.1 ∙ two.1 in
      let ending : a.ending ≡ b.ending = x.exits ∙ ap Exit status ∙ sym y.exits in
      let turns : a.turns ≡ b.turns = x.turns ∙ ap (λ (p : List Place). (traffic parts n p).turns) path ∙ sym y.turns in
      let overflows : a.overflows ≡ b.overflows = x.overflows ∙ ap (λ (p : List Place). (traffic parts n p).overflows) path ∙ sym y.overflows in
      let underflows : a.underflows ≡ b.underflows = x.underflows ∙ ap (λ (p : List Place). (traffic parts n p).underflows) path ∙ sym y.underflows in
      (same_outcome a.ending b.ending a.turns b.turns a.overflows b.overflows a.underflows b.underflows ending turns overflows underflows, sym one.0 ∙ two.0)

-- ---- the next run

-- a run on a new board, as one on a board that was there
single_ran : (n : ℕ) (parts : Parts) (input : List ℕ) (single : Finished) (is : IsAnswer parts n input single) → Ran n parts input is.run.end
single_ran n parts input single is =
    let b = is.run.begun in
    let d = b.made.world.memory.device in
    let given : d.input ≡ input = ap (λ (k : Device). k.input) b.new.device in
    record {
      made = with_device n parts b.made is.run.start b.loaded b.state d;
      start = is.run.start;
      any = subst (λ i. IsAnyBoard n i (with_device n parts b.made is.run.start b.loaded b.state d)) given (is_any n parts b.made is.run.start b.loaded b.state d);
      loaded = loaded_again n parts b.made is.run.start b.loaded b.state d is.run.start.world.memory.device b.loaded.device;
      run = is.run.run;
    }

module _ (n : ℕ) (parts : Parts) (input : List ℕ) (old end : State n) (image : IsImage parts) (formed : IsFormed parts) (checked : Checked parts)
    (safe : FlatSafe parts) (bytes : AreBytes input) (state : IsState n old.mmu old.world) where
  any : IsAnyBoard n input (with_input old input)
  any = record { state = record { cpu = state.cpu; size = state.size; bytes = state.bytes; root = state.root }; y = state.cpu.y_word; input_is = refl }

  -- the flat run of the image ends
  finishes : (start : State n) → IsStart n parts (with_input old input) start → Finishes n parts input [] start
  finishes start loaded = runs_to_its_end n parts input (with_input old input) start image safe bytes any loaded

  pub next : (f : Finished) → EndsOn n parts (with_input old input) end (ended_of f) → f.output.items ≡ end.world.memory.device.output →
      KeepsItsDepth parts n (told_of f) → Contains n parts end → IsNext n parts input f old end
  next f ends output depth contained =
      record {
        ends = ends;
        output = output;
        alone = λ single is.
            let told = told_alike n parts input [] ends.start (finishes ends.start ends.loaded) _ _ _ _ _ _ ends.flat is.flat in
            let ran : Ran n parts input end = record { made = with_input old input; start = ends.start; any = any; loaded = ends.loaded; run = ends.run } in
            let pages = runs_use_the_same n parts input end is.run.end image formed checked bytes ran (single_ran n parts input single is) in
            (told.0, output ∙ ends.put_out ∙ told.1, ends.pages ∙ pages ∙ sym is.run.pages ∙ sym is.pages);
        depth = depth;
        contained = contained;
      }
