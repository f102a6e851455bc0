-- Where all flat runs on an input behave, one of them goes along the path that they have in common, up to its exit.
use Rattle.std.proofs.Common.{◌≡◌, ℕ, zero, suc, ◌+◌, ◌^◌, ◌<◌, List, [], ◌∷◌, ◌++◌, Option, Some, None, refl, sym, ap, subst, arith}
use Rattle.std.specs.Prelude.{◌==◌, if◌then◌else◌}
use Rattle.std.proofs.lemmas.Bool.Decides.{nat_tests}
use Rattle.sbx_image.specs.Parts.{Parts}
use Rattle.sbx_flat.specs.declared.path.Place.{Place}
use Rattle.sbx_flat.specs.Runs.{Behaves, FlatRun, IsStart, Run, budget, place_of, weight, weight_at}
use Rattle.sbx_flat.specs.States.{State}
use Rattle.sbx_flat.specs.Turns.{Step}
use Rattle.sbx_flat.proofs.Turns.{weighs_some}
use Rattle.sbx_sound.proofs.Shared.{stack_start}
use Rattle.sbx_sound.proofs.Start.{calm_start}

-- one step more
run_more : (parts : Parts) (s t u : State) (path : List Place) → Run parts s path t → Step parts t u → Run parts s (path ++ place_of parts t ∷ []) u
run_more parts s t u [] run one = (u, ap (place_of parts) (sym run), subst (λ x. Step parts x u) (sym run) one, refl)
run_more parts s t u (p ∷ path) run one = (run.0, run.1, run.2, run_more parts run.0 t u path run.3 one)

weight_more : (parts : Parts) (path : List Place) (p : Place) → weight parts (path ++ p ∷ []) ≡ weight parts path + weight_at parts p
weight_more parts [] p = omega arith
weight_more parts (q ∷ path) p = let i = weight_more parts path p in omega arith

-- a run begins somewhere
out_word : (n : ℕ) → (if n == 14 then stack_start else 0) < 2 ^ 32
out_word n = grind (arith, nat_tests)

starts : (parts : Parts) (input : List ℕ) → IsStart parts input (calm_start parts input)
starts parts input =
    record {
      pc = refl;
      npc = refl;
      annulled = refl;
      icc = refl;
      y = omega arith;
      one_frame = refl;
      base = refl;
      slots = λ a. refl;
      globals =
          λ n. omega arith;
      locals = λ n. omega arith;
      outs = out_word;
      ins = λ n. omega arith;
      memory = λ a. refl;
      input = refl;
      output = refl;
      exit = refl;
    }

module _ (parts : Parts) (input output : List ℕ) (status : ℕ) (path : List Place) (behaves : Behaves parts input output status path) where
  abbrev Ends : Type 0
  Ends = (last : State) × FlatRun parts input path last

  or_goes_on : (way : List Place) (s : State) → FlatRun parts input way s → (o : Option ℕ) → s.exit ≡ o → (s.exit ≡ None → Ends) → Ends
  or_goes_on way s run None e goes_on = goes_on e
  or_goes_on way s run (Some word) e goes_on = (s, subst (λ p. FlatRun parts input p s) (behaves.one_answer way s word run e).2 run)

  -- so many steps more are beyond the budget
  ends_within : (n : ℕ) (way : List Place) (s : State) → FlatRun parts input way s → budget parts < weight parts way + n → Ends
  ends_within zero way s run beyond = absurd (let within = behaves.within_budget way s run in omega (arith, within, beyond))
  ends_within (suc n) way s run beyond =
      or_goes_on way s run s.exit refl (λ open_now.
      (let next = behaves.can_go_on way s run open_now in
      let longer = weight_more parts way (place_of parts s) in
      let some = weighs_some parts (place_of parts s) in
      ends_within n (way ++ place_of parts s ∷ []) next.0 (run.0, run.1, run_more parts run.0 s next.0 way run.2 next.1) (omega (arith, longer, some, beyond))))

  pub runs_along : Ends
  runs_along = ends_within (suc (budget parts)) [] (calm_start parts input) (calm_start parts input, starts parts input, refl) (omega arith)
