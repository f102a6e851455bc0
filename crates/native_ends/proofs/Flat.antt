-- A flat run of a checked image goes on from where it stands, with whatever words a new frame holds.
use Rattle.std.proofs.Common.{◌≡◌, ℕ, ◌+◌, ◌≤◌, false, List, [], ◌∷◌, ◌++◌, None, refl, sym, ap, ◌∙◌, subst, arith}
use Rattle.sbx_image.specs.Parts.{Parts}
use Rattle.sbx_image.proofs.Limits.{parts_kept}
use Rattle.sbx_image.proofs.Fields.{is_between}
use Rattle.v8_meaning.specs.declared.operation.Operation.{Operation}
use Rattle.sbx_flat.specs.Effects.{performs}
use Rattle.sbx_flat.specs.Registers.{Fresh, IsFresh}
use Rattle.sbx_flat.specs.declared.path.Place.{Place}
use Rattle.sbx_flat.specs.Runs.{AreBytes, Behaves, FlatRun, Run, place_of, weight, weight_at}
use Rattle.sbx_flat.specs.States.{State, Goes}
use Rattle.sbx_flat.specs.Traffic.{after_place, traffic_from}
use Rattle.sbx_flat.specs.Turns.{Step, turn}
use Rattle.sbx_flat.specs.WellFormed.{IsWellFormed}
use Rattle.sbx_flat.specs.declared.path.Traffic.{Traffic}
use Rattle.sbx_flat.proofs.Goes.{goes}
use Rattle.sbx_flat.proofs.Stays.{runs_well_formed}
use Rattle.sbx_flat.proofs.Turns.{turn_at, weighs_some}
use Rattle.sbx_rules.specs.Verdicts.{Checked}
use Rattle.sbx_sound.specs.Law.{IsFormed}
use Rattle.sbx_depth.proofs.Steps.{Stands, stands_on, starts}
use Rattle.native_ends.specs.Translations.{AsksFor}

-- ---- paths

pub run_more : (parts : Parts) (s t u : State) (path : List Place) → Run parts s path t → Step parts t u → Run parts s (path ++ place_of parts t ∷ []) u
run_more parts s t u [] run one = (u, ap (place_of parts) (sym run), subst (λ x. Step parts x u) (sym run) one, refl)
run_more parts s t u (p ∷ path) run one = (run.0, run.1, run.2, run_more parts run.0 t u path run.3 one)

pub weight_more : (parts : Parts) (path : List Place) (p : Place) → weight parts (path ++ p ∷ []) ≡ weight parts path + weight_at parts p
weight_more parts [] p = omega arith
weight_more parts (q ∷ path) p = let i = weight_more parts path p in omega arith

pub counts_more : (parts : Parts) (n : ℕ) (path : List Place) (place : Place) (t : Traffic) → traffic_from parts n (path ++ place ∷ []) t ≡ after_place parts n place (traffic_from parts n path t)
counts_more parts n [] place t = refl
counts_more parts n (p ∷ path) place t = counts_more parts n path place (after_place parts n p t)

-- ---- a run

module _ (parts : Parts) (formed : IsFormed parts) (checked : Checked parts) (input output : List ℕ) (bytes : AreBytes input) (status : ℕ) (path : List Place)
    (behaves : Behaves parts input output status path) where
  abbrev pub Ran : List Place → State → Type 0
  Ran way s = FlatRun parts input way s

  stand_along : (way : List Place) (s t : State) → Stands parts s → Run parts s way t → Stands parts t
  stand_along [] s t h run = subst (Stands parts) run h
  stand_along (p ∷ way) s t h run = stand_along way run.0 t (stands_on parts formed checked s run.0 h run.2) run.3

  pub stands : (way : List Place) (s : State) → Ran way s → Stands parts s
  stands way s run = stand_along way run.0 s (starts parts formed checked input run.0 bytes run.1) run.2

  pub well : (way : List Place) (s : State) → Ran way s → IsWellFormed parts.stack_pages s
  well way s run =
      let pages = (is_between 1 16 parts.stack_pages (parts_kept parts formed.kept).stack_pages).0 in
      runs_well_formed parts input way s pages formed.typed.regions bytes run

  -- A step that a run makes, by words of one's choice.
  pub record Onto (way : List Place) (s : State) (fresh : Fresh) : Type 0 where
    pub next : State
    pub is : turn parts fresh s ≡ Goes next
    pub run : Ran (way ++ place_of parts s ∷ []) next
    pub weighs : weight parts way + 1 ≤ weight parts (way ++ place_of parts s ∷ [])

  pub steps : (way : List Place) (s : State) (fresh : Fresh) → IsFresh fresh → Ran way s → s.exit ≡ None → Onto way s fresh
  steps way s fresh words run open_now =
      let on = goes parts fresh s words open_now (λ wrong. behaves.never_wrong way s run wrong) in
      record {
        next = on.0;
        is = on.1;
        run = (run.0, run.1, run_more parts run.0 s on.0 way run.2 (fresh, words, on.1));
        weighs = (let more = weight_more parts way (place_of parts s) in let some = weighs_some parts (place_of parts s) in omega (arith, more, some));
      }

  -- of a word that runs
  pub performed : (way : List Place) (s : State) (fresh : Fresh) (op : Operation) (on : Onto way s fresh) → s.exit ≡ None → s.annulled ≡ false → AsksFor parts s.pc op → performs parts fresh op s ≡ Goes on.next
  performed way s fresh op on open_now runs asks =
      ap (λ (o : Operation). performs parts fresh o s) (sym asks.2) ∙ sym (turn_at parts fresh s asks.0 open_now runs asks.1) ∙ on.is
