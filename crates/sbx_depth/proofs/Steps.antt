-- From each place where a run of a checked image stands it steps on, and what it comes to is again such a place, or the exit.
use Rattle.std.proofs.Common.{◌≡◌, ℕ, ◌+◌, List, Option, Some, None, refl, ap, subst, inl, inr}
use Rattle.sbx_image.specs.Parts.{Parts}
use Rattle.sbx_flat.specs.Registers.{Fresh}
use Rattle.sbx_flat.specs.Runs.{AreBytes, IsStart, weight_at}
use Rattle.sbx_flat.specs.States.{State, Turn, Goes, Over}
use Rattle.sbx_flat.specs.Turns.{Step, goes_on, turn}
use Rattle.sbx_rules.specs.Verdicts.{Checked}
use Rattle.sbx_sound.specs.Law.{IsFormed}
use Rattle.sbx_sound.proofs.Safe.{ShowsStand, Spot, Stand}
use Rattle.sbx_sound.proofs.Start.{begins}
use Rattle.sbx_sound.proofs.Whole.{rules, steps}

over_at : (parts : Parts) (fresh : Fresh) (s : State) (status : ℕ) → s.exit ≡ Some status → turn parts fresh s ≡ Over
unfolding turn
over_at parts fresh s status e = ap (λ x. goes_on parts fresh s x s.annulled) e

not_over : (t : Turn) (s : State) → t ≡ Over → t ≡ Goes s → ⊥
not_over t s e f = cc

-- what steps on isn't over
pub is_open : (parts : Parts) (s next : State) → Step parts s next → s.exit ≡ None
is_open parts s next step = by_exit s.exit refl
  where
    by_exit : (o : Option ℕ) → s.exit ≡ o → o ≡ None
    by_exit None e = refl
    by_exit (Some status) e = absurd (not_over (turn parts step.0 s) next (over_at parts step.0 s status e) step.2)

one_next : (t : Turn) (a b : State) → t ≡ Goes a → t ≡ Goes b → a ≡ b
one_next t a b e f = cc

-- A state that shows a place where a run stands, or the exit.
pub record Stands (parts : Parts) (s : State) : Type 0 where
  pub weight : ℕ
  pub stand : Stand parts weight
  pub shows : ShowsStand parts weight stand s

module _ (parts : Parts) (formed : IsFormed parts) (checked : Checked parts) where
  -- a run's start stands
  pub starts : (input : List ℕ) (s : State) → AreBytes input → IsStart parts input s → Stands parts s
  starts input s bytes start = let pair = begins parts input s bytes (rules parts formed checked) start in record { weight = 0; stand = pair.0; shows = pair.1 }

  from : (w : ℕ) (stand : Stand parts w) (s next : State) → ShowsStand parts w stand s → Step parts s next → Stands parts next
  from w (inl p) s next shows step =
      let here = steps parts formed checked w p in
      let r = here.goes step.0 step.1 s shows in
      let same = one_next (turn parts step.0 s) r.next next r.goes step.2 in
      record { weight = w + weight_at parts here.place; stand = here.comes; shows = subst (ShowsStand parts (w + weight_at parts here.place) here.comes) same r.is }
  from w (inr e) s next shows step = absurd (not_over (turn parts step.0 s) next (over_at parts step.0 s e.status shows.status) step.2)

  -- and so does what it steps to
  pub stands_on : (s next : State) → Stands parts s → Step parts s next → Stands parts next
  stands_on s next h step = from h.weight h.stand s next h.shows step
