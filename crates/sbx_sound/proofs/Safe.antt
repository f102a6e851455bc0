-- If from every place where a run stands it steps to another such place or to its exit, the image is safe.
use Rattle.std.proofs.Common.{◌≡◌, ℕ, ◌+◌, ◌≤◌, List, Option, Some, None, sym, ap, ◌∙◌, subst, inl, inr}
use Rattle.std.specs.Prelude.{pos, ◌≤ℤ◌, ◌⊎◌}
use Rattle.sbx_image.specs.Parts.{Parts}
use Rattle.sbx_flat.specs.Registers.{Fresh, IsFresh, still}
use Rattle.sbx_flat.specs.declared.path.Place.{Place}
use Rattle.sbx_flat.specs.Runs.{AreBytes, FlatSafe, IsStart, budget, place_of, weight_at}
use Rattle.sbx_flat.specs.States.{State}
use Rattle.sbx_flat.specs.Turns.{turn}
use Rattle.sbx_flat.proofs.Law.{Keeps, Moves, safe, still_is_fresh}
use Rattle.sbx_flat.proofs.Turns.{weighs_some}
use Rattle.sbx_rules.specs.Operations.{is_call}
use Rattle.sbx_rules.specs.Ways.{Visit}
use Rattle.sbx_image.specs.Order.{function_at}
use Rattle.sbx_rules.specs.Places.{op_before}
use Rattle.sbx_sound.specs.Positive.{left_at}
use Rattle.sbx_sound.proofs.Running.{At, left_to_all, tests, window_of}
use Rattle.sbx_form.specs.Forms.{Cells}
use Rattle.sbx_sound.proofs.Shared.{Shared, Shows}
use Rattle.sbx_sound.proofs.Effects.{Reaches}
use Rattle.sbx_sound.proofs.Ledger.{all_left, within_budget}

is_open : (o : Option ℕ) (n : ℕ) → o ≡ Some n → o ≡ None → ⊥
is_open o n e f = cc

module _ (parts : Parts) where
  -- Where a run stands, when this much is used.
  pub record Spot (w : ℕ) : Type 0 where
    pub k : Shared
    pub f : ℕ
    pub b : ℕ
    pub i : ℕ
    pub v : Visit
    pub start : Cells
    pub at : At parts w k f b i v start

  abbrev pub ShowsSpot : (w : ℕ) → Spot w → State → Type 0
  ShowsSpot w p s = Shows (window_of (function_at parts p.f) p.b p.i) (tests parts p.v.known (is_call (op_before parts p.f p.b p.i))) p.k s

  pub record Exit (w : ℕ) : Type 0 where
    pub status : ℕ
    pub output : List ℕ
    pub bound : w ≤ budget parts

  pub record ShowsExit (w : ℕ) (e : Exit w) (s : State) : Type 0 where
    pub status : s.exit ≡ Some e.status
    pub output : s.output ≡ e.output

  abbrev pub Stand : ℕ → Type 0
  Stand w = Spot w ⊎ Exit w

  abbrev pub ShowsStand : (w : ℕ) → Stand w → State → Type 0
  ShowsStand w (inl p) s = ShowsSpot w p s
  ShowsStand w (inr e) s = ShowsExit w e s

  -- the invariant of a state and the calm one
  abbrev pub Pair : ℕ → State → State → Type 0
  Pair w s calm = (p : Stand w) × ShowsStand w p s × ShowsStand w p calm

  -- From a place every state that shows it steps to one that shows the next, whatever the open words are.
  pub record Steps (w : ℕ) (p : Spot w) : Type 0 where
    pub place : Place
    pub place_is : (s : State) → ShowsSpot w p s → place_of parts s ≡ place
    pub comes : Stand (w + weight_at parts place)
    pub goes : (fresh : Fresh) → IsFresh fresh → (s : State) → ShowsSpot w p s → Reaches (turn parts fresh s) (ShowsStand (w + weight_at parts place) comes)

  module _ (steps : (w : ℕ) (p : Spot w) → Steps w p) (stays : (w : ℕ) (p : Spot w) → pos 0 ≤ℤ left_at parts p.f p.b p.i p.start) where
    bound : (w : ℕ) (st : Stand w) → w ≤ budget parts
    bound w (inl p) = within_budget w (budget parts) (left_at parts p.f p.b p.i p.start) (left_to_all parts p.k.calls) p.at.ledger (stays w p) (all_left parts p.f p.k.calls p.at.calls)
    bound w (inr e) = e.bound

    exits : (w : ℕ) (st : Stand w) (s calm : State) → ShowsStand w st s → ShowsStand w st calm → s.exit ≡ calm.exit
    exits w (inl p) s calm a b = a.rest.exit ∙ sym b.rest.exit
    exits w (inr e) s calm a b = a.status ∙ sym b.status

    outputs : (w : ℕ) (st : Stand w) (s calm : State) → ShowsStand w st s → ShowsStand w st calm → s.output ≡ calm.output
    outputs w (inl p) s calm a b = a.rest.output ∙ sym b.rest.output
    outputs w (inr e) s calm a b = a.output ∙ sym b.output

    moves : (w : ℕ) (st : Stand w) (s calm : State) → ShowsStand w st s → ShowsStand w st calm → s.exit ≡ None → Moves parts Pair w s calm
    moves w (inr e) s calm a b open_now = absurd (is_open s.exit e.status a.status open_now)
    moves w (inl p) s calm a b open_now =
        let step = steps w p in
        let here = step.place_is s a in
        let calm_next = step.goes still still_is_fresh calm b in
        let n = w + weight_at parts step.place in
        let same : n ≡ w + weight_at parts (place_of parts s) = ap (λ x. w + weight_at parts x) (sym here) in
        record {
          place = here ∙ sym (step.place_is calm b);
          weighs = weighs_some parts (place_of parts s);
          next_calm = calm_next.next;
          calm_goes = calm_next.goes;
          each = λ fresh is_fresh.
              let r = step.goes fresh is_fresh s a in
              (r.next, r.goes, subst (λ m. Pair m r.next calm_next.next) same (step.comes, r.is, calm_next.is));
        }

    pub keeps : Keeps parts Pair
    keeps = record {
      bound = λ w s calm h. bound w h.0;
      exits = λ w s calm h. exits w h.0 s calm h.1 h.2;
      outputs = λ w s calm h. outputs w h.0 s calm h.1 h.2;
      moves = λ w s calm h. moves w h.0 s calm h.1 h.2;
    }

    pub flat_safe : (calm_start : List ℕ → State) → ((input : List ℕ) (s : State) → AreBytes input → IsStart parts input s → Pair 0 s (calm_start input)) → FlatSafe parts
    flat_safe calm_start start = safe parts Pair keeps calm_start start
