-- What an image without a fault gives at each visit of a word.
use Rattle.std.proofs.Common.{◌≡◌, ℕ, zero, suc, ◌<◌, Bool, true, false, List, [], ◌∷◌, length, Some, refl, ap, ◌∙◌, inl, inr}
use Rattle.std.specs.Prelude.{◌||◌, not, slice_get}
use Rattle.std.specs.List.{list_any}
use Rattle.sbx_image.specs.Parts.{Parts}
use Rattle.sbx_rules.specs.declared.cause.Cause.{Cause}
use Rattle.sbx_rules.specs.declared.cause.Cause.TheVariants.{UnkeptCells, OutOfFuel, RunsPastEnd}
use Rattle.sbx_rules.specs.Rules.{Holds, has_cells, is_past, is_back, leads_to, leaves_to, misses_cells, now}
use Rattle.sbx_rules.specs.Verdicts.{Checked}
use Rattle.sbx_rules.specs.Fuel.{IsEnough, IsPaid}
use Rattle.sbx_rules.specs.Known.{Known}
use Rattle.sbx_rules.specs.Forms.{Form}
use Rattle.sbx_rules.specs.Ways.{To, Visit, cells_at, fuel_at, state_at, visits_at, weight_to}
use Rattle.sbx_image.specs.Order.{function_at, words_in, address_of}
use Rattle.sbx_rules.specs.Places.{ends_run, op_at}
use Rattle.sbx_sound.proofs.Running.{IsVisit}
use Rattle.sbx_sound.proofs.Tests.{at_most}

-- The three sentences of fuel say "for all numbers", and an inequality: so what isn't refuted holds.
pub paid_holds : (one now : Known) (have next : Form) (used : ℕ) → ((IsPaid one have used now next → ⊥) → ⊥) → IsPaid one have used now next
paid_holds one now have next used h start others s o = at_most _ _ (λ no_more. h (λ paid. no_more (paid start others s o)))

pub enough_holds : (one : Known) (have : Form) (used : ℕ) → ((IsEnough one have used → ⊥) → ⊥) → IsEnough one have used
enough_holds one have used h start s = at_most _ _ (λ no_more. h (λ paid. no_more (paid start s)))

same_some : (x v : Visit) → Some x ≡ Some v → x ≡ v
same_some x v e = cc

or_right : (a b : Bool) → b ≡ true → (a || b) ≡ true
or_right true b h = refl
or_right false b h = h

or_left : (a b : Bool) → a ≡ true → (a || b) ≡ true
or_left true b h = refl
or_left false b h = absurd (cc)

-- one of a list
any_one : (test : Visit → Bool) (vs : List Visit) (n : ℕ) (v : Visit) → slice_get vs n ≡ Some v → test v ≡ true → list_any test vs ≡ true
any_one test [] n v is h = absurd (cc)
any_one test (x ∷ vs) zero v is h = let e : x ≡ v = same_some x v is in ap (λ y. test y || list_any test vs) e ∙ ap (λ y. y || list_any test vs) h
any_one test (x ∷ vs) (suc n) v is h = or_right (test x) (list_any test vs) (any_one test vs n v is h)

other_way : (b : Bool) → (b ≡ true → ⊥) → b ≡ false
other_way true h = absurd (h refl)
other_way false h = refl

module _ (parts : Parts) (checked : Checked parts) (f b i : ℕ) (in_f : f < length parts.functions) (in_b : b < length (function_at parts f).blocks) (in_i : i < words_in parts f b) where
  none : (cause : Cause) → Holds parts f b i cause → ⊥
  none cause h = checked f (address_of parts f b i) cause (record { block = b; word = i; place = record { function = in_f; block = in_b; word = in_i }; lies = refl; holds = h })

  -- OutOfFuel on an edge
  pub edge_is_paid : (v : Visit) (t : ℕ) → IsVisit parts f b i v → v.way ≡ To t →
      IsPaid (state_at parts f b 0) (fuel_at parts f b) (weight_to parts f b (suc i)) (now parts f b i v) (fuel_at parts f t)
  edge_is_paid v t is to =
      paid_holds (state_at parts f b 0) (now parts f b i v) (fuel_at parts f b) (fuel_at parts f t) (weight_to parts f b (suc i))
      (λ unpaid. none OutOfFuel (inl (v, t, record { place = is.0; visit = is.1; to = to }, unpaid)))

  -- OutOfFuel at a return and at the exit
  pub return_is_paid : (v : Visit) → IsVisit parts f b i v → is_back v.way ≡ true → IsEnough (state_at parts f b 0) (fuel_at parts f b) (weight_to parts f b (suc i))
  return_is_paid v is back = enough_holds (state_at parts f b 0) (fuel_at parts f b) (weight_to parts f b (suc i))
      (λ unpaid. none OutOfFuel
      (inr (inl (
        or_left (list_any (λ v. is_back v.way) (visits_at parts f b i)) (ends_run (op_at parts f b i))
            (any_one (λ v. is_back v.way) (visits_at parts f b i) is.0 v is.1 back),
        unpaid,
      ))))

  pub exit_is_paid : ends_run (op_at parts f b i) ≡ true → IsEnough (state_at parts f b 0) (fuel_at parts f b) (weight_to parts f b (suc i))
  exit_is_paid ends = enough_holds (state_at parts f b 0) (fuel_at parts f b) (weight_to parts f b (suc i))
      (λ unpaid. none OutOfFuel (inr (inl (or_right (list_any (λ v. is_back v.way) (visits_at parts f b i)) (ends_run (op_at parts f b i)) ends, unpaid))))

  -- RunsPastEnd
  pub goes_somewhere : (v : Visit) → IsVisit parts f b i v → is_past v.way ≡ false
  goes_somewhere v is = other_way (is_past v.way) (λ h. none RunsPastEnd (any_one (λ v. is_past v.way) (visits_at parts f b i) is.0 v is.1 h))

  -- UnkeptCells on an edge
  pub edge_has_cells : (v : Visit) (t : ℕ) → IsVisit parts f b i v → v.way ≡ To t → has_cells (now parts f b i v) (cells_at parts f t) ≡ true
  edge_has_cells v t is to =
      let test = leaves_to parts f b i (misses_cells parts f b i) in
      not_true (has_cells (now parts f b i v) (cells_at parts f t))
      (λ h. none UnkeptCells (inl (any_one test (visits_at parts f b i) is.0 v is.1 (ap (leads_to (misses_cells parts f b i v)) to ∙ h))))
    where
      not_true : (x : Bool) → (not x ≡ true → ⊥) → x ≡ true
      not_true true h = refl
      not_true false h = absurd (h refl)
