-- What a verdict means: which images are checked, which refusal is told of another, and what the rules know at a place.
use Rattle.std.specs.Prelude.{◌≡◌, ℕ, ◌<◌, List}
use Rattle.sbx_image.specs.Parts.{Parts}
use Rattle.sbx_rules.specs.declared.cause.Cause.{Cause}
use Rattle.sbx_rules.specs.declared.cause.Refusal.{Refusal}
use Rattle.sbx_rules.specs.Causes.{number_of}
use Rattle.sbx_image.specs.Order.{address_of}
use Rattle.sbx_rules.specs.Places.{IsPlace}
use Rattle.sbx_rules.specs.Rules.{Holds}
use Rattle.sbx_rules.specs.Ways.{Visit, visits_at}

-- ---- faults

-- The word of a function at an address breaks the rule.
pub record Breaks (parts : Parts) (f address : ℕ) (cause : Cause) : Type 0 where
  pub block : ℕ
  pub word : ℕ
  pub place : IsPlace parts f block word
  pub lies : address ≡ address_of parts f block word
  pub holds : Holds parts f block word cause

-- No word breaks a rule.
abbrev pub Checked : Parts → Type 0
Checked parts = (f address : ℕ) (cause : Cause) → Breaks parts f address cause → ⊥

-- Of what is told of functions, addresses and rules, a refusal names what has the least address, and there the least
-- number.
pub record IsLeast (Told : ℕ → ℕ → Cause → Type 0) (refusal : Refusal) : Type 0 where
  pub told : Told refusal.function refusal.address refusal.cause
  pub no_lesser_address : (f address : ℕ) (cause : Cause) → address < refusal.address → Told f address cause → ⊥
  pub no_lesser_number : (f : ℕ) (cause : Cause) → number_of cause < number_of refusal.cause →
      Told f refusal.address cause → ⊥

-- The refusal of an image: of the rules that it breaks, the one of least number at the least address, and the function
-- that holds that address.
abbrev pub IsFirst : Parts → Refusal → Type 0
IsFirst parts refusal = IsLeast (Breaks parts) refusal

-- ---- faults in order

-- A condition is asked only where none of lesser address in its block, and none of lesser number at its address, holds.
pub record IsAsked (parts : Parts) (f b i : ℕ) (cause : Cause) : Type 0 where
  pub none_before : (j : ℕ) (other : Cause) → j < i → Holds parts f b j other → ⊥
  pub none_below : (other : Cause) → number_of other < number_of cause → Holds parts f b i other → ⊥

-- the same as `Breaks`, of the conditions that are asked
pub record BreaksAsked (parts : Parts) (f address : ℕ) (cause : Cause) : Type 0 where
  pub block : ℕ
  pub word : ℕ
  pub place : IsPlace parts f block word
  pub lies : address ≡ address_of parts f block word
  pub asked : IsAsked parts f block word cause
  pub holds : Holds parts f block word cause

-- A verdict is the same with and without asking in order.
pub record AskingInOrderTellsTheSame : Type 0 where
  pub checked : (parts : Parts) → ((f address : ℕ) (cause : Cause) → BreaksAsked parts f address cause → ⊥) →
      Checked parts
  pub first_asked : (parts : Parts) (refusal : Refusal) → IsFirst parts refusal → IsLeast (BreaksAsked parts) refusal
  pub first : (parts : Parts) (refusal : Refusal) → IsLeast (BreaksAsked parts) refusal → IsFirst parts refusal

-- ---- what is known at a place

-- The ways on which the word of a function at an address runs, with what is known before it on each.
pub record KnownAt (parts : Parts) (f address : ℕ) (visits : List Visit) : Type 0 where
  pub block : ℕ
  pub word : ℕ
  pub place : IsPlace parts f block word
  pub lies : address ≡ address_of parts f block word
  pub ways : visits ≡ visits_at parts f block word
