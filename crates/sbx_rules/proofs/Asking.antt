-- Where conditions are asked in order, the least fault is the same.
use Rattle.std.specs.Prelude.{ℕ, zero, suc, ◌<◌, ◌≤◌}
use Rattle.std.proofs.Common.{arith, refl, sym, subst}
use Rattle.sbx_image.specs.Parts.{Parts}
use Rattle.sbx_rules.specs.declared.cause.Cause.{Cause}
use Rattle.sbx_rules.specs.declared.cause.Refusal.{Refusal}
use Rattle.sbx_rules.specs.Causes.{number_of}
use Rattle.sbx_image.specs.Order.{address_of}
use Rattle.sbx_rules.specs.Places.{IsPlace}
use Rattle.sbx_rules.specs.Rules.{Holds}
use Rattle.sbx_rules.specs.Verdicts.{AskingInOrderTellsTheSame, Breaks, BreaksAsked, Checked, IsAsked, IsFirst, IsLeast}

below_nothing : (n : ℕ) → n < 0 → ⊥
below_nothing n less = omega arith

-- words of a block lie in order
pub lies_before : (parts : Parts) (f b j i : ℕ) → j < i → address_of parts f b j < address_of parts f b i
unfolding address_of
lies_before parts f b j i less = omega arith

pub lies_up_to : (parts : Parts) (f b j i : ℕ) → j < suc i → address_of parts f b j ≤ address_of parts f b i
unfolding address_of
lies_up_to parts f b j i less = omega arith

pub earlier_place : (parts : Parts) (f b j i : ℕ) → j ≤ i → IsPlace parts f b i → IsPlace parts f b j
earlier_place parts f b j i less place = let w = place.word in record { function = place.function; block = place.block; word = omega arith }

module _ (parts : Parts) (f b : ℕ) where
  IsFault : ℕ → Cause → Type 0
  IsFault i cause = IsAsked parts f b i cause × Holds parts f b i cause

  -- no condition of a number below n, where none of them is a fault and none holds before
  none_at : (i n : ℕ) → ((j : ℕ) (other : Cause) → j < i → Holds parts f b j other → ⊥)
      → ((other : Cause) → number_of other < n → IsFault i other → ⊥) → (cause : Cause) → number_of cause < n → Holds parts f b i cause → ⊥
  unfolding IsFault
  none_at i zero before here cause less holds = below_nothing (number_of cause) less
  none_at i (suc n) before here cause less holds =
      here cause less (
        record {
          none_before = before;
          none_below = λ other lesser. none_at i n before (λ third l fault. here third (omega arith) fault) other (omega arith);
        },
        holds,
      )

  -- nor at the words before i, where none of them has a fault
  none_to : (i : ℕ) → ((j : ℕ) (other : Cause) → j < i → IsFault j other → ⊥) → (j : ℕ) (cause : Cause) → j < i → Holds parts f b j cause → ⊥
  none_to zero told j cause less holds = below_nothing j less
  none_to (suc i) told j cause less holds =
      none_at j (suc (number_of cause))
      (λ k other l. none_to i (λ m third before fault. told m third (omega arith) fault) k other (omega arith))
      (λ other l fault. told j other less fault) cause (omega arith) holds

  -- the asked conditions' faults are told at their words
  fault_told : (i : ℕ) (cause : Cause) → IsPlace parts f b i → IsFault i cause → BreaksAsked parts f (address_of parts f b i) cause
  unfolding IsFault
  fault_told i cause place fault = record { block = b; word = i; place = place; lies = refl; asked = fault.0; holds = fault.1 }

  held_told : (i : ℕ) (cause : Cause) → IsPlace parts f b i → Holds parts f b i cause → Breaks parts f (address_of parts f b i) cause
  held_told i cause place holds = record { block = b; word = i; place = place; lies = refl; holds = holds }

module _ (parts : Parts) where
  without_asking : (f address : ℕ) (cause : Cause) → BreaksAsked parts f address cause → Breaks parts f address cause
  without_asking f address cause h = record { block = h.block; word = h.word; place = h.place; lies = h.lies; holds = h.holds }

  -- nothing holds up to an address where nothing is told up to it
  none_told : (address : ℕ) → ((f a : ℕ) (cause : Cause) → a ≤ address → BreaksAsked parts f a cause → ⊥) → (f : ℕ) (cause : Cause) → Breaks parts f address cause → ⊥
  none_told address told f cause h =
      let lies = h.lies in
      none_to parts f h.block (suc h.word)
      (λ j other less fault. told f (address_of parts f h.block j) other
      (subst (λ n. address_of parts f h.block j ≤ n) (sym lies) (lies_up_to parts f h.block j h.word less))
      (fault_told parts f h.block j other (earlier_place parts f h.block j h.word (omega arith) h.place) fault))
      h.word cause (omega arith) h.holds

  pub checked : ((f address : ℕ) (cause : Cause) → BreaksAsked parts f address cause → ⊥) → Checked parts
  checked told f address cause h = none_told address (λ g a other below. told g a other) f cause h

  module _ (refusal : Refusal) where
    pub first_asked : IsFirst parts refusal → IsLeast (BreaksAsked parts) refusal
    first_asked first =
        let h = first.told in
        record {
          told = record {
            block = h.block;
            word = h.word;
            place = h.place;
            lies = h.lies;
            holds = h.holds;
            asked = record {
              none_before = λ j other less holds. first.no_lesser_address refusal.function (address_of parts refusal.function h.block j) other
                  (subst (λ a. address_of parts refusal.function h.block j < a) (sym h.lies) (lies_before parts refusal.function h.block j h.word less))
                  (held_told parts refusal.function h.block j other (earlier_place parts refusal.function h.block j h.word (omega arith) h.place) holds);
              none_below = λ other less holds. first.no_lesser_number refusal.function other less
                  (record { block = h.block; word = h.word; place = h.place; lies = h.lies; holds = holds });
            };
          };
          no_lesser_address = λ f address cause less told. first.no_lesser_address f address cause less (without_asking f address cause told);
          no_lesser_number = λ f cause less told. first.no_lesser_number f cause less (without_asking f refusal.address cause told);
        }

    module _ (least : IsLeast (BreaksAsked parts) refusal) where
      no_lesser_address : (f address : ℕ) (cause : Cause) → address < refusal.address → Breaks parts f address cause → ⊥
      no_lesser_address f address cause less h =
          none_told address (λ g a other below told. least.no_lesser_address g a other (omega arith) told) f cause h

      no_lesser_number : (f : ℕ) (cause : Cause) → number_of cause < number_of refusal.cause → Breaks parts f refusal.address cause → ⊥
      no_lesser_number f cause less h =
          none_at parts f h.block h.word (number_of refusal.cause)
          (λ j other before holds. no_lesser_address f (address_of parts f h.block j) other
          (subst (λ a. address_of parts f h.block j < a) (sym h.lies) (lies_before parts f h.block j h.word before))
          (held_told parts f h.block j other (earlier_place parts f h.block j h.word (omega arith) h.place) holds))
          (λ other lesser fault. least.no_lesser_number f other lesser
          (subst (λ a. BreaksAsked parts f a other) (sym h.lies) (fault_told parts f h.block h.word other h.place fault)))
          cause less h.holds

      pub first : IsFirst parts refusal
      first = record { told = without_asking refusal.function refusal.address refusal.cause least.told; no_lesser_address = no_lesser_address; no_lesser_number = no_lesser_number }

pub asking_in_order_tells_the_same : AskingInOrderTellsTheSame
asking_in_order_tells_the_same = record { checked = checked; first_asked = first_asked; first = first }
