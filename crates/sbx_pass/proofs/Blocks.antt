-- The words of a block in turn: none before this one breaks a rule.
use Rattle.std.proofs.Common.{◌≡◌, ℕ, ◌+◌, ◌<◌, ◌≤◌, Bool, true, false, refl, subst, arith}
use Rattle.std.specs.Prelude.{nat_lt}
use Rattle.std.proofs.lemmas.Bool.Decides.{nat_tests}
use Rattle.sbx_image.specs.Parts.{Parts}
use Rattle.sbx_rules.specs.declared.cause.Cause.{Cause}
use Rattle.sbx_rules.specs.declared.cause.Cause.TheVariants.{BadShape, NoMemory}
use Rattle.sbx_rules.specs.Causes.{number_of}
use Rattle.sbx_image.specs.Order.{words_in}
use Rattle.sbx_rules.specs.Rules.{Holds, has_bad_shape}
use Rattle.sbx_pass.specs.Firsts.{AreKept, IsFirstOfBlock, IsLeastOf}

-- each rule has a number from 1 to 20
from_one : (cause : Cause) → 1 ≤ number_of cause
from_one (NoMemory want) = omega arith
from_one _ = omega arith

up_to_20 : (cause : Cause) → number_of cause < 21
up_to_20 (NoMemory want) = omega arith
up_to_20 _ = omega arith

none_broken : (Broken : Cause → Type 0) → AreKept Broken 1 21 → (cause : Cause) → Broken cause → ⊥
none_broken Broken kept cause h = kept cause (from_one cause) (up_to_20 cause) h

not_so : (x : Bool) → (x ≡ true → ⊥) → x ≡ false
not_so true h = absurd (h refl)
not_so false h = refl

module _ (parts : Parts) (f b : ℕ) where
  abbrev Quiet : ℕ → Type 0
  Quiet i = (j : ℕ) (cause : Cause) → j < i → Holds parts f b j cause → ⊥

  pub none_yet : Quiet 0
  none_yet j cause less h = absurd (omega arith)

  pub none_more : (i : ℕ) → Quiet i → AreKept (Holds parts f b i) 1 21 → Quiet (i + 1)
  none_more i quiet kept j cause less h = by_test (nat_lt j i) refl
    where
      by_test : (t : Bool) → nat_lt j i ≡ t → ⊥
      by_test true e = quiet j cause (grind (arith, nat_tests, e)) h
      by_test false e =
          let same : j ≡ i = grind (arith, nat_tests, e) in
          none_broken (Holds parts f b i) kept cause (subst (λ k. Holds parts f b k cause) same h)

  pub shapes_kept : (i : ℕ) → Quiet i → (j : ℕ) → j < i → has_bad_shape parts f b j ≡ false
  shapes_kept i quiet j less = not_so (has_bad_shape parts f b j) (quiet j BadShape less)

  pub shape_kept : (i : ℕ) → AreKept (Holds parts f b i) 1 13 → has_bad_shape parts f b i ≡ false
  shape_kept i kept = not_so (has_bad_shape parts f b i) (kept BadShape (omega arith) (omega arith))

  pub first_of_block : (i : ℕ) (cause : Cause) → i < words_in parts f b → Quiet i → IsLeastOf (Holds parts f b i) 1 21 cause → IsFirstOfBlock parts f b i cause
  first_of_block i cause within quiet least = record {
    word = within;
    asked = record {
      none_before = λ j other less h. quiet j other less h;
      none_below = λ other less h. least.lesser other (from_one other) less h;
    };
    holds = least.broken;
  }
