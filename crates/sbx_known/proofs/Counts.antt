-- Counting a block's words: what they weigh so far, and that they are few.
use Rattle.std.proofs.Common.{◌≡◌, ℕ, suc, ◌+◌, ◌-◌, ◌<◌, ◌≤◌, Bool, true, false, Ok, refl, sym, ap, ◌∙◌, subst, arith}
use Rattle.std.specs.Prelude.{nat_lt}
use Rattle.std.proofs.lemmas.Bool.Decides.{nat_tests}
use Rattle.sbx_image.specs.Parts.{Parts}
use Rattle.sbx_image.specs.Rules.{parts_keep}
use Rattle.sbx_image.specs.Order.{block_at, words_in}
use Rattle.sbx_rules.specs.Places.{IsPlace}
use Rattle.sbx_rules.specs.Ways.{weight_of_place, weight_to}
use Rattle.sbx_known.specs.Spots.{IsBlock}
use Rattle.sbx_known.proofs.InOrder.{fits_low}

-- what holds at a word, at the same word by other names
pub at_spot : (P : ℕ → ℕ → ℕ → Type 0) (f b i g c j : ℕ) → g ≡ f → c ≡ b → j ≡ i → P f b i → P g c j
at_spot P f b i g c j ef eb ei h = subst (λ n. P n c j) (sym ef) (subst (λ n. P f n j) (sym eb) (subst (P f b) (sym ei) h))

pub from_spot : (P : ℕ → ℕ → ℕ → Type 0) (f b i g c j : ℕ) → g ≡ f → c ≡ b → j ≡ i → P g c j → P f b i
from_spot P f b i g c j ef eb ei h = at_spot P g c j f b i (sym ef) (sym eb) (sym ei) h

pub weight_step : (parts : Parts) (f b i w v : ℕ) → w ≡ weight_to parts f b i → v ≡ weight_of_place parts f b i → w + v ≡ weight_to parts f b (suc i)
unfolding weight_to
weight_step parts f b i w v ew ev = ap (λ n. n + v) ew ∙ ap (λ n. weight_to parts f b i + n) ev

pub no_weight : (parts : Parts) (f b : ℕ) → 0 ≡ weight_to parts f b 0
unfolding weight_to
no_weight parts f b = refl

pub next_one : (i : ℕ) → suc i ≡ i + 1
next_one i = omega arith

-- a block has few words
pub few_words : (parts : Parts) (f b : ℕ) → parts_keep parts ≡ Ok tt → IsBlock parts f b → words_in parts f b ≤ 131072
few_words parts f b keeps is = by_test (nat_lt 0 (words_in parts f b)) refl
  where
    by_test : (t : Bool) → nat_lt 0 (words_in parts f b) ≡ t → words_in parts f b ≤ 131072
    by_test false e = grind (arith, nat_tests, e)
    by_test true e =
        let some : 0 < words_in parts f b = grind (arith, nat_tests, e) in
        let place : IsPlace parts f b (words_in parts f b - 1) = record { function = is.0; block = is.1; word = omega arith } in
        let low = fits_low parts keeps f b (words_in parts f b - 1) (block_at parts f b).address place refl in
        omega arith
