-- The whole: what a checked image's places and steps are, and that it is safe on the flat machine.
use Rattle.std.proofs.Common.{ℕ, ◌≤◌, length}
use Rattle.sbx_image.specs.Parts.{Parts}
use Rattle.sbx_image.specs.Regions.{page_rights}
use Rattle.sbx_image.proofs.Fields.{is_between}
use Rattle.sbx_image.proofs.Limits.{data_within, functions_within, parts_kept}
use Rattle.sbx_flat.specs.Runs.{FlatSafe}
use Rattle.sbx_image.specs.Order.{function_at}
use Rattle.sbx_rules.specs.Verdicts.{Checked}
use Rattle.sbx_sound.specs.Law.{CheckedIsSafe, IsFormed}
use Rattle.sbx_sound.proofs.Order.{IsOrdered}
use Rattle.sbx_sound.specs.Positive.{IsPositive}
use Rattle.sbx_sound.proofs.Begun.{fuel_stays_positive}
use Rattle.sbx_sound.proofs.Branching.{branch_slots}
use Rattle.sbx_sound.proofs.Calling.{call_slots}
use Rattle.sbx_sound.proofs.Dispatch.{Kinds, all_steps}
use Rattle.sbx_sound.proofs.EachWord.{each_straight, plain_words_do}
use Rattle.sbx_sound.proofs.Limits.{function_good, have_results, ordered}
use Rattle.sbx_sound.proofs.Onward.{HaveResults}
use Rattle.sbx_sound.proofs.Returning.{PlainWordsDo, return_slots}
use Rattle.sbx_sound.proofs.Safe.{Spot, Steps}
use Rattle.sbx_sound.proofs.Start.{StartsWell, is_safe}
use Rattle.sbx_sound.proofs.Wells.{starts_well}

module _ (parts : Parts) (formed : IsFormed parts) (checked : Checked parts) where
  pub order : IsOrdered parts
  order = ordered parts formed.kept formed.typed

  results : HaveResults parts
  results = have_results parts formed.kept formed.typed

  few : (g : ℕ) → length (function_at parts g).results ≤ 6
  few g = (function_good parts formed.kept formed.typed g).few_results

  pages : parts.stack_pages ≤ 16
  pages = (is_between 1 16 parts.stack_pages (parts_kept parts formed.kept).stack_pages).1

  small : length (page_rights parts.regions) ≤ 64
  small = (data_within parts formed.kept).pages

  does : PlainWordsDo parts
  does = plain_words_do parts checked order pages small few

  pub positive : IsPositive parts
  positive = fuel_stays_positive parts formed checked

  kinds : Kinds parts
  kinds = record {
    straight = λ w k f b i start at before no_link no_return. each_straight parts checked order pages small few w k f b i start at before no_link no_return;
    called = call_slots parts checked order results positive pages does;
    returned = return_slots parts checked order pages few does;
    branched = branch_slots parts checked order results pages does;
  }

  -- each place where a run stands steps on
  pub steps : (w : ℕ) (p : Spot parts w) → Steps parts w p
  steps = all_steps parts kinds

  -- a run's start is such a place
  pub rules : StartsWell parts
  rules = starts_well parts checked order pages formed.typed.regions (functions_within parts formed.kept).0

  pub safe : FlatSafe parts
  safe = is_safe parts steps positive rules

pub checked_is_safe : CheckedIsSafe
checked_is_safe parts formed checked = safe parts formed checked
