-- A run of a checked image steps from place to place, beside the calm run, with fuel left at each.
use Rattle.std.proofs.Common.{ℕ, arith}
use Rattle.std.specs.Prelude.{ℤ, pos, ◌≤ℤ◌}
use Rattle.std.proofs.lemmas.Int.{ints}
use Rattle.sbx_image.specs.Parts.{Parts}
use Rattle.sbx_flat.proofs.Law.{Keeps}
use Rattle.sbx_sound.specs.Verdicts.{Checked}
use Rattle.sbx_sound.specs.Law.{IsFormed}
use Rattle.sbx_sound.specs.Positive.{left_at}
use Rattle.sbx_sound.proofs.Safe.{Pair, Spot, keeps}
use Rattle.sbx_sound.proofs.Whole.{positive, steps}

some_left : (z : ℤ) → pos 1 ≤ℤ z → pos 0 ≤ℤ z
some_left z h = omega (arith, ints)

module _ (parts : Parts) (formed : IsFormed parts) (checked : Checked parts) where
  stays : (w : ℕ) (p : Spot parts w) → pos 0 ≤ℤ left_at parts p.f p.b p.i p.start
  stays w p = some_left (left_at parts p.f p.b p.i p.start) (positive parts formed checked p.f p.b p.i p.start p.at.place p.at.begun)

  -- it steps from place to place, beside the calm run
  pub kept : Keeps parts (Pair parts)
  kept = keeps parts (steps parts formed checked) stays
