-- Fuel stays positive: in a checked image some of a block's fuel is left before each of its words, whatever numbers of
-- its ranges the block began with, multiples or not. A caller's fuel then outlasts its callee, also one that never
-- returns.
use Rattle.std.specs.Prelude.{ℕ, ℤ, pos, ◌-ℤ◌, ◌≤ℤ◌}
use Rattle.sbx_image.specs.Parts.{Parts}
use Rattle.sbx_form.specs.Forms.{Cells}
use Rattle.sbx_rules.specs.Forms.{form_value}
use Rattle.sbx_rules.specs.Fuel.{InCells}
use Rattle.sbx_rules.specs.Places.{IsPlace}
use Rattle.sbx_rules.specs.Verdicts.{Checked}
use Rattle.sbx_rules.specs.Ways.{fuel_at, state_at, weight_to}
use Rattle.sbx_sound.specs.Law.{IsFormed}

-- what is left before word i of a block that began with these numbers
abbrev pub left_at : Parts → ℕ → ℕ → ℕ → Cells → ℤ
left_at parts f b i start = form_value start (fuel_at parts f b) -ℤ pos (weight_to parts f b i)

abbrev pub IsPositive : Parts → Type 0
IsPositive parts = (f b i : ℕ) (start : Cells) → IsPlace parts f b i → InCells (state_at parts f b 0) start →
    pos 1 ≤ℤ left_at parts f b i start

abbrev pub FuelStaysPositive : Type 0
FuelStaysPositive = (parts : Parts) → IsFormed parts → Checked parts → IsPositive parts
