-- Fuel: what has to hold for all numbers of a block's ranges. Alignment isn't looked at.
use Rattle.std.specs.Prelude.{◌≡◌, ℕ, Option, Some, None, ℤ, pos, ◌+ℤ◌, ◌≤ℤ◌}
use Rattle.sbx_image.specs.Range.{Range}
use Rattle.sbx_form.specs.Forms.{Cells}
use Rattle.sbx_domain.specs.Forms.{Form, form_value}
use Rattle.sbx_domain.specs.Known.{Known, form_at, range_at}

-- numbers in the ranges of the locations that have one
abbrev pub InCells : Known → Cells → Type 0
InCells d numbers = (l : ℕ) (r : Range) → range_at d l ≡ Some r → (r.lo ≤ℤ numbers l) × (numbers l ≤ℤ r.hi)

abbrev pub number_now : Cells → Option Form → ℤ → ℤ
number_now start None other = other
number_now start (Some f) other = form_value start f

-- a location with a form has its value over the numbers that the block starts with, another one any number of its range
abbrev pub numbers_now : Cells → Known → Cells → Cells
numbers_now start d others l = number_now start (form_at d l) (others l)

-- The fuel of the block lasts for this weight and for the fuel of the block after it.
abbrev pub IsPaid : Known → Form → ℕ → Known → Form → Type 0
IsPaid first fuel weight now next =
    (start others : Cells) → InCells first start → InCells now others
    → (pos weight +ℤ form_value (numbers_now start now others) next) ≤ℤ form_value start fuel

-- the same where the run or the function ends
abbrev pub IsEnough : Known → Form → ℕ → Type 0
IsEnough first fuel weight = (start : Cells) → InCells first start → pos weight ≤ℤ form_value start fuel

-- a function's budget is at least its first block's fuel
abbrev pub IsWithinBudget : Known → Form → ℕ → Type 0
IsWithinBudget first fuel budget = (start : Cells) → InCells first start → form_value start fuel ≤ℤ pos budget
