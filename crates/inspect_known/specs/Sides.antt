-- Fuel and depths as values, in the terms of the rules.
use Rattle.std.specs.Prelude.{◌≡◌, ℕ, ◌+◌, Option, Some, None}
use Rattle.sbx_image.specs.Kind.{Kind}
use Rattle.sbx_image.specs.Kind.TheVariants.{Framed, Leaf}
use Rattle.sbx_image.specs.Order.{function_at}
use Rattle.sbx_image.specs.Parts.{Parts}
use Rattle.sbx_domain.specs.Forms.{Form}
use Rattle.sbx_rules.specs.Ways.{fuel_at}
use Rattle.sbx_known.specs.declared.courses.Course.{Course}
use Rattle.sbx_known.specs.declared.courses.Going.{Going}
use Rattle.sbx_known.specs.declared.courses.Going.TheVariants.{To}
use Rattle.inspect_known.specs.declared.sides.Fuel.{Fuel}

abbrev pub form_of : Fuel → Form
form_of fuel = record { constant = fuel.constant; terms = fuel.terms.items }

abbrev pub IsFuelOf : Parts → ℕ → ℕ → Option Fuel → Type 0
IsFuelOf parts f t None = ⊥
IsFuelOf parts f t (Some fuel) = form_of fuel ≡ fuel_at parts f t

abbrev pub IsFuelAlong : Parts → ℕ → Going → Option Fuel → Type 0
IsFuelAlong parts f (To t) fuel = IsFuelOf parts f t fuel
IsFuelAlong parts f _ fuel = fuel ≡ None

-- the fuel of the block that a way leads to, if there is such a way, and it leads to one
abbrev pub IsNextFuel : Parts → ℕ → Option Course → Option Fuel → Type 0
IsNextFuel parts f None fuel = fuel ≡ None
IsNextFuel parts f (Some c) fuel = IsFuelAlong parts f c.going fuel

-- ---- depths

-- what a function takes of depth for itself
abbrev pub own_depth : Kind → ℕ
own_depth Framed = 1
own_depth Leaf = 0

-- and for a callee
abbrev pub depth_for : Parts → Option ℕ → ℕ
depth_for parts None = 0
depth_for parts (Some g) = (function_at parts g).depth + 1
