-- The word of a function at an address.
use Rattle.std.specs.Prelude.{◌≡◌, ℕ}
use Rattle.sbx_image.specs.Parts.{Parts}
use Rattle.sbx_image.specs.Order.{address_of}
use Rattle.sbx_rules.specs.Places.{IsPlace}

-- word i of block b of function f is there, and stands at the address
pub record IsAt (parts : Parts) (f address b i : ℕ) : Type 0 where
  pub place : IsPlace parts f b i
  pub lies : address ≡ address_of parts f b i

-- no word of the function does
abbrev pub HasNone : Parts → ℕ → ℕ → Type 0
HasNone parts f address = (b i : ℕ) → IsAt parts f address b i → ⊥
