-- What the rules are for: an image that breaks none of them is safe on the flat machine.
use Rattle.std.specs.Prelude.{◌≡◌, ℕ, List, Ok}
use Rattle.sbx_image.specs.Reading.{reading}
use Rattle.sbx_image.specs.Rules.{parts_keep}
use Rattle.sbx_image.specs.Spelling.{IsBytes, IsTyped}
use Rattle.sbx_image.specs.Parts.{Parts}
use Rattle.sbx_flat.specs.Runs.{FlatSafe}
use Rattle.sbx_rules.specs.Verdicts.{Checked}

-- Parts that are an image's: they keep the limits and orders of the format, and each number is one that its field can
-- hold.
pub record IsFormed (parts : Parts) : Type 0 where
  pub kept : parts_keep parts ≡ Ok tt
  pub typed : IsTyped parts

abbrev pub CheckedIsSafe : Type 0
CheckedIsSafe = (parts : Parts) → IsFormed parts → Checked parts → FlatSafe parts

-- what the format reads is formed
abbrev pub WhatIsReadIsFormed : Type 0
WhatIsReadIsFormed = (bytes : List ℕ) (parts : Parts) → IsBytes bytes → reading bytes ≡ Ok parts → IsFormed parts
