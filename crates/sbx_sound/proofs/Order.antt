-- The order of functions and blocks that the image format asks for, as far as a run needs it.
use Rattle.std.specs.Prelude.{◌≡◌, ℕ, ◌<◌, ◌≤◌, length}
use Rattle.sbx_image.specs.Rules.{code_start}
use Rattle.sbx_image.specs.Parts.{Parts}
use Rattle.sbx_image.specs.Order.{HasWords, address_of, code_end, function_at}

pub record IsOrdered (parts : Parts) : Type 0 where
  pub first : address_of parts 0 0 0 ≡ code_start
  pub entries : (f : ℕ) → f < length parts.functions → (0 < length (function_at parts f).blocks) × ((function_at parts f).entry ≡ address_of parts f 0 0)
  pub blocks : (f b : ℕ) → f < length parts.functions → b < length (function_at parts f).blocks → HasWords parts f b
  pub small : code_end parts ≤ 0x80000
