-- What a walk over the blocks of an image tells, function by function.
use Rattle.std.specs.Prelude.{◌≡◌, ℕ, ◌<◌, length}
use Rattle.sbx_image.specs.Parts.{Parts}
use Rattle.sbx_pass.specs.Refusal.{Refusal}
use Rattle.sbx_image.specs.Order.{address_of, function_at}
use Rattle.sbx_pass.specs.Firsts.{IsFirstOfBlock, IsQuiet}

-- no word of a function breaks a rule
abbrev pub IsQuietFunction : Parts → ℕ → Type 0
IsQuietFunction parts f = (b : ℕ) → b < length (function_at parts f).blocks → IsQuiet parts f b

-- The first word of a function that breaks a rule, and the least rule that it breaks.
pub record IsFirstOfFunction (parts : Parts) (f : ℕ) (refusal : Refusal) : Type 0 where
  pub block : ℕ
  pub word : ℕ
  pub there : block < length (function_at parts f).blocks
  pub function : refusal.function ≡ f
  pub address : refusal.address ≡ address_of parts f block word
  pub first : IsFirstOfBlock parts f block word refusal.cause
  pub quiet : (b : ℕ) → b < block → IsQuiet parts f b
