-- What the pass tells: of the rules that a word breaks the one of least number, of the words of a block the first that
-- breaks one.
use Rattle.std.specs.Prelude.{ℕ, ◌<◌, ◌≤◌, Option, Some, None}
use Rattle.sbx_image.specs.Parts.{Parts}
use Rattle.sbx_rules.specs.declared.cause.Cause.{Cause}
use Rattle.sbx_rules.specs.Causes.{number_of}
use Rattle.sbx_image.specs.Order.{words_in}
use Rattle.sbx_rules.specs.Rules.{Holds}
use Rattle.sbx_rules.specs.Verdicts.{IsAsked}

-- none of the rules from number low up to high is broken
abbrev pub AreKept : (Cause → Type 0) → ℕ → ℕ → Type 0
AreKept Broken low high = (cause : Cause) → low ≤ number_of cause → number_of cause < high → Broken cause → ⊥

-- the least of them that is
pub record IsLeastOf (Broken : Cause → Type 0) (low high : ℕ) (cause : Cause) : Type 0 where
  pub from : low ≤ number_of cause
  pub to : number_of cause < high
  pub broken : Broken cause
  pub lesser : AreKept Broken low (number_of cause)

abbrev pub Tells : (Cause → Type 0) → ℕ → ℕ → Option Cause → Type 0
Tells Broken low high None = AreKept Broken low high
Tells Broken low high (Some cause) = IsLeastOf Broken low high cause

-- no word of a block breaks a rule
abbrev pub IsQuiet : Parts → ℕ → ℕ → Type 0
IsQuiet parts f b = (i : ℕ) (cause : Cause) → i < words_in parts f b → Holds parts f b i cause → ⊥

-- The first word of a block that breaks a rule, and the least rule that it breaks.
pub record IsFirstOfBlock (parts : Parts) (f b i : ℕ) (cause : Cause) : Type 0 where
  pub word : i < words_in parts f b
  pub asked : IsAsked parts f b i cause
  pub holds : Holds parts f b i cause
