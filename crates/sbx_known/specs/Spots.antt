-- One word of a block of an image, with what the word before it asks for.
use Rattle.std.specs.Prelude.{◌≡◌, ℕ, ◌-◌, ◌<◌, ◌↔◌, IsTrue, List, ◌++◌, IfSome, Ok, length}
use Rattle.v8_meaning.specs.declared.operation.Operation.{Operation}
use Rattle.v8_meaning.specs.declared.operation.Operation.TheVariants.{BranchOnCondition, JumpAndLink}
use Rattle.sbx_image.specs.Parts.{Parts}
use Rattle.sbx_image.specs.Rules.{parts_keep}
use Rattle.sbx_rules.specs.Known.{Known}
use Rattle.sbx_image.specs.Order.{function_at, words_in}
use Rattle.sbx_rules.specs.Places.{IsPlace, callee_at, callee_before, op_at, op_before, word_of_place}
use Rattle.sbx_rules.specs.Rules.{IsNoInstruction}
use Rattle.sbx_rules.specs.Ways.{Back, Visit, branch_way, falls, plain_visit, taken_visit, untaken_visit}
use Rattle.sbx_known.specs.declared.spot.Spot.{Spot}

-- block b of function f is there
abbrev pub IsBlock : Parts → ℕ → ℕ → Type 0
IsBlock parts f b = (f < length parts.functions) × (b < length (function_at parts f).blocks)

-- the spot is word `number` of its block
pub record IsSpot (parts : Parts) (s : Spot) : Type 0 where
  pub keeps : parts_keep parts ≡ Ok tt
  pub place : IsPlace parts s.function s.block s.number
  pub count : s.count ≡ words_in parts s.function s.block
  pub word : s.word ≡ word_of_place parts s.function s.block s.number
  pub no_instruction : IsTrue s.is_no_instruction ↔ IsNoInstruction parts s.function s.block s.number
  pub operation : s.operation ≡ op_at parts s.function s.block s.number
  pub before : s.before ≡ op_before parts s.function s.block s.number
  pub callee : s.callee ≡ callee_at parts s.function s.block s.number
  pub called : s.called ≡ callee_before parts s.function s.block s.number
  pub callee_is : IfSome s.callee (λ g. g < length parts.functions)
  pub called_is : IfSome s.called (λ g. g < length parts.functions)

-- The ways of a word, by what stands before it, where d is known before the word: a branch's slot goes on where the
-- branch does.
abbrev pub visits_from : Parts → ℕ → ℕ → ℕ → Operation → Known → List Visit
visits_from parts f b i (BranchOnCondition c) d =
    taken_visit c (branch_way parts f b (i - 1) c.displacement) d ++ untaken_visit c (falls parts f b i) d
visits_from parts f b i (JumpAndLink j) d = plain_visit d Back
visits_from parts f b i _ d = plain_visit d (falls parts f b i)
