-- How much of its input a path asks for.
use Rattle.std.specs.Prelude.{◌≡◌, ℕ, zero, suc, ◌+◌, if◌then◌else◌, List, [], ◌∷◌, ◌++◌, drop, Option, Some, None}
use Rattle.v8_meaning.specs.declared.operation.Operation.{Operation}
use Rattle.v8_meaning.specs.declared.operation.Operation.TheVariants.{TrapOnCondition}
use Rattle.sbx_image.specs.Parts.{Parts}
use Rattle.sbx_flat.specs.Effects.{service_of}
use Rattle.sbx_flat.specs.Runs.{Place, Run}
use Rattle.sbx_flat.specs.States.{State}
use Rattle.sbx_flat.specs.Turns.{asked, word_at}

-- get asks for a byte
abbrev pub asks_of_service : Option ℕ → ℕ
asks_of_service (Some (suc zero)) = 1
asks_of_service _ = 0

abbrev pub asks_of : Operation → ℕ
asks_of (TrapOnCondition t) = asks_of_service (service_of t)
asks_of _ = 0

abbrev pub asks_of_word : Option ℕ → ℕ
asks_of_word None = 0
asks_of_word (Some word) = asks_of (asked word)

unfoldable pub asks_at : Parts → Place → ℕ
asks_at parts place = if place.annulled then 0 else asks_of_word (word_at parts.words place.pc)

-- how often a path asks for a byte of the input, past its end too
abbrev pub asks : Parts → List Place → ℕ
asks parts [] = 0
asks parts (place ∷ path) = asks_at parts place + asks parts path

-- A run from s, whose input is a front and the rest, goes the same way with other bytes after the front; and it leaves
-- those.
pub record Unread (parts : Parts) (s t : State) (path : List Place) (front rest other : List ℕ) : Type 0 where
  pub input : t.input ≡ drop (asks parts path) front ++ rest
  pub run : Run parts (record s { input = front ++ other }) path
      (record t { input = drop (asks parts path) front ++ other })
