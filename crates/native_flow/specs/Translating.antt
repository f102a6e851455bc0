-- The blocks that are made of the words of an image.
use Rattle.std.specs.Prelude.{◌≡◌, ℕ, ◌+◌, ◌<◌, ◌≤◌, ◌⊎◌, ◌==◌, Bool, true, false, List, [], ◌∷◌, ◌++◌, length, Option, None, Some}
use Rattle.std.specs.Prelude.{slice_get, slice_index}
use Rattle.v8_meaning.specs.declared.operation.Operation.{Operation}
use Rattle.v8_meaning.specs.declared.operation.Operation.TheVariants.{BranchOnCondition, Call, JumpAndLink, TrapOnCondition}
use Rattle.sbx_image.specs.Order.{code_end}
use Rattle.sbx_image.specs.Parts.{Parts}
use Rattle.sbx_flat.specs.Effects.{service_of}
use Rattle.native_lang.specs.declared.program.ProgramBlock.{ProgramBlock}
use Rattle.native_ends.specs.Translations.{Begins, DetachedSlot, LiesIn}
use Rattle.native_flow.specs.Labelling.{labels_of, word_address}
use Rattle.native_flow.specs.Making.{IsDetached, IsMade}

-- a transfer of control, or the service that ends a run
abbrev pub is_exit : Option ℕ → Bool
is_exit None = false
is_exit (Some n) = n == 0

abbrev pub is_get : Option ℕ → Bool
is_get None = false
is_get (Some n) = n == 1

abbrev pub is_closing : Operation → Bool
is_closing (BranchOnCondition b) = true
is_closing (Call displacement) = true
is_closing (JumpAndLink f) = true
is_closing (TrapOnCondition t) = is_exit (service_of t)
is_closing _ = false

-- the label of the first detached slot: behind those where functions return
abbrev pub edges_from : Parts → List ℕ → ℕ
edges_from parts starts = length starts + 2 + length parts.functions

-- a detached slot is among the blocks that have the labels from one on
abbrev pub IsAmong : ℕ → List ProgramBlock → Option DetachedSlot → Type 0
IsAmong from edges None = Unit
IsAmong from edges (Some slot) = (k : ℕ) × (edge : ProgramBlock) × (slice_get edges k ≡ Some edge) × IsDetached (from + k) slot edge

-- The block is what the words from an address come to, and its detached slot, if it has one, is among these.
pub record IsBlockFrom (parts : Parts) (starts : List ℕ) (edges : List ProgramBlock) (a : ℕ) (block : ProgramBlock) : Type 0 where
  pub function : ℕ
  pub detached : Option DetachedSlot
  pub is : IsMade parts (labels_of starts) function a block detached
  pub has : IsAmong (edges_from parts starts) edges detached

-- with one more, if there is one
abbrev pub with_one : List ProgramBlock → Option ProgramBlock → List ProgramBlock
with_one edges None = edges
with_one edges (Some edge) = edges ++ edge ∷ []

-- A detached slot more, or none.
pub record Grows (old new : List ProgramBlock) : Type 0 where
  pub more : List ProgramBlock
  pub is : new ≡ old ++ more
  pub few : length more ≤ 1

-- The words of the program's block of a number: from the first up to but not the last, all of one function.
pub record IsStretch (parts : Parts) (starts owners : List ℕ) (number first last : ℕ) : Type 0 where
  pub begins : slice_index starts number ≡ word_address first
  pub more : first < last
  pub within : last ≤ length parts.words
  pub lies : (k : ℕ) → first ≤ k → k < last → LiesIn parts (slice_index owners number) (word_address k)
  pub ends : Begins parts (word_address last) ⊎ (code_end parts ≤ word_address last)
