-- Blocks that are being made of the words of an image.
use Rattle.std.specs.Prelude.{◌≡◌, ℕ, ◌==◌, Bool, true, false, nat_le, if◌then◌else◌, List, [], ◌∷◌, ◌++◌, Option, Some, None}
use Rattle.v8_meaning.specs.Operands.{following}
use Rattle.v8_meaning.specs.declared.operation.Operation.{Operation}
use Rattle.sbx_image.specs.Parts.{Parts}
use Rattle.native_lang.specs.declared.program.BlockEnd.{BlockEnd}
use Rattle.native_lang.specs.declared.program.BlockEnd.TheVariants.{Goto}
use Rattle.native_lang.specs.declared.program.ProgramBlock.{ProgramBlock}
use Rattle.native_lang.specs.declared.stmt.Stmt.{Stmt}
use Rattle.native_lang.specs.declared.stmt.Stmt.TheVariants.{Turns}
use Rattle.native_ends.specs.Translations.{AsksFor, DetachedSlot, Labelled, Makes}
use Rattle.native_flow.specs.declared.blocks.BlockMaking.{BlockMaking}

-- ---- turns

-- the turns that aren't counted yet, as a statement
abbrev pub counted : ℕ → List Stmt
counted turns = if turns == 0 then [] else Turns turns ∷ []

-- so many are counted before more are noted
abbrev pub is_due : ℕ → Bool
is_due turns = nat_le 60000 turns

abbrev pub due : ℕ → List Stmt
due turns = if is_due turns then counted turns else []

abbrev pub left : ℕ → ℕ
left turns = if is_due turns then 0 else turns

-- ---- a block

-- The block of the words from a start stands before the word at an address: whatever the words from there on come to,
-- behind what was made it is what the words from the start come to.
pub record Stands (parts : Parts) (labels : Labelled) (f start : ℕ) (some : Bool) (a : ℕ) (m : BlockMaking) : Type 0 where
  pub goes_on : (rest : List Stmt) (end : BlockEnd) (detached : Option DetachedSlot) →
      Makes parts labels f some a m.turns rest end detached →
      Makes parts labels f false start 0 (m.statements.list.items ++ rest) end detached

-- a word that asks for this is made: the block stands behind it
abbrev pub Passes : Operation → BlockMaking → BlockMaking → Type 0
Passes op old new = (parts : Parts) (labels : Labelled) (f start : ℕ) (some : Bool) (a : ℕ) →
    AsksFor parts a op → Stands parts labels f start some a old →
    Stands parts labels f start true (following a) new

-- the block is what the words from its start come to
abbrev pub IsMade : Parts → Labelled → ℕ → ℕ → ProgramBlock → Option DetachedSlot → Type 0
IsMade parts labels f start block detached = Makes parts labels f false start 0 block.statements.items block.end detached

-- ---- a branch

-- The block of a delay slot that is made on one way alone.
pub record IsDetached (label : ℕ) (slot : DetachedSlot) (block : ProgramBlock) : Type 0 where
  pub at : slot.label ≡ label
  pub made : block.statements.items ≡ slot.made
  pub goes : block.end ≡ Goto slot.goes

abbrev pub HasEdge : ℕ → Option DetachedSlot → Option ProgramBlock → Type 0
HasEdge label None None = Unit
HasEdge label (Some slot) (Some block) = IsDetached label slot block
HasEdge label _ _ = ⊥
