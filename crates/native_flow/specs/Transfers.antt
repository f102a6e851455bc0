-- What a transfer of control makes of a block.
use Rattle.std.specs.Prelude.{◌≡◌, ℕ, Bool, List, ◌∷◌, ◌++◌, Option, None, Some}
use Rattle.v8_formats.specs.declared.instr.Branch.{Branch}
use Rattle.v8_meaning.specs.Operands.{target}
use Rattle.v8_meaning.specs.declared.operation.Operation.{Operation}
use Rattle.sbx_image.specs.Parts.{Parts}
use Rattle.native_lang.specs.declared.expr.Expr.{Expr}
use Rattle.native_lang.specs.declared.expr.Expr.TheVariants.{Variable}
use Rattle.native_lang.specs.declared.program.BlockEnd.TheVariants.{Goto, If}
use Rattle.native_lang.specs.declared.program.ProgramBlock.{ProgramBlock}
use Rattle.native_lang.specs.declared.stmt.Stmt.{Stmt}
use Rattle.native_lang.specs.declared.stmt.Stmt.TheVariants.{Set}
use Rattle.native_ends.specs.Translations.{DetachedSlot, IsCondition, IsMadeSlot, IsMadeUnless, Labelled, behind}
use Rattle.native_flow.specs.Making.{HasEdge, IsMade, counted}
use Rattle.native_flow.specs.declared.blocks.BlockMaking.{BlockMaking}
use Rattle.native_flow.specs.declared.transfers.Branched.{Branched}

-- The statements of a delay slot stand behind those that were there.
pub record AddsSlot (slot : Operation) (old new : List Stmt) : Type 0 where
  pub made : List Stmt
  pub behind : new ≡ old ++ made
  pub is : IsMadeSlot slot made

-- Behind what was made come the statements of a delay slot, unless it is annulled, and the turns.
pub record SlotThen (annul : Bool) (slot : Operation) (m : BlockMaking) (statements : List Stmt) : Type 0 where
  pub made : List Stmt
  pub is : IsMadeUnless annul slot made
  pub behind : statements ≡ m.statements.list.items ++ (made ++ counted m.turns)

-- A block that ends with its slot, on at a label.
pub record IsDecided (annul : Bool) (slot : Operation) (label : ℕ) (m : BlockMaking) (branched : Branched) : Type 0 where
  pub block : SlotThen annul slot m branched.block.statements.items
  pub ends : branched.block.end ≡ Goto label
  pub edge : branched.edge ≡ None

-- The condition is asked before the slot is made.
pub record IsAsking (b : Branch) (a : ℕ) (slot : Operation) (labels : Labelled) (m : BlockMaking) (branched : Branched) : Type 0 where
  pub asked : Expr
  pub is : IsCondition b.cond asked
  pub made : List Stmt
  pub slot_made : IsMadeSlot slot made
  pub block : branched.block.statements.items ≡ m.statements.list.items ++ (Set 43 asked ∷ (made ++ counted m.turns))
  pub ends : branched.block.end ≡ If (Variable 43) (labels.at (target a b.displacement)) (labels.at (behind a))
  pub edge : branched.edge ≡ None

-- The slot is made in a block of its own.
pub record IsDetaching (b : Branch) (a : ℕ) (slot : Operation) (labels : Labelled) (label : ℕ) (m : BlockMaking) (branched : Branched) : Type 0 where
  pub asked : Expr
  pub is : IsCondition b.cond asked
  pub block : branched.block.statements.items ≡ m.statements.list.items ++ counted m.turns
  pub ends : branched.block.end ≡ If asked label (labels.at (behind a))
  pub made : ProgramBlock
  pub edge : branched.edge ≡ Some made
  pub slot_made : IsMadeSlot slot made.statements.items
  pub goes : made.end ≡ Goto (labels.at (target a b.displacement))

-- A block that a branch ends, with the block of its delay slot.
pub record IsBranched (parts : Parts) (labels : Labelled) (f start edge_label : ℕ) (branched : Branched) : Type 0 where
  pub detached : Option DetachedSlot
  pub is : IsMade parts labels f start branched.block detached
  pub edge : HasEdge edge_label detached branched.edge
