-- A program as its C has it: as native_lang's, without the places where boxes and lists lie.
use Rattle.std.specs.Prelude.{ℕ, ◌+◌, Bool, List, [], ◌∷◌, map}
use Rattle.native_lang.specs.declared.operator.Operator.{Operator}
use Rattle.native_lang.specs.declared.expr.Expr.{Expr}
use Rattle.native_lang.specs.declared.expr.Expr.TheVariants as expr
use Rattle.native_lang.specs.declared.stmt.NumberWidth.{NumberWidth}
use Rattle.native_lang.specs.declared.stmt.Stmt.{Stmt}
use Rattle.native_lang.specs.declared.stmt.Stmt.TheVariants as stmt
use Rattle.native_lang.specs.declared.program.Arm.{Arm}
use Rattle.native_lang.specs.declared.program.BlockEnd.{BlockEnd}
use Rattle.native_lang.specs.declared.program.BlockEnd.TheVariants as end
use Rattle.native_lang.specs.declared.program.ProgramBlock.{ProgramBlock}
use Rattle.native_text.specs.Pauses.{pauses}

-- ---- expressions

pub data Term : Type 0 where
  Constant : ℕ → Term
  Named : ℕ → Term
  Applied : Operator → Term → Term → Term

abbrev pub term_of : Expr → Term
term_of (expr.Number word) = Constant word
term_of (expr.Variable x) = Named x
term_of (expr.Binary' operator p a q b) = Applied operator (term_of a) (term_of b)

-- ---- statements

pub data Action : Type 0 where
  Sets : ℕ → Term → Action
  Loads : ℕ → NumberWidth → Term → Action
  Stores : NumberWidth → Term → Term → Action
  Divides : ℕ → ℕ → Bool → Term → Term → Term → Action
  Gets : ℕ → Action
  Puts : Term → Action
  Counts : ℕ → Action
  Enters : Action
  Leaves : Action
  Pushes : Action
  Pops : Action

abbrev pub action_of : Stmt → Action
action_of (stmt.Set x e) = Sets x (term_of e)
action_of (stmt.Load x width e) = Loads x width (term_of e)
action_of (stmt.Store width a e) = Stores width (term_of a) (term_of e)
action_of (stmt.Divide x over sign y a b) = Divides x over sign (term_of y) (term_of a) (term_of b)
action_of (stmt.Get x) = Gets x
action_of (stmt.Put e) = Puts (term_of e)
action_of (stmt.Turns k) = Counts k
action_of stmt.Enter = Enters
action_of stmt.Leave = Leaves
action_of stmt.Push = Pushes
action_of stmt.Pop = Pops

-- ---- blocks

-- on at a label; at the first label where the term isn't 0, else at the second; over, with an exit word; at the label
-- whose word a variable holds
pub data Ending : Type 0 where
  Onto : ℕ → Ending
  Chosen : Term → ℕ → ℕ → Ending
  Ended : Term → Ending
  Sought : ℕ → List Arm → Ending

-- where there is one arm, its word isn't asked for: each run has it
abbrev pub sought : ℕ → List Arm → Ending
sought x (arm ∷ []) = Onto arm.label
sought x arms = Sought x arms

abbrev pub ending_of : BlockEnd → Ending
ending_of (end.Goto label) = Onto label
ending_of (end.If e first second) = Chosen (term_of e) first second
ending_of (end.Exit e) = Ended (term_of e)
ending_of (end.Dispatch x arms) = sought x arms.items

-- a block, and whether a run by steps may pause where it begins
pub record TextBlock : Type 0 where
  pub label : ℕ
  pub pauses : Bool
  pub actions : List Action
  pub ending : Ending

-- blocks from a label on, each one's label its place
abbrev pub blocks_from : (ℕ → Bool) → ℕ → List ProgramBlock → List TextBlock
blocks_from may label [] = []
blocks_from may label (block ∷ blocks) =
    record {
      label = label;
      pauses = may label;
      actions = map action_of block.statements.items;
      ending = ending_of block.end;
    }
    ∷ blocks_from may (label + 1) blocks

abbrev pub blocks_of : List ProgramBlock → List TextBlock
blocks_of blocks = blocks_from (pauses blocks) 0 blocks
