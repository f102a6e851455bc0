-- Which programs are translations of an image: block by block, word by word.
use Rattle.std.specs.Prelude.{◌≡◌, ℕ, ◌+◌, ◌-◌, ◌%◌, ◌^◌, ◌<◌, ◌≤◌, Bool, true, false, ◌==◌, not, ◌||◌, zero, suc, List, [], ◌∷◌, ◌++◌}
use Rattle.std.specs.Prelude.{Option, Some, None, Vec, slice_get, slice_index, ◌⊎◌}
use Rattle.std.specs.Global.{Global}
use Rattle.v8_word.specs.Conditions.{holds}
use Rattle.v8_word.specs.declared.Cond.{Cond}
use Rattle.v8_word.specs.declared.Icc.{Icc}
use Rattle.v8_formats.specs.declared.instr.Branch.{Branch}
use Rattle.v8_formats.specs.declared.instr.Three.{Three}
use Rattle.v8_formats.specs.declared.instr.Trap.{Trap}
use Rattle.v8_meaning.specs.Operands.{following, is_always, is_never, target}
use Rattle.v8_meaning.specs.declared.operation.Operation.{Operation}
use Rattle.v8_meaning.specs.declared.operation.Operation.TheVariants.{BranchOnCondition, Call, JumpAndLink, Restore}
use Rattle.v8_meaning.specs.declared.operation.Operation.TheVariants.{Save, TrapOnCondition}
use Rattle.sbx_image.specs.Order.{IsBlock, IsFunction, StandsAt, address_of, code_end, function_at, function_end}
use Rattle.sbx_image.specs.Parts.{Parts}
use Rattle.sbx_image.specs.Regions.{data_at}
use Rattle.sbx_image.specs.Rules.{code_start}
use Rattle.sbx_flat.specs.Effects.{service_of}
use Rattle.sbx_flat.specs.Runs.{AreBytes}
use Rattle.sbx_flat.specs.Turns.{asked, word_at}
use Rattle.native_lang.specs.Arms.{arm_of}
use Rattle.native_lang.specs.Values.{value}
use Rattle.native_lang.specs.declared.expr.Expr.{Expr}
use Rattle.native_lang.specs.declared.expr.Expr.TheVariants.{Number, Variable}
use Rattle.native_lang.specs.declared.program.Arm.{Arm}
use Rattle.native_lang.specs.declared.program.BlockEnd.{BlockEnd}
use Rattle.native_lang.specs.declared.program.BlockEnd.TheVariants.{Dispatch, Exit, Goto, If}
use Rattle.native_lang.specs.declared.program.NativeProgram.{NativeProgram}
use Rattle.native_lang.specs.declared.program.ProgramBlock.{ProgramBlock}
use Rattle.native_lang.specs.declared.stmt.Stmt.{Stmt}
use Rattle.native_lang.specs.declared.stmt.Stmt.TheVariants.{Get, Put, Set, Turns}
use Rattle.native_results.specs.ShowsState.{ShowsCodes}
use Rattle.native_results.specs.Words.{IsWordOf, is_straight}

-- ---- words of the code

-- the word at an address asks for this
abbrev pub AsksFor : Parts → ℕ → Operation → Type 0
AsksFor parts a op = (word : ℕ) × (word_at parts.words a ≡ Some word) × (asked word ≡ op)

-- so does the word behind it, if there is one
abbrev pub HasSlot : Parts → ℕ → Operation → Type 0
HasSlot parts a op = (word : ℕ) → word_at parts.words (following a) ≡ Some word → asked word ≡ op

-- behind a transfer and its delay slot
abbrev pub behind : ℕ → ℕ
behind a = (a + 8) % 2 ^ 32

-- A call, with the two words behind it in the same block of the image.
pub record IsCallBefore (parts : Parts) (a : ℕ) : Type 0 where
  pub function : ℕ
  pub block : ℕ
  pub word : ℕ
  pub displacement : ℕ
  pub calls : AsksFor parts (address_of parts function block word) (Call displacement)
  pub there : StandsAt parts a function block (word + 2)

-- A block of the image begins there.
pub record IsFirstWord (parts : Parts) (a : ℕ) : Type 0 where
  pub function : ℕ
  pub block : ℕ
  pub is : IsBlock parts function block
  pub there : address_of parts function block 0 ≡ a

-- where a block of the program begins: where one of the image does, and behind each call
abbrev pub Begins : Parts → ℕ → Type 0
Begins parts a = IsFirstWord parts a ⊎ IsCallBefore parts a

-- An address in the code of a function.
pub record LiesIn (parts : Parts) (f a : ℕ) : Type 0 where
  pub function : IsFunction parts f
  pub from : (function_at parts f).entry ≤ a
  pub to : a < function_end parts f

-- ---- labels

-- The labels of the blocks that begin at an address, and of those where a function returns.
pub record Labelled : Type 0 where
  pub at : ℕ → ℕ
  pub returns : ℕ → ℕ

-- The block of a delay slot that is made where the branch is taken alone: its label, its statements and where it goes.
pub record DetachedSlot : Type 0 where
  pub label : ℕ
  pub made : List Stmt
  pub goes : ℕ

-- ---- statements

-- SAVE and RESTORE count their own turns
abbrev pub turns_of : Operation → ℕ
turns_of (Save f) = 0
turns_of (Restore f) = 0
turns_of _ = 1

-- the value isn't 0 where the condition holds
abbrev pub IsCondition : Cond → Expr → Type 0
IsCondition cond e = (variables : List ℕ) (icc : Icc) → ShowsCodes variables icc →
    (value variables e == 0) ≡ not (holds cond icc)

abbrev pub is_decided : Cond → Bool
is_decided cond = is_always cond || is_never cond

-- another service than exit and get
abbrev pub is_put : Option ℕ → Bool
is_put (Some zero) = false
is_put (Some (suc zero)) = false
is_put _ = true

-- the statements of a slot; nothing is said of a slot that transfers control or asks for a service
abbrev pub IsMadeSlot : Operation → List Stmt → Type 0
IsMadeSlot op made = is_straight op ≡ true → IsWordOf op made

-- there are none where it is annulled
abbrev pub IsMadeUnless : Bool → Operation → List Stmt → Type 0
IsMadeUnless true op made = made ≡ []
IsMadeUnless false op made = IsMadeSlot op made

-- Before the word at an address of function f, with so many turns that aren't counted yet, the statements and the end of
-- a block stand for the words from there on. `some` says whether the block has a word before it.
pub data Makes (parts : Parts) (labels : Labelled) (f : ℕ) : (some : Bool) (a turns : ℕ) → List Stmt → BlockEnd → Option DetachedSlot → Type 0 where
  -- turns are counted
  counts : (some : Bool) (a turns : ℕ) (rest : List Stmt) (end : BlockEnd) (edge : Option DetachedSlot) →
      Makes parts labels f some a 0 rest end edge → Makes parts labels f some a turns (Turns turns ∷ rest) end edge
  -- a word that is no transfer of control and no service
  word : (some : Bool) (a turns : ℕ) (op : Operation) (made rest : List Stmt) (end : BlockEnd) (edge : Option DetachedSlot) →
      AsksFor parts a op → is_straight op ≡ true → IsWordOf op made →
      Makes parts labels f true (following a) (turns + turns_of op) rest end edge → Makes parts labels f some a turns (made ++ rest) end edge
  -- services: get, put and exit; what was made before get and put is counted
  gets : (some : Bool) (a : ℕ) (t : Trap) (rest : List Stmt) (end : BlockEnd) (edge : Option DetachedSlot) →
      AsksFor parts a (TrapOnCondition t) → service_of t ≡ Some 1 →
      Makes parts labels f true (following a) 5 rest end edge → Makes parts labels f some a 0 (Get 8 ∷ rest) end edge
  puts : (some : Bool) (a : ℕ) (t : Trap) (rest : List Stmt) (end : BlockEnd) (edge : Option DetachedSlot) →
      AsksFor parts a (TrapOnCondition t) → is_put (service_of t) ≡ true →
      Makes parts labels f true (following a) 5 rest end edge → Makes parts labels f some a 0 (Put (Variable 8) ∷ rest) end edge
  exits : (some : Bool) (a turns : ℕ) (t : Trap) →
      AsksFor parts a (TrapOnCondition t) → service_of t ≡ Some 0 →
      Makes parts labels f some a turns (Turns (turns + 3) ∷ []) (Exit (Variable 8)) None
  -- on into the block that begins there; none does where the code ends
  falls : (a : ℕ) → Begins parts a ⊎ (code_end parts ≤ a) → Makes parts labels f true a 0 [] (Goto (labels.at a)) None
  -- a branch that is taken always, with its slot or without
  jumps : (some : Bool) (a turns : ℕ) (b : Branch) (slot : Operation) (made : List Stmt) →
      AsksFor parts a (BranchOnCondition b) → is_always b.cond ≡ true → HasSlot parts a slot → IsMadeUnless b.annul slot made →
      Makes parts labels f some a turns (made ++ Turns (turns + 2) ∷ []) (Goto (labels.at (target a b.displacement))) None
  -- one that is never taken
  passes : (some : Bool) (a turns : ℕ) (b : Branch) (slot : Operation) (made : List Stmt) →
      AsksFor parts a (BranchOnCondition b) → is_never b.cond ≡ true → HasSlot parts a slot → IsMadeUnless b.annul slot made →
      Makes parts labels f some a turns (made ++ Turns (turns + 2) ∷ []) (Goto (labels.at (behind a))) None
  -- one that asks for its condition before the slot is made
  asks : (some : Bool) (a turns : ℕ) (b : Branch) (slot : Operation) (made : List Stmt) (asked : Expr) →
      AsksFor parts a (BranchOnCondition b) → is_decided b.cond ≡ false → b.annul ≡ false → IsCondition b.cond asked →
      HasSlot parts a slot → IsMadeSlot slot made →
      Makes parts labels f some a turns (Set 43 asked ∷ made ++ Turns (turns + 2) ∷ [])
      (If (Variable 43) (labels.at (target a b.displacement)) (labels.at (behind a))) None
  -- one whose slot is made where it is taken alone
  detaches : (some : Bool) (a turns label : ℕ) (b : Branch) (slot : Operation) (made : List Stmt) (asked : Expr) →
      AsksFor parts a (BranchOnCondition b) → is_decided b.cond ≡ false → b.annul ≡ true → IsCondition b.cond asked →
      HasSlot parts a slot → IsMadeSlot slot made →
      Makes parts labels f some a turns (Turns (turns + 2) ∷ []) (If asked label (labels.at (behind a)))
      (Some (record { label = label; made = made; goes = labels.at (target a b.displacement) }))
  -- a call: its address goes to %o7
  calls : (some : Bool) (a turns displacement : ℕ) (slot : Operation) (made : List Stmt) →
      AsksFor parts a (Call displacement) → HasSlot parts a slot → IsMadeSlot slot made →
      Makes parts labels f some a turns (Set 15 (Number a) ∷ made ++ Turns (turns + 2) ∷ [])
      (Goto (labels.at (target a displacement))) None
  -- a return: it goes behind the call whose address the register holds before the slot is made
  returns : (some : Bool) (a turns : ℕ) (jump : Three) (slot : Operation) (made : List Stmt) →
      AsksFor parts a (JumpAndLink jump) → LiesIn parts f a → HasSlot parts a slot → IsMadeSlot slot made →
      Makes parts labels f some a turns (Set 44 (Variable jump.rs1) ∷ made ++ Turns (turns + 1 + turns_of slot) ∷ [])
      (Goto (labels.returns f)) None

-- ---- the program

-- A block of the program.
pub record HasBlock (program : NativeProgram) (label : ℕ) (made : List Stmt) (end : BlockEnd) : Type 0 where
  pub block : ProgramBlock
  pub there : slice_get program.blocks.items label ≡ Some block
  pub statements : block.statements.items ≡ made
  pub ends : block.end ≡ end

abbrev pub HasDetached : NativeProgram → Option DetachedSlot → Type 0
HasDetached program None = Unit
HasDetached program (Some slot) = HasBlock program slot.label slot.made (Goto slot.goes)

-- The block at the label of an address is made of the words from there on.
pub record IsMadeAt (parts : Parts) (labels : Labelled) (program : NativeProgram) (a : ℕ) : Type 0 where
  pub function : ℕ
  pub made : List Stmt
  pub end : BlockEnd
  pub detached : Option DetachedSlot
  pub there : HasBlock program (labels.at a) made end
  pub makes : Makes parts labels function false a 0 made end detached
  pub has : HasDetached program detached

-- A function returns behind the call whose address variable 44 holds.
pub record ReturnsBehind (parts : Parts) (labels : Labelled) (program : NativeProgram) (f : ℕ) : Type 0 where
  pub arms : Vec Arm Global
  pub there : HasBlock program (labels.returns f) [] (Dispatch 44 arms)
  pub arm : (a displacement : ℕ) → AsksFor parts a (Call displacement) → target a displacement ≡ (function_at parts f).entry →
      arm_of arms.items a ≡ Some (labels.at (behind a))

-- A program is a translation of an image: a run begins at label 0, where %sp is set, and goes on to the code's first word.
pub record IsTranslation (parts : Parts) (program : NativeProgram) : Type 0 where
  pub labels : Labelled
  pub start : HasBlock program 0 (Set 14 (Number 0xFFFC0) ∷ []) (Goto (labels.at code_start))
  pub words : (a : ℕ) → Begins parts a → IsMadeAt parts labels program a
  pub returns : (f : ℕ) → IsFunction parts f → ReturnsBehind parts labels program f
  pub bytes : AreBytes program.data.items
  pub data_are : (a byte : ℕ) → data_at parts.regions a ≡ Some byte → slice_index program.data.items (a - 0x80000) ≡ byte
