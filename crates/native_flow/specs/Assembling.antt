-- The blocks of a program, in the order of their labels.
use Rattle.std.specs.Prelude.{◌≡◌, ℕ, ◌<◌, ◌≤◌, List, [], ◌∷◌, length, Some, slice_get, slice_index}
use Rattle.sbx_image.specs.Order.{function_at}
use Rattle.sbx_image.specs.Parts.{Parts}
use Rattle.sbx_image.specs.Rules.{code_start}
use Rattle.native_lang.specs.declared.expr.Expr.TheVariants.{Number}
use Rattle.native_lang.specs.declared.program.BlockEnd.TheVariants.{Goto}
use Rattle.native_lang.specs.declared.program.ProgramBlock.{ProgramBlock}
use Rattle.native_lang.specs.declared.stmt.Stmt.TheVariants.{Set}
use Rattle.native_flow.specs.Labelling.{label_at}
use Rattle.native_flow.specs.Returning.{IsReturning}
use Rattle.native_flow.specs.Translating.{IsBlockFrom}
use Rattle.native_flow.specs.declared.labels.Site.{Site}

-- The block where a run begins sets %sp.
pub record IsBeginning (starts : List ℕ) (block : ProgramBlock) : Type 0 where
  pub sets : block.statements.items ≡ Set 14 (Number 0xFFFC0) ∷ []
  pub goes : block.end ≡ Goto (label_at starts code_start)

-- The blocks of the first so many starts.
pub record AreFrom (parts : Parts) (starts : List ℕ) (edges : List ProgramBlock) (many : ℕ) (blocks : List ProgramBlock) : Type 0 where
  pub count : length blocks ≡ many
  pub each : (i : ℕ) → i < many → (block : ProgramBlock) × (slice_get blocks i ≡ Some block)
      × IsBlockFrom parts starts edges (slice_index starts i) block
  pub few : length edges ≤ many

-- The blocks where the first so many functions return.
pub record AreReturning (parts : Parts) (starts : List ℕ) (sites : List Site) (many : ℕ) (blocks : List ProgramBlock) : Type 0 where
  pub count : length blocks ≡ many
  pub each : (f : ℕ) → f < many → (block : ProgramBlock) × (slice_get blocks f ≡ Some block)
      × IsReturning starts sites (function_at parts f).entry block
