-- Where functions return: behind their calls.
use Rattle.std.specs.Prelude.{◌≡◌, ℕ, ◌==◌, if◌then◌else◌, List, [], ◌∷◌, Vec, Some}
use Rattle.std.specs.Global.{Global}
use Rattle.v8_meaning.specs.Operands.{target}
use Rattle.v8_meaning.specs.declared.operation.Operation.TheVariants.{Call}
use Rattle.sbx_image.specs.Parts.{Parts}
use Rattle.native_lang.specs.Arms.{arm_of}
use Rattle.native_lang.specs.declared.program.Arm.{Arm}
use Rattle.native_lang.specs.declared.program.BlockEnd.TheVariants.{Dispatch}
use Rattle.native_lang.specs.declared.program.ProgramBlock.{ProgramBlock}
use Rattle.native_ends.specs.Translations.{AsksFor, behind}
use Rattle.native_flow.specs.Labelling.{HasCalls, label_at}
use Rattle.native_flow.specs.declared.labels.Site.{Site}

-- of each call of the function its address, with the label of the place behind it
abbrev pub arms_for : List ℕ → ℕ → List Site → List Arm
arms_for starts entry [] = []
arms_for starts entry (site ∷ sites) =
    if site.entry == entry
    then (record { word = site.address; label = label_at starts (behind site.address) }) ∷ arms_for starts entry sites
    else arms_for starts entry sites

-- So each call of the function has its arm.
pub record IsReturning (starts : List ℕ) (sites : List Site) (entry : ℕ) (block : ProgramBlock) : Type 0 where
  pub arms : Vec Arm Global
  pub none : block.statements.items ≡ []
  pub ends : block.end ≡ Dispatch 44 arms
  pub arm : (parts : Parts) (a displacement : ℕ) → HasCalls parts sites → AsksFor parts a (Call displacement) →
      target a displacement ≡ entry → arm_of arms.items a ≡ Some (label_at starts (behind a))
