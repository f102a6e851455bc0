-- Where a run by steps may pause: where a loop begins again, and behind a call.
use Rattle.std.specs.Prelude.{◌≡◌, ℕ, ◌+◌, ◌<◌, ◌==◌, nat_le, Bool, false, ◌&&◌, ◌||◌, List, [], ◌∷◌, length, get_or}
use Rattle.native_lang.specs.declared.program.Arm.{Arm}
use Rattle.native_lang.specs.declared.program.BlockEnd.{BlockEnd}
use Rattle.native_lang.specs.declared.program.BlockEnd.TheVariants.{Goto, If, Exit, Dispatch}
use Rattle.native_lang.specs.declared.program.ProgramBlock.{ProgramBlock}

-- a block goes on at a label that isn't behind its own
abbrev pub goes_back : ℕ → ℕ → ℕ → Bool
goes_back label from to = to == label && nat_le to from

-- a function returns there
abbrev pub returns_to : ℕ → List Arm → Bool
returns_to label [] = false
returns_to label (arm ∷ arms) = arm.label == label || returns_to label arms

abbrev pub leads_back : ℕ → ℕ → BlockEnd → Bool
leads_back label from (Goto to) = goes_back label from to
leads_back label from (If e first second) = goes_back label from first || goes_back label from second
leads_back label from (Exit e) = false
leads_back label from (Dispatch x arms) = returns_to label arms.items

-- a block leads back to the label, of those from one on
abbrev pub pauses_from : ℕ → ℕ → List ProgramBlock → Bool
pauses_from label from [] = false
pauses_from label from (block ∷ blocks) = leads_back label from block.end || pauses_from label (from + 1) blocks

abbrev pub pauses : List ProgramBlock → ℕ → Bool
pauses blocks label = pauses_from label 0 blocks

-- more labels are marked, those for which it is so
pub record MarksMore (old new : List Bool) (more : ℕ → Bool) : Type 0 where
  pub count : length new ≡ length old
  pub marks : (label : ℕ) → label < length old → get_or new label false ≡ (get_or old label false || more label)

abbrev pub IsMarked : List Bool → List ProgramBlock → Type 0
IsMarked marks blocks = (label : ℕ) → label < length blocks → get_or marks label false ≡ pauses blocks label
