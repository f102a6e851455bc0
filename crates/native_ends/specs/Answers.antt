-- What a run of a program gives, where the program is a translation of an image.
use Rattle.std.specs.Prelude.{◌≡◌, ℕ, ◌≤◌, ◌+◌, ◌*◌, max, List, [], ◌∷◌, length}
use Rattle.sbx_image.specs.Parts.{Parts}
use Rattle.sbx_flat.specs.declared.path.Place.{Place}
use Rattle.sbx_flat.specs.Runs.{AreBytes, Behaves, budget}
use Rattle.sbx_flat.specs.Traffic.{traffic}
use Rattle.sbx_rules.specs.Verdicts.{Checked}
use Rattle.sbx_sound.specs.Law.{IsFormed}
use Rattle.native_lang.specs.Runs.{Over, run, start}
use Rattle.native_lang.specs.World.{World}
use Rattle.native_lang.specs.declared.program.NativeProgram.{NativeProgram}
use Rattle.native_lang.specs.declared.program.ProgramBlock.{ProgramBlock}
use Rattle.native_ends.specs.Translations.{IsTranslation}

-- the most statements that a block has
abbrev pub longest : List ProgramBlock → ℕ
longest [] = 0
longest (block ∷ blocks) = max (length block.statements.items) (longest blocks)

-- On n windows the program's run on this input is over after some steps, for each turn of the budget at most those of
-- the longest block and four more, with the output and the exit word that each flat run of the image gives; and its
-- counts are the window traffic of their path. So it is never lost.
pub record EndsAs (parts : Parts) (program : NativeProgram) (n : ℕ) (input : List ℕ) : Type 0 where
  pub output : List ℕ
  pub status : ℕ
  pub path : List Place
  pub behaves : Behaves parts input output status path
  pub steps : ℕ
  pub world : World
  pub ends : run program n steps 0 0 (start program input) ≡ Over status world
  pub within : steps ≤ (longest program.blocks.items + 4) * (budget parts + 1)
  pub is_output : world.output ≡ output
  pub is_traffic : world.counts ≡ traffic parts n path

-- So it is on each input, on two windows or more.
abbrev pub RunsAs : Parts → NativeProgram → Type 0
RunsAs parts program = (n : ℕ) (input : List ℕ) → 2 ≤ n → AreBytes input → EndsAs parts program n input

-- The law: a translation of a checked image runs as the image does.
abbrev pub TranslationsRun : Type 0
TranslationsRun = (parts : Parts) (program : NativeProgram) → IsFormed parts → Checked parts →
    IsTranslation parts program → RunsAs parts program
