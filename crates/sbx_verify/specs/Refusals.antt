-- What is told of an image that is not accepted.
use Rattle.std.specs.Prelude.{◌≡◌, ◌⊎◌}
use Rattle.want.specs.Wants.{refused}
use Rattle.sbx_image.specs.Parts.{Parts}
use Rattle.sbx_sound.specs.Cause.TheVariants.{NoMemory}
use Rattle.sbx_sound.specs.Refusal.{Refusal}
use Rattle.sbx_sound.specs.Verdicts.{IsFirst}

abbrev pub no_memory : Refusal
no_memory = record { function = 0; address = 0; cause = NoMemory refused }

-- Of the rules that the image breaks, the one of least number at the least address; or memory was refused.
abbrev pub IsRefusal : Parts → Refusal → Type 0
IsRefusal parts refusal = IsFirst parts refusal ⊎ (refusal ≡ no_memory)
