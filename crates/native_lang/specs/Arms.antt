-- The label whose word a variable holds.
use Rattle.std.specs.Prelude.{ℕ, ◌==◌, List, [], ◌∷◌, Option, Some, None, if◌then◌else◌}
use Rattle.native_lang.specs.declared.program.Arm.{Arm}

-- on at the label whose word x holds; none where there is no such label
abbrev pub arm_of : List Arm → ℕ → Option ℕ
arm_of [] word = None
arm_of (arm ∷ rest) word = if arm.word == word then Some arm.label else arm_of rest word
