-- Switches of no arm, and of several.
use Rattle.std.proofs.Common.{◌≡◌, ℕ, ◌<◌, List, [], ◌∷◌, length, refl, arith}
use Rattle.native_lang.specs.declared.program.Arm.{Arm}
use Rattle.native_text.specs.Terms.{Sought, sought}

pub none : (x : ℕ) (arms : List Arm) → length arms < 1 → sought x arms ≡ Sought x arms
none x [] h = refl
none x (arm ∷ arms) h = absurd (omega arith)

pub several : (x : ℕ) (arms : List Arm) → 1 < length arms → sought x arms ≡ Sought x arms
several x [] h = refl
several x (arm ∷ []) h = absurd (omega arith)
several x (arm ∷ other ∷ arms) h = refl

pub ruleset switches = (none, several)
