use Rattle.std.proofs.Common.{◌≡◌, ◌++◌, drop}
use Rattle.native_text.specs.Spelling.{arms_text}
use Rattle.native_text.specs.Words.{AreWordArms}
use Rattle.native_text.proofs.text.ProgramText.cases.Given as goal

-- with the arms that are left it is whole
abbrev pub invariant-loop-arm : goal.invariant-loop-arm
invariant-loop-arm l =
    (l.self ++ arms_text (drop l.arm-index l.arms) ≡ l.fn.self ++ arms_text l.arms)
    × (AreWordArms (drop l.arm-index l.arms) → AreWordArms l.arms)
