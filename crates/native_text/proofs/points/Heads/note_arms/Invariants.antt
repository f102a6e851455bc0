use Rattle.std.proofs.Common.{drop, false, get_or, length}
use Rattle.std.specs.Prelude.{◌||◌}
use Rattle.native_text.specs.Pauses.{returns_to}
use Rattle.native_text.proofs.Marks.{Left}
use Rattle.native_text.proofs.points.Heads.note_arms.Given as goal

-- with the arms that are left all are marked
abbrev pub invariant-loop-arm : goal.invariant-loop-arm
invariant-loop-arm l =
    Left l.self.marks.items (length l.fn.self.marks.items) (λ k. returns_to k (drop l.arm-index l.arms))
    (λ k. get_or l.fn.self.marks.items k false || returns_to k l.arms)
