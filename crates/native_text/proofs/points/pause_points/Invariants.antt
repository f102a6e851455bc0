use Rattle.std.proofs.Common.{drop, length}
use Rattle.native_text.specs.Pauses.{pauses, pauses_from}
use Rattle.native_text.proofs.Marks.{Left}
use Rattle.native_text.proofs.points.pause_points.Given as goal

-- with the blocks that are left all are marked
abbrev pub invariant-loop-from : goal.invariant-loop-from
invariant-loop-from l =
    Left l.heads.marks.items (length l.blocks) (λ k. pauses_from k l.from (drop l.from l.blocks)) (pauses l.blocks)
