use Rattle.std.proofs.Common.{◌≡◌, ℕ, List, ◌++◌}
use Rattle.std.specs.Slice.Iter.{chunks_rest}
use Rattle.native_text.specs.Programs.{joined, rows_text}
use Rattle.native_text.specs.Words.{AreWordRows}
use Rattle.native_text.proofs.text.ProgramText.rows.Given as goal

-- some rows are there, and the bytes that are left make them whole
abbrev pub invariant-loop-row : goal.invariant-loop-row
invariant-loop-row l =
    goal.iterator-loop-row.can_next l.row-iterator
    × goal.iterator-loop-row.is_finite l.row-iterator
    × ((rows : List (List ℕ)) × (l.self ≡ l.fn.self ++ rows_text rows) × (joined rows ++ chunks_rest l.row-iterator ≡ l.fn.bytes) × AreWordRows rows)
