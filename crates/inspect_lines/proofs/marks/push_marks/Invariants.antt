use Rattle.std.proofs.Common.{◌≡◌, ◌++◌, string_bytes}
use Rattle.inspect_lines.specs.Marks.{marks_text}
use Rattle.inspect_lines.proofs.marks.push_marks.Given as goal

-- the marks so far
abbrev pub invariant-loop-page : goal.invariant-loop-page
invariant-loop-page l = string_bytes l.out ≡ string_bytes l.fn.out ++ marks_text l.referenced l.modified l.page
