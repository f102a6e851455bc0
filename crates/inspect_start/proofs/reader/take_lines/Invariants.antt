use Rattle.std.proofs.Common.{◌≡◌, ◌≤◌, ◌+◌, length}
use Rattle.inspect_start.specs.Files.{said}
use Rattle.inspect_start.specs.Lines.{lines_of}
use Rattle.inspect_start.specs.Starts.{IsFit}
use Rattle.inspect_start.proofs.Outcomes.{reads}
use Rattle.inspect_start.proofs.reader.take_lines.Given as goal

-- what the lines that are left say behind what was said is what all say
abbrev pub invariant-loop-rest : goal.invariant-loop-rest
invariant-loop-rest l = record {
  so_far : reads l.windows (lines_of l.rest) l.number (said l.window l.start) ≡ reads l.windows (lines_of l.fn.file) 0 (said 0 l.fn.start);
  room : l.number + length l.rest ≤ length l.fn.file;
  fit : IsFit l.windows l.start;
}

abbrev pub decreases-loop-rest : goal.decreases-loop-rest
decreases-loop-rest l = length l.rest
