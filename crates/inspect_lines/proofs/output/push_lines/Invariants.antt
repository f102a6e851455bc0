use Rattle.std.proofs.Common.{◌≡◌, ◌<◌, ◌++◌, drop, string_bytes}
use Rattle.inspect_lines.specs.Output.{lines_text}
use Rattle.inspect_lines.proofs.output.push_lines.Given as goal

-- the lines so far and those of the bytes that are left are all of them
abbrev pub invariant-loop-byte : goal.invariant-loop-byte
invariant-loop-byte l = (l.place < 24)
    × (string_bytes l.out ++ lines_text l.place (drop l.byte-index l.bytes) ≡ string_bytes l.fn.out ++ lines_text 0 l.bytes)
