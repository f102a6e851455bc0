use Rattle.std.proofs.Common.{◌≡◌, ◌++◌, string_bytes}
use Rattle.inspect_run.specs.Heads.{blanks}
use Rattle.inspect_run.proofs.sheet.pad.Given as goal

-- the blanks so far
abbrev pub invariant-loop : goal.invariant-loop
invariant-loop l = string_bytes l.line ≡ string_bytes l.fn.line ++ blanks l.counter
