use Rattle.std.proofs.Common.{◌≡◌, ◌++◌}
use Rattle.native_text.specs.Programs.{resumes_text}
use Rattle.native_text.proofs.text.ProgramText.resumes.Given as goal

abbrev pub invariant-loop-point : goal.invariant-loop-point
invariant-loop-point l = l.self ≡ l.fn.self ++ resumes_text l.point
