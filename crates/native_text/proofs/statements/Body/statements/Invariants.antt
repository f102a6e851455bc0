use Rattle.std.proofs.Common.{◌≡◌, ◌++◌, drop, false}
use Rattle.native_text.specs.Lines.{action_lines}
use Rattle.native_text.specs.Spelling.{all_points, lines_text}
use Rattle.native_text.specs.Words.{AreWordLines}
use Rattle.native_text.proofs.statements.Body.statements.Given as goal

-- with the statements that are left it is whole
abbrev pub invariant-loop-stmt : goal.invariant-loop-stmt
invariant-loop-stmt l = record {
  text : l.self.text ++ lines_text l.self.points l.has_codes (action_lines (drop l.stmt-index l.statements)) ≡ l.fn.self.text ++ lines_text l.fn.self.points false (action_lines l.statements);
  points : all_points l.self.points (action_lines (drop l.stmt-index l.statements)) ≡ all_points l.fn.self.points (action_lines l.statements);
  words : AreWordLines (action_lines (drop l.stmt-index l.statements)) → AreWordLines (action_lines l.statements);
}
