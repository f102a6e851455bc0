use Rattle.std.proofs.Common.{◌≡◌, ◌++◌, drop, false}
use Rattle.native_text.specs.Lines.{body_lines}
use Rattle.native_text.specs.Spelling.{all_points, lines_text}
use Rattle.native_text.specs.Words.{AreWordLines}
use Rattle.native_text.proofs.programs.body_of.Given as goal

-- with the blocks that are left it is whole
abbrev pub invariant-loop-block : goal.invariant-loop-block
invariant-loop-block l = record {
  text : l.body.text ++ lines_text l.body.points false (body_lines l.heads.marks.items l.label (drop l.block-index l.blocks)) ≡ lines_text 0 false (body_lines l.heads.marks.items 0 l.blocks);
  points : all_points l.body.points (body_lines l.heads.marks.items l.label (drop l.block-index l.blocks)) ≡ all_points 0 (body_lines l.heads.marks.items 0 l.blocks);
  words : AreWordLines (body_lines l.heads.marks.items l.label (drop l.block-index l.blocks)) → AreWordLines (body_lines l.heads.marks.items 0 l.blocks);
}
