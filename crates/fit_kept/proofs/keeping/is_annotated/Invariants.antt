use Rattle.std.proofs.Common.{length}
use Rattle.sbx_asm.specs.Items.{lines_of}
use Rattle.fit_kept.specs.Lines.{IsAnnotated}
use Rattle.fit_kept.proofs.keeping.is_annotated.Given as goal

-- what is left of the text has to be what is left of the source with annotations
abbrev pub invariant-lines : goal.invariant-lines
invariant-lines l = IsAnnotated (lines_of l.left) (lines_of l.rest) → IsAnnotated (lines_of l.source) (lines_of l.text)

abbrev pub decreases-lines : goal.decreases-lines
decreases-lines l = length l.rest
