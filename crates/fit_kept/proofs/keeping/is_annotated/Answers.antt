use Rattle.std.proofs.Common.{rules}
use Rattle.sbx_asm.specs.Items.{lines_of}
use Rattle.fit_kept.proofs.ByLines.{goes_on, nothing_left}
use Rattle.fit_kept.proofs.keeping.is_annotated.Goals as goal

pub lines-preserved : goal.lines-preserved
lines-preserved c = λ h. c.lines.invariant
    (goes_on (lines_of c.lines.left.now) c.first_line.result.0.now (lines_of c.in-Some.others.now) (lines_of c.first_line.result.1.now) (lines_of c.lines.rest.now)
    (search rules) c.first_line.ensures.lines h)

pub returns : goal.returns
returns c = λ is. c.lines.invariant (nothing_left c.lines.left.now c.lines.rest.now (search rules) (search rules))
