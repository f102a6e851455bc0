use Rattle.inspect_start.proofs.Splitting.{last_line, with_rest}
use Rattle.inspect_start.proofs.lines.first_line.Goals as goal

pub returns-then-stop-file-clause-lines : goal.returns-then-stop-file-clause-lines
returns-then-stop-file-clause-lines c =
    with_rest c.args.file.now c.length_before-stop.result c.length_before-stop.ensures.value c.if-stop-file.true

pub returns-else-stop-file-clause-lines : goal.returns-else-stop-file-clause-lines
returns-else-stop-file-clause-lines c =
    last_line c.args.file.now c.length_before-stop.result c.length_before-stop.ensures.value c.requires c.if-stop-file.false
