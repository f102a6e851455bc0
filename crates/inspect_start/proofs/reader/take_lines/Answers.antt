use Rattle.std.proofs.Common.{◌+◌, sym, ◌∙◌}
use Rattle.inspect_start.specs.Files.{said}
use Rattle.inspect_start.specs.Lines.{lines_of}
use Rattle.inspect_start.proofs.Outcomes.{all_read, first_fault, read_no_further}
use Rattle.inspect_start.proofs.reader.take_lines.Goals as goal

pub returns-in-Err-clause-said : goal.returns-in-Err-clause-said
returns-in-Err-clause-said c = λ wanted.
    first_fault c.args.windows c.args.file.now (said 0 c.args.start.now) (record { line = c.loop-rest.number + 1; cause = c.in-Err.cause })
    (sym c.loop-rest.invariant.so_far
    ∙ read_no_further c.args.windows (lines_of c.loop-rest.rest.now) (lines_of c.first_line.result.1.now) c.first_line.result.0.now c.loop-rest.number
    (said c.loop-rest.window c.loop-rest.start) c.in-Err.cause c.first_line.ensures.lines (c.in-Err.ensures.said wanted))

pub returns-clause-said : goal.returns-clause-said
returns-clause-said c =
    let read = all_read c.args.windows c.args.file.now c.loop-rest.rest.now c.loop-rest.number (said 0 c.args.start.now) (said c.loop-rest.window c.loop-rest.start)
    c.loop-rest-test.false c.loop-rest.invariant.so_far in
    (read.0, c.loop-rest.window, read.1, read.2)
