use Rattle.inspect_start.proofs.Splitting.{ascii_is}
use Rattle.inspect_start.proofs.lines.is_text.Goals as goal

pub returns : goal.returns
returns c = ascii_is c.args.text.now c.is_ascii.result c.is_ascii.ensures.cases
