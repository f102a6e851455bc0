use Rattle.cmd_filing.proofs.Pieces.{Joined}
use Rattle.cmd_filing.proofs.images.feed_all.Given as goal

abbrev pub invariant-loop : goal.invariant-loop
invariant-loop g l = Joined (g.F.Read.remaining l.fn.file) (g.F.Read.remaining l.file) l.reader
