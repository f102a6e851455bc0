use Rattle.std.proofs.Common.{arith}
use Rattle.std.proofs.lemmas.Result.{err_from_is_err_and}
use Rattle.cmd_listing.proofs.Listings.{line_begun, line_more}
use Rattle.cmd_listing.proofs.listing.put_listing.Goals as goal

pub loop-word-preserved : goal.loop-word-preserved
loop-word-preserved g c = (
  omega (arith, c.loop-word.invariant.0),
  line_more c.args.words.now c.loop-word.address c.loop-word.word-index (g.O.Write.contents c.args.out.now) (g.O.Write.contents c.loop-word.out)
      (g.O.Write.contents c.put_line.new.out) c.loop-word-test.true c.in_ok-put_line.ensures.whole c.loop-word.invariant.1,
)

pub returns-in_err-put_line-clause-part : goal.returns-in_err-put_line-clause-part
returns-in_err-put_line-clause-part g c =
    let p = err_from_is_err_and c.from_residual.result c.from_residual.ensures.1 in
    rw p.1 (line_begun c.args.words.now c.loop-word.address c.loop-word.word-index (g.O.Write.contents c.args.out.now) (g.O.Write.contents c.loop-word.out)
    (g.O.Write.contents c.put_line.new.out) c.loop-word-test.true c.in_err-put_line.ensures.part c.loop-word.invariant.1)
