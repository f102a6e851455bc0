use Rattle.std.proofs.Common.{rules, arith, ◌≡◌, [], Ok, IfErr, IfOk, IfSome, OnOk, ℕ, List}
use Rattle.std.proofs.lemmas.Grind.{common_steps}
use Rattle.cmd_filing.proofs.Pieces.{fed_stop}
use Rattle.cmd_filing.proofs.images.feed_all.Goals as goal

pub returns-in_err-feed-in-Ok-clause-stop : goal.returns-in_err-feed-in-Ok-clause-stop
returns-in_err-feed-in-Ok-clause-stop g c =
    let told = fed_stop _ _ _ _ _ _ _ _ c.loop.invariant c.in-Ok.ensures.bytes.0 c.feed.ensures c.in_err-feed-in-Ok.was in
    search rules

pub loop-preserved : goal.loop-preserved
loop-preserved g c = grind (arith, common_steps)
