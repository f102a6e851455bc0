use Rattle.std.proofs.lemmas.Grind.{common_steps}
use Rattle.std.proofs.Common.{List, [], ◌+◌, drop, subst, sym, arith}
use Rattle.v8_board.specs.Start.{IsNew}
use Rattle.sbx_raw.specs.Ports.{Held}
use Rattle.sbx_run.specs.declared.runner.Finished.{Finished}
use Rattle.sbx_batch.proofs.Following.{Completes, all_done, new_is_silent, next_from, one_more}
use Rattle.sbx_batch.proofs.batch.run_batch.Goals as goal

pub loop-each-init : goal.loop-each-init
loop-each-init g c =
    let board = c.in-Ok.board.state in
    let batch = c.args.batch.now in
    let new : IsNew g.row.N [] [] board = subst (λ (h : Held). IsNew g.row.N h.input h.output board) c.new.ensures c.in-Ok.ensures.made in (
      c.in-Ok.ensures.state,
      (
        board,
        board,
        new,
        new_is_silent g.row.N [] board new,
        subst (λ (done : List Finished). Completes g.row.N board batch done board batch) (sym c.in_ok-answers.ensures.empty) (λ more end rest. rest),
      ),
    )

pub loop-each-preserved : goal.loop-each-preserved
loop-each-preserved g c =
    let (state, (made, now, new, taken, completes)) = c.loop-each.invariant in
    let batch = c.args.batch.now in
    let i = c.loop-each.each-index in
    let each = c.each-item.result in
    let finished = c.in_ok-finished.finished in
    let (mid, next, left) = c.in_ok-finished.ensures.next in
    let so = next_from g.row.N each.image.now each.input.now finished now c.loop-each.board.state mid taken next in (
      c.in_ok-finished.ensures.state,
      (
        made,
        mid,
        new,
        left,
        subst (λ (done : List Finished). Completes g.row.N made batch done mid (drop (i + 1) batch)) (sym c.in-Ok-push.ensures.items)
            (one_more g.row.N made now mid batch c.loop-each.answers.items i each finished c.loop-each-test.true c.each-item.is so completes),
      ),
    )

pub returns-clause-answers : goal.returns-clause-answers
returns-clause-answers g c =
    let (state, (made, now, new, taken, completes)) = c.loop-each.invariant in
    record {
      made = made;
      end = now;
      new = new;
      runs = all_done g.row.N made now c.args.batch.now c.loop-each.answers.items c.loop-each.each-index c.loop-each-test.false completes;
    }

pub run_next-requires : goal.run_next-requires
run_next-requires g c = grind (arith, common_steps)

pub new-requires-2 : goal.new-requires-2
new-requires-2 g c = grind (arith, common_steps)
