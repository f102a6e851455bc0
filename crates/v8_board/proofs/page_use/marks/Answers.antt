use Rattle.std.proofs.lemmas.Grind.{common_steps}
use Rattle.std.proofs.Common.{◌∙◌, lit<, arith}
use Rattle.v8_board.proofs.MarkSums.{one_mark_more, no_marks}
use Rattle.v8_board.proofs.page_use.marks.Goals as goal

pub loop-i-init : goal.loop-i-init
loop-i-init g c = record { sum = no_marks _ _ _; bound = lit< tt }

pub loop-i-preserved : goal.loop-i-preserved
loop-i-preserved g c =
    let l = c.loop-i in
    record {
      sum = c.with_bit-all.ensures.value ∙ one_mark_more _ _ _ l.i l.all c.bit.result l.invariant.sum c.bit.ensures.value;
      bound = c.with_bit-all.ensures.bound;
    }

pub with_bit-all-requires-clause-bound : goal.with_bit-all-requires-clause-bound
with_bit-all-requires-clause-bound g c = assumption

pub with_bit-all-requires-clause-small : goal.with_bit-all-requires-clause-small
with_bit-all-requires-clause-small g c = assumption

pub with_bit-all-requires-clause-few : goal.with_bit-all-requires-clause-few
with_bit-all-requires-clause-few g c = assumption

pub returns : goal.returns
returns g c = grind (arith, common_steps)
