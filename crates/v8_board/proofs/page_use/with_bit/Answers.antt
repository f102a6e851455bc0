use Rattle.std.proofs.Common.{◌<◌, ◌+◌, ◌^◌, ap, sym, subst, arith}
use Rattle.v8_board.proofs.MarkSums.{shifted, sum_fits, sum_bound}
use Rattle.v8_board.proofs.page_use.with_bit.Goals as goal

pub overflow_add-result : goal.overflow_add-result
overflow_add-result c = omega (arith, shifted c.args.bit c.args.i c.requires.few c.requires.small, sum_fits c.args.all c.args.bit c.args.i c.requires.bound c.requires.few c.requires.small)

pub returns-clause-value : goal.returns-clause-value
returns-clause-value c = ap (λ x. c.args.all + x) (shifted c.args.bit c.args.i c.requires.few c.requires.small)

pub returns-clause-bound : goal.returns-clause-bound
returns-clause-bound c =
    subst (λ x. c.args.all + x < 2 ^ (c.args.i + 1)) (sym (shifted c.args.bit c.args.i c.requires.few c.requires.small)) (sum_bound c.args.all c.args.bit c.args.i c.requires.bound c.requires.few)
