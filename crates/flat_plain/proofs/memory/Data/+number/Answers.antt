use Rattle.std.proofs.Common.{rules, arith}
use Rattle.flat_plain.proofs.Stored.{few_bits, more_bits}
use Rattle.flat_plain.proofs.memory.Data.+number.Goals as goal

pub returns-clause-bound : goal.returns-clause-bound
returns-clause-bound t c = more_bits c.args.count c.in_ok-front.front c.from-3.result (omega arith) (search rules) (search rules)

pub overflow_add-result : goal.overflow_add-result
overflow_add-result t c = let m = more_bits c.args.count c.in_ok-front.front c.from-3.result (omega arith) (search rules) (search rules) in
    let f = few_bits c.args.count (search rules) in omega (arith, m, f)

pub overflow_mul-result : goal.overflow_mul-result
overflow_mul-result t c = let m = more_bits c.args.count c.in_ok-front.front 0 (omega arith) (search rules) (omega arith) in let f = few_bits c.args.count (search rules) in omega (arith, m, f)
