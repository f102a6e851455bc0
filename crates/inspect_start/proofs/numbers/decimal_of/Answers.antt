use Rattle.std.proofs.Common.{◌≡◌, List, ℕ, arith, subst}
use Rattle.inspect_start.specs.Lines.{numeral_of}
use Rattle.inspect_start.proofs.Numerals.{no_numeral, numeral_is}
use Rattle.inspect_start.proofs.numbers.decimal_of.Goals as goal

pub returns-in-Ok : goal.returns-in-Ok
returns-in-Ok c =
    subst (λ (digits : List ℕ). c.decimal.result ≡ numeral_of 10 c.args.most digits) c.in-Ok.ensures.cases.0
    (numeral_is 10 c.args.most c.in-Ok.text.now c.decimal.result c.decimal.ensures)

pub returns-in-Err : goal.returns-in-Err
returns-in-Err c = no_numeral 10 c.args.most c.args.digits.now (omega arith) c.in-Err.ensures.cases.0
