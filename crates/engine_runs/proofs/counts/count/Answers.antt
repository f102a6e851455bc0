use Rattle.std.proofs.Common.{refl, sym, ap, ◌∙◌}
use Rattle.std.specs.Option.{option_copied}
use Rattle.engine_runs.proofs.Counted.{counted, passed}
use Rattle.engine_runs.proofs.counts.count.Goals as goal

pub returns-in_default-clause-value : goal.returns-in_default-clause-value
returns-in_default-clause-value c = λ parts place is. passed parts c.args.n place c.args.traffic _ (sym (ap option_copied c.in_default.is) ∙ is) refl

pub returns-clause-value : goal.returns-clause-value
returns-clause-value c =
    λ parts place is. counted parts c.args.n place c.in-Some.decoded.now c.args.traffic c.count_word.result
    (sym (ap option_copied c.in-Some.is) ∙ is) c.count_word.ensures.value
