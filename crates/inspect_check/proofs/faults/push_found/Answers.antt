use Rattle.std.proofs.Common.{List, ◌++◌, sym, ◌∙◌}
use Rattle.std.specs.Option.{option_map}
use Rattle.std.proofs.lemmas.List.{append-nil}
use Rattle.sbx_asm.specs.Rules.{at}
use Rattle.inspect_check.specs.Alone.{optional}
use Rattle.inspect_check.proofs.faults.push_found.Goals as goal

pub returns-in_ok-push-in-Some : goal.returns-in_ok-push-in-Some
returns-in_ok-push-in-Some c = λ before after here.
    c.in_ok-push-in-Some.ensures.items ∙ (λ j. c.args.found.now.items ++ optional (option_map (at (c.number-line.ensures j)) (c.in-Some.ensures before here j)))

pub returns-in-None : goal.returns-in-None
returns-in-None c = λ before after here.
    sym (append-nil c.args.found.now.items) ∙ (λ j. c.args.found.now.items ++ optional (option_map (at c.args.line.now.number) (c.in-None.ensures before here j)))
