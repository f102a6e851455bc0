use Rattle.std.proofs.Common.{[], ◌∷◌, ◌++◌, ap, ◌∙◌, arith}
use Rattle.v8_meaning.specs.declared.operation.Operation.TheVariants.{TrapOnCondition}
use Rattle.native_lang.specs.declared.stmt.Stmt.TheVariants.{Get}
use Rattle.native_flow.proofs.Making.{both, gets_byte, passes_service}
use Rattle.native_flow.proofs.blocks.BlockMaking.get.Goals as goal

pub returns : goal.returns
returns c =
    let mid = record c.count.new.self { statements = c.push.new.self } in
    both c.turns.result (λ _ on turns t is. passes_service (TrapOnCondition t) c.args.self.now mid c.turns.new.self (Get 8) (gets_byte t is)
    (c.in_ok-push.ensures ∙ ap (λ l. l ++ Get 8 ∷ []) c.in_ok-count.ensures.list) c.in_ok-count.ensures.turns on turns) c.turns.ensures.list (c.turns.ensures.turns (omega arith))
