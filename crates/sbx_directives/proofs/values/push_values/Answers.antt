use Rattle.std.proofs.Common.{◌≡◌, ℕ, List, ◌++◌, drop, Option, None, true, sym, subst, ap, ◌∙◌}
use Rattle.std.specs.List.{flat_map, list_all}
use Rattle.std.specs.Result.{result_err}
use Rattle.sbx_directives.specs.declared.operand.Operand.{Operand}
use Rattle.sbx_directives.specs.Directives.{operands_of}
use Rattle.sbx_directives.specs.Data.{is_fit, bytes_of, data_of}
use Rattle.sbx_directives.proofs.Misfits.{all_fit}
use Rattle.sbx_directives.proofs.values.push_values.Goals as goal

pub push_all-requires : goal.push_all-requires
push_all-requires g c =
    let values : List ℕ → Option ℕ = g.S.Symbols.values c.args.symbols.now in
    let none : None ≡ result_err (data_of values c.args.line.now c.args.width c.args.tokens.now) = cc in
    subst (λ (os : List Operand). list_all (is_fit values c.args.line.now c.args.width) os ≡ true) (sym (c.operands.ensures c.args.line.now))
    (all_fit values c.args.line.now c.args.width (operands_of c.args.line.now (drop 1 c.args.tokens.now)) none).0

pub returns-in-Ok : goal.returns-in-Ok
returns-in-Ok g c =
    let values : List ℕ → Option ℕ = g.S.Symbols.values c.args.symbols.now in
    let none : None ≡ result_err (data_of values c.args.line.now c.args.width c.args.tokens.now) = cc in
    let own : List Operand = operands_of c.args.line.now (drop 1 c.args.tokens.now) in (
      flat_map (bytes_of values c.args.line.now c.args.width) own,
      (all_fit values c.args.line.now c.args.width own none).1,
      c.in-Ok.ensures.done ∙ ap (λ (os : List Operand). c.args.out.now.items ++ flat_map (bytes_of values c.args.line.now c.args.width) os) (c.operands.ensures c.args.line.now),
    )
