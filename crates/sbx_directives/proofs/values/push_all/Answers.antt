use Rattle.std.proofs.Common.{◌≡◌, ◌++◌, length, take}
use Rattle.std.specs.List.{flat_map}
use Rattle.sbx_directives.specs.Directives.{behind}
use Rattle.sbx_directives.specs.Data.{is_fit, bytes_of}
use Rattle.sbx_directives.proofs.Appending.{goes_on, still_begins, longer, rest_fits, on_err}
use Rattle.sbx_directives.proofs.values.push_all.Goals as goal

pub returns-in_err-push_value-clause-kept : goal.returns-in_err-push_value-clause-kept
returns-in_err-push_value-clause-kept g c =
    let begins : take (length c.args.out.now.items) c.loop-operand.out.items ≡ c.args.out.now.items
    = still_begins c.args.out.now.items c.loop-operand.out.items
    (flat_map (bytes_of (g.S.Symbols.values c.args.symbols.now) c.args.line.now c.args.width) (behind c.args.line.now c.loop-operand.rest.now))
    (flat_map (bytes_of (g.S.Symbols.values c.args.symbols.now) c.args.line.now c.args.width) (behind c.args.line.now c.args.tokens.now))
    c.loop-operand.invariant.1 c.loop-operand.invariant.2 in
    on_err c.from_residual.result (take (length c.args.out.now.items) c.push_value.new.out.items ≡ c.args.out.now.items) (rw c.in_err-push_value.ensures.kept begins)

pub loop-operand-preserved : goal.loop-operand-preserved
loop-operand-preserved g c = (
  rest_fits (is_fit (g.S.Symbols.values c.args.symbols.now) c.args.line.now c.args.width) (behind c.args.line.now c.loop-operand.rest.now)
      (behind c.args.line.now c.in-Some.after.now) c.in-Some.operand c.in-Some.ensures.cases c.loop-operand.invariant.0,
  goes_on (bytes_of (g.S.Symbols.values c.args.symbols.now) c.args.line.now c.args.width) c.loop-operand.out.items c.push_value.new.out.items
      (c.args.out.now.items ++ flat_map (bytes_of (g.S.Symbols.values c.args.symbols.now) c.args.line.now c.args.width) (behind c.args.line.now c.args.tokens.now))
      (behind c.args.line.now c.loop-operand.rest.now) (behind c.args.line.now c.in-Some.after.now) c.in-Some.operand c.in-Some.ensures.cases
      c.in_ok-push_value.ensures.done c.loop-operand.invariant.1,
  longer c.args.out.now.items c.loop-operand.out.items c.push_value.new.out.items
      (bytes_of (g.S.Symbols.values c.args.symbols.now) c.args.line.now c.args.width c.in-Some.operand) c.in_ok-push_value.ensures.done c.loop-operand.invariant.2,
)
