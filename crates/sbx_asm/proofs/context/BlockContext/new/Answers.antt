use Rattle.std.proofs.Common.{false}
use Rattle.sbx_asm.proofs.context.BlockContext.new.Goals as goal

pub returns : goal.returns
returns c = λ j. record { has_acted = false; has_fuel = c.args.has_fuel; cells = c.none.ensures 64 j; terms = c.none-2.ensures 8 j }
