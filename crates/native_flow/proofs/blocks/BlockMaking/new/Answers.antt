use Rattle.std.proofs.Common.{◌++◌, false, sym, subst}
use Rattle.native_ends.specs.Translations.{Makes}
use Rattle.native_flow.proofs.blocks.BlockMaking.new.Goals as goal

pub returns-clause-stands : goal.returns-clause-stands
returns-clause-stands c = λ parts labels f start. record {
  goes_on = λ rest end d h. subst (λ l. Makes parts labels f false start 0 (l ++ rest) end d) (sym c.new.ensures) h;
}
