use Rattle.std.proofs.Common.{false, replicate, arith}
use Rattle.std.proofs.lemmas.Grind.{common_steps}
use Rattle.sbx_domain.proofs.Tables.{nothing_in_cleared}
use Rattle.sbx_domain.proofs.Marked.{none_marked}
use Rattle.sbx_domain.specs.declared.entry.Entry.{Entry}
use Rattle.sbx_domain.proofs.state.State.new.Goals as goal

pub returns : goal.returns
returns c = nothing_in_cleared c.in_ok-new.field-0 c.in_ok-new.ensures.none

pub invariant_of-result : goal.invariant_of-result
invariant_of-result c = (
  c.in_ok-new.ensures.size,
  grind (arith, common_steps),
  none_marked Entry (replicate 65 false) c.in_ok-new.field-0 c.in_ok-new.ensures.none,
)
