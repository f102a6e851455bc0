use Rattle.std.proofs.lemmas.Grind.{common_steps}
use Rattle.std.proofs.Common.{false, replicate, ◌∙◌, arith}
use Rattle.sbx_domain.proofs.Marked.{all_cleared, none_marked}
use Rattle.sbx_domain.proofs.Tables.{nothing_in_cleared}
use Rattle.sbx_domain.proofs.state.State.clear.Goals as goal
use Rattle.sbx_domain.specs.declared.entry.Entry.{Entry}

pub returns : goal.returns
returns c =
    nothing_in_cleared c.clear_entries.new.entries
    (all_cleared Entry c.self.inside.entries c.clear_entries.new.entries c.self.invariant.0 c.clear_entries.ensures.cleared)

pub invariant_of-self : goal.invariant_of-self
invariant_of-self c = (
  c.clear_entries.ensures.size ∙ c.self.invariant.0,
  grind (arith, common_steps),
  none_marked Entry (replicate 65 false) c.clear_entries.new.entries
      (all_cleared Entry c.self.inside.entries c.clear_entries.new.entries c.self.invariant.0 c.clear_entries.ensures.cleared),
)
