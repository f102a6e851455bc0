use Rattle.std.proofs.lemmas.Grind.{common_steps}
use Rattle.std.proofs.Common.{ap, ◌∙◌, arith}
use Rattle.sbx_domain.proofs.Marked.{marked_called}
use Rattle.sbx_domain.proofs.Tables.{known_returned}
use Rattle.sbx_domain.proofs.state.State.return_with.Goals as goal
use Rattle.sbx_domain.specs.declared.entry.Entry.{Entry}
use Rattle.sbx_domain.specs.Known.{Table, known}
use Rattle.sbx_domain.specs.Transfer.{called, result_entry}

pub returns : goal.returns
returns c =
    let s : Table = record { entries = c.self.inside.entries; y = c.self.inside.y; icc = c.self.inside.icc; relation = c.self.inside.relation } in
    known_returned s c.args.results.now c.return_entries.new.entries c.return_entries.ensures.moved
    ∙ ap (λ (t : Table). called c.args.results.now (known t)) c.self.view_is

pub invariant_of-self : goal.invariant_of-self
invariant_of-self c = (
  c.return_entries.ensures.size ∙ c.self.invariant.0,
  grind (arith, common_steps),
  marked_called Entry c.self.inside.marks c.self.inside.entries c.return_entries.new.entries (result_entry c.args.results.now) c.self.invariant.1
      c.return_entries.ensures.moved c.self.invariant.2,
)
