use Rattle.std.proofs.lemmas.Grind.{common_steps}
use Rattle.std.proofs.Common.{List, Bool, ap, sym, subst, ◌∙◌, arith}
use Rattle.sbx_domain.proofs.Marked.{marked_restored}
use Rattle.sbx_domain.specs.Parts.{AreMarked}
use Rattle.sbx_domain.proofs.Tables.{known_popped}
use Rattle.sbx_domain.proofs.state.State.pop.Goals as goal
use Rattle.sbx_domain.specs.declared.entry.Entry.{Entry}
use Rattle.sbx_domain.specs.Known.{Table, known}
use Rattle.sbx_domain.specs.Transfer.{restored}

pub returns : goal.returns
returns c =
    let s : Table = record { entries = c.self.inside.entries; y = c.self.inside.y; icc = c.self.inside.icc; relation = c.self.inside.relation } in
    known_popped s c.restore_entries.new.entries c.restore_entries.ensures.moved ∙ ap (λ (t : Table). restored (known t)) c.self.view_is

pub invariant_of-self : goal.invariant_of-self
invariant_of-self c = (
  c.restore_entries.ensures.size ∙ c.self.invariant.0,
  grind (arith, common_steps),
  subst (λ (ms : List Bool). AreMarked 0 1040 ms c.restore_entries.new.entries) (sym c.only-self-inside.ensures)
      (marked_restored Entry c.self.inside.entries c.restore_entries.new.entries c.restore_entries.ensures.moved),
)
