use Rattle.std.proofs.lemmas.Grind.{common_steps}
use Rattle.std.proofs.Common.{List, Bool, ap, sym, subst, ◌∙◌, arith}
use Rattle.sbx_domain.proofs.Marked.{marked_saved}
use Rattle.sbx_domain.specs.Parts.{AreMarked}
use Rattle.sbx_domain.proofs.Tables.{known_saved}
use Rattle.sbx_domain.proofs.state.State.save.Goals as goal
use Rattle.sbx_domain.specs.declared.entry.Entry.{Entry}
use Rattle.sbx_flat.specs.Operation.TheVariants.{Save}
use Rattle.sbx_domain.specs.Known.{Table, known}
use Rattle.sbx_domain.specs.Transfer.{transferred}

pub returns : goal.returns
returns c = λ frame. λ fields. (
    let s : Table = record { entries = c.self.inside.entries; y = c.self.inside.y; icc = c.self.inside.icc; relation = c.self.inside.relation } in
    known_saved s c.save_entries.new.entries c.save_entries.ensures.moved frame fields
    ∙ ap (λ (t : Table). transferred frame (Save fields) (known t)) c.self.view_is)

pub invariant_of-self : goal.invariant_of-self
invariant_of-self c = (
  c.save_entries.ensures.size ∙ c.self.invariant.0,
  grind (arith, common_steps),
  subst (λ (ms : List Bool). AreMarked 0 1040 ms c.save_entries.new.entries) (sym c.only-self-inside.ensures)
      (marked_saved Entry c.self.inside.entries c.save_entries.new.entries c.save_entries.ensures.moved),
)
