use Rattle.std.proofs.lemmas.Grind.{common_steps}
use Rattle.std.proofs.Common.{List, Option, length, slice_set, length-set, ap, sym, subst, true, ◌/◌, ◌∙◌, arith}
use Rattle.std.proofs.lemmas.Bool.Decides.{nat_tests}
use Rattle.sbx_domain.proofs.Marked.{marked_written}
use Rattle.sbx_domain.proofs.Tables.{known_written, known_unwritten}
use Rattle.sbx_domain.proofs.state.State.write.Goals as goal
use Rattle.sbx_domain.proofs.state.State.write.Goals.{else-location-gt0-via-then-location-gt0+else-from-lt-LOCATIONS, else-location-gt0-via-else-location-gt0}
use Rattle.sbx_domain.specs.declared.entry.Entry.{Entry}
use Rattle.sbx_domain.specs.Known.{Table, known, with_entry}
use Rattle.sbx_domain.specs.Parts.{AreMarked}

pub returns-then-from-lt-LOCATIONS : goal.returns-then-from-lt-LOCATIONS
returns-then-from-lt-LOCATIONS c =
    let s : Table = record { entries = c.self.inside.entries; y = c.self.inside.y; icc = c.self.inside.icc; relation = c.self.inside.relation } in
    ap (λ (zs : List (Option Entry)). known (record { entries = zs; y = s.y; icc = s.icc; relation = c.without_location-self-inside.result })) c.set.ensures
    ∙ (known_written s c.args.location c.args.entry c.without_location-self-inside.result c.self.invariant.0
    (grind (arith, nat_tests, c.if-location-gt0.true, c.if-from-lt-LOCATIONS.true, c.from.ensures)) c.without_location-self-inside.ensures
    ∙ ap (λ (t : Table). with_entry c.args.location c.args.entry (known t)) c.self.view_is)

pub returns-else-location-gt0 : goal.returns-else-location-gt0
returns-else-location-gt0 c = known_unwritten c.args.self.now c.args.location c.args.entry (elim c.else-location-gt0.branch [
  | else-location-gt0-via-then-location-gt0+else-from-lt-LOCATIONS w ↦ grind (arith, nat_tests, w.if-from-lt-LOCATIONS)
  | else-location-gt0-via-else-location-gt0 w ↦ grind (arith, nat_tests, w.if-location-gt0)
])

pub invariant_of-self : goal.invariant_of-self
invariant_of-self c = (
  ap (λ (zs : List (Option Entry)). length zs) c.set.ensures ∙ (length-set c.self.inside.entries c.args.location c.args.entry ∙ c.self.invariant.0),
  grind (arith, common_steps),
  subst (λ (zs : List (Option Entry)). AreMarked 0 1040 (slice_set c.self.inside.marks (c.args.location / 16) true) zs) (sym c.set.ensures)
      (marked_written Entry c.self.inside.marks c.self.inside.entries c.args.location c.args.entry c.self.invariant.1
      (omega (arith, c.if-from-lt-LOCATIONS.true, c.from.ensures)) c.self.invariant.2),
)
