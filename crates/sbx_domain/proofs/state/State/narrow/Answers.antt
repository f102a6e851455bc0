use Rattle.std.proofs.lemmas.Grind.{common_steps}
use Rattle.std.proofs.Common.{◌≡◌, List, Option, length, slice_set, length-set, true, ◌/◌, ap, sym, subst, ◌∙◌, arith}
use Rattle.sbx_domain.proofs.Marked.{marked_written}
use Rattle.sbx_domain.proofs.Tables.{known_narrowed, known_unnarrowed}
use Rattle.sbx_domain.proofs.state.State.narrow.Goals as goal
use Rattle.sbx_domain.specs.declared.entry.Entry.{Entry}
use Rattle.sbx_domain.specs.Known.{Table, known}
use Rattle.sbx_domain.specs.Parts.{AreMarked}
use Rattle.sbx_domain.specs.Refining.{narrowed_at, with_range_of}

pub returns-then-from-lt-LOCATIONS : goal.returns-then-from-lt-LOCATIONS
returns-then-from-lt-LOCATIONS c =
    let s : Table = record { entries = c.self.inside.entries; y = c.self.inside.y; icc = c.self.inside.icc; relation = c.self.inside.relation } in
    ap (λ (zs : List (Option Entry)). known (record { entries = zs; y = s.y; icc = s.icc; relation = s.relation })) c.set.ensures
    ∙ (known_narrowed s c.args.location c.args.range c.with_range-entry.result c.self.invariant.0 (omega (arith, c.if-from-lt-LOCATIONS.true, c.from.ensures))
    (c.with_range-entry.ensures ∙ ap (with_range_of c.args.range) (c.entry.ensures ∙ ap (λ (t : Table). (known t).entry c.args.location) (sym c.self.view_is)))
    ∙ ap (λ (t : Table). narrowed_at c.args.location c.args.range (known t)) c.self.view_is)

pub returns-else-from-lt-LOCATIONS : goal.returns-else-from-lt-LOCATIONS
returns-else-from-lt-LOCATIONS c =
    let size : length c.args.self.now.entries ≡ 1040 = ap (λ (t : Table). length t.entries) (sym c.self.view_is) ∙ c.self.invariant.0 in
    known_unnarrowed c.args.self.now c.args.location c.args.range size (omega (arith, c.if-from-lt-LOCATIONS.false, c.from.ensures))

pub invariant_of-self : goal.invariant_of-self
invariant_of-self c = (
  ap (λ (zs : List (Option Entry)). length zs) c.set.ensures ∙ (length-set c.self.inside.entries c.args.location c.with_range-entry.result ∙ c.self.invariant.0),
  grind (arith, common_steps),
  subst (λ (zs : List (Option Entry)). AreMarked 0 1040 (slice_set c.self.inside.marks (c.args.location / 16) true) zs) (sym c.set.ensures)
      (marked_written Entry c.self.inside.marks c.self.inside.entries c.args.location c.with_range-entry.result c.self.invariant.1
      (omega (arith, c.if-from-lt-LOCATIONS.true, c.from.ensures)) c.self.invariant.2),
)
