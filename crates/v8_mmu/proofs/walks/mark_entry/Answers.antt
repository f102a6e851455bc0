use Rattle.std.proofs.Common.{sym, ◌∙◌, ap}
use Rattle.v8_mmu.specs.Ram.{with_entry}
use Rattle.v8_mmu.specs.States.{with_ram}
use Rattle.v8_mmu.proofs.RamLemmas.{marked_ram_same}
use Rattle.v8_mmu.proofs.RamMore.{marked_is}
use Rattle.v8_mmu.proofs.walks.mark_entry.Goals as goal

pub returns-then-after-before : goal.returns-then-after-before
returns-then-after-before g c =
    let s = g.B.Bus.state c.args.bus.now in
    c.set_entry.ensures
    ∙ ap (with_ram s) (ap (with_entry s.held.ram c.args.place) c.marked-after.ensures ∙ sym (marked_is _ _ _ _ c.requires.there))

pub returns-else-after-before : goal.returns-else-after-before
returns-else-after-before g c =
    let s = g.B.Bus.state c.args.bus.now in
    ap (with_ram s) (sym (marked_ram_same _ _ _ _ c.requires.there c.requires.bytes (sym c.marked-after.ensures ∙ c.if-after-before.false)))
