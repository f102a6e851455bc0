use Rattle.v8_mmu.proofs.RamLemmas.{marked_ram_undone, entry_there-marked_ram}
use Rattle.v8_mmu.proofs.walks.mark_page.Goals as goal

pub returns-clause-undo : goal.returns-clause-undo
returns-clause-undo g c = record {
  there = rw c.mark_entry.ensures (entry_there-marked_ram _ _ _ _ _ c.requires.there);
  again = rw c.mark_entry.ensures (marked_ram_undone _ _ _ _ c.requires.there c.requires.bytes);
}
