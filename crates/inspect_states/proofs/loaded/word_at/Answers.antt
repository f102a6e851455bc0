use Rattle.std.proofs.Common.{sym, ◌∙◌}
use Rattle.v8_mmu.proofs.RamLemmas.{within_entry}
use Rattle.inspect_states.proofs.loaded.word_at.Goals as goal

pub unreachable-requires : goal.unreachable-requires
unreachable-requires g c =
    let there = within_entry c.args.board.now.state.world.memory.ram c.args.place (record { aligned = c.requires.whole; fits = c.requires.fits }) in
    let bad = sym there ∙ sym c.entry.ensures ∙ c.in-None.is in
    let worse : ⊥ = cc in worse
