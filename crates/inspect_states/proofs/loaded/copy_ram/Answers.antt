use Rattle.std.proofs.Common.{◌*◌, ◌≤◌, ◌+◌, length, refl, sym, ap, ◌∙◌, arith}
use Rattle.std.proofs.lemmas.List.{take_all}
use Rattle.v8_memory.proofs.Places.{word_there}
use Rattle.v8_mmu.proofs.RamLemmas.{length-with_entry}
use Rattle.inspect_states.proofs.Copied.{copied_more}
use Rattle.inspect_states.proofs.loaded.copy_ram.Goals as goal

pub loop-number-init : goal.loop-number-init
loop-number-init g c = record { size = c.requires.size; copied = refl; device = refl }

pub set_entry-requires : goal.set_entry-requires
set_entry-requires g c =
    let l = c.loop-number in
    let size = l.invariant.size in
    word_there l.memory.ram (4 * l.number) (omega arith) (omega arith)

pub loop-number-preserved : goal.loop-number-preserved
loop-number-preserved g c =
    let l = c.loop-number in
    let size = l.invariant.size in
    let fits : 4 * l.number + 4 ≤ length l.memory.ram = omega arith in
    let ram = ap (λ s. s.held.ram) c.set_entry.ensures in
    record {
      size = ap length ram ∙ length-with_entry l.memory.ram (4 * l.number) c.word_at.result fits ∙ size;
      copied = copied_more l.number c.word_at.result c.args.board.now.state.world.memory.ram l.memory.ram c.set_entry.new.self.ram
          c.requires.state.bytes c.word_at.ensures fits l.invariant.copied ram;
      device = ap (λ s. s.held.device) c.set_entry.ensures ∙ l.invariant.device;
    }

pub returns-clause-ram : goal.returns-clause-ram
returns-clause-ram g c =
    let l = c.loop-number in
    let source = c.args.board.now.state.world.memory.ram in
    let whole = c.requires.state.size in
    let size = l.invariant.size in
    sym (take_all (4 * l.number) l.memory.ram (omega arith)) ∙ l.invariant.copied ∙ take_all (4 * l.number) source (omega arith)
