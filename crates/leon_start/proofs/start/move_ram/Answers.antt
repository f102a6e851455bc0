use Rattle.std.proofs.Common.{◌*◌, arith}
use Rattle.v8_memory.proofs.Places.{word_there}
use Rattle.leon_start.proofs.Moving.{moved_more}
use Rattle.leon_start.proofs.start.move_ram.Goals as goal

pub loop-number-init : goal.loop-number-init
loop-number-init g c = record { size = c.requires.size; words = λ k below. absurd (omega (arith, below)) }

pub set_entry-requires : goal.set_entry-requires
set_entry-requires g c = let l = c.loop-number in let size = l.invariant.size in word_there l.ram (4 * l.number) (omega arith) (omega arith)

pub loop-number-preserved : goal.loop-number-preserved
loop-number-preserved g c =
    let l = c.loop-number in
    let size = l.invariant.size in
    record {
      size = c.set_entry.ensures.size;
      words = moved_more c.args.place.now c.args.own.now c.args.board.now.state.world.memory.ram l.ram c.set_entry.new.self l.number c.word_at-word.result c.start_word.result
          l.invariant.words c.word_at-word.ensures c.start_word.ensures (omega arith) (omega arith) c.set_entry.ensures.value;
    }
