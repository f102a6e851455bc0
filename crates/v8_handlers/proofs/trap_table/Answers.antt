use Rattle.std.proofs.Common.{arith}
use Rattle.v8_handlers.specs.Handlers.{trap_word}
use Rattle.v8_handlers.proofs.Tables.{one_more, same_size}
use Rattle.v8_handlers.proofs.trap_table.Goals as goal

pub loop-k-preserved : goal.loop-k-preserved
loop-k-preserved g c =
    let l = c.loop-k in
    record {
      words = one_more trap_word l.table l.k c.trap_word.result (omega arith) l.invariant.words c.trap_word.ensures;
      size = same_size l.table l.k c.trap_word.result 1024 l.invariant.size;
    }
