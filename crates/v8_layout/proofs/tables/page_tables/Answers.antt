use Rattle.std.proofs.Common.{arith}
use Rattle.v8_handlers.proofs.Tables.{one_more, same_size}
use Rattle.v8_layout.specs.Tables.{table_word}
use Rattle.v8_layout.proofs.tables.page_tables.Goals as goal

pub loop-k-preserved : goal.loop-k-preserved
loop-k-preserved c =
    let l = c.loop-k in
    record {
      words = one_more (table_word _) l.tables l.k c.table_word.result (omega arith) l.invariant.words c.table_word.ensures;
      size = same_size l.tables l.k c.table_word.result 896 l.invariant.size;
    }
