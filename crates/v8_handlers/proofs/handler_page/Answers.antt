use Rattle.std.proofs.Common.{arith, ◌∙◌, ap}
use Rattle.v8_handlers.specs.Handlers.{page_word, handler_word, overflow_handler}
use Rattle.v8_handlers.proofs.Tables.{one_more, same_size}
use Rattle.v8_handlers.proofs.handler_page.Goals as goal

pub loop-k-preserved : goal.loop-k-preserved
loop-k-preserved g c =
    let l = c.loop-k in
    let is = c.page_word.ensures ∙ ap (λ o. page_word o c.underflow_handler-underflow.result l.k) c.overflow_handler-overflow.ensures
    ∙ ap (λ u. page_word (overflow_handler g.row.N) u l.k) c.underflow_handler-underflow.ensures in
    record {
      words = one_more (handler_word g.row.N) l.page l.k c.page_word.result (omega arith) l.invariant.words is;
      size = same_size l.page l.k c.page_word.result 1024 l.invariant.size;
    }
