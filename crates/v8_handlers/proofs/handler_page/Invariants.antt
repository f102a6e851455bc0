use Rattle.std.proofs.Common.{◌≡◌, ℕ, ◌<◌, slice_index, length}
use Rattle.v8_handlers.specs.Handlers.{handler_word}
use Rattle.v8_handlers.proofs.handler_page.Given as goal

abbrev pub invariant-loop-k : goal.invariant-loop-k
invariant-loop-k g l = record { words : (j : ℕ) → j < l.k → slice_index l.page j ≡ handler_word g.row.N j; size : length l.page ≡ 1024 }
