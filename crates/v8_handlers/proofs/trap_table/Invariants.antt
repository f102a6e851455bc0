use Rattle.std.proofs.Common.{◌≡◌, ℕ, ◌<◌, slice_index, length}
use Rattle.v8_handlers.specs.Handlers.{trap_word}
use Rattle.v8_handlers.proofs.trap_table.Given as goal

abbrev pub invariant-loop-k : goal.invariant-loop-k
invariant-loop-k g l = record { words : (j : ℕ) → j < l.k → slice_index l.table j ≡ trap_word j; size : length l.table ≡ 1024 }
