use Rattle.std.proofs.Common.{◌≡◌, ℕ, ◌<◌, slice_index, length}
use Rattle.v8_layout.specs.Tables.{table_word}
use Rattle.v8_layout.proofs.tables.page_tables.Given as goal

abbrev pub invariant-loop-k : goal.invariant-loop-k
invariant-loop-k l =
    record {
      words : (j : ℕ) → j < l.k →
          slice_index l.tables j ≡ table_word (record { code_count = l.pages.code; writable = l.pages.writable.now; stack_count = l.pages.stack }) j;
      size : length l.tables ≡ 896;
    }
