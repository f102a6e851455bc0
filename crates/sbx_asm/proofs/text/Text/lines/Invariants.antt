use Rattle.std.proofs.Common.{◌≡◌, ◌+◌, ◌++◌, drop, map}
use Rattle.std.specs.List.{flat_map, enumerate_from}
use Rattle.sbx_asm.specs.Items.{lines_of, item_of, items_of}
use Rattle.sbx_asm.proofs.Keeping.{count_of, own}
use Rattle.sbx_asm.proofs.text.Text.lines.Given as goal

abbrev pub invariant-loop-index : goal.invariant-loop-index
invariant-loop-index l = record {
  tokens : l.tokens ≡ flat_map own (lines_of l.rest);
  found : drop l.index l.found ≡ map count_of (lines_of l.rest);
  meant : l.lines.items ++ map item_of (enumerate_from (l.index + 1) (lines_of l.rest)) ≡ items_of l.fn.self;
}
