use Rattle.std.proofs.Common.{◌≡◌, ◌++◌, length, map}
use Rattle.std.specs.List.{flat_map}
use Rattle.sbx_asm.specs.Items.{lines_of}
use Rattle.sbx_asm.proofs.Keeping.{count_of, own}
use Rattle.sbx_asm.proofs.text.Text.read.Given as goal

-- what is kept of the lines so far, with that of the rest, is that of all
abbrev pub invariant-loop-rest : goal.invariant-loop-rest
invariant-loop-rest l = record {
  tokens : l.kept.tokens.items ++ flat_map own (lines_of l.rest) ≡ flat_map own (lines_of l.source);
  found : l.kept.found.items ++ map count_of (lines_of l.rest) ≡ map count_of (lines_of l.source);
}

abbrev pub decreases-loop-rest : goal.decreases-loop-rest
decreases-loop-rest l = length l.rest
