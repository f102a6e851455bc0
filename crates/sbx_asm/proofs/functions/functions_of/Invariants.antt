use Rattle.std.proofs.Common.{◌≡◌, List, [], ◌++◌, drop}
use Rattle.sbx_asm.specs.Items.{Item, each}
use Rattle.sbx_asm.specs.Kept.{place_at}
use Rattle.sbx_asm.specs.Images.{function_at}
use Rattle.sbx_asm.proofs.functions.functions_of.Given as goal

abbrev pub invariant-loop-at : goal.invariant-loop-at
invariant-loop-at l = (before : List Item) × (l.here ≡ place_at before) × (l.functions.items ++ each function_at before (drop l.at l.lines) ≡ each function_at [] l.lines)
