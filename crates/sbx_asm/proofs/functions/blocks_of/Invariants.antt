use Rattle.std.proofs.Common.{◌≡◌, List, ◌∷◌, ◌++◌, drop}
use Rattle.sbx_asm.specs.Items.{Item, each, up_to, ends_block}
use Rattle.sbx_asm.specs.Addresses.{code_address}
use Rattle.sbx_asm.specs.Kept.{place_at}
use Rattle.sbx_asm.specs.Images.{block_with, block_at}
use Rattle.sbx_asm.proofs.functions.blocks_of.Given as goal

abbrev pub invariant-loop-at : goal.invariant-loop-at
invariant-loop-at l = (before : List Item) → l.fn.place ≡ place_at before
    → (b : List Item) × (l.here ≡ place_at b)
    × (l.blocks.items ++ each block_at b (drop l.at l.own) ≡ block_with (code_address before) (up_to ends_block l.own)
    ∷ each block_at (l.fn.first ∷ before) l.own)
